-- Where two lists of rows agree on what a search needs, it needs and finds the same.
use Rattle.std.proofs.Common.{◌≡◌, ℕ, ◌∷◌, [], List, refl, sym, ◌∙◌, ap, subst, Bool, true, false, cond, Option, None, Some}
use Rattle.std.specs.List.{flat_map, find}
use Rattle.std.specs.List.Sorted.{IsStrictlySortedBy}
use Rattle.std.specs.Option.{option_map_or}
use Rattle.std.proofs.lemmas.Map.Keys.{sorted_tail}
use Rattle.tm_types.specs.declared.resource.Mode.{Mode}
use Rattle.model_data.specs.declared.row.Row.{Row}
use Rattle.model_data.specs.Path.{key_cmp}
use Rattle.model_data.specs.Rows.{record_of}
use Rattle.model_data.specs.declared.need.Need.{Need}
use Rattle.model_data.specs.Footprint.{record_need, AgreeOn, AgreeUnblocked, up_to_blocked}
use Rattle.row_search.proofs.Finding.{find_front, find_back}
use Rattle.row_search.proofs.Needing.{walk_head}
pub use Rattle.row_search.proofs.Needing.{found, walk, next_fits, found_all, found_here, found_behind, along_is, onward_is}

module _ (test : Row → Bool) (mode : Mode) (a b : List Row) where
  -- where two lists of rows agree on what isn't blocked, what is needed up to the first that is blocked is the same
  pub walk_front : (blocked : Need → Bool) (keys : List (List ℕ)) → IsStrictlySortedBy key_cmp keys → AgreeUnblocked blocked (walk test mode a keys) a b
      → up_to_blocked blocked (walk test mode a keys) ≡ up_to_blocked blocked (walk test mode b keys)
  walk_front blocked [] s h = refl
  walk_front blocked (key ∷ keys) s h =
      ap (up_to_blocked blocked) (walk_head test mode a key keys s)
      ∙ (ap (λ needs. record_need mode key ∷ needs) (by (blocked (record_need mode key)) refl (walk_front blocked keys (sorted_tail key_cmp key keys s)))
      ∙ sym (ap (up_to_blocked blocked) (walk_head test mode b key keys s)))
    where
      agree : AgreeUnblocked blocked (record_need mode key ∷ option_map_or (λ row. []) (find test (record_of key a)) (walk test mode a keys)) a b
      agree = subst (λ needs. AgreeUnblocked blocked needs a b) (walk_head test mode a key keys s) h

      next : (AgreeUnblocked blocked (walk test mode a keys) a b → up_to_blocked blocked (walk test mode a keys) ≡ up_to_blocked blocked (walk test mode b keys))
          → (o : Option Row) → AgreeUnblocked blocked (option_map_or (λ row. []) o (walk test mode a keys)) a b
          → up_to_blocked blocked (option_map_or (λ row. []) o (walk test mode a keys)) ≡ up_to_blocked blocked (option_map_or (λ row. []) o (walk test mode b keys))
      next rec None g = rec g
      next rec (Some row) g = refl

      by : (c : Bool) → blocked (record_need mode key) ≡ c
          → (AgreeUnblocked blocked (walk test mode a keys) a b → up_to_blocked blocked (walk test mode a keys) ≡ up_to_blocked blocked (walk test mode b keys))
          → cond (blocked (record_need mode key)) [] (up_to_blocked blocked (option_map_or (λ row. []) (find test (record_of key a)) (walk test mode a keys)))
          ≡ cond (blocked (record_need mode key)) [] (up_to_blocked blocked (option_map_or (λ row. []) (find test (record_of key b)) (walk test mode b keys)))
      by true e rec = rw e refl
      by false e rec =
          rw e
          (next rec (find test (record_of key a)) agree.1
          ∙ ap (λ rows. up_to_blocked blocked (option_map_or (λ row. []) (find test rows) (walk test mode b keys))) (agree.0 e))

  -- where they agree on all that is needed, the row that is found is the same
  pub walk_found : (keys : List (List ℕ)) → IsStrictlySortedBy key_cmp keys → AgreeOn (walk test mode a keys) a b → found test a keys ≡ found test b keys
  walk_found [] s h = refl
  walk_found (key ∷ keys) s h = by (find test (record_of key a)) refl agree.1 (walk_found keys (sorted_tail key_cmp key keys s))
    where
      agree : AgreeOn (record_need mode key ∷ option_map_or (λ row. []) (find test (record_of key a)) (walk test mode a keys)) a b
      agree = subst (λ needs. AgreeOn needs a b) (walk_head test mode a key keys s) h

      there : find test (record_of key b) ≡ find test (record_of key a)
      there = ap (find test) (sym agree.0)

      by : (o : Option Row) → find test (record_of key a) ≡ o → AgreeOn (option_map_or (λ row. []) (find test (record_of key a)) (walk test mode a keys)) a b
          → (AgreeOn (walk test mode a keys) a b → found test a keys ≡ found test b keys) → found test a (key ∷ keys) ≡ found test b (key ∷ keys)
      by None e g rec =
          find_back test (record_of key a) (flat_map (λ k. record_of k a) keys) e
          ∙ (rec (subst (λ o. AgreeOn (option_map_or (λ row. []) o (walk test mode a keys)) a b) e g)
          ∙ sym (find_back test (record_of key b) (flat_map (λ k. record_of k b) keys) (there ∙ e)))
      by (Some row) e g rec =
          find_front test (record_of key a) (flat_map (λ k. record_of k a) keys) row e
          ∙ sym (find_front test (record_of key b) (flat_map (λ k. record_of k b) keys) row (there ∙ e))
