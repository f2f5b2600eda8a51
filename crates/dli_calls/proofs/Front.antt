-- What a call needs up to the first that is blocked is the same on two lists of rows that agree on what isn't blocked.
use Rattle.std.proofs.Common.{◌≡◌, ℕ, ◌∷◌, [], List, refl, sym, ◌∙◌, ap, subst, Bool, true, false, cond, Option, None, Some}
use Rattle.std.specs.List.{AllByRecursion, find}
use Rattle.std.specs.Prelude.{IfSome}
use Rattle.std.specs.List.Sorted.{IsStrictlySortedBy}
use Rattle.std.specs.Option.{option_map_or}
use Rattle.std.specs.Ordering.{is_lt}
use Rattle.tm_types.specs.declared.dbd.Dbd.{Dbd}
use Rattle.tm_types.specs.declared.function.Function.{Function}
use Rattle.tm_types.specs.declared.function.Function.TheVariants.{GU, GN, GNP, GHU, GHN, GHNP, ISRT, REPL, DLET, PURG, CHNG, ROLB, ROLL}
use Rattle.tm_types.specs.declared.resource.Mode.{Mode}
use Rattle.tm_types.specs.declared.resource.Mode.TheVariants.{Shared, Exclusive}
use Rattle.tm_types.specs.SegTypes.{IsHierarchy}
use Rattle.model_data.specs.declared.row.Row.{Row}
use Rattle.model_data.specs.Path.{key_cmp, root_of, IsPath}
use Rattle.model_data.specs.Rows.{record_of, roots, AreRows}
use Rattle.model_data.proofs.Lists.{sorted_filter}
use Rattle.model_data.specs.declared.call.DbCall.{DbCall}
use Rattle.model_data.specs.declared.call.Position.{Position}
use Rattle.model_data.specs.declared.need.Need.{Need}
use Rattle.model_data.specs.Search.{first_after}
use Rattle.model_data.specs.GetCalls.{asked_root}
use Rattle.model_data.specs.DatabaseCalls.{is_call_allowed}
use Rattle.model_data.specs.Conditions.{IsPosition}
use Rattle.model_data.specs.Footprint.{record_need, sequence_need, roots_behind, onward, search_needs, allowed_needs, footprint, AgreeAt, AgreeOn, AgreeUnblocked, up_to_blocked}
use Rattle.dli_calls.proofs.Keys.{roots_ascending}
use Rattle.dli_calls.proofs.Walk.{walk, walk_front, next_fits, along_is, onward_is}

-- who agrees on everything that isn't blocked agrees on what isn't blocked of these needs
pub agree_unblocked : (blocked : Need → Bool) (a b : List Row) → ((need : Need) → blocked need ≡ false → AgreeAt need.root a b) → (needs : List Need) → AgreeUnblocked blocked needs a b
agree_unblocked blocked a b h [] = tt
agree_unblocked blocked a b h (need ∷ needs) = (h need, agree_unblocked blocked a b h needs)

-- and where none of them is blocked, on all of them
pub agree_where_none : (blocked : Need → Bool) (a b : List Row) (needs : List Need) → AllByRecursion (λ need. blocked need ≡ false) needs → AgreeUnblocked blocked needs a b → AgreeOn needs a b
agree_where_none blocked a b [] none h = tt
agree_where_none blocked a b (need ∷ needs) none h = (h.0 none.0, agree_where_none blocked a b needs none.1 h.1)

-- where none is blocked, that is all of them
pub all_unblocked : (blocked : Need → Bool) (needs : List Need) → AllByRecursion (λ need. blocked need ≡ false) needs → up_to_blocked blocked needs ≡ needs
all_unblocked blocked [] h = refl
all_unblocked blocked (need ∷ needs) h =
    ap (λ b. need ∷ cond b [] (up_to_blocked blocked needs)) h.0 ∙ ap (λ ns. need ∷ ns) (all_unblocked blocked needs h.1)

-- a list of rows agrees with itself
pub agree_itself : (rows : List Row) (needs : List Need) → AgreeOn needs rows rows
agree_itself rows [] = tt
agree_itself rows (need ∷ needs) = (at need.root, agree_itself rows needs)
  where
    at : (root : Option (List ℕ)) → AgreeAt root rows rows
    at None = refl
    at (Some root) = refl

module _ (dbd : Dbd) (all : IsHierarchy dbd.types) (a b : List Row) (valid_a : AreRows dbd a) (valid_b : AreRows dbd b) (blocked : Need → Bool) where
  -- the sequence, and a search along some of the roots
  sequence_front : (test : Row → Bool) (mode : Mode) (some : List (List ℕ) → List (List ℕ)) → IsStrictlySortedBy key_cmp (some (roots a))
      → AgreeUnblocked blocked (sequence_need Shared ∷ walk test mode a (some (roots a))) a b
      → up_to_blocked blocked (sequence_need Shared ∷ walk test mode a (some (roots a))) ≡ up_to_blocked blocked (sequence_need Shared ∷ walk test mode b (some (roots b)))
  sequence_front test mode some s h = ap (λ needs. sequence_need Shared ∷ needs) (by (blocked (sequence_need Shared)) refl)
    where
      by : (c : Bool) → blocked (sequence_need Shared) ≡ c
          → cond (blocked (sequence_need Shared)) [] (up_to_blocked blocked (walk test mode a (some (roots a))))
          ≡ cond (blocked (sequence_need Shared)) [] (up_to_blocked blocked (walk test mode b (some (roots b))))
      by true e = rw e refl
      by false e =
          rw e
          (walk_front test mode a b blocked (some (roots a)) s h.1
          ∙ ap (λ keys. up_to_blocked blocked (walk test mode b (some keys))) (h.0 e))

  -- one record, and where it doesn't have the row what else is needed
  record_front : (test : Row → Bool) (mode : Mode) (key : List ℕ) (more_a more_b : List Need)
      → (AgreeUnblocked blocked more_a a b → up_to_blocked blocked more_a ≡ up_to_blocked blocked more_b)
      → AgreeUnblocked blocked (record_need mode key ∷ option_map_or (λ row. []) (find test (record_of key a)) more_a) a b
      → up_to_blocked blocked (record_need mode key ∷ option_map_or (λ row. []) (find test (record_of key a)) more_a)
      ≡ up_to_blocked blocked (record_need mode key ∷ option_map_or (λ row. []) (find test (record_of key b)) more_b)
  record_front test mode key more_a more_b rec h = ap (λ needs. record_need mode key ∷ needs) (by (blocked (record_need mode key)) refl)
    where
      next : (o : Option Row) → AgreeUnblocked blocked (option_map_or (λ row. []) o more_a) a b
          → up_to_blocked blocked (option_map_or (λ row. []) o more_a) ≡ up_to_blocked blocked (option_map_or (λ row. []) o more_b)
      next None g = rec g
      next (Some row) g = refl

      by : (c : Bool) → blocked (record_need mode key) ≡ c
          → cond (blocked (record_need mode key)) [] (up_to_blocked blocked (option_map_or (λ row. []) (find test (record_of key a)) more_a))
          ≡ cond (blocked (record_need mode key)) [] (up_to_blocked blocked (option_map_or (λ row. []) (find test (record_of key b)) more_b))
      by true e = rw e refl
      by false e =
          rw e
          (next (find test (record_of key a)) h.1
          ∙ ap (λ rows. up_to_blocked blocked (option_map_or (λ row. []) (find test rows) more_b)) (h.0 e))

  -- a search
  onward_front : (mode : Mode) (call : DbCall) (place : Option (List (ℕ × List ℕ))) → IfSome place (IsPath dbd.types)
      → AgreeUnblocked blocked (onward mode place (first_after dbd.types call.ssas place a) (roots a)) a b
      → up_to_blocked blocked (onward mode place (first_after dbd.types call.ssas place a) (roots a))
      ≡ up_to_blocked blocked (onward mode place (first_after dbd.types call.ssas place b) (roots b))
  onward_front mode call None path h =
      ap (up_to_blocked blocked) (along_is dbd all a valid_a mode call.ssas)
      ∙ (sequence_front (next_fits dbd call.ssas None) mode (λ keys. keys) (roots_ascending dbd all a valid_a)
      (subst (λ needs. AgreeUnblocked blocked needs a b) (along_is dbd all a valid_a mode call.ssas) h)
      ∙ sym (ap (up_to_blocked blocked) (along_is dbd all b valid_b mode call.ssas)))
  onward_front mode call (Some place) path h =
      ap (up_to_blocked blocked) (onward_is dbd all a valid_a call.ssas place path mode)
      ∙ (record_front (next_fits dbd call.ssas (Some place)) mode (root_of place)
      (sequence_need Shared ∷ walk (next_fits dbd call.ssas (Some place)) mode a (roots_behind (root_of place) (roots a)))
      (sequence_need Shared ∷ walk (next_fits dbd call.ssas (Some place)) mode b (roots_behind (root_of place) (roots b)))
      (sequence_front (next_fits dbd call.ssas (Some place)) mode (roots_behind (root_of place))
      (sorted_filter key_cmp (λ key. is_lt (key_cmp (root_of place) key)) (roots a) (roots_ascending dbd all a valid_a)))
      (subst (λ needs. AgreeUnblocked blocked needs a b) (onward_is dbd all a valid_a call.ssas place path mode) h)
      ∙ sym (ap (up_to_blocked blocked) (onward_is dbd all b valid_b call.ssas place path mode)))

  search_front : (mode : Mode) (call : DbCall) (place : Option (List (ℕ × List ℕ))) → IfSome place (IsPath dbd.types)
      → AgreeUnblocked blocked (search_needs mode dbd call place a) a b
      → up_to_blocked blocked (search_needs mode dbd call place a) ≡ up_to_blocked blocked (search_needs mode dbd call place b)
  search_front mode call place path h = by (asked_root dbd.types call.ssas) h
    where
      by : (o : Option (List ℕ))
          → AgreeUnblocked blocked (option_map_or (λ root. record_need mode root ∷ []) o (onward mode place (first_after dbd.types call.ssas place a) (roots a))) a b
          → up_to_blocked blocked (option_map_or (λ root. record_need mode root ∷ []) o (onward mode place (first_after dbd.types call.ssas place a) (roots a)))
          ≡ up_to_blocked blocked (option_map_or (λ root. record_need mode root ∷ []) o (onward mode place (first_after dbd.types call.ssas place b) (roots b)))
      by None g = onward_front mode call place path g
      by (Some root) g = refl

  -- what is needed up to the first that is blocked is the same
  pub same_front : (call : DbCall) (at : Position) → IsPosition dbd.types at → AgreeUnblocked blocked (footprint dbd call at a) a b
      → up_to_blocked blocked (footprint dbd call at a) ≡ up_to_blocked blocked (footprint dbd call at b)
  same_front call at position h = by (is_call_allowed call.function call.options) h
    where
      of : (function : Function) → AgreeUnblocked blocked (allowed_needs function dbd call at a) a b
          → up_to_blocked blocked (allowed_needs function dbd call at a) ≡ up_to_blocked blocked (allowed_needs function dbd call at b)
      of GU g = search_front Shared call None tt g
      of GN g = search_front Shared call at.position position.position g
      of GNP g = refl
      of GHU g = search_front Exclusive call None tt g
      of GHN g = search_front Exclusive call at.position position.position g
      of GHNP g = refl
      of ISRT g = refl
      of REPL g = refl
      of DLET g = refl
      of PURG g = refl
      of CHNG g = refl
      of ROLB g = refl
      of ROLL g = refl

      by : (c : Bool) → AgreeUnblocked blocked (cond c (allowed_needs call.function dbd call at a) []) a b
          → up_to_blocked blocked (cond c (allowed_needs call.function dbd call at a) []) ≡ up_to_blocked blocked (cond c (allowed_needs call.function dbd call at b) [])
      by true g = of call.function g
      by false g = refl

-- where two lists of rows agree on what is needed, it is the same
pub same_footprint : (dbd : Dbd) → IsHierarchy dbd.types → (a b : List Row) → AreRows dbd a → AreRows dbd b → (call : DbCall) (at : Position) → IsPosition dbd.types at
    → AgreeOn (footprint dbd call at a) a b → footprint dbd call at a ≡ footprint dbd call at b
same_footprint dbd all a b valid_a valid_b call at position h =
    sym (all_unblocked (λ need. false) (footprint dbd call at a) (none (footprint dbd call at a)))
    ∙ (same_front dbd all a b valid_a valid_b (λ need. false) call at position (unblocked (footprint dbd call at a) h)
    ∙ all_unblocked (λ need. false) (footprint dbd call at b) (none (footprint dbd call at b)))
  where
    none : (needs : List Need) → AllByRecursion (λ need. false ≡ false) needs
    none [] = tt
    none (need ∷ needs) = (refl, none needs)

    unblocked : (needs : List Need) → AgreeOn needs a b → AgreeUnblocked (λ need. false) needs a b
    unblocked [] g = tt
    unblocked (need ∷ needs) g = (λ e. g.0, unblocked needs g.1)
