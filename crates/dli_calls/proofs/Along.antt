-- A walk along records, each of which is read when its turn comes.
use Rattle.std.proofs.Common.{◌≡◌, ◌≢◌, ◌<◌, ℕ, Bool, true, ◌++◌, ◌∷◌, [], List, length, refl, sym, ◌∙◌, ap, subst, Option, None, Some, append_assoc, arith}
use Rattle.std.specs.List.{AllByRecursion, find}
use Rattle.std.specs.Prelude.{map, is_some}
use Rattle.std.specs.List.Sorted.{IsStrictlySortedBy}
use Rattle.std.specs.Option.{option_map_or, IfSome}
use Rattle.std.specs.Ordering.{is_lt}
use Rattle.std.specs.declared.cmp.Ordering.TheVariants.{Less, Equal}
use Rattle.std.proofs.lemmas.Cmp.{tied_itself}
use Rattle.std.proofs.lemmas.List.{append-nil, map-append}
use Rattle.std.proofs.lemmas.Map.Keys.{sorted_tail}
use Rattle.tm_types.specs.declared.dbd.Dbd.{Dbd}
use Rattle.tm_types.specs.declared.resource.Mode.{Mode}
use Rattle.tm_types.specs.declared.resource.Mode.TheVariants.{Shared}
use Rattle.tm_types.specs.declared.ssa.Ssa.{Ssa}
use Rattle.model_data.specs.declared.row.Row.{Row}
use Rattle.model_data.specs.Path.{key_cmp}
use Rattle.model_data.specs.Rows.{record_of, roots, next_root, AreRows}
use Rattle.model_data.proofs.Order.{key_total}
use Rattle.model_data.proofs.Lists.{all_append, all_back, all_both, sorted_across, sorted_filter}
use Rattle.model_data.proofs.Filters.{filter_passes}
use Rattle.model_data.proofs.Reading.{is_lt-true}
use Rattle.model_data.specs.declared.need.Need.{Need}
use Rattle.model_data.specs.Search.{first_after}
use Rattle.model_data.specs.Footprint.{record_need, sequence_need, roots_behind}
use Rattle.row_search.proofs.Finding.{find_back}
use Rattle.row_search.proofs.Keys.{roots_ascending}
use Rattle.row_search.proofs.Needing.{walk, next_fits, walk_head}
use Rattle.dli_calls.specs.NamedRecords.{keys_behind, keys_from, rows_of_roots, OthersStay}
use Rattle.dli_calls.proofs.Naming.{next_keys, walk_ends, records_end}

-- the records of these roots are found elsewhere, so those behind them are gone along
found_over : (test : Row → Bool) (rows : List Row) (done rest : List (List ℕ)) → AllByRecursion (λ key. find test (record_of key rows) ≡ None) done
    → find test (rows_of_roots (done ++ rest) rows) ≡ find test (rows_of_roots rest rows)
found_over test rows [] rest h = refl
found_over test rows (key ∷ done) rest h = find_back test (record_of key rows) (rows_of_roots (done ++ rest) rows) h.0 ∙ found_over test rows done rest h.1

walk_over : (test : Row → Bool) (mode : Mode) (rows : List Row) (done rest : List (List ℕ)) → IsStrictlySortedBy key_cmp (done ++ rest)
    → AllByRecursion (λ key. find test (record_of key rows) ≡ None) done
    → walk test mode rows (done ++ rest) ≡ map (record_need mode) done ++ walk test mode rows rest
walk_over test mode rows [] rest s h = refl
walk_over test mode rows (key ∷ done) rest s h =
    walk_head test mode rows key (done ++ rest) s
    ∙ (ap (λ o. record_need mode key ∷ option_map_or (λ row. []) o (walk test mode rows (done ++ rest))) h.0
    ∙ ap (λ needs. record_need mode key ∷ needs) (walk_over test mode rows done rest (sorted_tail key_cmp key (done ++ rest) s) h.1))

-- a lower key is another one
lower_other : (a b : List ℕ) → key_cmp a b ≡ Less → a ≢ b
lower_other a b less same = absurd (equal_less (sym (tied_itself key_total b) ∙ (ap (λ k. key_cmp k b) (sym same) ∙ less)))
  where
    equal_less : Equal ≡ Less → ⊥
    equal_less e = cc

-- Nothing was found in the records that were passed, which are named, and the next root is the first of those to come.
pub record IsAlong (dbd : Dbd) (ssas : List Ssa) (place : Option (List (ℕ × List ℕ))) (mode : Mode) (after : Option (List ℕ)) (start : List Need) (before rows : List Row) (next : Option (List ℕ)) (needs : List Need) : Type 0 where
  pub valid : AreRows dbd rows
  pub passed : List (List ℕ)
  pub split : keys_behind after (roots rows) ≡ passed ++ keys_from next (roots rows)
  pub none : AllByRecursion (λ key. first_after dbd.types ssas place (record_of key rows) ≡ None) passed
  pub named : needs ≡ start ++ map (record_need mode) passed
  pub stays : IfSome after (λ root. record_of root rows ≡ record_of root before)

-- behind the next root fewer are left
pub fewer_keys : (dbd : Dbd) (rows : List Row) → AreRows dbd rows → (root : List ℕ) → length (keys_from (next_root rows (Some root)) (roots rows)) < length (keys_from (Some root) (roots rows))
fewer_keys dbd rows valid root =
    let same : length (keys_from (next_root rows (Some root)) (roots rows)) ≡ length (roots_behind root (roots rows)) = ap length (next_keys dbd valid.types rows valid (Some root)) in
    omega arith

-- the sequence comes first
pub after_sequence : (start named rest : List Need) → named ≡ start ++ sequence_need Shared ∷ [] → named ++ rest ≡ start ++ sequence_need Shared ∷ rest
after_sequence start named rest is = ap (λ ns. ns ++ rest) is ∙ append_assoc start (sequence_need Shared ∷ []) rest

module _ (dbd : Dbd) (ssas : List Ssa) (place : Option (List (ℕ × List ℕ))) (mode : Mode) (after : Option (List ℕ)) (start : List Need) (before : List Row) where
  stays_itself : (o : Option (List ℕ)) → IfSome o (λ root. record_of root before ≡ record_of root before)
  stays_itself None = tt
  stays_itself (Some root) = refl

  pub along_starts : AreRows dbd before → IsAlong dbd ssas place mode after start before before (next_root before after) start
  along_starts valid =
      record {
        valid = valid;
        passed = [];
        split = sym (next_keys dbd valid.types before valid after);
        none = tt;
        named = sym (append-nil start);
        stays = stays_itself after;
      }

  module _ (rows : List Row) (needs : List Need) where
    behind_ascending : AreRows dbd rows → IsStrictlySortedBy key_cmp (keys_behind after (roots rows))
    behind_ascending valid = by after
      where
        by : (o : Option (List ℕ)) → IsStrictlySortedBy key_cmp (keys_behind o (roots rows))
        by None = roots_ascending dbd valid.types rows valid
        by (Some root) = sorted_filter key_cmp (λ k. is_lt (key_cmp root k)) (roots rows) (roots_ascending dbd valid.types rows valid)

    split_ascending : (next : Option (List ℕ)) (h : IsAlong dbd ssas place mode after start before rows next needs) → IsStrictlySortedBy key_cmp (h.passed ++ keys_from next (roots rows))
    split_ascending next h = subst (IsStrictlySortedBy key_cmp) h.split (behind_ascending h.valid)

    -- where no root is left, all were passed
    pub none_named : IsAlong dbd ssas place mode after start before rows None needs → needs ≡ start ++ walk (next_fits dbd ssas place) mode rows (keys_behind after (roots rows))
    none_named h =
        h.named
        ∙ ap (λ ns. start ++ ns)
        (sym (ap (walk (next_fits dbd ssas place) mode rows) h.split
        ∙ (walk_over (next_fits dbd ssas place) mode rows h.passed [] (split_ascending None h) h.none
        ∙ append-nil (map (record_need mode) h.passed))))

    pub none_found : IsAlong dbd ssas place mode after start before rows None needs → None ≡ first_after dbd.types ssas place (rows_of_roots (keys_behind after (roots rows)) rows)
    none_found h =
        sym (ap (λ keys. first_after dbd.types ssas place (rows_of_roots keys rows)) h.split
        ∙ found_over (next_fits dbd ssas place) rows h.passed [] h.none)

    module _ (root : List ℕ) (h : IsAlong dbd ssas place mode after start before rows (Some root) needs) where
      -- where the record has the row, it is the last that is named
      pub row_named : (row : Row) (pushed : List Need) → pushed ≡ needs ++ record_need mode root ∷ [] → first_after dbd.types ssas place (record_of root rows) ≡ Some row
          → pushed ≡ start ++ walk (next_fits dbd ssas place) mode rows (keys_behind after (roots rows))
      row_named row pushed is e =
          is
          ∙ (ap (λ ns. ns ++ record_need mode root ∷ []) h.named
          ∙ (append_assoc start (map (record_need mode) h.passed) (record_need mode root ∷ [])
          ∙ ap (λ ns. start ++ ns)
          (sym (ap (walk (next_fits dbd ssas place) mode rows) h.split
          ∙ (walk_over (next_fits dbd ssas place) mode rows h.passed (keys_from (Some root) (roots rows)) (split_ascending (Some root) h) h.none
          ∙ ap (λ ns. map (record_need mode) h.passed ++ ns) (walk_ends dbd h.valid.types rows h.valid ssas place mode root (ap is_some e)))))))

      pub row_found : (row : Row) → first_after dbd.types ssas place (record_of root rows) ≡ Some row
          → Some row ≡ first_after dbd.types ssas place (rows_of_roots (keys_behind after (roots rows)) rows)
      row_found row e =
          sym (ap (λ keys. first_after dbd.types ssas place (rows_of_roots keys rows)) h.split
          ∙ (found_over (next_fits dbd ssas place) rows h.passed (keys_from (Some root) (roots rows)) h.none
          ∙ records_end dbd h.valid.types rows h.valid ssas place mode root row e))

      -- else those behind it are to come
      pub none_goes : (pushed : List Need) → pushed ≡ needs ++ record_need mode root ∷ [] → first_after dbd.types ssas place (record_of root rows) ≡ None
          → IsAlong dbd ssas place mode after start before rows (next_root rows (Some root)) pushed
      none_goes pushed is e =
          record {
            valid = h.valid;
            passed = h.passed ++ root ∷ [];
            split = h.split
                ∙ (sym (append_assoc h.passed (root ∷ []) (roots_behind root (roots rows)))
                ∙ ap (λ keys. (h.passed ++ root ∷ []) ++ keys) (sym (next_keys dbd h.valid.types rows h.valid (Some root))));
            none = all_append (λ key. first_after dbd.types ssas place (record_of key rows) ≡ None) h.passed (root ∷ []) h.none (e, tt);
            named = is
                ∙ (ap (λ ns. ns ++ record_need mode root ∷ []) h.named
                ∙ (append_assoc start (map (record_need mode) h.passed) (record_need mode root ∷ [])
                ∙ ap (λ ns. start ++ ns) (sym (map-append (record_need mode) h.passed (root ∷ [])))));
            stays = h.stays;
          }

      -- the next record is read, and all others stay
      pub along_read : (new : List Row) → AreRows dbd new → roots new ≡ roots rows → OthersStay root rows new
          → IsAlong dbd ssas place mode after start before new (Some root) needs
      along_read new valid same others =
          record {
            valid = valid;
            passed = h.passed;
            split = ap (keys_behind after) same ∙ (h.split ∙ ap (λ keys. h.passed ++ root ∷ roots_behind root keys) (sym same));
            none = all_both (λ key. AllByRecursion (λ k. key_cmp key k ≡ Less) (root ∷ roots_behind root (roots rows))) (λ key. first_after dbd.types ssas place (record_of key rows) ≡ None)
                (λ key. first_after dbd.types ssas place (record_of key new) ≡ None) h.passed
                (λ key up none. ap (first_after dbd.types ssas place) (others key (lower_other key root up.0)) ∙ none)
                (sorted_across key_cmp h.passed (root ∷ roots_behind root (roots rows)) (split_ascending (Some root) h)) h.none;
            named = h.named;
            stays = by after refl h.split h.stays;
          }
        where
          by : (o : Option (List ℕ)) → after ≡ o → keys_behind after (roots rows) ≡ h.passed ++ root ∷ roots_behind root (roots rows) → IfSome after (λ key. record_of key rows ≡ record_of key before)
              → IfSome after (λ key. record_of key new ≡ record_of key before)
          by None e split stays = subst (λ a. IfSome a (λ key. record_of key new ≡ record_of key before)) (sym e) tt
          by (Some key) e split stays =
              let above : AllByRecursion (λ k. is_lt (key_cmp key k) ≡ true) (root ∷ roots_behind root (roots rows)) =
              all_back (λ k. is_lt (key_cmp key k) ≡ true) h.passed (root ∷ roots_behind root (roots rows))
              (subst (AllByRecursion (λ k. is_lt (key_cmp key k) ≡ true)) (ap (λ a. keys_behind a (roots rows)) (sym e) ∙ split) (filter_passes (λ k. is_lt (key_cmp key k)) (roots rows))) in
              let there : record_of key rows ≡ record_of key before = subst (λ a. IfSome a (λ k. record_of k rows ≡ record_of k before)) e stays in
              subst (λ a. IfSome a (λ k. record_of k new ≡ record_of k before)) (sym e) (others key (lower_other key root (is_lt-true _ above.0)) ∙ there)
