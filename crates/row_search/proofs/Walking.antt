-- A search that goes from record to record, and one of a root that is asked for.
use Rattle.std.proofs.Common.{◌≡◌, ℕ, ◌<◌, ◌≤◌, ◌∷◌, [], List, length, refl, sym, ◌∙◌, ap, subst, Bool, true, false, cond, Option, None, Some, arith, suc}
use Rattle.std.specs.List.{AllByRecursion, filter, find}
use Rattle.std.specs.Option.{option_map}
use Rattle.std.specs.Ordering.{is_lt}
use Rattle.std.proofs.lemmas.Cmp.{tied_itself}
use Rattle.tm_types.specs.declared.dbd.Dbd.{Dbd}
use Rattle.tm_types.specs.declared.ssa.Ssa.{Ssa}
use Rattle.tm_types.specs.SegTypes.{IsHierarchy}
use Rattle.model_data.specs.declared.row.Row.{Row}
use Rattle.model_data.specs.Path.{key_cmp, root_of, IsPath}
use Rattle.model_data.specs.Row.{IsRow}
use Rattle.model_data.specs.Rows.{record_of, rows_after, next_root, AreRows}
use Rattle.model_data.proofs.Order.{key_total}
use Rattle.model_data.proofs.Lists.{all_then}
use Rattle.model_data.proofs.Filters.{filter_within}
use Rattle.model_data.specs.Search.{first_after}
use Rattle.model_data.specs.GetCalls.{asked_root}
use Rattle.row_search.specs.Arguments.{Arguments}
use Rattle.row_search.specs.Walk.{roots_left}
use Rattle.row_search.proofs.Finding.{find_head, find_passes}
use Rattle.row_search.proofs.Rising.{next_is_first}
use Rattle.row_search.proofs.Places.{asked_in_record}
use Rattle.model_data.proofs.Reading.{is_lt-true}

-- what the arguments ask for, by their database and by themselves
pub as_asked : (asked : Arguments) (dbd : Dbd) (ssas : List Ssa) → asked.dbd ≡ dbd → asked.ssas ≡ ssas → (place : Option (List (ℕ × List ℕ))) (xs ys : List Row) → xs ≡ ys
    → first_after asked.dbd.types asked.ssas place xs ≡ first_after dbd.types ssas place ys
as_asked asked dbd ssas d s place xs ys e = λ i. first_after (d i).types (s i) place (e i)

module _ (dbd : Dbd) (all : IsHierarchy dbd.types) (rows : List Row) (valid : AreRows dbd rows) where
  pub row_paths : AllByRecursion (λ row. IsPath dbd.types row.path) rows
  row_paths = all_then (IsRow dbd.types rows) (λ row. IsPath dbd.types row.path) rows (λ row h. h.path) valid.each

  -- one root that is asked for is looked at alone
  pub asked_alone : (ssas : List Ssa) (place : Option (List (ℕ × List ℕ))) (key : List ℕ) → asked_root dbd.types ssas ≡ Some key
      → first_after dbd.types ssas place (record_of key rows) ≡ first_after dbd.types ssas place rows
  asked_alone ssas place key e = asked_in_record dbd.types all ssas place key rows row_paths e

  -- less is left behind a root
  pub fewer_left : (root : List ℕ) → roots_left (next_root rows (Some root)) rows < roots_left (Some root) rows
  fewer_left root = by (find (λ r. is_lt (key_cmp root (root_of r.path))) rows) refl
    where
      by : (o : Option Row) → find (λ r. is_lt (key_cmp root (root_of r.path))) rows ≡ o → roots_left (next_root rows (Some root)) rows < roots_left (Some root) rows
      by None e =
          subst (λ o. roots_left o rows < roots_left (Some root) rows) (sym (next_is_first dbd all rows valid root ∙ ap (option_map (λ r. root_of r.path)) e)) (omega arith)
      by (Some row) e =
          let head = find_head (λ r. is_lt (key_cmp root (root_of r.path))) rows row e in
          let up : is_lt (key_cmp root (root_of row.path)) ≡ true = find_passes (λ r. is_lt (key_cmp root (root_of r.path))) rows row e in
          let same : rows_after (root_of row.path) rows ≡ rows_after (root_of row.path) head.0 =
          sym (filter_within (λ r. is_lt (key_cmp (root_of row.path) (root_of r.path))) (λ r. is_lt (key_cmp root (root_of r.path)))
          (λ r g. ap is_lt (key_total.trans root (root_of row.path) (root_of r.path) (is_lt-true _ up) (is_lt-true _ g))) rows)
          ∙ (ap (rows_after (root_of row.path)) head.1
          ∙ ap (λ b. cond b (row ∷ rows_after (root_of row.path) head.0) (rows_after (root_of row.path) head.0)) (ap is_lt (tied_itself key_total (root_of row.path)))) in
          let count : length (rows_after root rows) ≡ suc (length head.0) = ap length head.1 in
          let few : length (rows_after (root_of row.path) head.0) ≤ length head.0 = filter_fewer (λ r. is_lt (key_cmp (root_of row.path) (root_of r.path))) head.0 in
          let counted : length (rows_after (root_of row.path) rows) ≡ length (rows_after (root_of row.path) head.0) = ap length same in
          subst (λ o. roots_left o rows < roots_left (Some root) rows) (sym (next_is_first dbd all rows valid root ∙ ap (option_map (λ r. root_of r.path)) e)) (omega arith)
        where
          filter_fewer : (f : Row → Bool) (xs : List Row) → length (filter f xs) ≤ length xs
          filter_fewer f [] = omega arith
          filter_fewer f (x ∷ xs) =
              elim (f x) as (λ b. length (cond b (x ∷ filter f xs) (filter f xs)) ≤ suc (length xs)) [
                | true ↦ (let rest : length (filter f xs) ≤ length xs = filter_fewer f xs in omega arith)
                | false ↦ (let rest : length (filter f xs) ≤ length xs = filter_fewer f xs in omega arith)
              ]
