-- The rows of a database, from root to root.
use Rattle.std.proofs.Common.{◌≡◌, ℕ, ◌<◌, ◌++◌, List, [], sym, ◌∙◌, ap, subst, Option, None, Some, append_assoc}
use Rattle.std.proofs.lemmas.List.{append-nil}
use Rattle.tm_types.specs.declared.dbd.Dbd.{Dbd}
use Rattle.tm_types.specs.SegTypes.{IsHierarchy}
use Rattle.model_data.specs.declared.row.Row.{Row}
use Rattle.model_data.specs.Rows.{record_of, next_root, AreRows}
use Rattle.row_search.specs.Walk.{rows_from_root, roots_left}
use Rattle.row_search.proofs.Rising.{rows_rising, from_root, after_root, all_from}
use Rattle.row_search.proofs.Walking.{fewer_left}

module _ (dbd : Dbd) (all : IsHierarchy dbd.types) (rows : List Row) (valid : AreRows dbd rows) where
  -- all rows are to come
  pub rows_begin : (copied : List Row) (next : Option (List ℕ)) → copied ≡ [] → next ≡ next_root rows None → copied ++ rows_from_root next rows ≡ rows
  rows_begin copied next none is = (λ i. none i ++ rows_from_root (is i) rows) ∙ all_from dbd all rows valid

  -- one record less is to come
  pub rows_go : (copied more : List Row) (root : List ℕ) (next later : Option (List ℕ)) → next ≡ Some root → more ≡ copied ++ record_of root rows → later ≡ next_root rows (Some root)
      → copied ++ rows_from_root next rows ≡ rows → more ++ rows_from_root later rows ≡ rows
  rows_go copied more root next later here added behind so_far =
      (λ i. added i ++ rows_from_root (behind i) rows)
      ∙ append_assoc copied (record_of root rows) (rows_from_root (next_root rows (Some root)) rows)
      ∙ ap (λ (l : List Row). copied ++ (record_of root rows ++ l)) (sym (after_root dbd all rows valid root))
      ∙ ap (λ (l : List Row). copied ++ l) (sym (from_root root rows (rows_rising dbd all rows valid)))
      ∙ ap (λ (o : Option (List ℕ)). copied ++ rows_from_root o rows) (sym here)
      ∙ so_far

  pub rows_fewer : (root : List ℕ) (next later : Option (List ℕ)) → next ≡ Some root → later ≡ next_root rows (Some root) → roots_left later rows < roots_left next rows
  rows_fewer root next later here behind =
      subst (λ (o : Option (List ℕ)). roots_left o rows < roots_left next rows) (sym behind)
      (subst (λ (o : Option (List ℕ)). roots_left (next_root rows (Some root)) rows < roots_left o rows) (sym here) (fewer_left dbd all rows valid root))

-- none is to come
pub rows_end : (rows copied : List Row) (next : Option (List ℕ)) → next ≡ None → copied ++ rows_from_root next rows ≡ rows → copied ≡ rows
rows_end rows copied next none so_far = sym (append-nil copied) ∙ ap (λ (o : Option (List ℕ)). copied ++ rows_from_root o rows) (sym none) ∙ so_far
