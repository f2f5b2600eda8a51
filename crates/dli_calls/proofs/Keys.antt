-- Rows of a database are determined by their records.
use Rattle.std.proofs.Common.{◌≡◌, ℕ, ◌∷◌, [], List, sym, ◌∙◌, ap, subst}
use Rattle.std.specs.List.{AllByRecursion}
use Rattle.std.specs.Ordering.{is_eq}
use Rattle.std.proofs.lemmas.Cmp.{tied_itself}
use Rattle.tm_types.specs.declared.dbd.Dbd.{Dbd}
use Rattle.tm_types.specs.SegTypes.{IsHierarchy}
use Rattle.model_data.specs.declared.row.Row.{Row}
use Rattle.model_data.specs.Path.{key_cmp, root_of, IsPath}
use Rattle.model_data.specs.Row.{HasPath, IsRow}
use Rattle.model_data.specs.Rows.{record_of, roots, AreRows}
use Rattle.model_data.proofs.Order.{key_total}
use Rattle.model_data.proofs.Lists.{all_then}
use Rattle.model_data.proofs.Whole.{has_filter}
use Rattle.row_search.proofs.Keys.{has_before, each_has, path_has, flat_same, by_keys}
pub use Rattle.row_search.proofs.Keys.{HasKey, roots_ascending, by_records, after_by_records}

module _ (dbd : Dbd) (all : IsHierarchy dbd.types) (rows : List Row) (valid : AreRows dbd rows) where
  -- rows whose every record is one of these have their roots among these roots
  pub rooted_here : (others : List Row) → ((key : List ℕ) → record_of key rows ≡ record_of key others) → AllByRecursion (λ r. HasKey (roots rows) (root_of r.path)) others
  rooted_here others same =
      all_then (λ r. HasPath others r.path) (λ r. HasKey (roots rows) (root_of r.path)) others
      (λ r h.
      let there : HasPath (record_of (root_of r.path) others) r.path =
      has_filter (λ path. is_eq (key_cmp (root_of r.path) (root_of path))) others r.path (ap is_eq (tied_itself key_total (root_of r.path))) h in
      let here : HasPath (record_of (root_of r.path) rows) r.path = subst (λ rs. HasPath rs r.path) (sym (same (root_of r.path))) there in
      path_has dbd.types all rows valid.each r.path (has_before (λ x. is_eq (key_cmp (root_of r.path) (root_of x.path))) rows r.path here)) (each_has others)

-- rows of a database are determined by their records
pub determined : (dbd : Dbd) → IsHierarchy dbd.types → (a b : List Row) → AreRows dbd a → AreRows dbd b → ((key : List ℕ) → record_of key a ≡ record_of key b) → a ≡ b
determined dbd all a b va vb same =
    by_records dbd all a va
    ∙ (flat_same (λ key. record_of key a) (λ key. record_of key b) (roots a) (each (roots a))
    ∙ sym (by_keys dbd.types all (roots a) b (roots_ascending dbd all a va) vb.ascending
    (all_then (IsRow dbd.types b) (λ r. IsPath dbd.types r.path) b (λ r h. h.path) vb.each) (rooted_here dbd all a va b same)))
  where
    each : (keys : List (List ℕ)) → AllByRecursion (λ key. record_of key a ≡ record_of key b) keys
    each [] = tt
    each (key ∷ keys) = (same key, each keys)
