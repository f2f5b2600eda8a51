-- Where the rows that a call looks for can stand.
use Rattle.std.proofs.Common.{◌≡◌, ℕ, ◌<◌, ◌≤◌, ◌∷◌, [], List, length, refl, sym, ◌∙◌, ap, subst, Bool, true, false, cond, not, ◌&&◌, ◌||◌, Option, None, Some, arith, eqb}
use Rattle.std.specs.List.{AllByRecursion, list_any}
use Rattle.std.specs.Prelude.{is_some}
use Rattle.std.specs.Option.{option_map, option_map_or}
use Rattle.std.specs.Ordering.{is_eq, is_gt}
use Rattle.std.specs.declared.cmp.Ordering.{Ordering}
use Rattle.std.specs.declared.cmp.Ordering.TheVariants.{Less, Equal, Greater}
use Rattle.std.proofs.lemmas.Bool.{false≢true, eqb-true, ne_eqb}
use Rattle.std.proofs.lemmas.Cmp.{tied_itself}
use Rattle.std.proofs.lemmas.Option.{same_Some, none-some}
use Rattle.std.proofs.lemmas.Map.Lookups.{exact_bytes}
use Rattle.tm_types.specs.declared.dbd.SegType.{SegType}
use Rattle.tm_types.specs.declared.ssa.Ssa.{Ssa}
use Rattle.tm_types.specs.declared.ssa.KeyTest.{KeyTest}
use Rattle.tm_types.specs.declared.ssa.KeyTest.TheVariants.{Any, Equal as ByKey, AtLeast}
use Rattle.tm_types.specs.SegTypes.{IsHierarchy, type_at}
use Rattle.model_data.specs.declared.row.Row.{Row}
use Rattle.model_data.specs.Path.{key_cmp, path_cmp, root_of, end_type, IsPath, IsPathBelow}
use Rattle.model_data.specs.Rows.{record_of}
use Rattle.model_data.proofs.Order.{key_total, path_total, exact_path, turned_greater, not_less_itself}
use Rattle.model_data.proofs.Lists.{all_then}
use Rattle.model_data.proofs.Records.{is_eq-true}
use Rattle.model_data.proofs.Paths.{child_greater}
use Rattle.model_data.proofs.Whole.{root_less}
use Rattle.model_data.specs.Search.{fitted_key, number_named, meets, meets_at, meets_ssa, asked_number, fits, is_after, is_path_below, row_at, is_row_there, first_after, first_below}
use Rattle.model_data.specs.GetCalls.{key_asked, asked_root}
use Rattle.row_search.specs.Walk.{rows_from_root}
use Rattle.row_search.proofs.Finding.{find_within}
use Rattle.row_search.proofs.Within.{both_true, within_root}
use Rattle.model_data.proofs.Reading.{is_lt-true}

pub each_of : {A : Type 0} (P : A → Type 0) → ((x : A) → P x) → (xs : List A) → AllByRecursion P xs
each_of P h [] = tt
each_of P h (x ∷ xs) = (h x, each_of P h xs)

-- rows that all have one root stand in its record
of_root : (key : List ℕ) (path : List (ℕ × List ℕ)) → key ≡ root_of path → is_eq (key_cmp key (root_of path)) ≡ true
of_root key path e = ap (λ k. is_eq (key_cmp k (root_of path))) e ∙ ap is_eq (tied_itself key_total (root_of path))

-- a path is there where it is in the record of its root
pub row_in_record : (path : List (ℕ × List ℕ)) (rows : List Row) → row_at path (record_of (root_of path) rows) ≡ row_at path rows
row_in_record path rows =
    find_within (λ row. is_eq (path_cmp path row.path)) (λ row. is_eq (key_cmp (root_of path) (root_of row.path))) rows
    (each_of (λ row. is_eq (path_cmp path row.path) ≡ true → is_eq (key_cmp (root_of path) (root_of row.path)) ≡ true)
    (λ row e. of_root (root_of path) row.path (ap root_of (exact_path path row.path (is_eq-true _ e)))) rows)

pub there_in_record : (path : List (ℕ × List ℕ)) (rows : List Row) → is_row_there path (record_of (root_of path) rows) ≡ is_row_there path rows
there_in_record path rows = ap is_some (row_in_record path rows)

-- what is below a parent is in its record
pub below_in_record : (types : List SegType) (ssas : List Ssa) (place : Option (List (ℕ × List ℕ))) (parent : List (ℕ × List ℕ)) (rows : List Row) → 1 ≤ length parent
    → first_below types ssas place parent (record_of (root_of parent) rows) ≡ first_below types ssas place parent rows
below_in_record types ssas place parent rows some =
    find_within (λ row. is_after place row.path && is_after (Some parent) row.path && is_path_below parent row.path && fits types ssas row.path)
    (λ row. is_eq (key_cmp (root_of parent) (root_of row.path))) rows
    (each_of (λ row. (is_after place row.path && is_after (Some parent) row.path && is_path_below parent row.path && fits types ssas row.path) ≡ true
    → is_eq (key_cmp (root_of parent) (root_of row.path)) ≡ true)
    (λ row e. of_root (root_of parent) row.path (within_root parent row.path some
    (both_true _ _ (both_true _ _ (both_true (is_after place row.path && is_after (Some parent) row.path && is_path_below parent row.path) _ e).0).1).0)) rows)

module _ (types : List SegType) (all : IsHierarchy types) where
  -- what is after a place is in its record or a later one
  pub after_in_later : (ssas : List Ssa) (place : List (ℕ × List ℕ)) (rows : List Row) → IsPath types place → AllByRecursion (λ row. IsPath types row.path) rows
      → first_after types ssas (Some place) (rows_from_root (Some (root_of place)) rows) ≡ first_after types ssas (Some place) rows
  after_in_later ssas place rows valid paths =
      find_within (λ row. is_after (Some place) row.path && fits types ssas row.path) (λ row. not (is_gt (key_cmp (root_of place) (root_of row.path)))) rows
      (all_then (λ row. IsPath types row.path)
      (λ row. (is_after (Some place) row.path && fits types ssas row.path) ≡ true → not (is_gt (key_cmp (root_of place) (root_of row.path))) ≡ true) rows
      (λ row g e. later row.path g (is_lt-true _ (both_true _ _ e).0) (key_cmp (root_of place) (root_of row.path)) refl) paths)
    where
      later : (path : List (ℕ × List ℕ)) → IsPath types path → path_cmp place path ≡ Less → (o : Ordering) → key_cmp (root_of place) (root_of path) ≡ o
          → not (is_gt (key_cmp (root_of place) (root_of path))) ≡ true
      later path g less Less e = ap (λ o. not (is_gt o)) e
      later path g less Equal e = ap (λ o. not (is_gt o)) e
      later path g less Greater e =
          not_less_itself path_total place
          (path_total.trans place path place less (root_less types all path place g valid (turned_greater key_total (root_of place) (root_of path) e)))

  -- the types along a path lie above the one on which it stands
  types_above : (above : ℕ) (path : List (ℕ × List ℕ)) → IsPathBelow types above path → AllByRecursion (λ p. above < p.0) path
  types_above above [] h = tt
  types_above above (p ∷ path) h =
      let up : above < p.0 = child_greater types all above p h.0 in
      (up, all_then (λ q. p.0 < q.0) (λ q. above < q.0) path (λ q g. let more : p.0 < q.0 = g in omega arith) (types_above p.0 path h.1))

  none_of : (n : ℕ) (f : ℕ × List ℕ → Bool) (path : List (ℕ × List ℕ)) → AllByRecursion (λ p. n < p.0) path → list_any (λ p. eqb p.0 n && f p) path ≡ false
  none_of n f [] h = refl
  none_of n f (p ∷ path) h =
      let up : n < p.0 = h.0 in
      let other : eqb p.0 n ≡ false = ne_eqb p.0 n (λ e. absurd (omega arith)) in
      ap (λ b. (b && f p) || list_any (λ q. eqb q.0 n && f q) path) other ∙ none_of n f path h.1

  -- a segment that meets an argument on the root by `=` has this root
  root_met : (x : List ℕ) (s : SegType) (path : List (ℕ × List ℕ)) → IsPath types path → meets_at (ByKey x) 1 s path ≡ true → fitted_key s.key x ≡ root_of path
  root_met x s [] valid e = absurd valid
  root_met x s (p ∷ path) valid e = by (eqb p.0 1 && meets (ByKey x) s.key p.1) refl e
    where
      zero_less : 0 < p.0
      zero_less = child_greater types all 0 p valid.0

      rest : AllByRecursion (λ q. 1 < q.0) path
      rest = all_then (λ q. p.0 < q.0) (λ q. 1 < q.0) path (λ q g. let more : p.0 < q.0 = g in let first : 0 < p.0 = zero_less in omega arith) (types_above p.0 path valid.1)

      by : (b : Bool) → (eqb p.0 1 && meets (ByKey x) s.key p.1) ≡ b → (b || list_any (λ q. eqb q.0 1 && meets (ByKey x) s.key q.1) path) ≡ true → fitted_key s.key x ≡ p.1
      by true f g = sym (exact_bytes p.1 (fitted_key s.key x) (is_eq-true _ (both_true (eqb p.0 1) _ f).1))
      by false f g = absurd (false≢true (sym (none_of 1 (λ q. meets (ByKey x) s.key q.1) path rest) ∙ g))

  key_met : (test : KeyTest) (key : List ℕ) (path : List (ℕ × List ℕ)) → IsPath types path → key_asked types test ≡ Some key
      → option_map_or (λ s. meets_at test 1 s path) (type_at types 1) false ≡ true → key ≡ root_of path
  key_met Any key path valid asked met = absurd (none-some key asked)
  key_met (AtLeast x) key path valid asked met = absurd (none-some key asked)
  key_met (ByKey x) key path valid asked met = by (type_at types 1) asked met
    where
      by : (o : Option SegType) → option_map (λ s. fitted_key s.key x) o ≡ Some key → option_map_or (λ s. meets_at (ByKey x) 1 s path) o false ≡ true → key ≡ root_of path
      by None a m = absurd (none-some key a)
      by (Some s) a m = sym (same_Some (fitted_key s.key x) key a) ∙ root_met x s path valid m

  -- where the first argument asks for one root, what fits has that root
  fits_root : (ssas : List Ssa) (key : List ℕ) (path : List (ℕ × List ℕ)) → IsPath types path → asked_root types ssas ≡ Some key → fits types ssas path ≡ true → key ≡ root_of path
  fits_root [] key path valid asked fit = absurd (none-some key asked)
  fits_root (ssa ∷ ssas) key path valid asked fit = by (eqb (number_named types ssa.segment) 1) refl asked
    where
      met : meets_ssa types ssa path ≡ true
      met = (both_true (meets_ssa types ssa path) _ (both_true (eqb (end_type path) (asked_number types (ssa ∷ ssas))) _ fit).1).0

      by : (b : Bool) → eqb (number_named types ssa.segment) 1 ≡ b → cond b (key_asked types ssa.test) None ≡ Some key → key ≡ root_of path
      by true e a =
          key_met ssa.test key path valid a
          (subst (λ n. option_map_or (λ s. meets_at ssa.test n s path) (type_at types n) false ≡ true) (eqb-true (number_named types ssa.segment) 1 e) met)
      by false e a = absurd (none-some key a)

  pub asked_in_record : (ssas : List Ssa) (place : Option (List (ℕ × List ℕ))) (key : List ℕ) (rows : List Row) → AllByRecursion (λ row. IsPath types row.path) rows
      → asked_root types ssas ≡ Some key → first_after types ssas place (record_of key rows) ≡ first_after types ssas place rows
  asked_in_record ssas place key rows paths asked =
      find_within (λ row. is_after place row.path && fits types ssas row.path) (λ row. is_eq (key_cmp key (root_of row.path))) rows
      (all_then (λ row. IsPath types row.path)
      (λ row. (is_after place row.path && fits types ssas row.path) ≡ true → is_eq (key_cmp key (root_of row.path)) ≡ true) rows
      (λ row g e. of_root key row.path (fits_root ssas key row.path g asked (both_true (is_after place row.path) _ e).1)) paths)
