-- What a search needs, from one key to the next.
use Rattle.std.proofs.Common.{◌≡◌, ℕ, ◌++◌, ◌∷◌, [], List, refl, sym, ◌∙◌, ap, subst, true, false, cond, Option, None, Some, Result, Ok, Err, append_assoc}
use Rattle.std.specs.List.{AllByRecursion, slice_get}
use Rattle.std.specs.List.Sorted.{IsStrictlySortedBy}
use Rattle.std.specs.Option.{option_map_or}
use Rattle.std.specs.Prelude.{is_some, IfOk}
use Rattle.std.proofs.lemmas.Bool.{false≢true}
use Rattle.std.specs.Ordering.{is_lt}
use Rattle.std.specs.declared.cmp.Ordering.TheVariants.{Less}
use Rattle.std.proofs.lemmas.Cmp.{tied_itself}
use Rattle.std.proofs.lemmas.Map.Keys.{sorted_head}
use Rattle.tm_types.specs.declared.dbd.Dbd.{Dbd}
use Rattle.tm_types.specs.declared.resource.Mode.{Mode}
use Rattle.tm_types.specs.declared.ssa.Ssa.{Ssa}
use Rattle.tm_types.specs.SegTypes.{IsHierarchy}
use Rattle.model_data.specs.declared.row.Row.{Row}
use Rattle.model_data.specs.Path.{key_cmp, root_of, IsPath}
use Rattle.model_data.specs.Rows.{record_of, roots, next_root, AreRows}
use Rattle.model_data.proofs.Order.{key_total}
use Rattle.model_data.proofs.Lists.{all_then, sorted_filter}
use Rattle.model_data.proofs.Filters.{filter_all, filter_within, filter_passes, find_first}
use Rattle.model_data.specs.declared.need.Need.{Need}
use Rattle.model_data.specs.Search.{first_after}
use Rattle.model_data.specs.Footprint.{record_need, roots_behind, along, onward}
use Rattle.row_search.proofs.Finding.{find_front, find_back}
use Rattle.row_search.proofs.Keys.{roots_ascending, by_records}
use Rattle.row_search.proofs.Needing.{walk, next_fits, walk_head, onward_is, found_here, found_behind}
use Rattle.dli_calls.specs.NamedRecords.{keys_behind, keys_from, rows_of_roots}
use Rattle.model_data.proofs.Reading.{is_lt-true}

-- a key and those behind it are in order
from_ascending : (key : List ℕ) (keys : List (List ℕ)) → IsStrictlySortedBy key_cmp keys → IsStrictlySortedBy key_cmp (key ∷ roots_behind key keys)
unfolding IsStrictlySortedBy
from_ascending key keys s = (
  all_then (λ k. is_lt (key_cmp key k) ≡ true) (λ k. key_cmp key k ≡ Less) (roots_behind key keys) (λ k e. is_lt-true _ e) (filter_passes (λ k. is_lt (key_cmp key k)) keys),
  sorted_filter key_cmp (λ k. is_lt (key_cmp key k)) keys s,
)

-- behind the first key are the others
behind_first : (key : List ℕ) (keys : List (List ℕ)) → IsStrictlySortedBy key_cmp (key ∷ keys) → roots_behind key (key ∷ keys) ≡ keys
behind_first key keys s =
    ap (λ o. cond (is_lt o) (key ∷ roots_behind key keys) (roots_behind key keys)) (tied_itself key_total key)
    ∙ filter_all (λ k. is_lt (key_cmp key k)) keys (all_then (λ k. key_cmp key k ≡ Less) (λ k. is_lt (key_cmp key k) ≡ true) keys (λ k e. ap is_lt e) (sorted_head key_cmp key keys s))

module _ (dbd : Dbd) (all : IsHierarchy dbd.types) (rows : List Row) (valid : AreRows dbd rows) where
  -- the next root and those behind it are those behind a root
  pub next_keys : (after : Option (List ℕ)) → keys_from (next_root rows after) (roots rows) ≡ keys_behind after (roots rows)
  next_keys None = by (roots rows) (roots_ascending dbd all rows valid)
    where
      by : (keys : List (List ℕ)) → IsStrictlySortedBy key_cmp keys → keys_from (slice_get keys 0) keys ≡ keys
      by [] s = refl
      by (key ∷ keys) s = ap (λ ks. key ∷ ks) (behind_first key keys s)
  next_keys (Some root) =
      ap (λ o. keys_from o (roots rows)) (find_first (λ key. is_lt (key_cmp root key)) (roots rows))
      ∙ by (roots_behind root (roots rows)) refl
    where
      by : (keys : List (List ℕ)) → roots_behind root (roots rows) ≡ keys → keys_from (slice_get (roots_behind root (roots rows)) 0) (roots rows) ≡ roots_behind root (roots rows)
      by [] e = ap (λ ks. keys_from (slice_get ks 0) (roots rows)) e ∙ sym e
      by (key ∷ keys) e =
          let s : IsStrictlySortedBy key_cmp (key ∷ keys) = subst (IsStrictlySortedBy key_cmp) e (sorted_filter key_cmp (λ k. is_lt (key_cmp root k)) (roots rows) (roots_ascending dbd all rows valid)) in
          let passes : AllByRecursion (λ k. is_lt (key_cmp root k) ≡ true) (key ∷ keys) =
          subst (AllByRecursion (λ k. is_lt (key_cmp root k) ≡ true)) e (filter_passes (λ k. is_lt (key_cmp root k)) (roots rows)) in
          let later : roots_behind key (roots rows) ≡ roots_behind key (roots_behind root (roots rows)) =
          sym (filter_within (λ k. is_lt (key_cmp key k)) (λ k. is_lt (key_cmp root k)) (λ k f. ap is_lt (key_total.trans root key k (is_lt-true _ passes.0) (is_lt-true _ f))) (roots rows)) in
          ap (λ ks. keys_from (slice_get ks 0) (roots rows)) e
          ∙ (ap (λ ks. key ∷ ks) (later ∙ (ap (roots_behind key) e ∙ behind_first key keys s)) ∙ sym e)

  module _ (ssas : List Ssa) (place : Option (List (ℕ × List ℕ))) (mode : Mode) (key : List ℕ) where
    -- the record, and where it doesn't have the row those behind it
    head : walk (next_fits dbd ssas place) mode rows (keys_from (Some key) (roots rows))
        ≡ record_need mode key ∷ option_map_or (λ r. []) (first_after dbd.types ssas place (record_of key rows)) (walk (next_fits dbd ssas place) mode rows (roots_behind key (roots rows)))
    head = walk_head (next_fits dbd ssas place) mode rows key (roots_behind key (roots rows)) (from_ascending key (roots rows) (roots_ascending dbd all rows valid))

    -- where the record has the row, it is the last that is needed
    pub walk_ends : is_some (first_after dbd.types ssas place (record_of key rows)) ≡ true
        → walk (next_fits dbd ssas place) mode rows (keys_from (Some key) (roots rows)) ≡ record_need mode key ∷ []
    walk_ends e = head ∙ by (first_after dbd.types ssas place (record_of key rows)) e
      where
        by : (o : Option Row) → is_some o ≡ true
            → record_need mode key ∷ option_map_or (λ r. []) o (walk (next_fits dbd ssas place) mode rows (roots_behind key (roots rows))) ≡ record_need mode key ∷ []
        by None f = absurd (false≢true f)
        by (Some row) f = refl

    -- and the row is found in it
    pub records_end : (row : Row) → first_after dbd.types ssas place (record_of key rows) ≡ Some row
        → first_after dbd.types ssas place (rows_of_roots (keys_from (Some key) (roots rows)) rows) ≡ Some row
    records_end row e = find_front (next_fits dbd ssas place) (record_of key rows) (rows_of_roots (roots_behind key (roots rows)) rows) row e

    -- else it is found among those from the next root on
    pub records_go : first_after dbd.types ssas place (record_of key rows) ≡ None
        → first_after dbd.types ssas place (rows_of_roots (keys_from (next_root rows (Some key)) (roots rows)) rows)
        ≡ first_after dbd.types ssas place (rows_of_roots (keys_from (Some key) (roots rows)) rows)
    records_go e =
        ap (λ keys. first_after dbd.types ssas place (rows_of_roots keys rows)) (next_keys (Some key))
        ∙ sym (find_back (next_fits dbd ssas place) (record_of key rows) (rows_of_roots (roots_behind key (roots rows)) rows) e)

    -- else those from the next root on are needed too
    pub walk_goes : is_some (first_after dbd.types ssas place (record_of key rows)) ≡ false
        → walk (next_fits dbd ssas place) mode rows (keys_from (Some key) (roots rows))
        ≡ record_need mode key ∷ walk (next_fits dbd ssas place) mode rows (keys_from (next_root rows (Some key)) (roots rows))
    walk_goes e = head ∙ by (first_after dbd.types ssas place (record_of key rows)) e
      where
        by : (o : Option Row) → is_some o ≡ false
            → record_need mode key ∷ option_map_or (λ r. []) o (walk (next_fits dbd ssas place) mode rows (roots_behind key (roots rows)))
            ≡ record_need mode key ∷ walk (next_fits dbd ssas place) mode rows (keys_from (next_root rows (Some key)) (roots rows))
        by None f = ap (λ keys. record_need mode key ∷ walk (next_fits dbd ssas place) mode rows keys) (sym (next_keys (Some key)))
        by (Some row) f = absurd (false≢true (sym f))

module _ (dbd : Dbd) (all : IsHierarchy dbd.types) (rows : List Row) (valid : AreRows dbd rows) (ssas : List Ssa) (mode : Mode) where
  -- without a place a search goes along all records
  pub onward_none : (place : Option (List (ℕ × List ℕ))) (named made : List Need) → place ≡ None → made ≡ []
      → named ≡ made ++ along mode (first_after dbd.types ssas place (rows_of_roots (roots rows) rows)) (roots rows)
      → named ≡ onward mode place (first_after dbd.types ssas place rows) (roots rows)
  onward_none place named made none empty is =
      is
      ∙ (ap (λ needs. needs ++ along mode (first_after dbd.types ssas place (rows_of_roots (roots rows) rows)) (roots rows)) empty
      ∙ (ap (λ rs. along mode (first_after dbd.types ssas place rs) (roots rows)) (sym (by_records dbd all rows valid))
      ∙ ap (λ o. onward mode o (first_after dbd.types ssas place rows) (roots rows)) (sym none)))

  -- and finds the row there
  pub found_all : (place : Option (List (ℕ × List ℕ))) → first_after dbd.types ssas place (rows_of_roots (roots rows) rows) ≡ first_after dbd.types ssas place rows
  found_all place = ap (first_after dbd.types ssas place) (sym (by_records dbd all rows valid))

  module _ (place : Option (List (ℕ × List ℕ))) (path : List (ℕ × List ℕ)) (root : List ℕ) (at : place ≡ Some path) (whole : IsPath dbd.types path) (same : root ≡ root_of path) where
    -- from a place the row is that of its record
    pub found_there : (row : Row) → first_after dbd.types ssas place (record_of root rows) ≡ Some row → first_after dbd.types ssas place rows ≡ Some row
    found_there row e =
        ap (λ o. first_after dbd.types ssas o rows) at
        ∙ found_here dbd all rows valid ssas path whole row ((λ i. first_after dbd.types ssas (sym at i) (record_of (sym same i) rows)) ∙ e)

    -- or else of those behind it
    pub found_later : first_after dbd.types ssas place (record_of root rows) ≡ None
        → first_after dbd.types ssas place (rows_of_roots (roots_behind root (roots rows)) rows) ≡ first_after dbd.types ssas place rows
    found_later e =
        (λ i. first_after dbd.types ssas (at i) (rows_of_roots (roots_behind (same i) (roots rows)) rows))
        ∙ (sym (found_behind dbd all rows valid ssas path whole ((λ i. first_after dbd.types ssas (sym at i) (record_of (sym same i) rows)) ∙ e))
        ∙ ap (λ o. first_after dbd.types ssas o rows) (sym at))

    from : onward mode place (first_after dbd.types ssas place rows) (roots rows)
        ≡ record_need mode root
        ∷ option_map_or (λ row. []) (first_after dbd.types ssas place (record_of root rows)) (along mode (first_after dbd.types ssas place (rows_of_roots (roots_behind root (roots rows)) rows)) (roots_behind root (roots rows)))
    from =
        ap (λ o. onward mode o (first_after dbd.types ssas o rows) (roots rows)) at
        ∙ (onward_is dbd all rows valid ssas path whole mode
        ∙ sym (λ i. record_need mode (same i)
        ∷ option_map_or (λ row. []) (first_after dbd.types ssas (at i) (record_of (same i) rows))
        (along mode (first_after dbd.types ssas (at i) (rows_of_roots (roots_behind (same i) (roots rows)) rows)) (roots_behind (same i) (roots rows)))))

    -- from a place, its record alone where that has the row
    pub onward_here : (pushed made : List Need) → made ≡ [] → pushed ≡ made ++ record_need mode root ∷ [] → is_some (first_after dbd.types ssas place (record_of root rows)) ≡ true
        → pushed ≡ onward mode place (first_after dbd.types ssas place rows) (roots rows)
    onward_here pushed made empty is e =
        is ∙ (ap (λ needs. needs ++ record_need mode root ∷ []) empty ∙ sym (from ∙ by (first_after dbd.types ssas place (record_of root rows)) e))
      where
        by : (o : Option Row) → is_some o ≡ true
            → record_need mode root
            ∷ option_map_or (λ row. []) o (along mode (first_after dbd.types ssas place (rows_of_roots (roots_behind root (roots rows)) rows)) (roots_behind root (roots rows))) ≡ record_need mode root ∷ []
        by None f = absurd (false≢true f)
        by (Some row) f = refl

    -- else also those behind it
    pub onward_goes : (named pushed made : List Need) → made ≡ [] → pushed ≡ made ++ record_need mode root ∷ []
        → is_some (first_after dbd.types ssas place (record_of root rows)) ≡ false
        → named ≡ pushed ++ along mode (first_after dbd.types ssas place (rows_of_roots (roots_behind root (roots rows)) rows)) (roots_behind root (roots rows))
        → named ≡ onward mode place (first_after dbd.types ssas place rows) (roots rows)
    onward_goes named pushed made empty is e all_of =
        all_of
        ∙ (ap (λ needs. needs ++ along mode (first_after dbd.types ssas place (rows_of_roots (roots_behind root (roots rows)) rows)) (roots_behind root (roots rows)))
        (is ∙ ap (λ needs. needs ++ record_need mode root ∷ []) empty)
        ∙ sym (from ∙ by (first_after dbd.types ssas place (record_of root rows)) e))
      where
        by : (o : Option Row) → is_some o ≡ false
            → record_need mode root
            ∷ option_map_or (λ row. []) o (along mode (first_after dbd.types ssas place (rows_of_roots (roots_behind root (roots rows)) rows)) (roots_behind root (roots rows)))
            ≡ record_need mode root ∷ along mode (first_after dbd.types ssas place (rows_of_roots (roots_behind root (roots rows)) rows)) (roots_behind root (roots rows))
        by None f = refl
        by (Some row) f = absurd (false≢true (sym f))

-- Plain facts of the list that grows.

-- the last need closes the list
pub closes : (needs pushed rest whole : List Need) (need : Need) → pushed ≡ needs ++ need ∷ [] → needs ++ rest ≡ whole → rest ≡ need ∷ [] → pushed ≡ whole
closes needs pushed rest whole need is all last = is ∙ (ap (λ r. needs ++ r) (sym last) ∙ all)

-- one need more leaves one less to come
pub goes : (needs pushed rest later whole : List Need) (need : Need) → pushed ≡ needs ++ need ∷ [] → needs ++ rest ≡ whole → rest ≡ need ∷ later → pushed ++ later ≡ whole
goes needs pushed rest later whole need is all next =
    ap (λ r. r ++ later) is ∙ (append_assoc needs (need ∷ []) later ∙ (ap (λ r. needs ++ r) (sym next) ∙ all))

-- two facts of a value, if there is one
pub ok_both : {T E : Type 0} (r : Result T E) (P Q R : T → Type 0) → ((x : T) → P x → Q x → R x) → IfOk r P → IfOk r Q → IfOk r R
ok_both (Ok x) P Q R f p q = f x p q
ok_both (Err e) P Q R f p q = tt

pub ok_three : {T E : Type 0} (r : Result T E) (P Q R S : T → Type 0) → ((x : T) → P x → Q x → R x → S x) → IfOk r P → IfOk r Q → IfOk r R → IfOk r S
ok_three (Ok x) P Q R S f p q s = f x p q s
ok_three (Err e) P Q R S f p q s = tt
