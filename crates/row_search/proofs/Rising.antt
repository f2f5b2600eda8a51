-- The rows of a database in the order of their roots, and how a search goes from record to record.
use Rattle.std.proofs.Common.{◌≡◌, ◌≢◌, ℕ, ◌++◌, ◌∷◌, [], List, length, refl, sym, ◌∙◌, ap, subst, Bool, true, false, cond, not, Option, None, Some, eqb}
use Rattle.std.specs.List.{AllByRecursion, filter, find, slice_get}
use Rattle.std.specs.Prelude.{map}
use Rattle.std.specs.List.Sorted.{IsStrictlySortedBy}
use Rattle.std.specs.Option.{option_map}
use Rattle.std.specs.Ordering.{is_lt, is_eq, is_gt}
use Rattle.std.specs.declared.cmp.Ordering.{Ordering}
use Rattle.std.specs.declared.cmp.Ordering.TheVariants.{Less, Equal, Greater}
use Rattle.std.proofs.lemmas.Bool.{false≢true, eq-eqb}
use Rattle.std.proofs.lemmas.List.Elements.{filter-append}
use Rattle.std.proofs.lemmas.Cmp.{tied_itself}
use Rattle.std.proofs.lemmas.Map.Lookups.{exact_bytes}
use Rattle.tm_types.specs.declared.dbd.SegType.{SegType}
use Rattle.tm_types.specs.declared.dbd.Dbd.{Dbd}
use Rattle.tm_types.specs.SegTypes.{IsHierarchy}
use Rattle.model_data.specs.declared.row.Row.{Row}
use Rattle.model_data.specs.Path.{key_cmp, root_of, IsPath}
use Rattle.model_data.specs.Row.{IsRow, row_cmp}
use Rattle.model_data.specs.Record.{IsUnder}
use Rattle.model_data.specs.Rows.{record_of, rows_before, rows_after, roots, next_root, AreRows}
use Rattle.model_data.proofs.Order.{key_total, path_total, turned_greater, not_less_itself}
use Rattle.model_data.proofs.Lists.{all_then, all_both, all_filter, sorted_filter}
use Rattle.model_data.proofs.Filters.{filter_all, filter_none, filter_within, filter_apart}
use Rattle.model_data.proofs.Records.{is_eq-true}
use Rattle.model_data.proofs.Prefixes.{none_under}
use Rattle.model_data.proofs.Roots.{first_row}
use Rattle.model_data.proofs.Whole.{record_is, root_less}
use Rattle.row_search.specs.Walk.{rows_from_root}
use Rattle.row_search.proofs.Finding.{find_head, find_passes, find_none, filter_twice}
use Rattle.model_data.proofs.Reading.{is_lt-true}

-- the roots of the rows never fall
abbrev pub AreRising : List Row → Type 0
AreRising [] = Unit {0}
AreRising (x ∷ xs) = AllByRecursion (λ y. key_cmp (root_of x.path) (root_of y.path) ≢ Greater) xs × AreRising xs

-- the record of a root is empty, or a record
pub record_under : (dbd : Dbd) (rows : List Row) (root : List ℕ) → AreRows dbd rows → IsUnder dbd.types root (record_of root rows)
record_under dbd rows root h = by (record_of root rows) refl
  where
    by : (rs : List Row) → record_of root rows ≡ rs → IsUnder dbd.types root (record_of root rows)
    by [] e = subst (IsUnder dbd.types root) (sym e) (none_under dbd.types root)
    by (r ∷ rs) e = (record_is dbd rows root h (λ none. let clash : r ∷ rs ≡ [] = sym e ∙ none in absurd (cc))).whole.under

module _ (types : List SegType) (all : IsHierarchy types) where
  pub rising : (rows : List Row) → IsStrictlySortedBy row_cmp rows → AllByRecursion (λ y. IsPath types y.path) rows → AreRising rows
  unfolding IsStrictlySortedBy
  rising [] s h = tt
  rising (x ∷ xs) s h = (
    all_both (λ y. row_cmp x y ≡ Less) (λ y. IsPath types y.path) (λ y. key_cmp (root_of x.path) (root_of y.path) ≢ Greater) xs
        (λ y less valid greater.
        not_less_itself path_total x.path
        (path_total.trans x.path y.path x.path less (root_less types all y.path x.path valid h.0 (turned_greater key_total (root_of x.path) (root_of y.path) greater)))) s.0 h.1,
    rising xs s.1 h.1,
  )

-- above what isn't above the second of two keys, the first isn't
not_above : (a b c : List ℕ) → key_cmp a b ≡ Less → key_cmp b c ≢ Greater → key_cmp a c ≡ Less
not_above a b c less up = by (key_cmp b c) refl
  where
    by : (o : Ordering) → key_cmp b c ≡ o → key_cmp a c ≡ Less
    by Less e = key_total.trans a b c less e
    by Equal e = ap (key_cmp a) (sym (exact_bytes b c e)) ∙ less
    by Greater e = absurd (up e)

-- rising rows are those before a root, its record, and those after it
pub split_at_root : (key : List ℕ) (rows : List Row) → AreRising rows → rows ≡ rows_before key rows ++ record_of key rows ++ rows_after key rows
split_at_root key [] h = refl
split_at_root key (x ∷ xs) h = by (key_cmp key (root_of x.path)) refl (split_at_root key xs h.1)
  where
    none_before : key_cmp key (root_of x.path) ≢ Greater → rows_before key xs ≡ []
    none_before up =
        filter_none (λ row. is_gt (key_cmp key (root_of row.path))) xs
        (all_then (λ y. key_cmp (root_of x.path) (root_of y.path) ≢ Greater) (λ y. is_gt (key_cmp key (root_of y.path)) ≡ false) xs (λ y g. low y g (key_cmp key (root_of x.path)) refl) h.0)
      where
        low : (y : Row) → key_cmp (root_of x.path) (root_of y.path) ≢ Greater → (o : Ordering) → key_cmp key (root_of x.path) ≡ o → is_gt (key_cmp key (root_of y.path)) ≡ false
        low y g Less e = ap is_gt (not_above key (root_of x.path) (root_of y.path) e g)
        low y g Equal e = not_gt (key_cmp key (root_of y.path)) refl
          where
            not_gt : (o : Ordering) → key_cmp key (root_of y.path) ≡ o → is_gt o ≡ false
            not_gt Less f = refl
            not_gt Equal f = refl
            not_gt Greater f = absurd (g (ap (λ k. key_cmp k (root_of y.path)) (sym (exact_bytes key (root_of x.path) e)) ∙ f))
        low y g Greater e = absurd (up e)

    none_at : key_cmp key (root_of x.path) ≡ Less → record_of key xs ≡ []
    none_at e =
        filter_none (λ row. is_eq (key_cmp key (root_of row.path))) xs
        (all_then (λ y. key_cmp (root_of x.path) (root_of y.path) ≢ Greater) (λ y. is_eq (key_cmp key (root_of y.path)) ≡ false) xs
        (λ y g. ap is_eq (not_above key (root_of x.path) (root_of y.path) e g)) h.0)

    by : (o : Ordering) → key_cmp key (root_of x.path) ≡ o → xs ≡ rows_before key xs ++ record_of key xs ++ rows_after key xs
        → x ∷ xs ≡ cond (is_gt (key_cmp key (root_of x.path))) (x ∷ rows_before key xs) (rows_before key xs)
        ++ cond (is_eq (key_cmp key (root_of x.path))) (x ∷ record_of key xs) (record_of key xs)
        ++ cond (is_lt (key_cmp key (root_of x.path))) (x ∷ rows_after key xs) (rows_after key xs)
    by Greater e rec = rw e (λ i. x ∷ rec i)
    by Equal e rec =
        let none : rows_before key xs ≡ [] = none_before (λ g. let clash : Equal ≡ Greater = sym e ∙ g in absurd (cc)) in
        rw e (ap (λ rs. x ∷ rs) rec ∙ (λ i. x ∷ (none i ++ record_of key xs ++ rows_after key xs)) ∙ sym (λ i. none i ++ (x ∷ record_of key xs) ++ rows_after key xs))
    by Less e rec =
        let none : rows_before key xs ≡ [] = none_before (λ g. let clash : Less ≡ Greater = sym e ∙ g in absurd (cc)) in
        let nothing : record_of key xs ≡ [] = none_at e in
        rw e (ap (λ rs. x ∷ rs) rec ∙ (λ i. x ∷ (none i ++ nothing i ++ rows_after key xs)) ∙ sym (λ i. none i ++ nothing i ++ (x ∷ rows_after key xs)))

-- the rows from a root on are its record and the rows after it
pub from_root : (key : List ℕ) (rows : List Row) → AreRising rows → rows_from_root (Some key) rows ≡ record_of key rows ++ rows_after key rows
from_root key rows h =
    ap (filter from) (split_at_root key rows h)
    ∙ (filter-append from (rows_before key rows ++ record_of key rows) (rows_after key rows)
    ∙ (ap (λ rs. rs ++ filter from (rows_after key rows)) (filter-append from (rows_before key rows) (record_of key rows))
    ∙ (λ i. (gone i ++ kept i) ++ later i)))
  where
    from : Row → Bool
    from = λ row. not (is_gt (key_cmp key (root_of row.path)))

    gone : filter (λ row. not (is_gt (key_cmp key (root_of row.path)))) (rows_before key rows) ≡ []
    gone = filter_apart (λ row. not (is_gt (key_cmp key (root_of row.path)))) (λ row. is_gt (key_cmp key (root_of row.path))) (λ row e. ap not e) rows

    kept : filter (λ row. not (is_gt (key_cmp key (root_of row.path)))) (record_of key rows) ≡ record_of key rows
    kept = filter_twice (λ row. not (is_gt (key_cmp key (root_of row.path)))) (λ row. is_eq (key_cmp key (root_of row.path))) (λ row e. ap (λ o. not (is_gt o)) (is_eq-true _ e)) rows

    later : filter (λ row. not (is_gt (key_cmp key (root_of row.path)))) (rows_after key rows) ≡ rows_after key rows
    later = filter_twice (λ row. not (is_gt (key_cmp key (root_of row.path)))) (λ row. is_lt (key_cmp key (root_of row.path))) (λ row e. ap (λ o. not (is_gt o)) (is_lt-true _ e)) rows

module _ (dbd : Dbd) (all : IsHierarchy dbd.types) (rows : List Row) (valid : AreRows dbd rows) where
  paths : AllByRecursion (λ y. IsPath dbd.types y.path) rows
  paths = all_then (IsRow dbd.types rows) (λ y. IsPath dbd.types y.path) rows (λ y h. h.path) valid.each

  pub rows_rising : AreRising rows
  rows_rising = rising dbd.types all rows valid.ascending paths

  after_rising : (key : List ℕ) → AreRising (rows_after key rows)
  after_rising key =
      rising dbd.types all (rows_after key rows) (sorted_filter row_cmp (λ row. is_lt (key_cmp key (root_of row.path))) rows valid.ascending)
      (all_filter (λ y. IsPath dbd.types y.path) (λ row. is_lt (key_cmp key (root_of row.path))) rows paths)

  -- a row that is the first of its record is the root
  first_is_root : (row : Row) (rest : List Row) → record_of (root_of row.path) rows ≡ row ∷ rest → length row.path ≡ 1
  first_is_root row rest e =
      ap length (first_row dbd.types all (root_of row.path) row rest (subst (IsUnder dbd.types (root_of row.path)) e (record_under dbd rows (root_of row.path) valid)))

  -- the first row after a root is a root
  first_after_is_root : (key : List ℕ) (row : Row) → find (λ r. is_lt (key_cmp key (root_of r.path))) rows ≡ Some row → length row.path ≡ 1
  first_after_is_root key row e =
      let head = find_head (λ r. is_lt (key_cmp key (root_of r.path))) rows row e in
      let up : is_lt (key_cmp key (root_of row.path)) ≡ true = find_passes (λ r. is_lt (key_cmp key (root_of r.path))) rows row e in
      first_is_root row (record_of (root_of row.path) head.0)
      (sym (filter_within (λ r. is_eq (key_cmp (root_of row.path) (root_of r.path))) (λ r. is_lt (key_cmp key (root_of r.path)))
      (λ r g. ap (λ k. is_lt (key_cmp key k)) (sym (exact_bytes (root_of row.path) (root_of r.path) (is_eq-true _ g))) ∙ up) rows)
      ∙ (ap (record_of (root_of row.path)) head.1
      ∙ ap (λ b. cond b (row ∷ record_of (root_of row.path) head.0) (record_of (root_of row.path) head.0)) (ap is_eq (tied_itself key_total (root_of row.path)))))

  -- the first root after a key is that of the first row after it
  pub next_is_first : (key : List ℕ) → next_root rows (Some key) ≡ option_map (λ row. root_of row.path) (find (λ r. is_lt (key_cmp key (root_of r.path))) rows)
  next_is_first key = by_first (λ k. is_lt (key_cmp key k)) rows (λ row e. eq-eqb (length row.path) 1 (first_after_is_root key row e))
    where
      by_first : (f : List ℕ → Bool) (xs : List Row) → ((row : Row) → find (λ r. f (root_of r.path)) xs ≡ Some row → eqb (length row.path) 1 ≡ true)
          → find f (roots xs) ≡ option_map (λ row. root_of row.path) (find (λ r. f (root_of r.path)) xs)
      by_first f [] h = refl
      by_first f (x ∷ xs) h = by (f (root_of x.path)) refl (eqb (length x.path) 1) refl (by_first f xs)
        where
          by : (b : Bool) → f (root_of x.path) ≡ b → (c : Bool) → eqb (length x.path) 1 ≡ c
              → (((row : Row) → find (λ r. f (root_of r.path)) xs ≡ Some row → eqb (length row.path) 1 ≡ true) → find f (roots xs) ≡ option_map (λ row. root_of row.path) (find (λ r. f (root_of r.path)) xs))
              → find f (map (λ row. root_of row.path) (cond (eqb (length x.path) 1) (x ∷ filter (λ row. eqb (length row.path) 1) xs) (filter (λ row. eqb (length row.path) 1) xs)))
              ≡ option_map (λ row. root_of row.path) (cond (f (root_of x.path)) (Some x) (find (λ r. f (root_of r.path)) xs))
          by true e true g rec = rw (e, g) (rw e refl)
          by true e false g rec =
              absurd (false≢true (sym g ∙ h x (ap (λ b. cond b (Some x) (find (λ r. f (root_of r.path)) xs)) e)))
          by false e true g rec = rw (e, g) (rw e (rec (λ row k. h row (ap (λ b. cond b (Some x) (find (λ r. f (root_of r.path)) xs)) e ∙ k))))
          by false e false g rec = rw (e, g) (rec (λ row k. h row (ap (λ b. cond b (Some x) (find (λ r. f (root_of r.path)) xs)) e ∙ k)))

  -- the rows after a root are those from the next root on
  pub after_root : (key : List ℕ) → rows_after key rows ≡ rows_from_root (next_root rows (Some key)) rows
  after_root key = by (find (λ r. is_lt (key_cmp key (root_of r.path))) rows) refl
    where
      by : (o : Option Row) → find (λ r. is_lt (key_cmp key (root_of r.path))) rows ≡ o → rows_after key rows ≡ rows_from_root (next_root rows (Some key)) rows
      by None e =
          filter_none (λ r. is_lt (key_cmp key (root_of r.path))) rows (find_none (λ r. is_lt (key_cmp key (root_of r.path))) rows e)
          ∙ sym (ap (λ o. rows_from_root o rows) (next_is_first key ∙ ap (option_map (λ row. root_of row.path)) e))
      by (Some row) e =
          let head = find_head (λ r. is_lt (key_cmp key (root_of r.path))) rows row e in
          let up : key_cmp key (root_of row.path) ≡ Less = is_lt-true _ (find_passes (λ r. is_lt (key_cmp key (root_of r.path))) rows row e) in
          let low : AreRising (row ∷ head.0) = subst AreRising head.1 (after_rising key) in
          head.1
          ∙ (sym (ap (λ b. cond (not (is_gt b)) (row ∷ head.0) head.0) (tied_itself key_total (root_of row.path)))
          ∙ (sym (ap (λ rs. cond (not (is_gt (key_cmp (root_of row.path) (root_of row.path)))) (row ∷ rs) rs)
          (filter_all (λ r. not (is_gt (key_cmp (root_of row.path) (root_of r.path)))) head.0
          (all_then (λ y. key_cmp (root_of row.path) (root_of y.path) ≢ Greater) (λ y. not (is_gt (key_cmp (root_of row.path) (root_of y.path))) ≡ true) head.0
          (λ y g. not_gt (key_cmp (root_of row.path) (root_of y.path)) g) low.0)))
          ∙ (sym (ap (filter (λ r. not (is_gt (key_cmp (root_of row.path) (root_of r.path))))) head.1)
          ∙ (filter_within (λ r. not (is_gt (key_cmp (root_of row.path) (root_of r.path)))) (λ r. is_lt (key_cmp key (root_of r.path)))
          (λ r g. ap is_lt (not_above key (root_of row.path) (root_of r.path) up (from_not_gt (key_cmp (root_of row.path) (root_of r.path)) g))) rows
          ∙ sym (ap (λ o. rows_from_root o rows) (next_is_first key ∙ ap (option_map (λ r. root_of r.path)) e))))))
        where
          not_gt : (o : Ordering) → o ≢ Greater → not (is_gt o) ≡ true
          not_gt Less g = refl
          not_gt Equal g = refl
          not_gt Greater g = absurd (g refl)

          from_not_gt : (o : Ordering) → not (is_gt o) ≡ true → o ≢ Greater
          from_not_gt Less g = λ e. let clash : Less ≡ Greater = e in absurd (cc)
          from_not_gt Equal g = λ e. let clash : Equal ≡ Greater = e in absurd (cc)
          from_not_gt Greater g = absurd (false≢true g)

  -- from the first root on stand all rows
  pub all_from : rows_from_root (next_root rows None) rows ≡ rows
  all_from = by rows refl
    where
      by : (rs : List Row) → rows ≡ rs → rows_from_root (next_root rows None) rows ≡ rows
      by [] e = ap (λ xs. rows_from_root (next_root xs None) xs) e ∙ sym e
      by (x ∷ xs) e =
          let low : AreRising (x ∷ xs) = subst AreRising e rows_rising in
          let here : is_eq (key_cmp (root_of x.path) (root_of x.path)) ≡ true = ap is_eq (tied_itself key_total (root_of x.path)) in
          let one : eqb (length x.path) 1 ≡ true = eq-eqb (length x.path) 1
          (first_is_root x (record_of (root_of x.path) xs)
          (ap (record_of (root_of x.path)) e ∙ ap (λ b. cond b (x ∷ record_of (root_of x.path) xs) (record_of (root_of x.path) xs)) here)) in
          let first : next_root (x ∷ xs) None ≡ Some (root_of x.path) =
          ap (λ b. slice_get (map (λ row. root_of row.path) (cond b (x ∷ filter (λ row. eqb (length row.path) 1) xs) (filter (λ row. eqb (length row.path) 1) xs))) 0) one in
          ap (λ rs. rows_from_root (next_root rs None) rs) e
          ∙ (ap (λ o. rows_from_root o (x ∷ xs)) first
          ∙ (filter_all (λ r. not (is_gt (key_cmp (root_of x.path) (root_of r.path)))) (x ∷ xs) (
            ap (λ o. not (is_gt o)) (tied_itself key_total (root_of x.path)),
            all_then (λ y. key_cmp (root_of x.path) (root_of y.path) ≢ Greater) (λ y. not (is_gt (key_cmp (root_of x.path) (root_of y.path))) ≡ true) xs
                (λ y g. not_gt (key_cmp (root_of x.path) (root_of y.path)) g) low.0,
          )
          ∙ sym e))
        where
          not_gt : (o : Ordering) → o ≢ Greater → not (is_gt o) ≡ true
          not_gt Less g = refl
          not_gt Equal g = refl
          not_gt Greater g = absurd (g refl)
