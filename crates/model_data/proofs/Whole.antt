-- The rows of a database by their records.
use Rattle.std.proofs.Common.{◌≡◌, ◌≢◌, ℕ, ◌≤◌, ◌++◌, ◌∷◌, [], List, length, refl, sym, ◌∙◌, ap, subst, Bool, true, false, cond, ◌⊎◌, inl, inr, ⊎_elim}
use Rattle.std.specs.List.{AllByRecursion, filter}
use Rattle.std.specs.List.Sorted.{IsStrictlySortedBy}
use Rattle.std.specs.Ordering.{is_lt, is_eq, is_gt, nat_cmp, ordering_then}
use Rattle.std.specs.declared.cmp.Ordering.{Ordering}
use Rattle.std.specs.declared.cmp.Ordering.TheVariants.{Less, Equal, Greater}
use Rattle.std.proofs.lemmas.Map.Lookups.{exact_bytes}
use Rattle.tm_types.specs.declared.dbd.SegType.{SegType}
use Rattle.tm_types.specs.declared.dbd.Dbd.{Dbd}
use Rattle.tm_types.specs.SegTypes.{IsHierarchy}
use Rattle.model_data.specs.declared.row.Row.{Row}
use Rattle.model_data.specs.Path.{key_cmp, path_cmp, root_of, parent_path, IsPath}
use Rattle.model_data.specs.Row.{HasPath, IsRow, row_cmp}
use Rattle.model_data.specs.Record.{IsUnder, IsRecord, rows_spelling, record_limit}
use Rattle.model_data.specs.Rows.{record_of, rows_before, rows_after, with_record, roots, AreRows}
use Rattle.model_data.proofs.Order.{key_total, turned_greater}
use Rattle.model_data.proofs.Lists.{all_append, all_then, all_both, all_filter, sorted_append, sorted_filter}
use Rattle.model_data.proofs.Filters.{filter_passes}
use Rattle.model_data.proofs.Paths.{root_type}
use Rattle.model_data.proofs.Under.{row_among, has_front, has_back}
use Rattle.model_data.proofs.Records.{is_gt-true, record_rooted, with_record_itself, with_record_other}
use Rattle.model_data.proofs.Reading.{is_lt-true}

-- a path that a test keeps is there behind the filter
pub has_filter : (f : List (ℕ × List ℕ) → Bool) (rows : List Row) (path : List (ℕ × List ℕ)) → f path ≡ true → HasPath rows path → HasPath (filter (λ row. f row.path) rows) path
has_filter f [] path e h = absurd h
has_filter f (row ∷ rows) path e h = by (f row.path) refl (λ g. has_filter f rows path e g) h
  where
    by : (b : Bool) → f row.path ≡ b → (HasPath rows path → HasPath (filter (λ r. f r.path) rows) path) → (row.path ≡ path) ⊎ HasPath rows path
        → HasPath (cond b (row ∷ filter (λ r. f r.path) rows) (filter (λ r. f r.path) rows)) path
    by true q rec g = ⊎_elim (λ same. inl same) (λ later. inr (rec later)) g
    by false q rec g = ⊎_elim (λ same. let clash : true ≡ false = sym e ∙ (ap f (sym same) ∙ q) in absurd (cc)) (λ later. rec later) g

-- the parent has the root of the row
parent_root : (path : List (ℕ × List ℕ)) → (parent_path path ≡ []) ⊎ (root_of (parent_path path) ≡ root_of path)
parent_root [] = inl refl
parent_root (p ∷ []) = inl refl
parent_root (p ∷ q ∷ path) = inr refl

-- a row stays a row where the rows of its root stay
row_kept : (types : List SegType) (f : List ℕ → Bool) (rows : List Row) (row : Row) → f (root_of row.path) ≡ true → IsRow types rows row
    → IsRow types (filter (λ r. f (root_of r.path)) rows) row
row_kept types f rows row e h =
    record {
      path = h.path;
      parent = ⊎_elim (λ top. inl top) (λ there. ⊎_elim (λ top. inl top)
          (λ same. inr (has_filter (λ path. f (root_of path)) rows (parent_path row.path) (ap f same ∙ e) there)) (parent_root row.path)) h.parent;
      whole = h.whole;
      printable = h.printable;
      key = h.key;
    }

each_kept : (types : List SegType) (f : List ℕ → Bool) (rows : List Row) → AllByRecursion (IsRow types rows) rows
    → AllByRecursion (IsRow types (filter (λ r. f (root_of r.path)) rows)) (filter (λ r. f (root_of r.path)) rows)
each_kept types f rows h =
    all_both (λ row. f (root_of row.path) ≡ true) (IsRow types rows) (IsRow types (filter (λ r. f (root_of r.path)) rows)) (filter (λ r. f (root_of r.path)) rows)
    (λ row e g. row_kept types f rows row e g) (filter_passes (λ r. f (root_of r.path)) rows) (all_filter (IsRow types rows) (λ r. f (root_of r.path)) rows h)

-- the record of a root is a record, where it has rows
pub record_is : (dbd : Dbd) (rows : List Row) (root : List ℕ) → AreRows dbd rows → record_of root rows ≢ [] → IsRecord dbd root (record_of root rows)
record_is dbd rows root h some =
    record {
      whole = record {
        some = some;
        under = record {
          ascending = sorted_filter row_cmp (λ row. is_eq (key_cmp root (root_of row.path))) rows h.ascending;
          each = each_kept dbd.types (λ k. is_eq (key_cmp root k)) rows h.each;
          one_root = record_rooted root rows;
        };
      };
      within = h.within_limit root;
    }

module _ (types : List SegType) (all : IsHierarchy types) where
  -- a lower root goes first
  pub root_less : (a b : List (ℕ × List ℕ)) → IsPath types a → IsPath types b → key_cmp (root_of a) (root_of b) ≡ Less → path_cmp a b ≡ Less
  root_less [] b ha hb e = absurd ha
  root_less (p ∷ a) [] ha hb e = absurd hb
  root_less (p ∷ a) (q ∷ b) ha hb e =
      let tp : p.0 ≡ 1 = root_type types all p ha.0 in
      let tq : q.0 ≡ 1 = root_type types all q hb.0 in
      let same : nat_cmp p.0 q.0 ≡ Equal = λ i. nat_cmp (tp i) (tq i) in
      ap (λ o. ordering_then (ordering_then o (key_cmp p.1 q.1)) (path_cmp a b)) same ∙ ap (λ o. ordering_then o (path_cmp a b)) e

  -- rows of the database of lower roots stand before those of greater ones
  pub roots_across : (root : List ℕ) (xs ys : List Row) → AllByRecursion (λ x. IsPath types x.path × (key_cmp (root_of x.path) root ≡ Less)) xs
      → AllByRecursion (λ y. IsPath types y.path × ((root_of y.path ≡ root) ⊎ (key_cmp root (root_of y.path) ≡ Less))) ys
      → AllByRecursion (λ x. AllByRecursion (λ y. row_cmp x y ≡ Less) ys) xs
  roots_across root xs ys hx hy =
      all_then (λ x. IsPath types x.path × (key_cmp (root_of x.path) root ≡ Less)) (λ x. AllByRecursion (λ y. row_cmp x y ≡ Less) ys) xs
      (λ x h.
      all_then (λ y. IsPath types y.path × ((root_of y.path ≡ root) ⊎ (key_cmp root (root_of y.path) ≡ Less))) (λ y. row_cmp x y ≡ Less) ys
      (λ y g. root_less x.path y.path h.0 g.0 (⊎_elim (λ e. ap (key_cmp (root_of x.path)) e ∙ h.1) (λ e. key_total.trans _ root _ h.1 e) g.1)) hy) hx

  -- with one record in place of another the rows are again rows of the database
  pub with_record_rows : (root : List ℕ) (image rows : List Row) → AllByRecursion (IsRow types rows) rows → IsStrictlySortedBy row_cmp rows → IsUnder types root image
      → IsStrictlySortedBy row_cmp (with_record root image rows) × AllByRecursion (IsRow types (with_record root image rows)) (with_record root image rows)
  with_record_rows root image rows each ascending under =
      let before = rows_before root rows in
      let after = rows_after root rows in
      let rows' = with_record root image rows in
      let paths : AllByRecursion (λ y. IsPath types y.path) rows = all_then (IsRow types rows) (λ y. IsPath types y.path) rows (λ y h. h.path) each in
      let low : AllByRecursion (λ x. IsPath types x.path × (key_cmp (root_of x.path) root ≡ Less)) before =
      all_both (λ x. IsPath types x.path) (λ x. is_gt (key_cmp root (root_of x.path)) ≡ true) (λ x. IsPath types x.path × (key_cmp (root_of x.path) root ≡ Less)) before
      (λ x h e. (h, turned_greater key_total root (root_of x.path) (is_gt-true _ e)))
      (all_filter (λ x. IsPath types x.path) (λ x. is_gt (key_cmp root (root_of x.path))) rows paths) (filter_passes (λ x. is_gt (key_cmp root (root_of x.path))) rows) in
      let high : AllByRecursion (λ y. IsPath types y.path × (key_cmp root (root_of y.path) ≡ Less)) after =
      all_both (λ y. IsPath types y.path) (λ y. is_lt (key_cmp root (root_of y.path)) ≡ true) (λ y. IsPath types y.path × (key_cmp root (root_of y.path) ≡ Less)) after
      (λ y h e. (h, is_lt-true _ e))
      (all_filter (λ y. IsPath types y.path) (λ y. is_lt (key_cmp root (root_of y.path))) rows paths) (filter_passes (λ y. is_lt (key_cmp root (root_of y.path))) rows) in
      let at : AllByRecursion (λ y. IsPath types y.path × (root_of y.path ≡ root)) image =
      all_both (IsRow types image) (λ y. root_of y.path ≡ root) (λ y. IsPath types y.path × (root_of y.path ≡ root)) image (λ y h e. (h.path, e)) under.each under.one_root in (
        sorted_append row_cmp (before ++ image) after
            (sorted_append row_cmp before image (sorted_filter row_cmp (λ row. is_gt (key_cmp root (root_of row.path))) rows ascending) under.ascending
            (roots_across root before image low (all_then (λ y. IsPath types y.path × (root_of y.path ≡ root)) (λ y. IsPath types y.path × ((root_of y.path ≡ root) ⊎ (key_cmp root (root_of y.path) ≡ Less))) image (λ y h. (h.0, inl h.1)) at)))
            (sorted_filter row_cmp (λ row. is_lt (key_cmp root (root_of row.path))) rows ascending)
            (all_append (λ x. AllByRecursion (λ y. row_cmp x y ≡ Less) after) before image
            (roots_across root before after low (all_then (λ y. IsPath types y.path × (key_cmp root (root_of y.path) ≡ Less)) (λ y. IsPath types y.path × ((root_of y.path ≡ root) ⊎ (key_cmp root (root_of y.path) ≡ Less))) after (λ y h. (h.0, inr h.1)) high))
            (all_then (λ x. IsPath types x.path × (root_of x.path ≡ root)) (λ x. AllByRecursion (λ y. row_cmp x y ≡ Less) after) image
            (λ x h. all_then (λ y. IsPath types y.path × (key_cmp root (root_of y.path) ≡ Less)) (λ y. row_cmp x y ≡ Less) after
            (λ y g. root_less x.path y.path h.0 g.0 (ap (λ k. key_cmp k (root_of y.path)) h.1 ∙ g.1)) high) at)),
        all_append (IsRow types rows') (before ++ image) after
            (all_append (IsRow types rows') before image
            (all_then (IsRow types before) (IsRow types rows') before (λ r h. row_among types before rows' r (λ p g. has_front (before ++ image) after p (has_front before image p g)) h)
            (each_kept types (λ k. is_gt (key_cmp root k)) rows each))
            (all_then (IsRow types image) (IsRow types rows') image (λ r h. row_among types image rows' r (λ p g. has_front (before ++ image) after p (has_back before image p g)) h) under.each))
            (all_then (IsRow types after) (IsRow types rows') after (λ r h. row_among types after rows' r (λ p g. has_back (before ++ image) after p g) h)
            (each_kept types (λ k. is_lt (key_cmp root k)) rows each)),
      )

-- and within the limits where the image is
pub with_record_are_rows : (dbd : Dbd) → IsHierarchy dbd.types → (root : List ℕ) (image rows : List Row) → AreRows dbd rows → IsUnder dbd.types root image
    → length (rows_spelling image) ≤ record_limit dbd → length (roots (with_record root image rows)) ≤ dbd.roots → AreRows dbd (with_record root image rows)
with_record_are_rows dbd all root image rows h under fits few =
    let both = with_record_rows dbd.types all root image rows h.each h.ascending under in
    record {
      types = all;
      ascending = both.0;
      each = both.1;
      within_roots = few;
      within_limit = λ key. limit key (key_cmp root key) refl;
    }
  where
    limit : (key : List ℕ) (o : Ordering) → key_cmp root key ≡ o → length (rows_spelling (record_of key (with_record root image rows))) ≤ record_limit dbd
    limit key Less e =
        subst (λ rs. length (rows_spelling rs) ≤ record_limit dbd) (sym (with_record_other root key image rows under.one_root (λ f. let clash : Less ≡ Equal = sym e ∙ f in absurd (cc)))) (h.within_limit key)
    limit key Greater e =
        subst (λ rs. length (rows_spelling rs) ≤ record_limit dbd) (sym (with_record_other root key image rows under.one_root (λ f. let clash : Greater ≡ Equal = sym e ∙ f in absurd (cc)))) (h.within_limit key)
    limit key Equal e =
        subst (λ rs. length (rows_spelling rs) ≤ record_limit dbd)
        (sym (ap (λ k. record_of k (with_record root image rows)) (sym (exact_bytes root key e)) ∙ with_record_itself root image rows under.one_root)) fits
