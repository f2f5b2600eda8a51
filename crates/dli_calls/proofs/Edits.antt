-- A change of the rows is a change of one record, and leaves a record.
use Rattle.std.proofs.Common.{◌≡◌, ℕ, ◌≤◌, ◌++◌, ◌∷◌, [], List, length, refl, sym, ◌∙◌, ap, subst, Bool, true, false, cond, not, ◌⊎◌, inl, inr, ⊎_elim, append_assoc}
use Rattle.std.specs.List.{AllByRecursion, filter}
use Rattle.std.specs.List.Sorted.{IsStrictlySortedBy}
use Rattle.std.specs.Ordering.{is_lt, is_eq, is_gt}
use Rattle.std.specs.declared.cmp.Ordering.{Ordering}
use Rattle.std.specs.declared.cmp.Ordering.TheVariants.{Less, Equal, Greater}
use Rattle.std.proofs.lemmas.Bool.{false≢true}
use Rattle.std.proofs.lemmas.List.{append-nil}
use Rattle.std.proofs.lemmas.List.Elements.{filter-append}
use Rattle.std.proofs.lemmas.Cmp.{tied_itself}
use Rattle.tm_types.specs.declared.dbd.Dbd.{Dbd}
use Rattle.tm_types.specs.SegTypes.{IsHierarchy}
use Rattle.model_data.specs.declared.row.Row.{Row}
use Rattle.model_data.specs.Path.{key_cmp, path_cmp, root_of, end_type, end_key, parent_path, IsPath}
use Rattle.model_data.specs.Row.{HasPath, IsRow, row_cmp}
use Rattle.model_data.specs.Record.{IsUnder}
use Rattle.model_data.specs.Rows.{record_of, rows_before, rows_after, with_record, IsImage, AreRows}
use Rattle.model_data.proofs.Order.{key_total, path_total, exact_path, turned_less, turned_greater}
use Rattle.model_data.proofs.Lists.{all_then, all_both, all_append, all_filter, sorted_append, sorted_filter}
use Rattle.model_data.proofs.Filters.{filter_all, filter_none, filter_passes}
use Rattle.model_data.proofs.Records.{is_eq-true, is_gt-true}
use Rattle.model_data.proofs.Paths.{path_parts}
use Rattle.model_data.proofs.Under.{row_among, has_front, has_back}
use Rattle.model_data.proofs.Whole.{has_filter, root_less}
use Rattle.model_data.specs.Search.{is_within}
use Rattle.model_data.specs.ChangeCalls.{with_row, row_with, with_data, without_path}
use Rattle.row_search.proofs.Rising.{rows_rising, split_at_root, record_under}
use Rattle.row_search.proofs.Within.{within_parts, within_append, within_root}
use Rattle.model_data.proofs.Reading.{is_lt-true}

regroup : (b g l a : List Row) (new : Row) → ((b ++ g) ++ []) ++ (new ∷ (([] ++ l) ++ a)) ≡ (b ++ (g ++ (new ∷ l))) ++ a
regroup b g l a new = simp (append-nil, append_assoc)

-- an image with rows is a long record, and one without rows is none
image_is : (dbd : Dbd) (root : List ℕ) (image : List Row) → IsUnder dbd.types root image → IsImage dbd root image
image_is dbd root [] under = inl refl
image_is dbd root (r ∷ rs) under = inr (record { some = λ e. let clash : r ∷ rs ≡ [] = e in absurd (cc); under = under })

module _ (dbd : Dbd) (all : IsHierarchy dbd.types) (rows : List Row) (valid : AreRows dbd rows) (root : List ℕ) where
  split : rows ≡ rows_before root rows ++ record_of root rows ++ rows_after root rows
  split = split_at_root root rows (rows_rising dbd all rows valid)

  -- a filter of the rows is one of each part
  filter_split : (f : Row → Bool) → filter f rows ≡ filter f (rows_before root rows) ++ filter f (record_of root rows) ++ filter f (rows_after root rows)
  filter_split f =
      ap (filter f) split
      ∙ (filter-append f (rows_before root rows ++ record_of root rows) (rows_after root rows)
      ∙ ap (λ rs. rs ++ filter f (rows_after root rows)) (filter-append f (rows_before root rows) (record_of root rows)))

  paths : AllByRecursion (λ y. IsPath dbd.types y.path) rows
  paths = all_then (IsRow dbd.types rows) (λ y. IsPath dbd.types y.path) rows (λ y h. h.path) valid.each

  -- what stands before the record, and after it
  lower : AllByRecursion (λ x. IsPath dbd.types x.path × (key_cmp root (root_of x.path) ≡ Greater)) (rows_before root rows)
  lower =
      all_both (λ x. IsPath dbd.types x.path) (λ x. is_gt (key_cmp root (root_of x.path)) ≡ true) (λ x. IsPath dbd.types x.path × (key_cmp root (root_of x.path) ≡ Greater)) (rows_before root rows)
      (λ x h e. (h, is_gt-true _ e)) (all_filter (λ x. IsPath dbd.types x.path) (λ x. is_gt (key_cmp root (root_of x.path))) rows paths) (filter_passes (λ x. is_gt (key_cmp root (root_of x.path))) rows)

  upper : AllByRecursion (λ x. IsPath dbd.types x.path × (key_cmp root (root_of x.path) ≡ Less)) (rows_after root rows)
  upper =
      all_both (λ x. IsPath dbd.types x.path) (λ x. is_lt (key_cmp root (root_of x.path)) ≡ true) (λ x. IsPath dbd.types x.path × (key_cmp root (root_of x.path) ≡ Less)) (rows_after root rows)
      (λ x h e. (h, is_lt-true _ e)) (all_filter (λ x. IsPath dbd.types x.path) (λ x. is_lt (key_cmp root (root_of x.path))) rows paths) (filter_passes (λ x. is_lt (key_cmp root (root_of x.path))) rows)

  -- a path of the record is there in it
  pub has_at_root : (path : List (ℕ × List ℕ)) → root_of path ≡ root → HasPath rows path → HasPath (record_of root rows) path
  has_at_root path e h =
      has_filter (λ p. is_eq (key_cmp root (root_of p))) rows path (ap (λ k. is_eq (key_cmp root k)) e ∙ ap is_eq (tied_itself key_total root)) h

  -- the parent of a segment that isn't a root has its root
  parent_same : (path : List (ℕ × List ℕ)) → (parent_path path ≡ []) ⊎ (root_of (parent_path path) ≡ root_of path)
  parent_same [] = inl refl
  parent_same (p ∷ []) = inl refl
  parent_same (p ∷ q ∷ path) = inr refl

  module _ (new : Row) (rooted : root_of new.path ≡ root) (fresh : IsRow dbd.types rows new) where
    new_after : (x : Row) → IsPath dbd.types x.path × (key_cmp root (root_of x.path) ≡ Greater) → row_cmp new x ≡ Greater
    new_after x h =
        turned_less path_total x.path new.path
        (root_less dbd.types all x.path new.path h.0 fresh.path (ap (key_cmp (root_of x.path)) rooted ∙ turned_greater key_total root (root_of x.path) h.1))

    new_before : (x : Row) → IsPath dbd.types x.path × (key_cmp root (root_of x.path) ≡ Less) → row_cmp new x ≡ Less
    new_before x h =
        root_less dbd.types all new.path x.path fresh.path h.0 (ap (λ k. key_cmp k (root_of x.path)) rooted ∙ h.1)

    -- to add a row to its record is to add it to the rows
    pub row_added : with_record root (with_row new (record_of root rows)) rows ≡ with_row new rows
    row_added =
        sym ((λ i. filter_split (λ row. is_gt (row_cmp new row)) i ++ new ∷ filter_split (λ row. is_lt (row_cmp new row)) i)
        ∙ ((λ i. (kept_before i ++ filter (λ row. is_gt (row_cmp new row)) (record_of root rows) ++ gone_after i)
        ++ new ∷ (gone_before i ++ filter (λ row. is_lt (row_cmp new row)) (record_of root rows) ++ kept_after i))
        ∙ regroup (rows_before root rows) (filter (λ row. is_gt (row_cmp new row)) (record_of root rows)) (filter (λ row. is_lt (row_cmp new row)) (record_of root rows)) (rows_after root rows) new))
      where
        kept_before : filter (λ row. is_gt (row_cmp new row)) (rows_before root rows) ≡ rows_before root rows
        kept_before =
            filter_all (λ row. is_gt (row_cmp new row)) (rows_before root rows)
            (all_then (λ x. IsPath dbd.types x.path × (key_cmp root (root_of x.path) ≡ Greater)) (λ row. is_gt (row_cmp new row) ≡ true) (rows_before root rows) (λ x h. ap is_gt (new_after x h)) lower)

        gone_before : filter (λ row. is_lt (row_cmp new row)) (rows_before root rows) ≡ []
        gone_before =
            filter_none (λ row. is_lt (row_cmp new row)) (rows_before root rows)
            (all_then (λ x. IsPath dbd.types x.path × (key_cmp root (root_of x.path) ≡ Greater)) (λ row. is_lt (row_cmp new row) ≡ false) (rows_before root rows) (λ x h. ap is_lt (new_after x h)) lower)

        gone_after : filter (λ row. is_gt (row_cmp new row)) (rows_after root rows) ≡ []
        gone_after =
            filter_none (λ row. is_gt (row_cmp new row)) (rows_after root rows)
            (all_then (λ x. IsPath dbd.types x.path × (key_cmp root (root_of x.path) ≡ Less)) (λ row. is_gt (row_cmp new row) ≡ false) (rows_after root rows) (λ x h. ap is_gt (new_before x h)) upper)

        kept_after : filter (λ row. is_lt (row_cmp new row)) (rows_after root rows) ≡ rows_after root rows
        kept_after =
            filter_all (λ row. is_lt (row_cmp new row)) (rows_after root rows)
            (all_then (λ x. IsPath dbd.types x.path × (key_cmp root (root_of x.path) ≡ Less)) (λ row. is_lt (row_cmp new row) ≡ true) (rows_after root rows) (λ x h. ap is_lt (new_before x h)) upper)

    -- the paths that were there are there with the row
    has_with_row : (old : List Row) (path : List (ℕ × List ℕ)) → HasPath old path → HasPath (with_row new old) path
    has_with_row old path h = by (path_cmp new.path path) refl
      where
        by : (o : Ordering) → path_cmp new.path path ≡ o → HasPath (with_row new old) path
        by Greater e =
            has_front (filter (λ row. is_gt (row_cmp new row)) old) (new ∷ filter (λ row. is_lt (row_cmp new row)) old) path
            (has_filter (λ p. is_gt (path_cmp new.path p)) old path (ap is_gt e) h)
        by Equal e =
            has_back (filter (λ row. is_gt (row_cmp new row)) old) (new ∷ filter (λ row. is_lt (row_cmp new row)) old) path (inl (exact_path new.path path e))
        by Less e =
            has_back (filter (λ row. is_gt (row_cmp new row)) old) (new ∷ filter (λ row. is_lt (row_cmp new row)) old) path
            (inr (has_filter (λ p. is_lt (path_cmp new.path p)) old path (ap is_lt e) h))

    all_with_row : (P : Row → Type 0) (old : List Row) → P new → AllByRecursion P old → AllByRecursion P (with_row new old)
    all_with_row P old here h =
        all_append P (filter (λ row. is_gt (row_cmp new row)) old) (new ∷ filter (λ row. is_lt (row_cmp new row)) old)
        (all_filter P (λ row. is_gt (row_cmp new row)) old h) (here, all_filter P (λ row. is_lt (row_cmp new row)) old h)

    sorted_with_row : (old : List Row) → IsStrictlySortedBy row_cmp old → IsStrictlySortedBy row_cmp (with_row new old)
    unfolding IsStrictlySortedBy
    sorted_with_row old h =
        let low : AllByRecursion (λ x. is_gt (row_cmp new x) ≡ true) (filter (λ row. is_gt (row_cmp new row)) old) = filter_passes (λ row. is_gt (row_cmp new row)) old in
        let high : AllByRecursion (λ y. row_cmp new y ≡ Less) (filter (λ row. is_lt (row_cmp new row)) old) =
        all_then (λ y. is_lt (row_cmp new y) ≡ true) (λ y. row_cmp new y ≡ Less) (filter (λ row. is_lt (row_cmp new row)) old) (λ y e. is_lt-true _ e) (filter_passes (λ row. is_lt (row_cmp new row)) old) in
        sorted_append row_cmp (filter (λ row. is_gt (row_cmp new row)) old) (new ∷ filter (λ row. is_lt (row_cmp new row)) old)
        (sorted_filter row_cmp (λ row. is_gt (row_cmp new row)) old h)
        (high, sorted_filter row_cmp (λ row. is_lt (row_cmp new row)) old h)
        (all_then (λ x. is_gt (row_cmp new x) ≡ true) (λ x. AllByRecursion (λ y. row_cmp x y ≡ Less) (new ∷ filter (λ row. is_lt (row_cmp new row)) old)) (filter (λ row. is_gt (row_cmp new row)) old)
        (λ x e.
        let less : path_cmp x.path new.path ≡ Less = turned_greater path_total new.path x.path (is_gt-true _ e) in
        (less, all_then (λ y. row_cmp new y ≡ Less) (λ y. row_cmp x y ≡ Less) (filter (λ row. is_lt (row_cmp new row)) old) (λ y f. path_total.trans x.path new.path y.path less f) high)) low)

    -- the record with the row is one
    pub under_with_row : IsUnder dbd.types root (with_row new (record_of root rows))
    under_with_row =
        let under = record_under dbd rows root valid in
        let image = with_row new (record_of root rows) in
        record {
          ascending = sorted_with_row (record_of root rows) under.ascending;
          each = all_with_row (IsRow dbd.types image) (record_of root rows)
              (record {
                path = fresh.path;
                parent = ⊎_elim (λ top. inl top)
                    (λ there. ⊎_elim (λ top. inl top) (λ same. inr (has_with_row (record_of root rows) (parent_path new.path) (has_at_root (parent_path new.path) (same ∙ rooted) there))) (parent_same new.path)) fresh.parent;
                whole = fresh.whole;
                printable = fresh.printable;
                key = fresh.key;
              })
              (all_then (IsRow dbd.types (record_of root rows)) (IsRow dbd.types image) (record_of root rows)
              (λ r h. row_among dbd.types (record_of root rows) image r (λ p g. has_with_row (record_of root rows) p g) h) under.each);
          one_root = all_with_row (λ row. root_of row.path ≡ root) (record_of root rows) rooted under.one_root;
        }

    pub image_with_row : IsImage dbd root (with_row new (record_of root rows))
    image_with_row = image_is dbd root (with_row new (record_of root rows)) under_with_row

  -- no row outside the record has a path within one of the record
  apart_before : (held : List (ℕ × List ℕ)) → root_of held ≡ root → (x : Row) → key_cmp root (root_of x.path) ≡ Greater → root_of held ≡ root_of x.path → ⊥
  apart_before held rooted x up same =
      let alike : key_cmp root (root_of x.path) ≡ Equal = ap (key_cmp root) (sym same ∙ rooted) ∙ tied_itself key_total root in
      let clash : Equal ≡ Greater = sym alike ∙ up in absurd (cc)

  apart_after : (held : List (ℕ × List ℕ)) → root_of held ≡ root → (x : Row) → key_cmp root (root_of x.path) ≡ Less → root_of held ≡ root_of x.path → ⊥
  apart_after held rooted x down same =
      let alike : key_cmp root (root_of x.path) ≡ Equal = ap (key_cmp root) (sym same ∙ rooted) ∙ tied_itself key_total root in
      let clash : Equal ≡ Less = sym alike ∙ down in absurd (cc)

  module _ (held : List (ℕ × List ℕ)) (bytes : List ℕ) (rooted : root_of held ≡ root) (fresh : IsRow dbd.types rows (record { path = held; bytes = bytes })) where
    -- a row of another path stays as it is
    unchanged : (x : Row) → (root_of held ≡ root_of x.path → ⊥) → row_with held bytes x ≡ x
    unchanged x apart = by (is_eq (path_cmp held x.path)) refl
      where
        by : (b : Bool) → is_eq (path_cmp held x.path) ≡ b → row_with held bytes x ≡ x
        by true e = absurd (apart (ap root_of (exact_path held x.path (is_eq-true _ e))))
        by false e = ap (λ b. cond b (record { path = x.path; bytes = bytes }) x) e

    map_same : (xs : List Row) → AllByRecursion (λ x. row_with held bytes x ≡ x) xs → with_data held bytes xs ≡ xs
    map_same [] h = refl
    map_same (x ∷ xs) h = λ i. h.0 i ∷ map_same xs h.1 i

    map_append : (xs ys : List Row) → with_data held bytes (xs ++ ys) ≡ with_data held bytes xs ++ with_data held bytes ys
    map_append [] ys = refl
    map_append (x ∷ xs) ys = λ i. row_with held bytes x ∷ map_append xs ys i

    -- to change a row of its record is to change it among the rows
    pub row_changed : with_record root (with_data held bytes (record_of root rows)) rows ≡ with_data held bytes rows
    row_changed =
        sym (ap (with_data held bytes) split
        ∙ (map_append (rows_before root rows ++ record_of root rows) (rows_after root rows)
        ∙ (ap (λ rs. rs ++ with_data held bytes (rows_after root rows)) (map_append (rows_before root rows) (record_of root rows))
        ∙ (λ i. (kept_before i ++ with_data held bytes (record_of root rows)) ++ kept_after i))))
      where
        kept_before : with_data held bytes (rows_before root rows) ≡ rows_before root rows
        kept_before =
            map_same (rows_before root rows)
            (all_then (λ x. IsPath dbd.types x.path × (key_cmp root (root_of x.path) ≡ Greater)) (λ x. row_with held bytes x ≡ x) (rows_before root rows) (λ x h. unchanged x (apart_before held rooted x h.1)) lower)

        kept_after : with_data held bytes (rows_after root rows) ≡ rows_after root rows
        kept_after =
            map_same (rows_after root rows)
            (all_then (λ x. IsPath dbd.types x.path × (key_cmp root (root_of x.path) ≡ Less)) (λ x. row_with held bytes x ≡ x) (rows_after root rows) (λ x h. unchanged x (apart_after held rooted x h.1)) upper)

    -- a change leaves the path
    same_path : (x : Row) → (row_with held bytes x).path ≡ x.path
    same_path x =
        elim (is_eq (path_cmp held x.path)) as (λ b. (cond b (record { path = x.path; bytes = bytes }) x).path ≡ x.path) [
          | true ↦ refl
          | false ↦ refl
        ]

    has_changed : (old : List Row) (path : List (ℕ × List ℕ)) → HasPath old path → HasPath (with_data held bytes old) path
    has_changed [] path h = absurd h
    has_changed (x ∷ old) path h = ⊎_elim (λ e. inl (same_path x ∙ e)) (λ g. inr (has_changed old path g)) h

    all_changed : (P Q : Row → Type 0) (old : List Row) → ((x : Row) → P x → Q (row_with held bytes x)) → AllByRecursion P old → AllByRecursion Q (with_data held bytes old)
    all_changed P Q [] f h = tt
    all_changed P Q (x ∷ old) f h = (f x h.0, all_changed P Q old f h.1)

    sorted_changed : (old : List Row) → IsStrictlySortedBy row_cmp old → IsStrictlySortedBy row_cmp (with_data held bytes old)
    unfolding IsStrictlySortedBy
    sorted_changed [] h = tt
    sorted_changed (x ∷ old) h = (
      all_changed (λ y. row_cmp x y ≡ Less) (λ y. row_cmp (row_with held bytes x) y ≡ Less) old (λ y e. (λ i. path_cmp (same_path x i) (same_path y i)) ∙ e) h.0,
      sorted_changed old h.1,
    )

    row_stays : (old : List Row) (x : Row) → IsRow dbd.types old x → IsRow dbd.types (with_data held bytes old) (row_with held bytes x)
    row_stays old x h = by (is_eq (path_cmp held x.path)) refl
      where
        by : (b : Bool) → is_eq (path_cmp held x.path) ≡ b → IsRow dbd.types (with_data held bytes old) (row_with held bytes x)
        by false e =
            subst (IsRow dbd.types (with_data held bytes old)) (sym (ap (λ b. cond b (record { path = x.path; bytes = bytes }) x) e))
            (row_among dbd.types old (with_data held bytes old) x (λ p g. has_changed old p g) h)
        by true e =
            let same : held ≡ x.path = exact_path held x.path (is_eq-true _ e) in
            let here : IsRow dbd.types rows (record { path = x.path; bytes = bytes }) = subst (λ p. IsRow dbd.types rows (record { path = p; bytes = bytes })) same fresh in
            subst (IsRow dbd.types (with_data held bytes old)) (sym (ap (λ b. cond b (record { path = x.path; bytes = bytes }) x) e))
            (record {
              path = h.path;
              parent = ⊎_elim (λ top. inl top) (λ there. inr (has_changed old (parent_path x.path) there)) h.parent;
              whole = here.whole;
              printable = here.printable;
              key = here.key;
            })

    pub under_changed : IsUnder dbd.types root (with_data held bytes (record_of root rows))
    under_changed =
        let under = record_under dbd rows root valid in
        record {
          ascending = sorted_changed (record_of root rows) under.ascending;
          each = all_changed (IsRow dbd.types (record_of root rows)) (IsRow dbd.types (with_data held bytes (record_of root rows))) (record_of root rows)
              (λ x h. row_stays (record_of root rows) x h) under.each;
          one_root = all_changed (λ row. root_of row.path ≡ root) (λ row. root_of row.path ≡ root) (record_of root rows) (λ x e. ap root_of (same_path x) ∙ e) under.one_root;
        }

    pub image_changed : IsImage dbd root (with_data held bytes (record_of root rows))
    image_changed = image_is dbd root (with_data held bytes (record_of root rows)) under_changed

  module _ (held : List (ℕ × List ℕ)) (rooted : root_of held ≡ root) (some : 1 ≤ length held) where
    -- a row of another root isn't within the path
    not_within : (x : Row) → (root_of held ≡ root_of x.path → ⊥) → not (is_within held x.path) ≡ true
    not_within x apart = by (is_within held x.path) refl
      where
        by : (b : Bool) → is_within held x.path ≡ b → not (is_within held x.path) ≡ true
        by true e = absurd (apart (within_root held x.path some e))
        by false e = ap not e

    -- to remove rows from their record is to remove them from the rows
    pub rows_removed : with_record root (without_path held (record_of root rows)) rows ≡ without_path held rows
    rows_removed =
        sym (filter_split (λ row. not (is_within held row.path))
        ∙ (λ i. (kept_before i ++ without_path held (record_of root rows)) ++ kept_after i))
      where
        kept_before : without_path held (rows_before root rows) ≡ rows_before root rows
        kept_before =
            filter_all (λ row. not (is_within held row.path)) (rows_before root rows)
            (all_then (λ x. IsPath dbd.types x.path × (key_cmp root (root_of x.path) ≡ Greater)) (λ row. not (is_within held row.path) ≡ true) (rows_before root rows)
            (λ x h. not_within x (apart_before held rooted x h.1)) lower)

        kept_after : without_path held (rows_after root rows) ≡ rows_after root rows
        kept_after =
            filter_all (λ row. not (is_within held row.path)) (rows_after root rows)
            (all_then (λ x. IsPath dbd.types x.path × (key_cmp root (root_of x.path) ≡ Less)) (λ row. not (is_within held row.path) ≡ true) (rows_after root rows)
            (λ x h. not_within x (apart_after held rooted x h.1)) upper)

    -- the parent of a row that stays does so too
    parent_stays : (path : List (ℕ × List ℕ)) → IsPath dbd.types path → not (is_within held path) ≡ true → not (is_within held (parent_path path)) ≡ true
    parent_stays [] h e = absurd h
    parent_stays (p ∷ path) h e = by (is_within held (parent_path (p ∷ path))) refl
      where
        by : (b : Bool) → is_within held (parent_path (p ∷ path)) ≡ b → not (is_within held (parent_path (p ∷ path))) ≡ true
        by false f = ap not f
        by true f =
            let parts = within_parts held (parent_path (p ∷ path)) f in
            let whole : p ∷ path ≡ held ++ (parts.0 ++ (end_type (p ∷ path), end_key (p ∷ path)) ∷ []) =
            path_parts p path ∙ (ap (λ a. a ++ (end_type (p ∷ path), end_key (p ∷ path)) ∷ []) parts.1 ∙ append_assoc held parts.0 ((end_type (p ∷ path), end_key (p ∷ path)) ∷ [])) in
            let within : is_within held (p ∷ path) ≡ true = ap (is_within held) whole ∙ within_append held (parts.0 ++ (end_type (p ∷ path), end_key (p ∷ path)) ∷ []) in
            absurd (false≢true (sym (ap not within) ∙ e))

    row_kept : (old : List Row) (x : Row) → not (is_within held x.path) ≡ true → IsRow dbd.types old x → IsRow dbd.types (without_path held old) x
    row_kept old x e h =
        record {
          path = h.path;
          parent = ⊎_elim (λ top. inl top)
              (λ there. inr (has_filter (λ p. not (is_within held p)) old (parent_path x.path) (parent_stays x.path h.path e) there)) h.parent;
          whole = h.whole;
          printable = h.printable;
          key = h.key;
        }

    pub under_removed : IsUnder dbd.types root (without_path held (record_of root rows))
    under_removed =
        let under = record_under dbd rows root valid in
        record {
          ascending = sorted_filter row_cmp (λ row. not (is_within held row.path)) (record_of root rows) under.ascending;
          each = all_both (λ x. not (is_within held x.path) ≡ true) (IsRow dbd.types (record_of root rows)) (IsRow dbd.types (without_path held (record_of root rows))) (without_path held (record_of root rows))
              (λ x e h. row_kept (record_of root rows) x e h) (filter_passes (λ row. not (is_within held row.path)) (record_of root rows))
              (all_filter (IsRow dbd.types (record_of root rows)) (λ row. not (is_within held row.path)) (record_of root rows) under.each);
          one_root = all_filter (λ row. root_of row.path ≡ root) (λ row. not (is_within held row.path)) (record_of root rows) under.one_root;
        }

    pub image_removed : IsImage dbd root (without_path held (record_of root rows))
    image_removed = image_is dbd root (without_path held (record_of root rows)) under_removed
