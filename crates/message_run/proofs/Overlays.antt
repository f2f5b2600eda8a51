-- The records that the work in a region has changed, over other rows beneath.
use Rattle.std.proofs.Common.{◌≡◌, ◌≢◌, ℕ, ◌-◌, ◌<◌, ◌≤◌, arith, subst, ltb, suc, zero, ◌++◌, ◌∷◌, [], List, length, get_or, refl, sym, ◌∙◌, ap, Bool, true, false, eqb, cond}
use Rattle.std.specs.Prelude.{Option, Some, None, ◌==◌, ◌&&◌, ◌||◌, slice_set}
use Rattle.std.specs.Str.{bytes_eq}
use Rattle.std.proofs.lemmas.Bool.{false≢true, eq-eqb, eqb-true, ltb-true, ltb-false}
use Rattle.std.proofs.lemmas.List.{get_or-set_same, get_or-set_other, set-set, length-set}
use Rattle.std.proofs.lemmas.Map.Text.{is_eq-slice_cmp}
use Rattle.std.proofs.lemmas.Map.Lookups.{exact_bytes}
use Rattle.model_data.specs.declared.row.Row.{Row}
use Rattle.model_data.specs.Rows.{record_of, with_record}
use Rattle.model_data.proofs.Records.{HaveRoot, is_eq-true, record_rooted, with_record_itself}
use Rattle.model_data.specs.Data.{is_root_changed, with_changed_root}
use Rattle.model_data.specs.Footprint.{AgreeAt}
use Rattle.program_rows.specs.DatabasesState.{database_rows_in, with_record_from, with_records_from}
use Rattle.message_run.proofs.Images.{put_again, put_over, record_alike, roots_alike}

-- one record of the database of this number in place of another
abbrev pub put : ℕ → List ℕ → List Row → List (List Row) → List (List Row)
put number root image rows = slice_set rows (number - 1) (with_record root image (database_rows_in number rows))

-- two elements set, in either order
set_both : {A : Type 0} (xs : List A) (i j : ℕ) (x y : A) → i ≢ j → slice_set (slice_set xs i x) j y ≡ slice_set (slice_set xs j y) i x
set_both [] i j x y other = refl
set_both (z ∷ xs) zero zero x y other = absurd (other refl)
set_both (z ∷ xs) zero (suc j) x y other = refl
set_both (z ∷ xs) (suc i) zero x y other = refl
set_both (z ∷ xs) (suc i) (suc j) x y other = ap (λ ys. z ∷ ys) (set_both xs i j x y (λ e. other (ap suc e)))

-- a record put over one that stands as in other rows
put_beyond : (number m : ℕ) (root key : List ℕ) (image : List Row) (from rows : List (List Row)) → HaveRoot root image
    → number - 1 < length from → number - 1 < length rows
    → put number root image (with_record_from m key from rows) ≡ with_record_from m key (put number root image from) (put number root image rows)
put_beyond number m root key image from rows h there_from there = by (eqb (m - 1) (number - 1)) refl
  where
    apart : m - 1 ≢ number - 1 → put number root image (with_record_from m key from rows) ≡ with_record_from m key (put number root image from) (put number root image rows)
    apart other =
        let a = with_record key (record_of key (database_rows_in m from)) (database_rows_in m rows) in
        let b = with_record root image (database_rows_in number rows) in
        let c = with_record root image (database_rows_in number from) in
        ap (λ r. slice_set (slice_set rows (m - 1) a) (number - 1) (with_record root image r)) (get_or-set_other rows (m - 1) (number - 1) a [] (λ e. other (sym e)))
        ∙ (set_both rows (m - 1) (number - 1) a b other
        ∙ (λ i. slice_set (slice_set rows (number - 1) b) (m - 1)
        (with_record key (record_of key (sym (get_or-set_other from (number - 1) (m - 1) c [] other) i)) (sym (get_or-set_other rows (number - 1) (m - 1) b [] other) i))))

    one : m - 1 ≡ number - 1 → put number root image (with_record_from m key from rows) ≡ with_record_from m key (put number root image from) (put number root image rows)
    one same =
        let x = database_rows_in number rows in
        let r = database_rows_in number from in
        let a = with_record key (record_of key r) x in
        let b = with_record root image x in
        let c = with_record root image r in
        ap (λ j. slice_set (slice_set rows j (with_record key (record_of key (get_or from j [])) (get_or rows j []))) (number - 1)
        (with_record root image (get_or (slice_set rows j (with_record key (record_of key (get_or from j [])) (get_or rows j []))) (number - 1) []))) same
        ∙ (ap (λ y. slice_set (slice_set rows (number - 1) a) (number - 1) (with_record root image y)) (get_or-set_same rows (number - 1) a [] there)
        ∙ (set-set rows (number - 1) a (with_record root image a)
        ∙ (ap (slice_set rows (number - 1)) (put_over root key image r x h)
        ∙ (sym (set-set rows (number - 1) b (with_record key (record_of key c) b))
        ∙ ((λ i. slice_set (slice_set rows (number - 1) b) (number - 1)
        (with_record key (record_of key (sym (get_or-set_same from (number - 1) c [] there_from) i)) (sym (get_or-set_same rows (number - 1) b [] there) i)))
        ∙ ap (λ j. slice_set (slice_set rows (number - 1) b) j
        (with_record key (record_of key (get_or (slice_set from (number - 1) c) j [])) (get_or (slice_set rows (number - 1) b) j []))) (sym same))))))

    by : (b : Bool) → eqb (m - 1) (number - 1) ≡ b → put number root image (with_record_from m key from rows) ≡ with_record_from m key (put number root image from) (put number root image rows)
    by true e = one (eqb-true (m - 1) (number - 1) e)
    by false e = apart (λ f. false≢true (sym e ∙ eq-eqb (m - 1) (number - 1) f))

-- ---- many records
pub same_length : (changed : List (ℕ × List ℕ)) (from rows : List (List Row)) → length (with_records_from changed from rows) ≡ length rows
same_length [] from rows = refl
same_length (c ∷ changed) from rows =
    length-set (with_records_from changed from rows) (c.0 - 1) (with_record c.1 (record_of c.1 (database_rows_in c.0 from)) (database_rows_in c.0 (with_records_from changed from rows)))
    ∙ same_length changed from rows

records_behind : (xs ys : List (ℕ × List ℕ)) (from rows : List (List Row)) → with_records_from (xs ++ ys) from rows ≡ with_records_from xs from (with_records_from ys from rows)
records_behind [] ys from rows = refl
records_behind (c ∷ xs) ys from rows = ap (with_record_from c.0 c.1 from) (records_behind xs ys from rows)

module _ (number : ℕ) (root : List ℕ) (image : List Row) (h : HaveRoot root image) where
  put_beyond_all : (changed : List (ℕ × List ℕ)) (from rows : List (List Row)) → number - 1 < length from → number - 1 < length rows
      → put number root image (with_records_from changed from rows) ≡ with_records_from changed (put number root image from) (put number root image rows)
  put_beyond_all [] from rows there_from there = refl
  put_beyond_all (c ∷ changed) from rows there_from there =
      put_beyond number c.0 root c.1 image from (with_records_from changed from rows) h there_from (subst (λ n. number - 1 < n) (sym (same_length changed from rows)) there)
      ∙ ap (with_record_from c.0 c.1 (put number root image from)) (put_beyond_all changed from rows there_from there)

  -- the record put twice is put once
  put_twice : (rows : List (List Row)) → number - 1 < length rows → put number root image (put number root image rows) ≡ put number root image rows
  put_twice rows there =
      ap (λ r. slice_set (put number root image rows) (number - 1) (with_record root image r)) (get_or-set_same rows (number - 1) (with_record root image (database_rows_in number rows)) [] there)
      ∙ (set-set rows (number - 1) (with_record root image (database_rows_in number rows)) (with_record root image (with_record root image (database_rows_in number rows)))
      ∙ ap (slice_set rows (number - 1)) (put_again root image image (database_rows_in number rows) h))

  module _ (from rows : List (List Row)) (there_from : number - 1 < length from) (there : number - 1 < length rows) where
    abbrev now : List (List Row)
    now = put number root image from

    -- under the image it is the same which image stood there
    under_image : (changed : List (ℕ × List ℕ)) → put number root image (with_records_from changed from rows) ≡ put number root image (with_records_from changed now rows)
    under_image changed =
        let there_now : number - 1 < length now = subst (λ n. number - 1 < n) (sym (length-set from (number - 1) (with_record root image (database_rows_in number from)))) there_from in
        put_beyond_all changed from rows there_from there
        ∙ (ap (λ f. with_records_from changed f (put number root image rows)) (sym (put_twice from there_from))
        ∙ sym (put_beyond_all changed now rows there_now there))

    -- the record as it stands now
    put_now : (over : List (List Row)) → put number root image over ≡ with_record_from number root now over
    put_now over =
        ap (λ r. slice_set over (number - 1) (with_record root r (database_rows_in number over)))
        (sym (ap (record_of root) (get_or-set_same from (number - 1) (with_record root image (database_rows_in number from)) [] there_from) ∙ with_record_itself root image (database_rows_in number from) h))

    put_where : (changed : List (ℕ × List ℕ)) → is_root_changed number root changed ≡ true → put number root image (with_records_from changed from rows) ≡ with_records_from changed now rows
    put_where [] e = absurd (false≢true e)
    put_where (c ∷ changed) e = by (c.0 == number) refl (bytes_eq c.1 root) refl (put_where changed)
      where
        within : number - 1 < length (with_records_from changed from rows)
        within = subst (λ n. number - 1 < n) (sym (same_length changed from rows)) there

        within_now : number - 1 < length (with_records_from changed now rows)
        within_now = subst (λ n. number - 1 < n) (sym (same_length changed now rows)) there

        further : (is_root_changed number root changed ≡ true → put number root image (with_records_from changed from rows) ≡ with_records_from changed now rows)
            → is_root_changed number root changed ≡ true
            → put number root image (with_record_from c.0 c.1 from (with_records_from changed from rows)) ≡ with_record_from c.0 c.1 now (with_records_from changed now rows)
        further rec f =
            put_beyond number c.0 root c.1 image from (with_records_from changed from rows) h there_from within
            ∙ ap (with_record_from c.0 c.1 now) (rec f)

        here : c.0 ≡ number → c.1 ≡ root
            → put number root image (with_record_from c.0 c.1 from (with_records_from changed from rows)) ≡ with_record_from c.0 c.1 now (with_records_from changed now rows)
        here n r =
            put_beyond number c.0 root c.1 image from (with_records_from changed from rows) h there_from within
            ∙ ((λ i. with_record_from (n i) (r i) now (put number root image (with_records_from changed from rows)))
            ∙ (ap (with_record_from number root now) (under_image changed)
            ∙ (sym (put_now (put number root image (with_records_from changed now rows)))
            ∙ (put_twice (with_records_from changed now rows) within_now
            ∙ (put_now (with_records_from changed now rows)
            ∙ (λ i. with_record_from (sym n i) (sym r i) now (with_records_from changed now rows)))))))

        by : (b : Bool) → (c.0 == number) ≡ b → (t : Bool) → bytes_eq c.1 root ≡ t
            → (is_root_changed number root changed ≡ true → put number root image (with_records_from changed from rows) ≡ with_records_from changed now rows)
            → put number root image (with_record_from c.0 c.1 from (with_records_from changed from rows)) ≡ with_record_from c.0 c.1 now (with_records_from changed now rows)
        by true n true r rec = here (eqb-true c.0 number n) (exact_bytes c.1 root (is_eq-true _ (is_eq-slice_cmp c.1 root ∙ r)))
        by true n false r rec = further rec (sym (λ i. (n i && r i) || is_root_changed number root changed) ∙ e)
        by false n t r rec = further rec (sym (λ i. (n i && r i) || is_root_changed number root changed) ∙ e)

    put_new : (changed : List (ℕ × List ℕ)) → put number root image (with_records_from changed from rows) ≡ with_records_from (changed ++ (number, root) ∷ []) now rows
    put_new changed =
        put_beyond_all changed from rows there_from there
        ∙ (ap (with_records_from changed now) (put_now rows) ∙ sym (records_behind changed ((number, root) ∷ []) now rows))

    -- A record that a call changes, over the other rows beneath.
    pub put_changed : (changed : List (ℕ × List ℕ)) → put number root image (with_records_from changed from rows) ≡ with_records_from (with_changed_root number (Some root) changed) now rows
    put_changed changed = by (is_root_changed number root changed) refl
      where
        by : (b : Bool) → is_root_changed number root changed ≡ b
            → put number root image (with_records_from changed from rows) ≡ with_records_from (with_changed_root number (Some root) changed) now rows
        by true e = put_where changed e ∙ sym (ap (λ b. with_records_from (cond b changed (changed ++ (number, root) ∷ [])) now rows) e)
        by false e = put_new changed ∙ sym (ap (λ b. with_records_from (cond b changed (changed ++ (number, root) ∷ [])) now rows) e)

-- ---- what two states of the rows agree on they agree on with the same records over them
alike_by : (number : ℕ) (root : Option (List ℕ)) (a b : List (List Row)) (x y : List Row) → database_rows_in number a ≡ x → database_rows_in number b ≡ y → AgreeAt root x y
    → AgreeAt root (database_rows_in number a) (database_rows_in number b)
alike_by number root a b x y e f agree = subst (λ r. AgreeAt root r (database_rows_in number b)) (sym e) (subst (AgreeAt root x) (sym f) agree)

rows_alike : (root : Option (List ℕ)) (key : List ℕ) (image a b : List Row) → HaveRoot key image → AgreeAt root a b
    → AgreeAt root (with_record key image a) (with_record key image b)
rows_alike (Some root) key image a b h agree = record_alike key root image a b h agree
rows_alike None key image a b h agree = roots_alike key image a b agree

-- an element set past the end of a list
set_past : {A : Type 0} (xs : List A) (i : ℕ) (x : A) → length xs ≤ i → slice_set xs i x ≡ xs
set_past [] i x past = refl
set_past (y ∷ xs) zero x past = absurd (omega arith)
set_past (y ∷ xs) (suc i) x past = ap (λ ys. y ∷ ys) (set_past xs i x (omega arith))

one_alike : (number : ℕ) (root : Option (List ℕ)) (m : ℕ) (key : List ℕ) (from a b : List (List Row)) → length a ≡ length b
    → AgreeAt root (database_rows_in number a) (database_rows_in number b)
    → AgreeAt root (database_rows_in number (with_record_from m key from a)) (database_rows_in number (with_record_from m key from b))
one_alike number root m key from a b size agree = by (eqb (number - 1) (m - 1)) refl (ltb (m - 1) (length a)) refl
  where
    by : (t : Bool) → eqb (number - 1) (m - 1) ≡ t → (u : Bool) → ltb (m - 1) (length a) ≡ u
        → AgreeAt root (database_rows_in number (with_record_from m key from a)) (database_rows_in number (with_record_from m key from b))
    by true e true f =
        let same : number - 1 ≡ m - 1 = eqb-true (number - 1) (m - 1) e in
        let within : m - 1 < length a = ltb-true (m - 1) (length a) f in
        let within_b : m - 1 < length b = subst (λ n. m - 1 < n) size within in
        let agree_m = subst (λ j. AgreeAt root (get_or a j []) (get_or b j [])) same agree in
        let put_m = rows_alike root key (record_of key (database_rows_in m from)) (database_rows_in m a) (database_rows_in m b) (record_rooted key (database_rows_in m from)) agree_m in
        alike_by number root (with_record_from m key from a) (with_record_from m key from b) (with_record key (record_of key (database_rows_in m from)) (database_rows_in m a)) (with_record key (record_of key (database_rows_in m from)) (database_rows_in m b))
        (ap (λ j. get_or (with_record_from m key from a) j []) same ∙ get_or-set_same a (m - 1) (with_record key (record_of key (database_rows_in m from)) (database_rows_in m a)) [] within)
        (ap (λ j. get_or (with_record_from m key from b) j []) same ∙ get_or-set_same b (m - 1) (with_record key (record_of key (database_rows_in m from)) (database_rows_in m b)) [] within_b)
        put_m
    by true e false f =
        let past : length a ≤ m - 1 = ltb-false (m - 1) (length a) f in
        let past_b : length b ≤ m - 1 = subst (λ n. n ≤ m - 1) size past in
        alike_by number root (with_record_from m key from a) (with_record_from m key from b) (database_rows_in number a) (database_rows_in number b)
        (ap (λ rs. get_or rs (number - 1) []) (set_past a (m - 1) (with_record key (record_of key (database_rows_in m from)) (database_rows_in m a)) past))
        (ap (λ rs. get_or rs (number - 1) []) (set_past b (m - 1) (with_record key (record_of key (database_rows_in m from)) (database_rows_in m b)) past_b))
        agree
    by false e u f =
        let other : number - 1 ≢ m - 1 = λ g. false≢true (sym e ∙ eq-eqb (number - 1) (m - 1) g) in
        alike_by number root (with_record_from m key from a) (with_record_from m key from b) (database_rows_in number a) (database_rows_in number b)
        (get_or-set_other a (m - 1) (number - 1) (with_record key (record_of key (database_rows_in m from)) (database_rows_in m a)) [] other)
        (get_or-set_other b (m - 1) (number - 1) (with_record key (record_of key (database_rows_in m from)) (database_rows_in m b)) [] other)
        agree

pub all_alike : (number : ℕ) (root : Option (List ℕ)) (changed : List (ℕ × List ℕ)) (from a b : List (List Row)) → length a ≡ length b
    → AgreeAt root (database_rows_in number a) (database_rows_in number b)
    → AgreeAt root (database_rows_in number (with_records_from changed from a)) (database_rows_in number (with_records_from changed from b))
all_alike number root [] from a b size agree = agree
all_alike number root (c ∷ changed) from a b size agree =
    one_alike number root c.0 c.1 from (with_records_from changed from a) (with_records_from changed from b)
    (same_length changed from a ∙ (size ∙ sym (same_length changed from b)))
    (all_alike number root changed from a b size agree)
