-- Records that are kept by their roots, and what a change of one leaves.
use Rattle.std.proofs.Common.{◌≡◌, ◌≢◌, ℕ, ◌+◌, ◌≤◌, ◌<◌, ◌∷◌, [], List, length, refl, sym, ◌∙◌, ap, subst, Bool, true, false, cond, ◌&&◌, not, Option, None, Some, Ok, arith, eqb, leb, ⊎_elim, suc, Bor, ◌↔◌}
use Rattle.std.specs.List.{slice_get, find, filter}
use Rattle.std.specs.List.Sorted.{IsStrictlySortedBy}
use Rattle.std.specs.Option.{unwrap_or, option_copied, option_map, is_some}
use Rattle.std.specs.Ordering.{match_ordering}
use Rattle.std.specs.declared.cmp.Ordering.{Ordering}
use Rattle.std.specs.declared.cmp.Ordering.TheVariants.{Less, Equal, Greater}
use Rattle.std.specs.BTreeMap.{insert_entry, is_at}
use Rattle.std.specs.Map.{keys_of, lookup, remove_entry}
use Rattle.std.proofs.lemmas.Map.Lookups.{exact_bytes}
use Rattle.std.proofs.lemmas.Bool.{eq-eqb, ne_eqb, cond-true, cond-false, lt-ltb, le-ltb, leb-false, cases_lt}
use Rattle.tm_types.specs.declared.dbd.Dbd.{Dbd}
use Rattle.model_data.specs.declared.row.Row.{Row}
use Rattle.model_data.specs.Path.{key_cmp}
use Rattle.model_data.specs.Record.{IsRecord, rows_spelling, record_limit}
use Rattle.model_data.specs.Rows.{record_of, with_record, roots, rows_of_records, IsImage, passes_roots, passes_length, AreRows}
use Rattle.model_data.proofs.Entries.{entries_record, entries_insert, entries_remove}
use Rattle.model_data.proofs.Roots.{AreRecords, records_rooted, entries_roots, entries_rows}
use Rattle.model_data.proofs.Records.{is_eq-true}
use Rattle.seg_rows.specs.PlainRows.{ArePlainRowsKept}
use Rattle.seg_rows.specs.ReadRows.{IsRecordRead, TellsRecord}
use Rattle.seg_rows.specs.RowsRefused.{set_refusal}
use Rattle.seg_rows.specs.declared.rows.RowsRefused.TheVariants.{RootLimit, RecordTooLong}

pub kept_rows : (dbd : Dbd) (es : List (List ℕ × List Row)) → ArePlainRowsKept dbd es → AreRows dbd (rows_of_records es)
kept_rows dbd es h = entries_rows dbd h.types es h.ascending h.each h.few

pub kept_record : (dbd : Dbd) (es : List (List ℕ × List Row)) (root : List ℕ) → ArePlainRowsKept dbd es → record_of root (rows_of_records es) ≡ unwrap_or (lookup (is_at (key_cmp root)) es) []
kept_record dbd es root h = entries_record root es h.ascending (records_rooted dbd es h.each)

-- an image that is found is a record of the root
found_valid : (dbd : Dbd) (es : List (List ℕ × List Row)) (root : List ℕ) (image : List Row) → AreRecords dbd es → lookup (is_at (key_cmp root)) es ≡ Some image → IsRecord dbd root image
found_valid dbd [] root image h e = let clash : None ≡ Some image = e in absurd (cc)
found_valid dbd (f ∷ es) root image h e = by (is_at (key_cmp root) f.0) refl e (found_valid dbd es root image h.1)
  where
    by : (b : Bool) → is_at (key_cmp root) f.0 ≡ b → cond b (Some f.1) (lookup (is_at (key_cmp root)) es) ≡ Some image
        → (lookup (is_at (key_cmp root)) es ≡ Some image → IsRecord dbd root image) → IsRecord dbd root image
    by true q g rec =
        let same : Some f.1 ≡ Some image = g in
        let parts : f.1 ≡ image = cc in
        subst (λ rows. IsRecord dbd root rows) parts (subst (λ key. IsRecord dbd key f.1) (sym (exact_bytes root f.0 (is_eq-true _ q))) h.0)
    by false q g rec = rec g

-- the look-up tells the record, and that there is none
pub kept_found : (dbd : Dbd) (es : List (List ℕ × List Row)) (root : List ℕ) (image : List Row) → ArePlainRowsKept dbd es → lookup (is_at (key_cmp root)) es ≡ Some image
    → record_of root (rows_of_records es) ≡ image
kept_found dbd es root image h e = kept_record dbd es root h ∙ ap (λ o. unwrap_or o []) e

pub kept_none : (dbd : Dbd) (es : List (List ℕ × List Row)) (root : List ℕ) → ArePlainRowsKept dbd es → lookup (is_at (key_cmp root)) es ≡ None
    → record_of root (rows_of_records es) ≡ []
kept_none dbd es root h e = kept_record dbd es root h ∙ ap (λ o. unwrap_or o []) e

pub kept_some : (dbd : Dbd) (es : List (List ℕ × List Row)) (root : List ℕ) (image : List Row) → ArePlainRowsKept dbd es → lookup (is_at (key_cmp root)) es ≡ Some image
    → record_of root (rows_of_records es) ≢ []
kept_some dbd es root image h e none = (found_valid dbd es root image h.each e).whole.some (sym (kept_found dbd es root image h e) ∙ none)

length_keys : (es : List (List ℕ × List Row)) → length (keys_of es) ≡ length es
length_keys [] = refl
length_keys (e ∷ es) = ap (λ n. suc n) (length_keys es)

some_length : (rows : List Row) → rows ≢ [] → eqb (length rows) 0 ≡ false
some_length [] h = absurd (h refl)
some_length (r ∷ rows) h = ne_eqb (length (r ∷ rows)) 0 (λ e. absurd (omega arith))

-- the test for room is that of the rows
pub kept_passes : (dbd : Dbd) (es : List (List ℕ × List Row)) (root : List ℕ) (image : List Row) → ArePlainRowsKept dbd es → image ≢ []
    → passes_roots dbd root image (rows_of_records es) ≡ (not (is_some (lookup (is_at (key_cmp root)) es)) && leb dbd.roots (length es))
kept_passes dbd es root image h some = λ i. not (some_length image some i) && absent i && leb dbd.roots (count i)
  where
    count : length (roots (rows_of_records es)) ≡ length es
    count = ap length (entries_roots dbd h.types es h.each) ∙ length_keys es

    absent : eqb (length (record_of root (rows_of_records es))) 0 ≡ not (is_some (lookup (is_at (key_cmp root)) es))
    absent = by (lookup (is_at (key_cmp root)) es) refl
      where
        by : (o : Option (List Row)) → lookup (is_at (key_cmp root)) es ≡ o → eqb (length (record_of root (rows_of_records es))) 0 ≡ not (is_some (lookup (is_at (key_cmp root)) es))
        by None e = eq-eqb (length (record_of root (rows_of_records es))) 0 (ap length (kept_none dbd es root h e)) ∙ sym (ap (λ o. not (is_some o)) e)
        by (Some rows) e = some_length (record_of root (rows_of_records es)) (kept_some dbd es root rows h e) ∙ sym (ap (λ o. not (is_some o)) e)

-- which refusal is due
pub due_roots : (dbd : Dbd) (es : List (List ℕ × List Row)) (root : List ℕ) (image : List Row) → ArePlainRowsKept dbd es → image ≢ []
    → (not (is_some (lookup (is_at (key_cmp root)) es)) && leb dbd.roots (length es)) ≡ true → set_refusal dbd root image (rows_of_records es) ≡ Some RootLimit
due_roots dbd es root image h some full =
    cond-true (passes_roots dbd root image (rows_of_records es)) (Some RootLimit) (cond (passes_length dbd image) (Some RecordTooLong) None) (kept_passes dbd es root image h some ∙ full)

pub due_length : (dbd : Dbd) (es : List (List ℕ × List Row)) (root : List ℕ) (image : List Row) → ArePlainRowsKept dbd es → image ≢ []
    → (not (is_some (lookup (is_at (key_cmp root)) es)) && leb dbd.roots (length es)) ≡ false → record_limit dbd < length (rows_spelling image)
    → set_refusal dbd root image (rows_of_records es) ≡ Some RecordTooLong
due_length dbd es root image h some room long =
    cond-false (passes_roots dbd root image (rows_of_records es)) (Some RootLimit) (cond (passes_length dbd image) (Some RecordTooLong) None) (kept_passes dbd es root image h some ∙ room)
    ∙ cond-true (passes_length dbd image) (Some RecordTooLong) None (lt-ltb (record_limit dbd) (length (rows_spelling image)) long)

pub due_none : (dbd : Dbd) (es : List (List ℕ × List Row)) (root : List ℕ) (image : List Row) → ArePlainRowsKept dbd es → image ≢ []
    → (not (is_some (lookup (is_at (key_cmp root)) es)) && leb dbd.roots (length es)) ≡ false → length (rows_spelling image) ≤ record_limit dbd
    → set_refusal dbd root image (rows_of_records es) ≡ None
due_none dbd es root image h some room fits =
    cond-false (passes_roots dbd root image (rows_of_records es)) (Some RootLimit) (cond (passes_length dbd image) (Some RecordTooLong) None) (kept_passes dbd es root image h some ∙ room)
    ∙ cond-false (passes_length dbd image) (Some RecordTooLong) None (le-ltb (record_limit dbd) (length (rows_spelling image)) fits)

-- an image without rows passes no limit
pub due_removed : (dbd : Dbd) (rows : List Row) (root : List ℕ) (image : List Row) → image ≡ [] → set_refusal dbd root image rows ≡ None
due_removed dbd rows root image e = ap (λ im. set_refusal dbd root im rows) e ∙ cond-false _ _ _ (le-ltb (record_limit dbd) 0 (omega arith))

-- what an inserted record leaves
all_insert : (dbd : Dbd) (root : List ℕ) (image : List Row) (es : List (List ℕ × List Row)) → IsRecord dbd root image → AreRecords dbd es → AreRecords dbd (insert_entry key_cmp es root image)
all_insert dbd root image [] r h = (r, tt)
all_insert dbd root image (e ∷ es) r h = by (key_cmp root e.0) refl (all_insert dbd root image es r h.1)
  where
    by : (o : Ordering) → key_cmp root e.0 ≡ o → AreRecords dbd (insert_entry key_cmp es root image)
        → AreRecords dbd (match_ordering (key_cmp root e.0) ((root, image) ∷ e ∷ es) ((e.0, image) ∷ es) (e ∷ insert_entry key_cmp es root image))
    by Less q rec = subst (λ o. AreRecords dbd (match_ordering o ((root, image) ∷ e ∷ es) ((e.0, image) ∷ es) (e ∷ insert_entry key_cmp es root image))) (sym q) (r, h)
    by Equal q rec =
        subst (λ o. AreRecords dbd (match_ordering o ((root, image) ∷ e ∷ es) ((e.0, image) ∷ es) (e ∷ insert_entry key_cmp es root image))) (sym q)
        (subst (λ k. IsRecord dbd k image) (exact_bytes root e.0 q) r, h.1)
    by Greater q rec = subst (λ o. AreRecords dbd (match_ordering o ((root, image) ∷ e ∷ es) ((e.0, image) ∷ es) (e ∷ insert_entry key_cmp es root image))) (sym q) (h.0, rec)

all_remove : (dbd : Dbd) (test : List ℕ → Bool) (es : List (List ℕ × List Row)) → AreRecords dbd es → AreRecords dbd (remove_entry test es)
all_remove dbd test [] h = tt
all_remove dbd test (e ∷ es) h =
    elim (test e.0) as (λ b. AreRecords dbd (cond b es (e ∷ remove_entry test es))) [
      | true ↦ h.1
      | false ↦ (h.0, all_remove dbd test es h.1)
    ]

-- an image that is set within the limit is a record
pub image_record : (dbd : Dbd) (root : List ℕ) (image : List Row) → IsImage dbd root image → image ≢ [] → length (rows_spelling image) ≤ record_limit dbd → IsRecord dbd root image
image_record dbd root image h some fits = ⊎_elim (λ e. absurd (some e)) (λ r. record { whole = r; within = fits }) h

pub kept_insert : (dbd : Dbd) (root : List ℕ) (image : List Row) (es fs : List (List ℕ × List Row)) → ArePlainRowsKept dbd es → IsRecord dbd root image
    → fs ≡ insert_entry key_cmp es root image → IsStrictlySortedBy key_cmp (keys_of fs) → length fs ≤ dbd.roots → ArePlainRowsKept dbd fs
kept_insert dbd root image es fs h r e ordered few =
    record {
      types = h.types;
      ascending = ordered;
      each = subst (AreRecords dbd) (sym e) (all_insert dbd root image es r h.each);
      few = few;
    }

pub kept_remove : (dbd : Dbd) (root : List ℕ) (es fs : List (List ℕ × List Row)) → ArePlainRowsKept dbd es
    → fs ≡ remove_entry (is_at (key_cmp root)) es → IsStrictlySortedBy key_cmp (keys_of fs) → length fs ≤ length es → ArePlainRowsKept dbd fs
kept_remove dbd root es fs h e ordered fewer =
    record {
      types = h.types;
      ascending = ordered;
      each = subst (AreRecords dbd) (sym e) (all_remove dbd (is_at (key_cmp root)) es h.each);
      few = omega (arith, fewer, h.few);
    }

pub rows_inserted : (dbd : Dbd) (root : List ℕ) (image : List Row) (es fs : List (List ℕ × List Row)) → ArePlainRowsKept dbd es
    → fs ≡ insert_entry key_cmp es root image → rows_of_records fs ≡ with_record root image (rows_of_records es)
rows_inserted dbd root image es fs h e = ap rows_of_records e ∙ entries_insert root image es h.ascending (records_rooted dbd es h.each)

pub rows_removed : (dbd : Dbd) (root : List ℕ) (image : List Row) (es fs : List (List ℕ × List Row)) → ArePlainRowsKept dbd es
    → fs ≡ remove_entry (is_at (key_cmp root)) es → image ≡ [] → rows_of_records fs ≡ with_record root image (rows_of_records es)
rows_removed dbd root image es fs h e none =
    ap rows_of_records e ∙ (entries_remove root es h.ascending (records_rooted dbd es h.each) ∙ ap (λ im. with_record root im (rows_of_records es)) (sym none))

-- the roots are the keys
pub kept_roots : (dbd : Dbd) (es : List (List ℕ × List Row)) → ArePlainRowsKept dbd es → roots (rows_of_records es) ≡ keys_of es
kept_roots dbd es h = entries_roots dbd h.types es h.each

-- what a look-up that lends shows
pub read_answer : (dbd : Dbd) (es : List (List ℕ × List Row)) (root : List ℕ) → ArePlainRowsKept dbd es → (r : Option (Bor (List Row)))
    → option_copied r ≡ lookup (is_at (key_cmp root)) es → IsRecordRead dbd true root (rows_of_records es) (Ok r)
read_answer dbd es root h None e = kept_none dbd es root h (sym e)
read_answer dbd es root h (Some b) e =
    record {
      valid = found_valid dbd es root b.now h.each (sym e);
      there = kept_some dbd es root b.now h (sym e);
      told = λ told. sym (kept_found dbd es root b.now h (sym e));
    }

pub read_tells : (dbd : Dbd) (es : List (List ℕ × List Row)) (root : List ℕ) → ArePlainRowsKept dbd es → (r : Option (Bor (List Row)))
    → option_copied r ≡ lookup (is_at (key_cmp root)) es → TellsRecord root (rows_of_records es) (Ok r)
read_tells dbd es root h None e = kept_none dbd es root h (sym e)
read_tells dbd es root h (Some b) e = kept_found dbd es root b.now h (sym e)

-- a test that says no says that the bound is passed
pub passed : (b : Bool) (m n : ℕ) → (b ≡ true) ↔ (m ≤ n) → b ≡ false → n < m
passed b m n h e = ⊎_elim (λ up. up) (λ down. let t : b ≡ true = h.1 down in absurd (cc)) (cases_lt n m)

-- the entries after a record is set within the limits
pub kept_set : (dbd : Dbd) (root : List ℕ) (image : List Row) (es fs : List (List ℕ × List Row)) (old : Option (List Row)) → ArePlainRowsKept dbd es
    → IsImage dbd root image → image ≢ [] → length (rows_spelling image) ≤ record_limit dbd → fs ≡ insert_entry key_cmp es root image → IsStrictlySortedBy key_cmp (keys_of fs)
    → old ≡ lookup (is_at (key_cmp root)) es → length fs ≡ length es + cond (is_some old) 0 1
    → (not (is_some (lookup (is_at (key_cmp root)) es)) && leb dbd.roots (length es)) ≡ false → ArePlainRowsKept dbd fs
kept_set dbd root image es fs old h im some fits e ordered found count room =
    kept_insert dbd root image es fs h (image_record dbd root image im some fits) e ordered (few old found count)
  where
    few : (o : Option (List Row)) → o ≡ lookup (is_at (key_cmp root)) es → length fs ≡ length es + cond (is_some o) 0 1 → length fs ≤ dbd.roots
    few (Some rows) f n = omega (arith, h.few)
    few None f n =
        let less : leb dbd.roots (length es) ≡ false = ap (λ o. not (is_some o) && leb dbd.roots (length es)) f ∙ room in
        omega (arith, leb-false dbd.roots (length es) less)

-- the first of the entries in a range has the first key that passes
range_key : {X : Type 0} (f : List ℕ → Bool) (es : List (List ℕ × X)) → find f (keys_of es) ≡ option_map (λ e. e.0) (slice_get (filter (λ e. f e.0 && not false) es) 0)
range_key f [] = refl
range_key f (e ∷ es) =
    elim (f e.0) as (λ b. cond b (Some e.0) (find f (keys_of es)) ≡ option_map (λ e'. e'.0) (slice_get (cond (b && not false) (e ∷ filter (λ e'. f e'.0 && not false) es) (filter (λ e'. f e'.0 && not false) es)) 0)) [
      | true ↦ refl
      | false ↦ range_key f es
    ]

pub range_first : {X : Type 0} (f : List ℕ → Bool) (es found rest : List (List ℕ × X)) (key : List ℕ) (x : X) → found ≡ filter (λ e. f e.0 && not false) es
    → found ≡ (key, x) ∷ rest → Some key ≡ find f (keys_of es)
range_first f es found rest key x e g = sym (range_key f es ∙ ap (λ xs. option_map (λ e'. e'.0) (slice_get xs 0)) (sym e ∙ g))

pub range_empty : {X : Type 0} (f : List ℕ → Bool) (es found : List (List ℕ × X)) → found ≡ filter (λ e. f e.0 && not false) es
    → found ≡ [] → None ≡ find f (keys_of es)
range_empty f es found e g = sym (range_key f es ∙ ap (λ xs. option_map (λ e'. e'.0) (slice_get xs 0)) (sym e ∙ g))
