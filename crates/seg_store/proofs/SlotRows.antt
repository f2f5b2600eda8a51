-- The rows of slots, and what a change of one slot leaves of them.
use Rattle.std.proofs.Common.{◌≡◌, ◌≢◌, ℕ, ◌≤◌, ◌<◌, ◌∷◌, [], List, length, refl, sym, ◌∙◌, ap, subst, Bool, true, false, cond, Option, None, Some, arith, suc, zero, get_or, set, eqb, leb, not, ◌&&◌, inl, inr, ⊎_elim}
use Rattle.std.specs.Prelude.{map}
use Rattle.std.specs.List.{AllByRecursion, slice_get, find}
use Rattle.std.specs.List.Sorted.{IsStrictlySortedBy}
use Rattle.std.specs.Option.{option_map, unwrap_or}
use Rattle.std.specs.Ordering.{is_eq, match_ordering}
use Rattle.std.specs.declared.cmp.Ordering.{Ordering}
use Rattle.std.specs.declared.cmp.Ordering.TheVariants.{Less, Equal, Greater}
use Rattle.std.specs.BTreeMap.{insert_entry, is_at}
use Rattle.std.specs.Map.{keys_of, lookup, remove_entry}
use Rattle.std.proofs.lemmas.Map.Lookups.{exact_bytes}
use Rattle.std.proofs.lemmas.Cmp.{tied_itself}
use Rattle.std.proofs.lemmas.Bool.{false≢true, eq-eqb, ne_eqb, cond-true, cond-false, lt-ltb, le-ltb, le-leb, lt-leb}
use Rattle.std.proofs.lemmas.List.{length-set, length-map}
use Rattle.std.proofs.lemmas.Option.{get_or_from_slice_get, slice_get-get_or, slice_get_within}
use Rattle.tm_types.specs.declared.dbd.Dbd.{Dbd}
use Rattle.tm_types.specs.SegTypes.{IsHierarchy}
use Rattle.model_data.specs.declared.row.Row.{Row}
use Rattle.model_data.specs.Path.{key_cmp, root_of}
use Rattle.model_data.specs.Record.{IsRecord, IsLongRecord, rows_spelling, record_limit, record_root}
use Rattle.model_data.specs.Rows.{record_of, with_record, roots, rows_of_records, AreRows, passes_roots, passes_length}
use Rattle.model_data.proofs.Order.{key_total}
use Rattle.model_data.proofs.Records.{is_eq-true}
use Rattle.model_data.proofs.Entries.{entries_record, entries_insert, entries_remove}
use Rattle.model_data.proofs.Roots.{AreRecords, records_rooted, entries_roots, entries_rows}
use Rattle.seg_rows.specs.RowsRefused.{set_refusal}
use Rattle.seg_rows.specs.declared.rows.RowsRefused.TheVariants.{RootLimit, RecordTooLong}
use Rattle.seg_store.specs.Slots.{image_root, has_root, is_slot_free, AtMostOne, slot_of_root, lowest_free, first_slot_of, with_image, with_root, rows_of_slots, IsSlot, AreSlots, free_slots, without_root}
use Rattle.seg_store.proofs.Places as places
use Rattle.seg_store.proofs.Entries.{insert_sorted, lookup_insert, lookup_remove, remove_sorted, same_entries}

-- the records in the slots, by their roots
abbrev pub put_entry : List Row → List (List ℕ × List Row) → List (List ℕ × List Row)
put_entry [] es = es
put_entry (row ∷ rows) es = insert_entry key_cmp es (root_of row.path) (row ∷ rows)

abbrev pub entries_of : List (List Row) → List (List ℕ × List Row)
entries_of [] = []
entries_of (image ∷ slots) = put_entry image (entries_of slots)

pub entries_sorted : (slots : List (List Row)) → IsStrictlySortedBy key_cmp (keys_of (entries_of slots))
unfolding IsStrictlySortedBy
entries_sorted [] = tt
entries_sorted ([] ∷ slots) = entries_sorted slots
entries_sorted ((row ∷ rows) ∷ slots) = insert_sorted (root_of row.path) (row ∷ rows) (entries_of slots) (entries_sorted slots)

pub entries_lookup : (q : List ℕ) (slots : List (List Row)) → lookup (is_at (key_cmp q)) (entries_of slots) ≡ find (has_root q) slots
entries_lookup q [] = refl
entries_lookup q ([] ∷ slots) = entries_lookup q slots
entries_lookup q ((row ∷ rows) ∷ slots) =
    lookup_insert q (root_of row.path) (row ∷ rows) (entries_of slots)
    ∙ ap (λ o. cond (is_eq (key_cmp q (root_of row.path))) (Some (row ∷ rows)) o) (entries_lookup q slots)

all_insert : (dbd : Dbd) (root : List ℕ) (image : List Row) (es : List (List ℕ × List Row)) → IsRecord dbd root image → AreRecords dbd es → AreRecords dbd (insert_entry key_cmp es root image)
all_insert dbd root image [] r h = (r, tt)
all_insert dbd root image (e ∷ es) r h = by (key_cmp root e.0) refl (all_insert dbd root image es r h.1)
  where
    goes : Ordering → List (List ℕ × List Row)
    goes o = match_ordering o ((root, image) ∷ e ∷ es) ((e.0, image) ∷ es) (e ∷ insert_entry key_cmp es root image)

    by : (o : Ordering) → key_cmp root e.0 ≡ o → AreRecords dbd (insert_entry key_cmp es root image) → AreRecords dbd (goes (key_cmp root e.0))
    by Less q rec = subst (λ o. AreRecords dbd (goes o)) (sym q) (r, h)
    by Equal q rec = subst (λ o. AreRecords dbd (goes o)) (sym q) (subst (λ k. IsRecord dbd k image) (exact_bytes root e.0 q) r, h.1)
    by Greater q rec = subst (λ o. AreRecords dbd (goes o)) (sym q) (h.0, rec)

pub entries_records : (dbd : Dbd) (slots : List (List Row)) → AllByRecursion (IsSlot dbd) slots → AreRecords dbd (entries_of slots)
entries_records dbd [] h = tt
entries_records dbd ([] ∷ slots) h = entries_records dbd slots h.1
entries_records dbd ((row ∷ rows) ∷ slots) h =
    all_insert dbd (root_of row.path) (row ∷ rows) (entries_of slots)
    (⊎_elim (λ e. let clash : row ∷ rows ≡ [] = e in absurd (cc)) (λ r. r) h.0) (entries_records dbd slots h.1)

pub slots_rows : (dbd : Dbd) (slots : List (List Row)) → AllByRecursion (IsSlot dbd) slots → rows_of_slots slots ≡ rows_of_records (entries_of slots)
slots_rows dbd [] h = refl
slots_rows dbd ([] ∷ slots) h = slots_rows dbd slots h.1
slots_rows dbd ((row ∷ rows) ∷ slots) h =
    ap (with_record (root_of row.path) (row ∷ rows)) (slots_rows dbd slots h.1)
    ∙ sym (entries_insert (root_of row.path) (row ∷ rows) (entries_of slots) (entries_sorted slots)
    (records_rooted dbd (entries_of slots) (entries_records dbd slots h.1)))

-- the record of a root is the image that has it
pub slots_record : (dbd : Dbd) (slots : List (List Row)) (q : List ℕ) → AllByRecursion (IsSlot dbd) slots
    → record_of q (rows_of_slots slots) ≡ unwrap_or (find (has_root q) slots) []
slots_record dbd slots q h =
    ap (record_of q) (slots_rows dbd slots h)
    ∙ (entries_record q (entries_of slots) (entries_sorted slots) (records_rooted dbd (entries_of slots) (entries_records dbd slots h))
    ∙ ap (λ o. unwrap_or o []) (entries_lookup q slots))

-- how many records there are
length_insert : (key : List ℕ) (x : List Row) (es : List (List ℕ × List Row)) → length (insert_entry key_cmp es key x) ≤ suc (length es)
length_insert key x [] = omega arith
length_insert key x (e ∷ es) =
    elim (key_cmp key e.0) as (λ o. length (match_ordering o ((key, x) ∷ e ∷ es) ((e.0, x) ∷ es) (e ∷ insert_entry key_cmp es key x)) ≤ suc (suc (length es))) [
      | Less ↦ omega arith
      | Equal ↦ omega arith
      | Greater ↦ omega (arith, length_insert key x es)
    ]

length_new : (key : List ℕ) (x : List Row) (es : List (List ℕ × List Row)) → lookup (is_at (key_cmp key)) es ≡ None → length (insert_entry key_cmp es key x) ≡ suc (length es)
length_new key x [] n = refl
length_new key x (e ∷ es) n = by (key_cmp key e.0) refl (length_new key x es)
  where
    goes : Ordering → List (List ℕ × List Row)
    goes o = match_ordering o ((key, x) ∷ e ∷ es) ((e.0, x) ∷ es) (e ∷ insert_entry key_cmp es key x)

    here : (o : Ordering) → key_cmp key e.0 ≡ o → cond (is_eq o) (Some e.1) (lookup (is_at (key_cmp key)) es) ≡ None
    here o q = sym (ap (λ p. cond (is_eq p) (Some e.1) (lookup (is_at (key_cmp key)) es)) q) ∙ n

    by : (o : Ordering) → key_cmp key e.0 ≡ o → (lookup (is_at (key_cmp key)) es ≡ None → length (insert_entry key_cmp es key x) ≡ suc (length es))
        → length (goes (key_cmp key e.0)) ≡ suc (suc (length es))
    by Less q rec = ap (λ o. length (goes o)) q
    by Equal q rec = let clash : Some e.1 ≡ None = here Equal q in absurd (cc)
    by Greater q rec = ap (λ o. length (goes o)) q ∙ ap (λ m. suc m) (rec (here Greater q))

pub entries_few : (slots : List (List Row)) → length (entries_of slots) ≤ length slots
entries_few [] = omega arith
entries_few ([] ∷ slots) = omega (arith, entries_few slots)
entries_few ((row ∷ rows) ∷ slots) = omega (arith, entries_few slots, length_insert (root_of row.path) (row ∷ rows) (entries_of slots))

pub entries_fewer : (slots : List (List Row)) (i : ℕ) → slice_get slots i ≡ Some [] → length (entries_of slots) < length slots
entries_fewer [] i e = let clash : None ≡ Some [] = e in absurd (cc)
entries_fewer ([] ∷ slots) i e = omega (arith, entries_few slots)
entries_fewer ((row ∷ rows) ∷ slots) zero e = let same : Some (row ∷ rows) ≡ Some [] = e in let clash : row ∷ rows ≡ [] = cc in absurd (cc)
entries_fewer ((row ∷ rows) ∷ slots) (suc i) e = omega (arith, entries_fewer slots i e, length_insert (root_of row.path) (row ∷ rows) (entries_of slots))

pub entries_full : (slots : List (List Row)) → ((q : List ℕ) → AtMostOne (has_root q) slots) → lowest_free slots ≡ None → length (entries_of slots) ≡ length slots
entries_full [] one full = refl
entries_full ([] ∷ slots) one full = let clash : Some 0 ≡ None = full in absurd (cc)
entries_full ((row ∷ rows) ∷ slots) one full =
    length_new (root_of row.path) (row ∷ rows) (entries_of slots)
    (entries_lookup (root_of row.path) slots
    ∙ places.find_none (has_root (root_of row.path)) slots ((one (root_of row.path)).0 (ap is_eq (tied_itself key_total (root_of row.path)))))
    ∙ ap (λ m. suc m) (entries_full slots (λ q. (one q).1) (places.none_tail is_slot_free (row ∷ rows) slots full))

-- the index has the roots of the records
shown : List (List Row) → List ℕ × ℕ → List ℕ × List Row
shown slots e = (e.0, get_or slots e.1 [])

lookup_shown : (slots : List (List Row)) (q : List ℕ) (index : List (List ℕ × ℕ))
    → lookup (is_at (key_cmp q)) (map (λ e. (e.0, get_or slots e.1 [])) index) ≡ option_map (λ i. get_or slots i []) (lookup (is_at (key_cmp q)) index)
lookup_shown slots q [] = refl
lookup_shown slots q (e ∷ index) =
    elim (is_eq (key_cmp q e.0)) as (λ b. cond b (Some (get_or slots e.1 [])) (lookup (is_at (key_cmp q)) (map (λ f. (f.0, get_or slots f.1 [])) index)) ≡ option_map (λ i. get_or slots i []) (cond b (Some e.1) (lookup (is_at (key_cmp q)) index))) [
      | true ↦ refl
      | false ↦ lookup_shown slots q index
    ]

keys_shown : (slots : List (List Row)) (index : List (List ℕ × ℕ)) → keys_of (map (λ e. (e.0, get_or slots e.1 [])) index) ≡ keys_of index
keys_shown slots [] = refl
keys_shown slots (e ∷ index) = ap (λ ks. e.0 ∷ ks) (keys_shown slots index)

find_shown : (slots : List (List Row)) (q : List ℕ) → option_map (λ i. get_or slots i []) (slot_of_root q slots) ≡ find (has_root q) slots
find_shown slots q = by (slot_of_root q slots) refl
  where
    by : (o : Option ℕ) → slot_of_root q slots ≡ o → option_map (λ i. get_or slots i []) (slot_of_root q slots) ≡ find (has_root q) slots
    by None e = ap (option_map (λ i. get_or slots i [])) e ∙ sym (places.find_none (has_root q) slots e)
    by (Some i) e =
        let found = places.place_passes (has_root q) slots i e in
        ap (option_map (λ n. get_or slots n [])) e
        ∙ (sym (slice_get-get_or slots i [] (slice_get_within slots i found.0 found.1)) ∙ sym (places.find_at (has_root q) slots i e))

pub index_keys : (slots : List (List Row)) (index : List (List ℕ × ℕ)) → IsStrictlySortedBy key_cmp (keys_of index)
    → ((q : List ℕ) → lookup (is_at (key_cmp q)) index ≡ slot_of_root q slots) → keys_of index ≡ keys_of (entries_of slots)
index_keys slots index s h =
    sym (keys_shown slots index)
    ∙ ap keys_of (same_entries (map (λ e. (e.0, get_or slots e.1 [])) index) (entries_of slots)
    (subst (IsStrictlySortedBy key_cmp) (sym (keys_shown slots index)) s) (entries_sorted slots)
    (λ q. lookup_shown slots q index ∙ (ap (option_map (λ i. get_or slots i [])) (h q) ∙ (find_shown slots q ∙ sym (entries_lookup q slots)))))

-- whole stores
module _ (dbd : Dbd) (slots : List (List Row)) (valid : AreSlots dbd slots) where
  pub slots_roots : roots (rows_of_slots slots) ≡ keys_of (entries_of slots)
  slots_roots = ap roots (slots_rows dbd slots valid.each) ∙ entries_roots dbd valid.types (entries_of slots) (entries_records dbd slots valid.each)

  pub slots_are_rows : AreRows dbd (rows_of_slots slots)
  slots_are_rows =
      subst (AreRows dbd) (sym (slots_rows dbd slots valid.each))
      (entries_rows dbd valid.types (entries_of slots) (entries_sorted slots) (entries_records dbd slots valid.each) (omega (arith, entries_few slots, valid.count)))

  roots_count : length (roots (rows_of_slots slots)) ≡ length (entries_of slots)
  roots_count = ap length slots_roots ∙ length-map (entries_of slots) (λ e. e.0)

pub same_key : (q root : List ℕ) → is_eq (key_cmp q root) ≡ true → root ≡ q
same_key q root e = sym (exact_bytes q root (is_eq-true _ e))

-- an image of a root has that root alone
pub rooted : (root : List ℕ) (image : List Row) → has_root root image ≡ true → (q : List ℕ) → has_root q image ≡ is_eq (key_cmp q root)
rooted root [] h q = absurd (false≢true h)
rooted root (row ∷ rows) h q = ap (λ k. is_eq (key_cmp q k)) (sym (exact_bytes root (root_of row.path) (is_eq-true _ h)))

pub not_free : (root : List ℕ) (image : List Row) → has_root root image ≡ true → is_slot_free image ≡ false
not_free root [] h = absurd (false≢true h)
not_free root (row ∷ rows) h = refl

pub record_has : (types : List Rattle.tm_types.specs.declared.dbd.SegType.SegType) (root : List ℕ) (image : List Row) → IsLongRecord types root image → has_root root image ≡ true
record_has types root [] h = absurd (h.some refl)
record_has types root (row ∷ rows) h = ap (λ k. is_eq (key_cmp root k)) h.under.one_root.0 ∙ ap is_eq (tied_itself key_total root)

pub record_image_root : (types : List Rattle.tm_types.specs.declared.dbd.SegType.SegType) (root : List ℕ) (image : List Row) → IsLongRecord types root image → image_root image ≡ root
record_image_root types root [] h = absurd (h.some refl)
record_image_root types root (row ∷ rows) h = h.under.one_root.0

all_set : (P : List Row → Type 0) (slots : List (List Row)) (i : ℕ) (image : List Row) → AllByRecursion P slots → P image → AllByRecursion P (set slots i image)
all_set P [] i image h p = tt
all_set P (x ∷ slots) zero image h p = (p, h.1)
all_set P (x ∷ slots) (suc i) image h p = (h.0, all_set P slots i image h.1 p)

-- what is found of each root after a change: of this root that, of others what was found before
pub record Leaves (root : List ℕ) (place : Option ℕ) (image : Option (List Row)) (slots new : List (List Row)) : Type 0 where
  pub places : (q : List ℕ) → slot_of_root q new ≡ cond (is_eq (key_cmp q root)) place (slot_of_root q slots)
  pub images : (q : List ℕ) → find (has_root q) new ≡ cond (is_eq (key_cmp q root)) image (find (has_root q) slots)

module _ (slots : List (List Row)) (root : List ℕ) (i : ℕ) where
  -- a slot that has another image for these roots
  apart : (old image : List Row) → slice_get slots i ≡ Some old → (q : List ℕ) → has_root q old ≡ false → has_root q image ≡ false
      → (slot_of_root q (set slots i image) ≡ slot_of_root q slots) × (find (has_root q) (set slots i image) ≡ find (has_root q) slots)
  apart old image g q a b = places.set_apart (has_root q) slots i old image g a b

  leaves_by : (place : Option ℕ) (found : Option (List Row)) (new : List (List Row))
      → ((q : List ℕ) → is_eq (key_cmp q root) ≡ true → (slot_of_root q new ≡ place) × (find (has_root q) new ≡ found))
      → ((q : List ℕ) → is_eq (key_cmp q root) ≡ false → (slot_of_root q new ≡ slot_of_root q slots) × (find (has_root q) new ≡ find (has_root q) slots))
      → Leaves root place found slots new
  leaves_by place found new own other = record { places = λ q. first q (is_eq (key_cmp q root)) refl; images = λ q. second q (is_eq (key_cmp q root)) refl }
    where
      first : (q : List ℕ) (b : Bool) → is_eq (key_cmp q root) ≡ b → slot_of_root q new ≡ cond (is_eq (key_cmp q root)) place (slot_of_root q slots)
      first q true e = (own q e).0 ∙ sym (ap (λ b. cond b place (slot_of_root q slots)) e)
      first q false e = (other q e).0 ∙ sym (ap (λ b. cond b place (slot_of_root q slots)) e)

      second : (q : List ℕ) (b : Bool) → is_eq (key_cmp q root) ≡ b → find (has_root q) new ≡ cond (is_eq (key_cmp q root)) found (find (has_root q) slots)
      second q true e = (own q e).1 ∙ sym (ap (λ b. cond b found (find (has_root q) slots)) e)
      second q false e = (other q e).1 ∙ sym (ap (λ b. cond b found (find (has_root q) slots)) e)

  same_root : (q : List ℕ) → is_eq (key_cmp q root) ≡ true → root ≡ q
  same_root q e = same_key q root e

  -- a record that comes into a free slot
  pub new_leaves : (image : List Row) → slice_get slots i ≡ Some [] → slot_of_root root slots ≡ None → has_root root image ≡ true
      → Leaves root (Some i) (Some image) slots (set slots i image)
  new_leaves image g none h =
      leaves_by (Some i) (Some image) (set slots i image)
      (λ q e. places.set_new (has_root q) slots i image (slice_get_within slots i [] g) (subst (λ k. slot_of_root k slots ≡ None) (same_root q e) none) (rooted root image h q ∙ e))
      (λ q e. apart [] image g q refl (rooted root image h q ∙ e))

  -- one in place of the record of its root
  pub same_leaves : (image : List Row) → slot_of_root root slots ≡ Some i → has_root root image ≡ true → Leaves root (Some i) (Some image) slots (set slots i image)
  same_leaves image there h =
      let found = places.place_passes (has_root root) slots i there in
      leaves_by (Some i) (Some image) (set slots i image)
      (λ q e. places.set_same (has_root q) slots i image (subst (λ k. slot_of_root k slots ≡ Some i) (same_root q e) there) (rooted root image h q ∙ e))
      (λ q e. apart found.0 image found.1 q (rooted root found.0 found.2 q ∙ e) (rooted root image h q ∙ e))

  -- and a record that goes
  pub gone_leaves : ((q : List ℕ) → AtMostOne (has_root q) slots) → slot_of_root root slots ≡ Some i → Leaves root None None slots (set slots i [])
  gone_leaves one there =
      let found = places.place_passes (has_root root) slots i there in
      leaves_by None None (set slots i [])
      (λ q e. places.set_gone (has_root q) slots i [] (one q) (subst (λ k. slot_of_root k slots ≡ Some i) (same_root q e) there) refl)
      (λ q e. apart found.0 [] found.1 q (rooted root found.0 found.2 q ∙ e) refl)

-- the rows after it
pub rows_new : (dbd : Dbd) (slots new : List (List Row)) (root : List ℕ) (i : ℕ) (image : List Row) → AllByRecursion (IsSlot dbd) slots → AllByRecursion (IsSlot dbd) new
    → Leaves root (Some i) (Some image) slots new → rows_of_slots new ≡ with_record root image (rows_of_slots slots)
rows_new dbd slots new root i image h g l =
    let es = entries_of slots in
    let same : entries_of new ≡ insert_entry key_cmp (entries_of slots) root image =
    same_entries (entries_of new) (insert_entry key_cmp (entries_of slots) root image) (entries_sorted new) (insert_sorted root image (entries_of slots) (entries_sorted slots))
    (λ q. entries_lookup q new ∙ (l.images q ∙ sym (lookup_insert q root image (entries_of slots) ∙ ap (λ o. cond (is_eq (key_cmp q root)) (Some image) o) (entries_lookup q slots)))) in
    slots_rows dbd new g
    ∙ (ap rows_of_records same
    ∙ (entries_insert root image (entries_of slots) (entries_sorted slots) (records_rooted dbd (entries_of slots) (entries_records dbd slots h))
    ∙ ap (with_record root image) (sym (slots_rows dbd slots h))))

pub rows_gone : (dbd : Dbd) (slots new : List (List Row)) (root : List ℕ) → AllByRecursion (IsSlot dbd) slots → AllByRecursion (IsSlot dbd) new
    → Leaves root None None slots new → rows_of_slots new ≡ with_record root [] (rows_of_slots slots)
rows_gone dbd slots new root h g l =
    let same : entries_of new ≡ remove_entry (is_at (key_cmp root)) (entries_of slots) =
    same_entries (entries_of new) (remove_entry (is_at (key_cmp root)) (entries_of slots)) (entries_sorted new) (remove_sorted (is_at (key_cmp root)) (entries_of slots) (entries_sorted slots))
    (λ q. entries_lookup q new
    ∙ (l.images q ∙ sym (lookup_remove q root (entries_of slots) (entries_sorted slots) ∙ ap (λ o. cond (is_eq (key_cmp q root)) None o) (entries_lookup q slots)))) in
    slots_rows dbd new g
    ∙ (ap rows_of_records same
    ∙ (entries_remove root (entries_of slots) (entries_sorted slots) (records_rooted dbd (entries_of slots) (entries_records dbd slots h))
    ∙ ap (with_record root []) (sym (slots_rows dbd slots h))))

-- the slots stay slots of the database
is_slot : (dbd : Dbd) (root : List ℕ) (image : List Row) → IsRecord dbd root image → IsSlot dbd image
is_slot dbd root image r = inr (subst (λ k. IsRecord dbd k image) (sym (record_image_root dbd.types root image r.whole)) r)

module _ (dbd : Dbd) (slots : List (List Row)) (root : List ℕ) (i : ℕ) (image : List Row) (valid : AreSlots dbd slots) where
  pub slots_new : IsRecord dbd root image → slot_of_root root slots ≡ None → AreSlots dbd (set slots i image)
  slots_new r none =
      record {
        types = valid.types;
        count = length-set slots i image ∙ valid.count;
        each = all_set (IsSlot dbd) slots i image valid.each (is_slot dbd root image r);
        apart = λ q. by q (is_eq (key_cmp q root)) refl;
      }
    where
      by : (q : List ℕ) (b : Bool) → is_eq (key_cmp q root) ≡ b → AtMostOne (has_root q) (set slots i image)
      by q true e = places.one_new (has_root q) slots i image (valid.apart q) (subst (λ k. slot_of_root k slots ≡ None) (same_root slots root i q e) none)
      by q false e = places.one_apart (has_root q) slots i image (valid.apart q) (rooted root image (record_has dbd.types root image r.whole) q ∙ e)

  pub slots_same : IsRecord dbd root image → slot_of_root root slots ≡ Some i → AreSlots dbd (set slots i image)
  slots_same r there =
      record {
        types = valid.types;
        count = length-set slots i image ∙ valid.count;
        each = all_set (IsSlot dbd) slots i image valid.each (is_slot dbd root image r);
        apart = λ q. by q (is_eq (key_cmp q root)) refl;
      }
    where
      by : (q : List ℕ) (b : Bool) → is_eq (key_cmp q root) ≡ b → AtMostOne (has_root q) (set slots i image)
      by q true e = places.one_same (has_root q) slots i image (valid.apart q) (subst (λ k. slot_of_root k slots ≡ Some i) (same_root slots root i q e) there)
      by q false e = places.one_apart (has_root q) slots i image (valid.apart q) (rooted root image (record_has dbd.types root image r.whole) q ∙ e)

pub slots_gone : (dbd : Dbd) (slots : List (List Row)) (i : ℕ) → AreSlots dbd slots → AreSlots dbd (set slots i [])
slots_gone dbd slots i valid =
    record {
      types = valid.types;
      count = length-set slots i [] ∙ valid.count;
      each = all_set (IsSlot dbd) slots i [] valid.each (inl refl);
      apart = λ q. places.one_apart (has_root q) slots i [] (valid.apart q) refl;
    }

-- the same of a slot that is free already
pub set_itself : {A : Type 0} (xs : List A) (i : ℕ) (x : A) → slice_get xs i ≡ Some x → set xs i x ≡ xs
set_itself [] i x e = refl
set_itself (y ∷ xs) zero x e = let same : Some y ≡ Some x = e in let parts : y ≡ x = cc in ap (λ z. z ∷ xs) (sym parts)
set_itself (y ∷ xs) (suc i) x e = ap (λ zs. y ∷ zs) (set_itself xs i x e)

free_image : (image : List Row) → is_slot_free image ≡ true → image ≡ []
free_image [] h = refl
free_image (row ∷ rows) h = absurd (false≢true h)

pub free_at : (slots : List (List Row)) (i : ℕ) → lowest_free slots ≡ Some i → slice_get slots i ≡ Some []
free_at slots i e = let found = places.place_passes is_slot_free slots i e in found.1 ∙ ap Some (free_image found.0 found.2)

-- what a set leaves, by whether its root is there
pub root_there : (root : List ℕ) (image : List Row) (slots : List (List Row)) (i : ℕ) → slot_of_root root slots ≡ Some i → with_root root image slots ≡ set slots i image
root_there root image slots i e = ap (λ o. with_image (first_slot_of o (lowest_free slots)) image slots) e

pub root_new : (root : List ℕ) (image : List Row) (slots : List (List Row)) (i : ℕ) → slot_of_root root slots ≡ None → lowest_free slots ≡ Some i → with_root root image slots ≡ set slots i image
root_new root image slots i e f = ap (λ o. with_image (first_slot_of o (lowest_free slots)) image slots) e ∙ ap (λ o. with_image o image slots) f

pub root_absent : (root : List ℕ) (slots : List (List Row)) → slot_of_root root slots ≡ None → with_root root [] slots ≡ slots
root_absent root slots e = ap (λ o. with_image (first_slot_of o (lowest_free slots)) [] slots) e ∙ by (lowest_free slots) refl
  where
    by : (o : Option ℕ) → lowest_free slots ≡ o → with_image (lowest_free slots) [] slots ≡ slots
    by None f = ap (λ o. with_image o [] slots) f
    by (Some i) f = ap (λ o. with_image o [] slots) f ∙ set_itself slots i [] (free_at slots i f)

pub rows_absent : (dbd : Dbd) (slots : List (List Row)) (root : List ℕ) → AllByRecursion (IsSlot dbd) slots → slot_of_root root slots ≡ None
    → rows_of_slots slots ≡ with_record root [] (rows_of_slots slots)
rows_absent dbd slots root h none =
    rows_gone dbd slots slots root h h
    (record {
      places = λ q. first q (is_eq (key_cmp q root)) refl;
      images = λ q. second q (is_eq (key_cmp q root)) refl;
    })
  where
    gone : (q : List ℕ) → is_eq (key_cmp q root) ≡ true → slot_of_root q slots ≡ None
    gone q e = subst (λ k. slot_of_root k slots ≡ None) (sym (exact_bytes q root (is_eq-true _ e))) none

    first : (q : List ℕ) (b : Bool) → is_eq (key_cmp q root) ≡ b → slot_of_root q slots ≡ cond (is_eq (key_cmp q root)) None (slot_of_root q slots)
    first q true e = gone q e ∙ sym (ap (λ b. cond b None (slot_of_root q slots)) e)
    first q false e = sym (ap (λ b. cond b None (slot_of_root q slots)) e)

    second : (q : List ℕ) (b : Bool) → is_eq (key_cmp q root) ≡ b → find (has_root q) slots ≡ cond (is_eq (key_cmp q root)) None (find (has_root q) slots)
    second q true e = places.find_none (has_root q) slots (gone q e) ∙ sym (ap (λ b. cond b None (find (has_root q) slots)) e)
    second q false e = sym (ap (λ b. cond b None (find (has_root q) slots)) e)

-- which refusal is due
module _ (dbd : Dbd) (slots : List (List Row)) (valid : AreSlots dbd slots) (root : List ℕ) (image : List Row) (some : image ≢ []) where
  some_length : (rows : List Row) → rows ≢ [] → eqb (length rows) 0 ≡ false
  some_length [] h = absurd (h refl)
  some_length (r ∷ rows) h = ne_eqb (length (r ∷ rows)) 0 (λ e. absurd (omega arith))

  pub passes_there : (i : ℕ) → slot_of_root root slots ≡ Some i → passes_roots dbd root image (rows_of_slots slots) ≡ false
  passes_there i e = λ t. not (some_length image some t) && there t && leb dbd.roots (length (roots (rows_of_slots slots)))
    where
      there : eqb (length (record_of root (rows_of_slots slots))) 0 ≡ false
      there =
          let found = places.place_passes (has_root root) slots i e in
          let is : record_of root (rows_of_slots slots) ≡ found.0 =
          slots_record dbd slots root valid.each ∙ ap (λ o. unwrap_or o []) (places.find_at (has_root root) slots i e ∙ found.1) in
          ap (λ rows. eqb (length rows) 0) is
          ∙ some_length found.0 (λ none. absurd (false≢true (sym (ap (has_root root) none) ∙ found.2)))

  passes_new : slot_of_root root slots ≡ None → passes_roots dbd root image (rows_of_slots slots) ≡ leb dbd.roots (length (entries_of slots))
  passes_new e =
      λ t. not (some_length image some t) && absent t && leb dbd.roots (roots_count dbd slots valid t)
    where
      absent : eqb (length (record_of root (rows_of_slots slots))) 0 ≡ true
      absent =
          eq-eqb (length (record_of root (rows_of_slots slots))) 0
          (ap length (slots_record dbd slots root valid.each ∙ ap (λ o. unwrap_or o []) (places.find_none (has_root root) slots e)))

  by_length : passes_roots dbd root image (rows_of_slots slots) ≡ false
      → set_refusal dbd root image (rows_of_slots slots) ≡ cond (passes_length dbd image) (Some RecordTooLong) None
  by_length e = cond-false (passes_roots dbd root image (rows_of_slots slots)) (Some RootLimit) (cond (passes_length dbd image) (Some RecordTooLong) None) e

  pub room_new : (i : ℕ) → slot_of_root root slots ≡ None → lowest_free slots ≡ Some i → passes_roots dbd root image (rows_of_slots slots) ≡ false
  room_new i e f = passes_new e ∙ lt-leb _ _ (omega (arith, entries_fewer slots i (free_at slots i f), valid.count))

  pub due_full : slot_of_root root slots ≡ None → lowest_free slots ≡ None → set_refusal dbd root image (rows_of_slots slots) ≡ Some RootLimit
  due_full e f =
      cond-true (passes_roots dbd root image (rows_of_slots slots)) (Some RootLimit) (cond (passes_length dbd image) (Some RecordTooLong) None)
      (passes_new e ∙ le-leb dbd.roots (length (entries_of slots)) (omega (arith, entries_full slots valid.apart f, valid.count)))

  pub due_long : passes_roots dbd root image (rows_of_slots slots) ≡ false → record_limit dbd < length (rows_spelling image)
      → set_refusal dbd root image (rows_of_slots slots) ≡ Some RecordTooLong
  due_long e long = by_length e ∙ cond-true (passes_length dbd image) (Some RecordTooLong) None (lt-ltb (record_limit dbd) (length (rows_spelling image)) long)

  pub due_fits : passes_roots dbd root image (rows_of_slots slots) ≡ false → length (rows_spelling image) ≤ record_limit dbd
      → set_refusal dbd root image (rows_of_slots slots) ≡ None
  due_fits e fits = by_length e ∙ cond-false (passes_length dbd image) (Some RecordTooLong) None (le-ltb (record_limit dbd) (length (rows_spelling image)) fits)

-- the slot of a record is one of them
pub slot_within : (root : List ℕ) (slots : List (List Row)) (i : ℕ) → slot_of_root root slots ≡ Some i → i < length slots
slot_within root slots i e = let found = places.place_passes (has_root root) slots i e in slice_get_within slots i found.0 found.1

-- the rows after a record came, or stands in place of another
pub rows_filled : (dbd : Dbd) (slots : List (List Row)) (root : List ℕ) (i : ℕ) (image : List Row) → AreSlots dbd slots → IsRecord dbd root image
    → slice_get slots i ≡ Some [] → slot_of_root root slots ≡ None → rows_of_slots (set slots i image) ≡ with_record root image (rows_of_slots slots)
rows_filled dbd slots root i image valid r g none =
    rows_new dbd slots (set slots i image) root i image valid.each (slots_new dbd slots root i image valid r none).each
    (new_leaves slots root i image g none (record_has dbd.types root image r.whole))

pub rows_replaced : (dbd : Dbd) (slots : List (List Row)) (root : List ℕ) (i : ℕ) (image : List Row) → AreSlots dbd slots → IsRecord dbd root image
    → slot_of_root root slots ≡ Some i → rows_of_slots (set slots i image) ≡ with_record root image (rows_of_slots slots)
rows_replaced dbd slots root i image valid r there =
    rows_new dbd slots (set slots i image) root i image valid.each (slots_same dbd slots root i image valid r there).each
    (same_leaves slots root i image there (record_has dbd.types root image r.whole))

-- slots that are all free
pub all_free_rows : (n : ℕ) → rows_of_slots (free_slots n) ≡ []
all_free_rows zero = refl
all_free_rows (suc n) = all_free_rows n

pub free_slots_valid : (dbd : Dbd) → IsHierarchy dbd.types → AreSlots dbd (free_slots dbd.roots)
free_slots_valid dbd types = record { types = types; count = count dbd.roots; each = each dbd.roots; apart = λ root. apart root dbd.roots }
  where
    count : (n : ℕ) → length (free_slots n) ≡ n
    count zero = refl
    count (suc n) = ap (λ m. suc m) (count n)

    each : (n : ℕ) → AllByRecursion (IsSlot dbd) (free_slots n)
    each zero = tt
    each (suc n) = (inl refl, each n)

    apart : (root : List ℕ) (n : ℕ) → AtMostOne (has_root root) (free_slots n)
    apart root zero = tt
    apart root (suc n) = (λ e. absurd (false≢true e), apart root n)

pub free_slots_none : (root : List ℕ) (n : ℕ) → slot_of_root root (free_slots n) ≡ None
free_slots_none root zero = refl
free_slots_none root (suc n) = ap (option_map (λ m. suc m)) (free_slots_none root n)

-- the root that an image tells
pub root_is : (image : List Row) (root : List ℕ) → record_root image ≡ Some root → image_root image ≡ root
root_is [] root e = let clash : None ≡ Some root = e in absurd (cc)
root_is (row ∷ rows) root e = by row.path e
  where
    by : (path : List (ℕ × List ℕ)) → option_map (λ p. p.1) (slice_get path 0) ≡ Some root → root_of path ≡ root
    by [] f = let clash : None ≡ Some root = f in absurd (cc)
    by (p ∷ path) f = let same : Some p.1 ≡ Some root = f in cc

-- the record of a root whose slot is known
module _ (dbd : Dbd) (slots : List (List Row)) (root : List ℕ) where
  pub record_there : (i : ℕ) (d : List Row) → AreSlots dbd slots → slot_of_root root slots ≡ Some i → record_of root (rows_of_slots slots) ≡ get_or slots i d
  record_there i d valid there =
      slots_record dbd slots root valid.each
      ∙ ap (λ o. unwrap_or o []) (places.find_at (has_root root) slots i there ∙ slice_get-get_or slots i d (slot_within root slots i there))

  pub record_some : (i : ℕ) → AreSlots dbd slots → slot_of_root root slots ≡ Some i → record_of root (rows_of_slots slots) ≢ []
  record_some i valid there none =
      let found = places.place_passes (has_root root) slots i there in
      let is : record_of root (rows_of_slots slots) ≡ found.0 =
      slots_record dbd slots root valid.each ∙ ap (λ o. unwrap_or o []) (places.find_at (has_root root) slots i there ∙ found.1) in
      false≢true (sym (ap (has_root root) (sym is ∙ none)) ∙ found.2)

  pub record_none : AreSlots dbd slots → slot_of_root root slots ≡ None → record_of root (rows_of_slots slots) ≡ []
  record_none valid absent = slots_record dbd slots root valid.each ∙ ap (λ o. unwrap_or o []) (places.find_none (has_root root) slots absent)

  -- what stood in its slot is its record
  pub record_was : (i : ℕ) (was : List Row) → AreSlots dbd slots → slot_of_root root slots ≡ Some i → slice_get slots i ≡ Some was → was ≡ record_of root (rows_of_slots slots)
  record_was i was valid there found = sym (get_or_from_slice_get slots i was was found) ∙ sym (record_there i was valid there)

-- slots without a record, by its slot
pub without_absent : (root : List ℕ) (slots : List (List Row)) → slot_of_root root slots ≡ None → slots ≡ without_root root slots
without_absent root [] e = refl
without_absent root (image ∷ slots) e =
    let q : has_root root image ≡ false = places.none_head (has_root root) image slots e in
    λ t. sym (ap (λ b. cond b [] image) q) t ∷ without_absent root slots (places.none_tail (has_root root) image slots e) t

pub without_there : (root : List ℕ) (slots : List (List Row)) (i : ℕ) → AtMostOne (has_root root) slots → slot_of_root root slots ≡ Some i → set slots i [] ≡ without_root root slots
without_there root [] i one e = refl
without_there root (image ∷ slots) zero one e =
    let q : has_root root image ≡ true = places.first_head (has_root root) image slots e in
    λ t. sym (ap (λ b. cond b [] image) q) t ∷ without_absent root slots (one.0 q) t
without_there root (image ∷ slots) (suc i) one e =
    let q : has_root root image ≡ false = places.later_head (has_root root) image slots i e in
    λ t. sym (ap (λ b. cond b [] image) q) t ∷ without_there root slots i one.1 (places.later_tail (has_root root) image slots i e) t
