-- The rows of stores in which the image in one slot has changed.
use Rattle.std.proofs.Common.{◌≡◌, ◌≢◌, ℕ, ◌-◌, ◌<◌, ◌≤◌, ◌∷◌, [], List, length, zero, suc, refl, sym, ◌∙◌, ap, subst, Bool, true, false, None, Some, arith, get_or, set, ◌⊎◌, ⊎_elim}
use Rattle.std.specs.List.{slice_get}
use Rattle.std.specs.Option.{option_map}
use Rattle.std.proofs.lemmas.Bool.{false≢true, cases_eq}
use Rattle.std.proofs.lemmas.List.{length-set, length-map}
use Rattle.std.proofs.lemmas.Option.{slice_get-get_or}
use Rattle.tm_types.specs.declared.dbd.Dbd.{Dbd}
use Rattle.model_data.specs.declared.row.Row.{Row}
use Rattle.model_data.specs.Record.{IsRecord}
use Rattle.model_data.specs.Rows.{with_record}
use Rattle.seg_store.specs.Slots.{Stored, has_root, place_of, AtMostOne, AreSlots, slot_of_root, rows_of_slots}
use Rattle.seg_store.proofs.Places as places
use Rattle.seg_store.proofs.SlotRows as slot_rows
use Rattle.program_rows.specs.DatabasesState.{rows_of_stores, database_rows_in}
use Rattle.unit_work.specs.Images.{slots_of_database}
use Rattle.program_rows.proofs.Backed.{rows_in_is}
use Rattle.program_rows.proofs.OneSlot.{OneSlot}
use Rattle.program_rows.proofs.Seen.{same_list, get_put, get_put_else}

-- the place of the only image that passes
pub place_at : (test : List Row → Bool) (xs : List (List Row)) (m : ℕ) → AtMostOne test xs → m < length xs → test (get_or xs m []) ≡ true → place_of test xs ≡ Some m
place_at test [] m one lt e = absurd (omega arith)
place_at test (x ∷ xs) zero one lt e = places.place_head test x xs e
place_at test (x ∷ xs) (suc m) one lt e =
    places.place_tail test x xs (by (test x) refl) ∙ ap (option_map (λ n. suc n)) (place_at test xs m one.1 (omega arith) e)
  where
    by : (b : Bool) → test x ≡ b → test x ≡ false
    by false q = q
    by true q = absurd (false≢true (sym (places.none_passes test xs (one.0 q) m (get_or xs m []) (slice_get-get_or xs m [] (omega arith))) ∙ e))

-- the image that comes into a slot is of this root, and so is the one that it replaces, or there is none
pub record Replaces (dbd : Dbd) (root : List ℕ) (slots : List (List Row)) (slot : ℕ) (image : List Row) : Type 0 where
  pub whole : (image ≡ []) ⊎ IsRecord dbd root image
  pub there : (has_root root (get_or slots slot []) ≡ true) ⊎ ((get_or slots slot [] ≡ []) × (slot_of_root root slots ≡ None) × (image ≢ []))

rows_put : (dbd : Dbd) (root : List ℕ) (slots : List (List Row)) (slot : ℕ) (image : List Row) → AreSlots dbd slots → slot < length slots → Replaces dbd root slots slot image
    → rows_of_slots (set slots slot image) ≡ with_record root image (rows_of_slots slots)
rows_put dbd root slots slot image valid lt h =
    ⊎_elim
    (λ has.
    let place : slot_of_root root slots ≡ Some slot = place_at (has_root root) slots slot (valid.apart root) lt has in
    ⊎_elim
    (λ none.
    subst (λ (x : List Row). rows_of_slots (set slots slot x) ≡ with_record root x (rows_of_slots slots)) (sym none)
    (slot_rows.rows_gone dbd slots (set slots slot []) root valid.each (slot_rows.slots_gone dbd slots slot valid).each (slot_rows.gone_leaves slots root slot valid.apart place)))
    (λ r. slot_rows.rows_replaced dbd slots root slot image valid r place) h.whole)
    (λ free.
    let empty : slice_get slots slot ≡ Some [] = slice_get-get_or slots slot [] lt ∙ ap Some free.0 in
    ⊎_elim (λ none. absurd (free.2 none)) (λ r. slot_rows.rows_filled dbd slots root slot image valid r empty free.1) h.whole) h.there

module _ (number slot : ℕ) (was image : List Row) (old new : List Stored) (one : OneSlot number slot was image old new) where
  slots_else : (db : ℕ) → 1 ≤ db → db ≢ number → slots_of_database db new ≡ slots_of_database db old
  slots_else db some other = same_list [] (slots_of_database db new) (slots_of_database db old) (one.lengths db some) (λ m lt. one.else db m some (λ d p. other d))

  slots_here : slots_of_database number new ≡ set (slots_of_database number old) slot image
  slots_here =
      same_list [] (slots_of_database number new) (set (slots_of_database number old) slot image) (one.lengths number one.least ∙ sym (length-set (slots_of_database number old) slot image))
      (λ m lt.
      ⊎_elim
      (λ same. ap (λ k. get_or (slots_of_database number new) k []) same
      ∙ (one.here ∙ sym (ap (λ k. get_or (set (slots_of_database number old) slot image) k []) same ∙ get_put (slots_of_database number old) slot image [] one.within)))
      (λ other. one.else number m one.least (λ d p. other p) ∙ sym (get_put_else (slots_of_database number old) slot m image [] other)) (cases_eq m slot))

  stores_count : length new ≡ length old
  stores_count = sym (length-map new (λ (s : Stored). s.dbd)) ∙ (ap length one.dbds ∙ length-map old (λ (s : Stored). s.dbd))

  -- the rows: one record has another image
  pub one_rows : (dbd : Dbd) (root : List ℕ) → AreSlots dbd (slots_of_database number old) → Replaces dbd root (slots_of_database number old) slot image
      → rows_of_stores new ≡ set (rows_of_stores old) (number - 1) (with_record root image (database_rows_in number (rows_of_stores old)))
  one_rows dbd root valid replaces =
      same_list [] (rows_of_stores new) (set (rows_of_stores old) (number - 1) (with_record root image (database_rows_in number (rows_of_stores old))))
      (length-map new (λ (s : Stored). rows_of_slots s.slots)
      ∙ (stores_count ∙ sym (length-set (rows_of_stores old) (number - 1) (with_record root image (database_rows_in number (rows_of_stores old))) ∙ length-map old (λ (s : Stored). rows_of_slots s.slots))))
      (λ k lt.
      let number_of : suc k - 1 ≡ k = omega arith in
      let new_is : get_or (rows_of_stores new) k [] ≡ rows_of_slots (slots_of_database (suc k) new) = ap (λ i. get_or (rows_of_stores new) i []) (sym number_of) ∙ rows_in_is (suc k) new in
      ⊎_elim
      (λ same.
      let place : k ≡ number - 1 = omega (arith, same) in
      let inside : number - 1 < length (rows_of_stores old) = omega (arith, lt, place, length-map new (λ (s : Stored). rows_of_slots s.slots), length-map old (λ (s : Stored). rows_of_slots s.slots), stores_count) in
      new_is
      ∙ (ap (λ n. rows_of_slots (slots_of_database n new)) same
      ∙ (ap rows_of_slots slots_here
      ∙ (rows_put dbd root (slots_of_database number old) slot image valid one.within replaces
      ∙ (ap (with_record root image) (sym (rows_in_is number old))
      ∙ sym (ap (λ i. get_or (set (rows_of_stores old) (number - 1) (with_record root image (database_rows_in number (rows_of_stores old)))) i []) place
      ∙ get_put (rows_of_stores old) (number - 1) (with_record root image (database_rows_in number (rows_of_stores old))) [] inside))))))
      (λ other.
      let apart : k ≢ number - 1 = λ e. other (omega (arith, e, one.least)) in
      new_is
      ∙ (ap rows_of_slots (slots_else (suc k) (omega arith) other)
      ∙ (sym (ap (λ i. get_or (rows_of_stores old) i []) (sym number_of) ∙ rows_in_is (suc k) old)
      ∙ sym (get_put_else (rows_of_stores old) (number - 1) k (with_record root image (database_rows_in number (rows_of_stores old))) [] apart)))) (cases_eq (suc k) number))
