-- The limit of the database that an edit passes.
use Rattle.std.proofs.Common.{◌≡◌, ◌≢◌, ℕ, ◌≤◌, ◌<◌, ◌∷◌, [], List, length, refl, sym, ap, ◌∙◌, false, Option, None, Some, arith}
use Rattle.std.proofs.lemmas.Bool.{cond-false, le-ltb}
use Rattle.tm_types.specs.declared.dbd.Dbd.{Dbd}
use Rattle.model_data.specs.declared.row.Row.{Row}
use Rattle.model_data.specs.Record.{rows_spelling, record_limit}
use Rattle.model_data.specs.Rows.{record_of, passes_roots, passes_length}
use Rattle.model_data.specs.declared.call.RowsLimit.TheVariants.{Roots, RecordLength}
use Rattle.seg_rows.specs.RowsRefused.{set_refusal}
use Rattle.seg_rows.specs.declared.rows.RowsRefused.TheVariants.{RecordTooLong}
use Rattle.seg_store.specs.Slots.{AreSlots, slot_of_root, slot_for, lowest_free, first_slot_of, rows_of_slots}
use Rattle.seg_store.proofs.SlotRows.{passes_there, record_none, room_new, due_full, due_long, due_fits}
use Rattle.dli_calls.specs.declared.planned.Edit.{Edit}
use Rattle.dli_calls.specs.CallPlan.{IsThere, limit_of}

none_of : (a b : Option ℕ) → first_slot_of a b ≡ None → a ≡ None
none_of None b e = refl
none_of (Some n) b e = absurd (cc)

module _ (dbd : Dbd) (slots : List (List Row)) (valid : AreSlots dbd slots) (root : List ℕ) where
  -- a record that takes a slot passes no limit of roots
  within_roots : (image : List Row) → image ≢ [] → (slot : ℕ) → slot_for root slots ≡ Some slot → passes_roots dbd root image (rows_of_slots slots) ≡ false
  within_roots image some slot e = by (slot_of_root root slots) refl
    where
      by : (o : Option ℕ) → slot_of_root root slots ≡ o → passes_roots dbd root image (rows_of_slots slots) ≡ false
      by None q = room_new dbd slots valid root image some slot q (sym (ap (λ o. first_slot_of o (lowest_free slots)) q) ∙ e)
      by (Some j) q = passes_there dbd slots valid root image some j q

  -- one that takes none passes it
  pub past_roots : (image : List Row) → image ≢ [] → slot_for root slots ≡ None → limit_of (set_refusal dbd root image (rows_of_slots slots)) ≡ Some Roots
  past_roots image some e = by (slot_of_root root slots) refl
    where
      by : (o : Option ℕ) → slot_of_root root slots ≡ o → limit_of (set_refusal dbd root image (rows_of_slots slots)) ≡ Some Roots
      by None q = ap limit_of (due_full dbd slots valid root image some q (sym (ap (λ o. first_slot_of o (lowest_free slots)) q) ∙ e))
      by (Some j) q = let clash : Some j ≡ None = sym (ap (λ o. first_slot_of o (lowest_free slots)) q) ∙ e in absurd (cc)

  -- an edit that takes no slot adds a record, since one that is removed is there
  pub past_slots : (edit : Edit) → IsThere (rows_of_slots slots) (Some edit) → edit.root ≡ root → slot_for root slots ≡ None
      → limit_of (set_refusal dbd root edit.image (rows_of_slots slots)) ≡ Some Roots
  past_slots edit there same e =
      past_roots edit.image (λ empty. there empty (ap (λ k. record_of k (rows_of_slots slots)) same ∙ record_none dbd slots root valid (none_of (slot_of_root root slots) (lowest_free slots) e))) e

  pub past_length : (image : List Row) (slot : ℕ) → slot_for root slots ≡ Some slot → record_limit dbd < length (rows_spelling image)
      → limit_of (set_refusal dbd root image (rows_of_slots slots)) ≡ Some RecordLength
  past_length [] slot e long = absurd (omega arith)
  past_length (row ∷ image) slot e long =
      let some : row ∷ image ≢ [] = λ q. absurd (cc) in
      ap limit_of (due_long dbd slots valid root (row ∷ image) some (within_roots (row ∷ image) some slot e) long)

  pub within_limits : (image : List Row) (slot : ℕ) → slot_for root slots ≡ Some slot → length (rows_spelling image) ≤ record_limit dbd
      → set_refusal dbd root image (rows_of_slots slots) ≡ None
  within_limits [] slot e fits = cond-false (passes_length dbd []) (Some RecordTooLong) None (le-ltb (record_limit dbd) (length (rows_spelling [])) fits)
  within_limits (row ∷ image) slot e fits =
      let some : row ∷ image ≢ [] = λ q. absurd (cc) in
      due_fits dbd slots valid root (row ∷ image) some (within_roots (row ∷ image) some slot e) fits
