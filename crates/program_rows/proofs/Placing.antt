-- The slot that a record takes: the image that stands there, and what is told of it.
use Rattle.std.proofs.Common.{◌≡◌, ℕ, ◌-◌, ◌<◌, ◌≤◌, ◌++◌, ◌∷◌, [], List, length, map, refl, sym, ◌∙◌, ap, subst, Some, get_or, take}
use Rattle.std.specs.List.{slice_get}
use Rattle.std.specs.Prelude.{IfSome}
use Rattle.std.proofs.lemmas.Option.{slice_get_within, slice_get-get_or}
use Rattle.tm_types.specs.declared.dbd.Dbd.{Dbd}
use Rattle.model_data.specs.declared.row.Row.{Row}
use Rattle.model_data.specs.Record as rows
use Rattle.model_data.specs.Rows.{record_of}
use Rattle.seg_store.specs.Slots.{Stored, slot_for, rows_of_slots}
use Rattle.dli_calls.specs.declared.planned.Edit.{Edit}
use Rattle.log_records.specs.declared.record.Record.{Record}
use Rattle.log_records.specs.declared.record.Record.TheVariants as told
use Rattle.unit_work.specs.Images.{image_at}
use Rattle.program_rows.specs.PlannedChanges.{TakesSlot, edit_told}
use Rattle.log_records.specs.ToldRecords.{spelled_records, TellsInRoom}
use Rattle.program_rows.specs.ToldChanges.{set_told}
use Rattle.program_rows.proofs.Aside.{slots_there}
use Rattle.program_rows.proofs.Setting.{taken, dbd_there}
use Rattle.program_rows.proofs.Stepping.{has_slot}
use Rattle.program_rows.proofs.ToldBack.{short_image, short_edit}

module _ (stores : List Stored) (number slot : ℕ) (e : Edit) (dbd : Dbd) (database : slice_get (map (λ (s : Stored). s.dbd) stores) (number - 1) ≡ Some dbd)
    (takes : IfSome (slice_get stores (number - 1)) (λ s. TakesSlot s e slot)) (sectors : dbd.sectors ≤ 8) (k : Stored) (at : slice_get stores (number - 1) ≡ Some k) where
  takes_it : TakesSlot k e slot
  takes_it = taken (λ s. TakesSlot s e slot) (slice_get stores (number - 1)) k at takes

  few_sectors : k.dbd.sectors ≤ 8
  few_sectors = subst (λ (d : Dbd). d.sectors ≤ 8) (sym (dbd_there stores (number - 1) k dbd at database)) sectors

  stands : slice_get k.slots slot ≡ Some (record_of e.root (rows_of_slots k.slots))
  stands = (has_slot number e.root slot k takes_it.valid takes_it.place).at

  pub slot_within : slot < length k.slots
  slot_within = slice_get_within k.slots slot (record_of e.root (rows_of_slots k.slots)) stands

  pub short_before : (image : List Row) → slice_get k.slots slot ≡ Some image → length (rows.rows_spelling image) ≤ 32000
  short_before image there = short_image k.dbd k.slots slot image takes_it.valid few_sectors there

  pub short_after : length (rows.rows_spelling e.image) ≤ 32000
  short_after = short_edit k.dbd e.root e.image (rows_of_slots k.slots) few_sectors takes_it.accepted

  pub told_is : (unit : ℕ) (image : List Row) → slice_get k.slots slot ≡ Some image
      → told.Change unit number slot (rows.rows_spelling image) (rows.rows_spelling e.image) ∷ [] ≡ edit_told unit number (Some e) stores
  told_is unit image there =
      let slots = slots_there number stores k at in
      let both : Some (get_or k.slots slot []) ≡ Some image = sym (slice_get-get_or k.slots slot [] slot_within) ∙ there in
      let same : get_or k.slots slot [] ≡ image = cc in
      let is : image_at number slot stores ≡ image = ap (λ (xs : List (List Row)). get_or xs slot []) slots ∙ same in
      sym (ap (set_told unit number e.image stores) (ap (slot_for e.root) slots ∙ takes_it.place)
      ∙ ap (λ before. told.Change unit number slot (rows.rows_spelling before) (rows.rows_spelling e.image) ∷ []) is)

-- what is told is taken back by its length
pub told_back : (old now : List ℕ) (records : List Record) (room n : ℕ) → TellsInRoom records room old now → n ≡ length old → take n now ≡ old
told_back old now records room n t e = ap (λ m. take m now) e ∙ (ap (take (length old)) t.told ∙ front old (spelled_records records))
  where
    front : (xs ys : List ℕ) → take (length xs) (xs ++ ys) ≡ xs
    front [] ys = refl
    front (x ∷ xs) ys = ap (λ zs. x ∷ zs) (front xs ys)
