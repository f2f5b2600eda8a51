use Rattle.std.proofs.Common.{◌≡◌, List, Some, None, sym, subst, ap, ◌∙◌}
use Rattle.std.specs.Prelude.{IfSome}
use Rattle.model_data.specs.Rows.{IsImage}
use Rattle.seg_rows.specs.RowsRefused.{set_refusal}
use Rattle.seg_store.specs.Slots.{rows_of_slots}
use Rattle.model_data.specs.declared.row.Row.{Row}
use Rattle.dli_calls.specs.CallPlan.{IsThere, limit_of}
use Rattle.seg_store.specs.ChangedSlots.{stored}
use Rattle.program_rows.specs.PlannedChanges.{TakesSlot, changed_in}
use Rattle.program_rows.proofs.Setting.{is_stored, dbd_there, full_abend, limit_is, rows_at_is}
use Rattle.program_rows.proofs.Makings.{unit_full, untold_edit}
use Rattle.program_rows.proofs.making.change.Goals as goal

pub returns-then-is_full-clause-abend : goal.returns-then-is_full-clause-abend
returns-then-is_full-clause-abend c =
    sym (full_abend c.args.asked.now.number c.args.dbd.now c.args.edit (changed_in c.args.asked.now.region c.args.opened.now) c.args.opened.now.stores.stores
    (unit_full c.args.asked.now.number c.args.edit.root c.args.asked.now.region c.args.opened.now c.deref.result.now c.unit_of.result.now c.is_full.result
    c.deref.ensures.value c.unit_of.ensures c.is_full.ensures ∙ c.if-is_full.true))

pub store-requires-clause-most : goal.store-requires-clause-most
store-requires-clause-most c = is_stored c.args.asked.now.number c.args.opened.now.stores.stores c.args.dbd.now c.requires.number c.requires.database

pub slot_to_take-requires-clause-database : goal.slot_to_take-requires-clause-database
slot_to_take-requires-clause-database c = dbd_there c.args.opened.now.stores.stores _ (stored c.store.result.now) c.args.dbd.now c.store.ensures.stored_is c.requires.database

pub tell_and_set-requires-clause-takes : goal.tell_and_set-requires-clause-takes
tell_and_set-requires-clause-takes c =
    let dbd : c.store.result.now.dbd ≡ c.args.dbd.now = dbd_there c.args.opened.now.stores.stores _ (stored c.store.result.now) c.args.dbd.now c.store.ensures.stored_is c.requires.database in
    let takes : TakesSlot (stored c.store.result.now) c.args.edit c.in-Ok.slot =
    record {
      valid = c.slot_to_take.ensures.valid;
      place = c.in-Ok.ensures.slot;
      image = subst (λ d. IsImage d c.args.edit.root c.args.edit.image) (sym dbd) c.requires.image;
      accepted = ap (λ d. set_refusal d c.args.edit.root c.args.edit.image (rows_of_slots c.store.result.now.slots)) dbd ∙ c.in-Ok.ensures.accepted;
    } in
    subst (λ o. IfSome o (λ s. TakesSlot s c.args.edit c.in-Ok.slot)) (sym c.store.ensures.stored_is) takes

pub tell_and_set-requires-clause-room : goal.tell_and_set-requires-clause-room
tell_and_set-requires-clause-room c =
    unit_full c.args.asked.now.number c.args.edit.root c.args.asked.now.region c.args.opened.now c.deref.result.now c.unit_of.result.now c.is_full.result
    c.deref.ensures.value c.unit_of.ensures c.is_full.ensures ∙ c.if-is_full.false

pub returns-in-Ok-tell_and_set-clause-abend : goal.returns-in-Ok-tell_and_set-clause-abend
returns-in-Ok-tell_and_set-clause-abend c =
    sym (limit_is c.args.asked.now.number c.args.dbd.now c.args.edit (changed_in c.args.asked.now.region c.args.opened.now) c.args.opened.now.stores.stores (stored c.store.result.now) None
    (unit_full c.args.asked.now.number c.args.edit.root c.args.asked.now.region c.args.opened.now c.deref.result.now c.unit_of.result.now c.is_full.result
    c.deref.ensures.value c.unit_of.ensures c.is_full.ensures ∙ c.if-is_full.false) c.store.ensures.stored_is
    (ap limit_of c.in-Ok.ensures.accepted))

pub returns-in-Err-clause-abend : goal.returns-in-Err-clause-abend
returns-in-Err-clause-abend c =
    ap Some c.limit_abend.ensures
    ∙ sym (limit_is c.args.asked.now.number c.args.dbd.now c.args.edit (changed_in c.args.asked.now.region c.args.opened.now) c.args.opened.now.stores.stores (stored c.store.result.now) (Some c.in-Err.limit)
    (unit_full c.args.asked.now.number c.args.edit.root c.args.asked.now.region c.args.opened.now c.deref.result.now c.unit_of.result.now c.is_full.result
    c.deref.ensures.value c.unit_of.ensures c.is_full.ensures ∙ c.if-is_full.false) c.store.ensures.stored_is
    c.in-Err.ensures.refused)

pub slot_to_take-requires-clause-there : goal.slot_to_take-requires-clause-there
slot_to_take-requires-clause-there c =
    subst (λ (rows : List Row). IsThere rows (Some c.args.edit)) (rows_at_is c.args.asked.now.number c.args.opened.now.stores.stores (stored c.store.result.now) c.store.ensures.stored_is) c.requires.there

pub returns-in-Err-tell_and_set-clause-full : goal.returns-in-Err-tell_and_set-clause-full
returns-in-Err-tell_and_set-clause-full c =
    untold_edit c.args.asked.now c.args.dbd.now c.args.edit c.args.opened.now c.args.telling.now.unit c.args.telling.now.room c.in-Err-tell_and_set.error
    (limit_is c.args.asked.now.number c.args.dbd.now c.args.edit (changed_in c.args.asked.now.region c.args.opened.now) c.args.opened.now.stores.stores (stored c.store.result.now) None
    (unit_full c.args.asked.now.number c.args.edit.root c.args.asked.now.region c.args.opened.now c.deref.result.now c.unit_of.result.now c.is_full.result
    c.deref.ensures.value c.unit_of.ensures c.is_full.ensures ∙ c.if-is_full.false) c.store.ensures.stored_is
    (ap limit_of c.in-Ok.ensures.accepted)) c.in-Err-tell_and_set.ensures.full
