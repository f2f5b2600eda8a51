use Rattle.std.proofs.Common.{◌≡◌, ◌-◌, refl}
use Rattle.std.specs.List.{slice_get}
use Rattle.std.specs.Prelude.{IfSome}
use Rattle.model_data.specs.Rows.{record_of}
use Rattle.seg_store.specs.Slots.{rows_of_slots}
use Rattle.seg_store.specs.ChangedSlots.{stored}
use Rattle.program_rows.proofs.Makings.{set_done, set_left, put_left, had_there}
use Rattle.program_rows.proofs.making.set.Goals as goal

pub keep-requires-clause-before : goal.keep-requires-clause-before
keep-requires-clause-before c =
    had_there (slice_get c.args.opened.now.stores.stores (c.args.asked.now.number - 1)) (stored c.store-store.result.now)
    (λ s. IfSome c.in-Ok.prepared.image (λ image. image ≡ record_of c.args.edit.root (rows_of_slots s.slots))) c.store-store.ensures.stored_is c.in-Ok.ensures.image

pub returns-in-Ok-clause-set : goal.returns-in-Ok-clause-set
returns-in-Ok-clause-set c =
    set_done c.keep.result c.args.asked.now c.args.edit c.args.slot c.args.opened.now c.keep.new.opened c.take_unit-unit.result (stored c.store-store.result.now) c.take_unit-unit.new.units.items c.in-Ok.prepared
    c.take_unit-unit.ensures.taken c.take_unit-unit.ensures.left c.store-store.ensures.stored_is c.requires.takes c.requires.room c.in-Ok.ensures.touched
    c.keep.ensures.put c.keep.ensures.units c.keep.ensures.order c.keep.ensures.marks c.keep.ensures.asked

pub returns-in-Ok-clause-kept : goal.returns-in-Ok-clause-kept
returns-in-Ok-clause-kept c =
    set_left c.keep.result c.args.asked.now.region c.args.opened.now c.keep.new.opened c.take_unit-unit.result c.take_unit-unit.new.units.items c.in-Ok.prepared
    c.take_unit-unit.ensures.taken c.take_unit-unit.ensures.left c.in-Ok.ensures.unit c.keep.ensures.left c.keep.ensures.stores c.keep.ensures.changed c.keep.ensures.table

pub returns-in-Err-clause-kept : goal.returns-in-Err-clause-kept
returns-in-Err-clause-kept c =
    put_left c.args.asked.now.region c.args.opened.now (record { units = c.put_unit.new.units; stores = c.args.opened.now.stores; table = c.args.opened.now.table })
    c.take_unit-unit.result c.in-Err.unit c.take_unit-unit.new.units.items c.take_unit-unit.ensures.taken c.take_unit-unit.ensures.left c.in-Err.ensures.kept c.put_unit.ensures refl refl refl
