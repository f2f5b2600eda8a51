use Rattle.std.proofs.Common.{◌≡◌, ◌-◌}
use Rattle.std.specs.List.{slice_get}
use Rattle.model_data.specs.Rows.{record_of}
use Rattle.seg_store.specs.ChangedSlots.{stored}
use Rattle.seg_store.specs.Slots.{rows_of_slots}
use Rattle.program_rows.proofs.Makings.{had_there}
use Rattle.program_rows.proofs.Slotted.{marks_set, own_marked}
use Rattle.program_rows.proofs.making.put_record.Goals as goal

pub returns-clause-marks : goal.returns-clause-marks
returns-clause-marks c = record {
  told = λ unit.
      marks_set unit c.args.stores.now c.args.number c.store_mut.result.now c.exchange.new.self c.requires.least c.store_mut.ensures.value c.args.edit.root c.args.edit.image
      c.in-Ok.ensures.changed c.in-Ok.ensures.slots;
  own = own_marked 0 c.args.stores.now c.args.number c.store_mut.result.now c.exchange.new.self c.requires.least c.store_mut.ensures.value c.args.edit.root c.args.edit.image
      c.in-Ok.ensures.changed c.in-Ok.ensures.slots;
}

pub returns-clause-before : goal.returns-clause-before
returns-clause-before c =
    had_there (slice_get c.args.stores.now.stores (c.args.number - 1)) (stored c.store_mut.result.now) (λ s. c.in-Ok.before ≡ record_of c.args.edit.root (rows_of_slots s.slots))
    c.store_mut.ensures.value.stored_is c.in-Ok.ensures.was
