use Rattle.std.proofs.Common.{refl}
use Rattle.unit_work.specs.BackOut.{was_in}
use Rattle.unit_work.proofs.Backing.{back_none, was_there}
use Rattle.unit_work.proofs.Marking.{marks_none, marks_one, not_free, back_marked, back_no_mark}
use Rattle.unit_work.proofs.unit.put_one.Goals as goal

pub returns-then-is_empty-clause-stores : goal.returns-then-is_empty-clause-stores
returns-then-is_empty-clause-stores c = back_none c.args.change c.args.stores.now.stores (c.is_empty.ensures.0 c.if-is_empty.true)

pub returns-then-is_empty-clause-marks : goal.returns-then-is_empty-clause-marks
returns-then-is_empty-clause-marks c = marks_none (λ db slot. was_in db slot c.args.change) c.args.stores.now

pub returns-clause-marks : goal.returns-clause-marks
returns-clause-marks c =
    marks_one (λ db slot. was_in db slot c.args.change) c.args.stores.now c.args.change.db c.store_mut-store.result.now c.put_back.new.self c.requires.stored.least
    c.store_mut-store.ensures.value c.args.change.slot c.put_back.ensures.changed c.args.change.before c.put_back.ensures.slots
    (was_there c.args.change c.args.change.db c.args.change.slot refl refl (not_free c.args.change.before c.is_empty.result c.is_empty.ensures.1 c.if-is_empty.false))

pub returns-then-is_empty-clause-all_marked : goal.returns-then-is_empty-clause-all_marked
returns-then-is_empty-clause-all_marked c = back_no_mark c.args.stores.now c.args.change (c.is_empty.ensures.0 c.if-is_empty.true)

pub returns-clause-all_marked : goal.returns-clause-all_marked
returns-clause-all_marked c =
    back_marked c.args.stores.now c.args.change c.store_mut-store.result.now c.put_back.new.self c.requires.stored.least c.store_mut-store.ensures.value c.put_back.ensures.changed
