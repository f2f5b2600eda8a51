use Rattle.std.proofs.Common.{List, sym, subst}
use Rattle.checkpointing.specs.declared.touches.OpenUnit.{OpenUnit}
use Rattle.checkpointing.specs.Touches.{AreAllSpelled}
use Rattle.tm_machine.specs.SlotChanges.{slots_now}
use Rattle.logged_machine.proofs.WritableParts.{writable}
use Rattle.logged_machine.proofs.Spelled.{may_spell}
use Rattle.logged_machine.proofs.snapshots.snapshot.Goals as goal

pub spell-requires-clause-writable : goal.spell-requires-clause-writable
spell-requires-clause-writable c = writable c.args.parts.now c.args.units.now c.args.next_unit c.requires.carried.0 c.requires.carried.1 c.stores-stores.ensures.has

pub spell-requires-clause-spelled : goal.spell-requires-clause-spelled
spell-requires-clause-spelled c =
    subst (λ (l : List OpenUnit). AreAllSpelled (slots_now c.args.parts.now).stores l) (sym c.as_slice.ensures.value)
    (may_spell c.args.parts.now c.args.units.now c.args.next_unit c.stores-stores.ensures.has c.requires.carried c.requires.counted c.in_ok-opened.opened.items c.in_ok-opened.ensures).spelled
