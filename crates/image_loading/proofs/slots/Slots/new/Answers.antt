use Rattle.std.proofs.Common.{sym, subst}
use Rattle.image_loading.proofs.Slotted.{Ascends, ascends_none}
use Rattle.image_loading.proofs.slots.Slots.new.Goals as goal

pub invariant_of-result : goal.invariant_of-result
invariant_of-result c = subst Ascends (sym c.new.ensures.items) ascends_none
