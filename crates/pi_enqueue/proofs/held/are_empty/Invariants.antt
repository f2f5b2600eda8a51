use Rattle.std.proofs.Common.{take}
use Rattle.pi_enqueue.specs.Lists.{AreEmpty}
use Rattle.pi_enqueue.proofs.held.are_empty.Given as goal

abbrev pub invariant-loop-list : goal.invariant-loop-list
invariant-loop-list l = AreEmpty (take l.list-index l.lists)
