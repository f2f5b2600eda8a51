use Rattle.std.proofs.Common.{◌≡◌}
use Rattle.pi_enqueue.specs.Lists.{before_all}
use Rattle.pi_enqueue.proofs.holds.take_back.Given as goal

abbrev pub invariant-loop-change : goal.invariant-loop-change
invariant-loop-change l = before_all l.changes.items l.holds.entries ≡ before_all l.fn.changes.items l.fn.holds.entries

abbrev pub decreases-loop-change : goal.decreases-loop-change
decreases-loop-change l = goal.left-loop-change l
