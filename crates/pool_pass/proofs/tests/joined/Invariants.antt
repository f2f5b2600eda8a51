use Rattle.std.proofs.Common.{◌≡◌, ◌+◌, length}
use Rattle.pool_pass.specs.Passes.{kept}
use Rattle.pool_pass.proofs.tests.joined.Given as goal

-- the passes that were joined, and those that are still to be
abbrev pub invariant-loop-turns : goal.invariant-loop-turns
invariant-loop-turns g l = (l.pass.passes ≡ g.row.ALL) × (length (kept l.pass) + length l.ended.items ≡ g.row.ALL)

abbrev pub decreases-loop-turns : goal.decreases-loop-turns
decreases-loop-turns g l = length l.ended.items
