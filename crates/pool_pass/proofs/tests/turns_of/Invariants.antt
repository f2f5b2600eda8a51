use Rattle.std.proofs.Common.{◌≡◌, ◌+◌, [], length}
use Rattle.std.specs.List.{All}
use Rattle.pool_pass.proofs.tests.turns_of.Given as goal

abbrev pub invariant-loop-pass : goal.invariant-loop-pass
invariant-loop-pass g l = (length l.turns.items + length l.passes ≡ g.row.ALL) × All (λ pass. (pass.passes ≡ g.row.ALL) × (pass.joined ≡ [])) l.passes

abbrev pub decreases-loop-pass : goal.decreases-loop-pass
decreases-loop-pass g l = length l.passes
