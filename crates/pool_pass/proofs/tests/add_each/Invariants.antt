use Rattle.std.proofs.Common.{◌≡◌}
use Rattle.pool_pass.specs.Passes.{with_list}
use Rattle.pool_pass.proofs.tests.add_each.Given as goal

abbrev pub invariant-loop-call : goal.invariant-loop-call
invariant-loop-call g l = l.pass ≡ with_list l.initial.pass l.pass.list
