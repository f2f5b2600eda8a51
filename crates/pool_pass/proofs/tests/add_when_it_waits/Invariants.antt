use Rattle.std.proofs.Common.{◌≡◌}
use Rattle.pool_pass.specs.Passes.{with_list}
use Rattle.pool_pass.proofs.tests.add_when_it_waits.Given as goal

abbrev pub invariant-loop : goal.invariant-loop
invariant-loop g l = l.pass ≡ with_list l.initial.pass l.pass.list
