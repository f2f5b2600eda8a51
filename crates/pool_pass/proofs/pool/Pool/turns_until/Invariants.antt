use Rattle.std.proofs.Common.{◌≡◌}
use Rattle.std.specs.Fn.{CalledAtMut}
use Rattle.pool_pass.specs.Passes.{IsPass}
use Rattle.pool_pass.proofs.Waiting.{IsWaiting}
use Rattle.pool_pass.proofs.pool.Pool.turns_until.Given as goal

abbrev pub invariant-loop : goal.invariant-loop
invariant-loop g l =
    (l.seat.table_id ≡ l.initial.seat.table_id) × IsPass l.seat.me
    × IsWaiting g.T.Listed.list (λ f x r h y. CalledAtMut g.F.FnMut f x r h y) l.initial.seat.me.0 l.initial.f l.seat.me.0 l.f
