use Rattle.std.proofs.Common.{◌≡◌, ◌≤◌, ◌-◌, ◌++◌, map, length}
use Rattle.std.specs.List.{All}
use Rattle.std.specs.Vec.{vec_capacity}
use Rattle.pool_pass.specs.Passes.{pass_of, passes_from, IsPass}
use Rattle.pool_pass.proofs.pool.make_passes.Given as goal

-- the passes made, and then those that are still to be made, are all passes
abbrev pub invariant-loop : goal.invariant-loop
invariant-loop g l =
    (l.maker.table_id ≡ l.initial.maker.table_id)
    × (l.maker.me ≡ (record l.initial.maker.me.0 { to_make = l.left - l.counter }, l.initial.maker.me.1))
    × (map (λ seat. pass_of seat.me.0) l.seats.items ++ passes_from l.initial.maker.me.0.passes (l.initial.maker.me.0.passes - (l.left - l.counter)) (l.left - l.counter) ≡ passes_from l.initial.maker.me.0.passes (l.initial.maker.me.0.passes - l.left) l.left)
    × All (λ seat. (seat.table_id ≡ l.initial.maker.table_id) × IsPass seat.me) l.seats.items
    × (length l.seats.items ≡ l.counter) × (vec_capacity l.seats ≡ vec_capacity l.initial.seats) × (l.counter ≤ l.left)
