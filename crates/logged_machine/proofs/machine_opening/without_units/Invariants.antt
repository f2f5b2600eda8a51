-- the regions so far have no unit
use Rattle.std.proofs.Common.{◌≡◌, replicate}
use Rattle.logged_machine.proofs.machine_opening.without_units.Given as goal

abbrev pub invariant-loop-place : goal.invariant-loop-place
invariant-loop-place l = l.units.items ≡ replicate l._place 0
