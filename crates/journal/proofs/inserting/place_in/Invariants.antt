use Rattle.std.proofs.Common.{◌≡◌, ◌+◌}
use Rattle.std.specs.Prelude.{drop, map}
use Rattle.journal.specs.NumberedUnits.{numbered_unit, place_among_units}
use Rattle.journal.proofs.inserting.place_in.Given as goal

abbrev pub invariant-loop-place : goal.invariant-loop-place
invariant-loop-place l = l.place + place_among_units l.number (map numbered_unit (drop l.place l.units)) ≡ place_among_units l.number (map numbered_unit l.units)
