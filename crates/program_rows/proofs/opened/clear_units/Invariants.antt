use Rattle.std.proofs.Common.{◌≡◌, ◌++◌, drop}
use Rattle.std.specs.Prelude.{replicate}
use Rattle.unit_work.specs.Changes.{no_changes}
use Rattle.program_rows.proofs.opened.clear_units.Given as goal

abbrev pub invariant-loop-place : goal.invariant-loop-place
invariant-loop-place l = l.units.items ≡ replicate l.place no_changes ++ drop l.place l.initial.units.items
