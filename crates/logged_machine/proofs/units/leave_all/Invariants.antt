use Rattle.std.proofs.Common.{◌≡◌}
use Rattle.std.specs.Prelude.{drop}
use Rattle.journal.specs.UnitNumbers.{without_units}
use Rattle.logged_machine.proofs.units.leave_all.Given as goal

abbrev pub invariant-loop-victim : goal.invariant-loop-victim
invariant-loop-victim l = without_units (drop l.victim-index l.victims) l.units.items ≡ without_units l.victims l.initial.units.items
