-- the units of the regions from here on
use Rattle.std.proofs.Common.{◌≡◌, ◌≤◌, length, map, drop}
use Rattle.journal.specs.NumberedUnits.{numbered_unit, units_open}
use Rattle.tm_machine.specs.SlotChanges.{slots_now}
use Rattle.logged_machine.proofs.Spelled.{HasSoMany}
use Rattle.logged_machine.proofs.snapshots.units_of.Given as goal

abbrev pub invariant-loop-place : goal.invariant-loop-place
invariant-loop-place l = record {
  many : HasSoMany l.parts l.units;
  within : l.place ≤ length l.units;
  units : map numbered_unit l.opened.items ≡ units_open (drop l.place l.units) (drop l.place (slots_now l.parts).touched);
}

abbrev pub decreases-loop-place : goal.decreases-loop-place
decreases-loop-place l = l.place
