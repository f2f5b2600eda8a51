use Rattle.std.proofs.Common.{◌≡◌, ◌-◌, drop}
use Rattle.std.specs.Prelude.{max}
use Rattle.model_image.specs.Counters.{greatest_unit}
use Rattle.log_replay.proofs.units.last_unit.Given as goal

abbrev pub invariant-loop-r : goal.invariant-loop-r
invariant-loop-r l = max l.last (greatest_unit (drop l.r-index l.records)) ≡ max (l.next_unit - 1) (greatest_unit l.records)
