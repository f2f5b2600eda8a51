use Rattle.std.proofs.Common.{◌≡◌, drop}
use Rattle.sysdef_rules.specs.DiskSizes as spec
use Rattle.sysdef_rules.proofs.sizes.largest_slot.Given as goal

abbrev pub invariant-loop-line : goal.invariant-loop-line
invariant-loop-line l = spec.largest_slot l.most (drop l.line-index l.lines) ≡ spec.largest_slot 1 l.lines
