-- the count so far
use Rattle.std.proofs.Common.{◌≡◌, ◌≤◌, take}
use Rattle.sysdef_rules.specs.Lookups.{count}
use Rattle.sysdef_rules.proofs.lookups.count.Given as goal

abbrev pub invariant-loop-line : goal.invariant-loop-line
invariant-loop-line l = (l.count ≤ l.line-index) × (l.count ≡ count l.kind (take l.line-index l.lines))
