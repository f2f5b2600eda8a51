use Rattle.std.proofs.Common.{◌≡◌, ◌++◌, take, drop}
use Rattle.sysdef_rules.specs.Lookups as spec
use Rattle.sysdef_rules.proofs.lookups.front_of.Given as goal

abbrev pub invariant-loop-index : goal.invariant-loop-index
invariant-loop-index l = take l.index l.lines ++ spec.front l.kind (drop l.index l.lines) ≡ spec.front l.kind l.lines
