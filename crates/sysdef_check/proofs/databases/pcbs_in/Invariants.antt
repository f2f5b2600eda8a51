use Rattle.std.proofs.Common.{◌≡◌, ◌++◌, drop}
use Rattle.sysdef_check.specs.Systems as spec
use Rattle.sysdef_check.proofs.databases.pcbs_in.Given as goal

abbrev pub invariant-loop-line : goal.invariant-loop-line
invariant-loop-line l =
    l.pcbs ++ spec.pcbs_in l.databases (drop l.line-index l.lines) ≡ spec.pcbs_in l.databases l.lines
