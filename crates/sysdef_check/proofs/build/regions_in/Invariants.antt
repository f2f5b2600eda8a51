use Rattle.std.proofs.Common.{◌≡◌, ◌++◌, drop}
use Rattle.sysdef_check.specs.Systems as spec
use Rattle.sysdef_check.proofs.build.regions_in.Given as goal

abbrev pub invariant-loop-line : goal.invariant-loop-line
invariant-loop-line l =
    l.regions.items ++ spec.regions_in (drop l.line-index l.lines) ≡ spec.regions_in l.lines
