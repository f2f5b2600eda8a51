use Rattle.std.proofs.Common.{◌≡◌, ◌++◌, drop}
use Rattle.sysdef_check.specs.Systems as spec
use Rattle.sysdef_check.proofs.build.screens_in.Given as goal

abbrev pub invariant-loop-line : goal.invariant-loop-line
invariant-loop-line l =
    l.screens.items ++ spec.screens_in (drop l.line-index l.lines) ≡ spec.screens_in l.lines
