use Rattle.std.proofs.Common.{◌≡◌, ◌++◌, drop, None}
use Rattle.sysdef_check.specs.Systems as spec
use Rattle.sysdef_check.proofs.build.codes_in.Given as goal

abbrev pub invariant-loop-line : goal.invariant-loop-line
invariant-loop-line l =
    l.codes.items ++ spec.codes_in l.psb (drop l.line-index l.lines) ≡ spec.codes_in None l.lines
