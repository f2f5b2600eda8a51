use Rattle.std.proofs.Common.{◌≡◌, ◌++◌, drop}
use Rattle.sysdef_check.specs.Systems as spec
use Rattle.sysdef_check.proofs.build.terminals_in.Given as goal

abbrev pub invariant-loop-line : goal.invariant-loop-line
invariant-loop-line l =
    l.terminals.items ++ spec.terminals_in (drop l.line-index l.lines) ≡ spec.terminals_in l.lines
