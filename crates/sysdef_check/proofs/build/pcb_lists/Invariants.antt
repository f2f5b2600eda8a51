use Rattle.std.proofs.Common.{◌≡◌, ◌++◌, drop, map}
use Rattle.sysdef_check.specs.Systems as spec
use Rattle.sysdef_check.proofs.build.pcb_lists.Given as goal

abbrev pub invariant-loop-line : goal.invariant-loop-line
invariant-loop-line l =
    l.lists.items ++ map (λ line. spec.pcbs_for l.databases l.lines line.content) (drop l.line-index l.lines) ≡ map (λ line. spec.pcbs_for l.databases l.lines line.content) l.lines
