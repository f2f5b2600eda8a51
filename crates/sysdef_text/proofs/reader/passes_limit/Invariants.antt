use Rattle.std.proofs.Common.{◌≡◌, drop}
use Rattle.sysdef_text.specs.Definitions as spec
use Rattle.sysdef_text.proofs.reader.passes_limit.Given as goal

abbrev pub invariant-loop-line : goal.invariant-loop-line
invariant-loop-line l =
    spec.passes l.room (drop l.line-index l.lines) ≡ spec.passes 262144 l.lines
