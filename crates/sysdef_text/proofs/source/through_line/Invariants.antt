use Rattle.std.proofs.Common.{◌≡◌, ◌+◌, drop}
use Rattle.sysdef_text.specs.Definitions as spec
use Rattle.sysdef_text.proofs.source.through_line.Given as goal

abbrev pub invariant-loop-index : goal.invariant-loop-index
invariant-loop-index l =
    spec.through_line l.text ≡ l.index + spec.through_line (drop l.index l.text)
