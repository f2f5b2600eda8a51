use Rattle.std.proofs.Common.{◌≡◌, ◌+◌, drop}
use Rattle.sysdef_text.specs.Formats as spec
use Rattle.sysdef_text.proofs.formats.format_apart.Given as goal

abbrev pub invariant-loop-index : goal.invariant-loop-index
invariant-loop-index l =
    spec.format_apart l.over (l.number + l.index) (drop l.index l.lines) ≡ spec.format_apart l.over l.number l.lines
