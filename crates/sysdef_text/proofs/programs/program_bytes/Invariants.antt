use Rattle.std.proofs.Common.{◌≡◌, ◌+◌, drop}
use Rattle.sysdef_text.specs.Programs as spec
use Rattle.sysdef_text.proofs.programs.program_bytes.Given as goal

abbrev pub invariant-loop-index : goal.invariant-loop-index
invariant-loop-index l =
    spec.program_bytes l.over (l.number + l.index) (drop l.index l.lines) ≡ spec.program_bytes l.over l.number l.lines
