use Rattle.std.proofs.Common.{◌≡◌, ◌++◌, length}
use Rattle.sysdef_text.specs.Definitions.{text_lines}
use Rattle.sysdef_text.proofs.source.cut_lines.Given as goal

abbrev pub invariant-loop-line : goal.invariant-loop-line
invariant-loop-line l = l.lines.items ++ text_lines l.rest ≡ text_lines l.text

abbrev pub decreases-loop-line : goal.decreases-loop-line
decreases-loop-line l = length l.rest
