-- the lines so far
use Rattle.std.proofs.Common.{◌≡◌, take}
use Rattle.std.specs.List.{flat_map}
use Rattle.tm_session.specs.DefinedSystem.{ended_line}
use Rattle.tm_session.proofs.source.text_of.Given as goal

abbrev pub invariant-loop-line : goal.invariant-loop-line
invariant-loop-line l = l.text ≡ flat_map ended_line (take l.line-index l.lines)
