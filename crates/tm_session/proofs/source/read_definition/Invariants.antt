-- the lines so far, and those that are still to come
use Rattle.std.proofs.Common.{◌≡◌, false}
use Rattle.tm_edge.specs.Lines.{unread}
use Rattle.tm_session.specs.ReadDefinition.{DefinitionSoFar}
use Rattle.tm_session.specs.Outcome.{IsTextBack}
use Rattle.tm_session.proofs.source.read_definition.Given as goal

abbrev pub invariant-loop-line : goal.invariant-loop-line
invariant-loop-line g l = record {
  so_far : DefinitionSoFar (unread l.fn.lines (g.S.Source.left l.fn.source)) l.reader.lines (unread l.lines (g.S.Source.left l.source)) l.reader.inside l.reader.room;
  open_end : l.reader.ended ≡ false;
  back : IsTextBack (unread l.fn.lines (g.S.Source.left l.fn.source)) (unread l.lines (g.S.Source.left l.source));
  count : g.S.Source.faults l.source ≡ g.S.Source.faults l.fn.source;
}

abbrev pub decreases-loop-line : goal.decreases-loop-line
decreases-loop-line g l = l.reader.room
