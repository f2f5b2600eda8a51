-- the texts so far, and those that are still to come
use Rattle.std.proofs.Common.{◌≡◌, ◌++◌, true, drop, map}
use Rattle.std.specs.List.{list_all}
use Rattle.tm_types.specs.Words.{operands}
use Rattle.tm_types.specs.Segment.{are_printable}
use Rattle.model_session.specs.Lines.{kept_texts, first_long}
use Rattle.session_lines.proofs.asking.kept_segments.Given as goal

abbrev pub invariant-loop-line : goal.invariant-loop-line
invariant-loop-line l = record {
  made : l.segments ++ map operands (drop l.line-index l.line-items) ≡ kept_texts l.block;
  short : first_long (map operands (drop l.line-index l.line-items)) ≡ first_long (kept_texts l.block);
  printable : list_all are_printable (drop l.line-index l.line-items) ≡ true;
}
