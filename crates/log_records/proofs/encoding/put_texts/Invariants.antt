use Rattle.std.proofs.Common.{◌≡◌, ◌++◌, take}
use Rattle.std.specs.List.{flat_map, AllByRecursion}
use Rattle.tm_types.specs.Segment.{IsSegmentText}
use Rattle.log_records.specs.RecordSpelling.{text}
use Rattle.log_records.proofs.encoding.put_texts.Given as goal

abbrev pub invariant-loop-index : goal.invariant-loop-index
invariant-loop-index l = record {
  written : l.out.items ≡ l.fn.out.items ++ flat_map text (take l.index l.segments);
  each : AllByRecursion IsSegmentText (take l.index l.segments);
}
