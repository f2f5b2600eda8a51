use Rattle.std.proofs.Common.{◌≡◌, ◌+◌, take}
use Rattle.std.specs.List.{sum_by}
use Rattle.tm_types.specs.Segment.{segment_length}
use Rattle.image_records.specs.CappedCounts.{capped_count}
use Rattle.image_records.proofs.weighing.with_lengths.Given as goal

abbrev pub invariant-loop-place : goal.invariant-loop-place
invariant-loop-place l = l.content ≡ capped_count (l.start + sum_by segment_length (take l.place l.segments))
