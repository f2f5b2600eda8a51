use Rattle.std.proofs.Common.{◌≡◌, ◌+◌, drop}
use Rattle.std.specs.List.{sum_by}
use Rattle.tm_types.specs.Segment.{segment_length, counted_bytes}
use Rattle.lasting_changes.proofs.sizes.bytes_of.Given as goal

abbrev pub invariant-loop-place : goal.invariant-loop-place
invariant-loop-place l = l.bytes + sum_by segment_length (drop l.place l.segments) ≡ counted_bytes l.segments
