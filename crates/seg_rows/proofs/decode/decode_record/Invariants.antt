use Rattle.std.proofs.Common.{length, ◌-◌}
use Rattle.seg_rows.proofs.Decoding.{IsDecoded}
use Rattle.seg_rows.proofs.decode.decode_record.Given as goal

abbrev pub invariant-loop-place : goal.invariant-loop-place
invariant-loop-place l = IsDecoded l.dbd l.bytes l.image l.place

abbrev pub decreases-loop-place : goal.decreases-loop-place
decreases-loop-place l = length l.bytes - l.place
