use Rattle.std.proofs.Common.{length, ◌-◌}
use Rattle.image_records.proofs.Cuts.{IsCut}
use Rattle.image_records.proofs.cutting.cut.Given as goal

abbrev pub invariant-loop-length : goal.invariant-loop-length
invariant-loop-length l = IsCut l.bytes l.records.items l.length

abbrev pub decreases-loop-length : goal.decreases-loop-length
decreases-loop-length l = length l.bytes - l.length
