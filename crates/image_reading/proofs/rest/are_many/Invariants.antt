use Rattle.std.proofs.Common.{◌≡◌, drop}
use Rattle.std.specs.Prelude.{nat_le}
use Rattle.image_reading.specs.RecordParts.{mosts}
use Rattle.image_reading.proofs.rest.are_many.Given as goal

abbrev pub invariant-loop-part : goal.invariant-loop-part
invariant-loop-part l = nat_le l.left (mosts (drop l.part-index l.parts)) ≡ nat_le l.size (mosts l.parts)
