use Rattle.std.proofs.Common.{◌≡◌, drop}
use Rattle.std.specs.Prelude.{nat_le}
use Rattle.image_reading.specs.RecordParts.{leasts}
use Rattle.image_reading.proofs.rest.are_few.Given as goal

abbrev pub invariant-loop-part : goal.invariant-loop-part
invariant-loop-part l = nat_le (leasts (drop l.part-index l.parts)) l.left ≡ nat_le (leasts l.parts) l.size
