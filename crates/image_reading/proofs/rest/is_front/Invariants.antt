use Rattle.std.proofs.Common.{drop}
use Rattle.image_reading.proofs.Walk.{Walks}
use Rattle.image_reading.proofs.rest.is_front.Given as goal

abbrev pub invariant-loop-byte : goal.invariant-loop-byte
invariant-loop-byte l = Walks l.missing l.layout l.bytes l.current l.place (drop l.byte-index l.bytes)
