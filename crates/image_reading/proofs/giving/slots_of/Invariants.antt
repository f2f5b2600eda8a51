use Rattle.std.proofs.Common.{◌≡◌, take}
use Rattle.image_reading.specs.NamedBytes.{of_database}
use Rattle.image_reading.proofs.giving.slots_of.Given as goal

abbrev pub invariant-loop-slot : goal.invariant-loop-slot
invariant-loop-slot l = l.slots ≡ of_database l.database (take l.slot-index l.named)
