use Rattle.std.proofs.Common.{◌≡◌, ◌++◌}
use Rattle.std.specs.Prelude.{map}
use Rattle.log_replay.specs.SlotBytes.{said_slot}
use Rattle.log_replay.proofs.naming.slots_of.Given as goal

-- the slots so far, and those to come
abbrev pub invariant-loop-place : goal.invariant-loop-place
invariant-loop-place l = l.slots.items ++ map said_slot l.place-iterator ≡ map said_slot l.said.entries
