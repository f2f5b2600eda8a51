-- A machine that stays sound: what it leaves breaks no rule of a state, but that its counts may rise too far.
use Rattle.std.specs.Prelude.{◌+◌, ◌*◌, ◌≤◌}
use Rattle.model_system.specs.System.{System}
use Rattle.model_messages.specs.Room.{slot_room}
use Rattle.model_machine.specs.Machine.{Moment, content, busy_slots}
use Rattle.image_law.specs.StandingState.{StandsLasting}

-- What messages and replies count, with the room of each busy region, is no more than the queues may hold. So what a region
-- sends always has room.
abbrev pub IsMachineSound : System → Moment → Type 0
IsMachineSound system moment = content moment.lasting + slot_room * busy_slots moment.slots ≤ system.qbytes

pub record StaysSound (system : System) (moment : Moment) : Type 0 where
  pub stands : StandsLasting system moment.lasting
  pub room : IsMachineSound system moment
