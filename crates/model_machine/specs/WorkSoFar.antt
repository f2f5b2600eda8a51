-- How far the work on a slot's message has come.
use Rattle.std.specs.Prelude.{Option, None, if◌then◌else◌}
use Rattle.std.specs.Option.{option_and_then}
use Rattle.model_system.specs.System.{System}
use Rattle.model_system.specs.Jobs.{job_of}
use Rattle.tm_types.specs.declared.message.Message.{Message}
use Rattle.model_messages.specs.Terminals.{conversation_at}
use Rattle.model_machine.specs.Trial.{Given, Trial, trial_of}
use Rattle.model_machine.specs.Machine.{LastingState, Slot, message_at}

-- a message with its conversation: that of its origin, where the message belongs to one
abbrev pub given_now : LastingState → Message → Given
given_now lasting message = record {
  message = message;
  conversation = if message.conversation then conversation_at message.origin lasting.conversations else None;
}

-- what so many calls of a slot's script give for its message, on the rows that are committed
abbrev pub slot_trial : System → LastingState → Slot → Option Trial
slot_trial system lasting slot =
    option_and_then (λ job. option_and_then (λ message. trial_of job lasting.rows (given_now lasting message) slot.calls) (message_at lasting.messages slot.id)) (job_of system slot.code)
