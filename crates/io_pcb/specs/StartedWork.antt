-- The work on a message of a system's code, before the first call.
use Rattle.std.specs.Prelude.{◌≡◌, ℕ, ◌-◌, ◌≤◌, List, Option, Some, None, IsTrue, length}
use Rattle.tm_types.specs.declared.message.Message.{Message}
use Rattle.tm_types.specs.Segment.{are_printable}
use Rattle.model_system.specs.Jobs.{Job}
use Rattle.model_messages.specs.MessageWork.{MessageWork, message_start}
use Rattle.io_pcb.specs.Pads.{conversation_by}

-- A pad is given exactly where the code has one: all but the first 6 bytes of it, each printable.
pub record IsWholePad (scratch_pad : ℕ) (pad : List ℕ) : Type 0 where
  pub least : 1 ≤ scratch_pad
  pub size : length pad ≡ scratch_pad - 6
  pub printable : IsTrue (are_printable pad)

abbrev pub IsPadFor : ℕ → Option (List ℕ) → Type 0
IsPadFor scratch_pad None = scratch_pad ≡ 0
IsPadFor scratch_pad (Some pad) = IsWholePad scratch_pad pad

-- the work begins so, served by this job
abbrev pub IsStartFor : Message → Option (List ℕ) → MessageWork → Job → Type 0
IsStartFor message pad work job = work ≡ message_start job.transaction message (conversation_by message.code pad) job.pcbs
