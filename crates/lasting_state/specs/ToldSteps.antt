-- What the steps tell.
use Rattle.std.specs.Prelude.{◌≡◌, ⊤, ℕ, ◌<◌, ◌≤◌, ◌==◌, Bool, false, List, ◌++◌, length, slice_get, Option, Some, None, Result, Ok, Err}
use Rattle.std.specs.List.{AllByRecursion}
use Rattle.log_records.specs.RecordSpelling.{IsLogRecord}
use Rattle.model_machine.specs.declared.lasting.CodeSetting.{CodeSetting}
use Rattle.model_machine.specs.LastingSteps.{KeptInput, LastingStep}
use Rattle.model_machine.specs.LastingSteps.LastingStep.{Accepts, Acknowledges}
use Rattle.model_machine.specs.Machine.{output_at}
use Rattle.model_machine.specs.MachineCalls.{ack_by}
use Rattle.model_machine.specs.declared.entry.Acked.{Acked}
use Rattle.model_machine.specs.declared.entry.Acked.TheVariants.{Removed, Already}
use Rattle.model_machine.specs.declared.entry.AckRefused.{AckRefused}
use Rattle.model_machine.specs.declared.entry.AckRefused.TheVariants.{Unknown, Ahead, Fault}
use Rattle.model_messages.specs.declared.replies.TerminalReplies.{TerminalReplies}
use Rattle.tm_types.specs.declared.message.Reply.{Reply}
use Rattle.model_image.specs.StepRecords.{step_bytes, step_records}
use Rattle.lasting_state.specs.declared.tables.Enqueued.{Enqueued}
use Rattle.lasting_state.specs.declared.tables.Enqueued.TheVariants.{New, Full}
use Rattle.lasting_state.specs.Tables.{TablesState, lasting_of, tables_input_needs}

-- The records of a step in this state were appended, whatever the settings of the codes are. Each is one by the ranges of its
-- fields, and they fit the room.
pub record TellsStep (unit room : ℕ) (step : LastingStep) (old : TablesState) (before after : List ℕ) : Type 0 where
  pub told : (settings : List CodeSetting) → after ≡ before ++ step_bytes unit step (lasting_of settings old)
  pub valid : (settings : List CodeSetting) → AllByRecursion IsLogRecord (step_records unit step (lasting_of settings old))
  pub fits : (settings : List CodeSetting) → length (step_bytes unit step (lasting_of settings old)) ≤ room

-- the records of a step in this state are longer than the room
abbrev pub AreRecordsLonger : ℕ → ℕ → LastingStep → TablesState → Type 0
AreRecordsLonger unit room step old = (settings : List CodeSetting) → room < length (step_bytes unit step (lasting_of settings old))

-- an input that is kept is told, and one that isn't tells nothing
abbrev pub TellsInput : TablesState → List ℕ → ℕ → KeptInput → ℕ → List ℕ → List ℕ → Enqueued → Type 0
TellsInput old terminal number kept room before after (New id) = TellsStep 0 room (Accepts terminal number kept) old before after
TellsInput old terminal number kept room before after (Full needed limit) = after ≡ before

-- nothing is kept
abbrev pub IsInputRefused : Enqueued → Type 0
IsInputRefused (New id) = ⊥
IsInputRefused (Full needed limit) = ⊤

-- an input that would be kept has a record that is longer than the room
pub record WouldTell (old : TablesState) (terminal : List ℕ) (number : ℕ) (kept : KeptInput) (busy room : ℕ) : Type 0 where
  pub fits : tables_input_needs old kept.segments busy ≤ old.queues.limit
  pub longer : AreRecordsLonger 0 room (Accepts terminal number kept) old

-- ---- acknowledgements

abbrev pub is_first_of : ℕ → Option Reply → Bool
is_first_of number (Some reply) = reply.number == number
is_first_of number None = false

-- whether this number is that of the first reply that is kept
abbrev pub removes_by : Option TerminalReplies → ℕ → Bool
removes_by (Some kept) number = is_first_of number (slice_get kept.replies 0)
removes_by None number = false

-- a reply that is removed is told, and nothing else is; a fault isn't answered
abbrev pub TellsAcknowledged : TablesState → List ℕ → ℕ → List ℕ → List ℕ → Result Acked AckRefused → Type 0
TellsAcknowledged old terminal room before after (Ok Removed) = TellsStep 0 room (Acknowledges terminal) old before after
TellsAcknowledged old terminal room before after (Ok Already) = after ≡ before
TellsAcknowledged old terminal room before after (Err Unknown) = after ≡ before
TellsAcknowledged old terminal room before after (Err (Ahead first)) = after ≡ before
TellsAcknowledged old terminal room before after (Err (Fault fault)) = ⊥

-- a reply that would be removed has a record that is longer than the room
pub record WouldAcknowledge (old : TablesState) (terminal : List ℕ) (number room : ℕ) : Type 0 where
  pub removes : ack_by (output_at old.outputs terminal) number ≡ Ok Removed
  pub longer : AreRecordsLonger 0 room (Acknowledges terminal) old
