-- The records that tell of a lasting step.
use Rattle.std.specs.Prelude.{ℕ, false, List, [], ◌∷◌, ◌++◌, if◌then◌else◌, Option, Some, None}
use Rattle.std.specs.List.{flat_map}
use Rattle.std.specs.Option.{is_some, option_map_or}
use Rattle.tm_types.specs.declared.abend.AbendCode.{AbendCode}
use Rattle.tm_types.specs.declared.message.Message.{Message}
use Rattle.tm_types.specs.Commands as commands
use Rattle.model_messages.specs.declared.conversation.PadChange.{PadChange}
use Rattle.model_messages.specs.Outputs.{first_number, next_of}
use Rattle.model_messages.specs.declared.ended_message.EndedMessage.{EndedMessage}
use Rattle.model_machine.specs.Machine.{LastingState, message_at, output_at}
use Rattle.model_machine.specs.LastingSteps.{KeptInput, LastingStep, output_sent}
use Rattle.model_machine.specs.LastingSteps.LastingStep.{Accepts, Acknowledges, Completes, Discards, Commands}
use Rattle.log_records.specs.declared.record.Record.{Record}
use Rattle.log_records.specs.declared.record.Record.TheVariants.{Input, Command, Reply, Acknowledged, Completed, Discarded, SyncPoint}
use Rattle.log_records.specs.RecordSpelling.{record_spelling}

-- ---- a completion

-- an output of a unit: a reply under its terminal's next number, or a switched message under the next id
abbrev pub output_record : ℕ → List ℕ → EndedMessage → LastingState → Record
output_record unit origin output lasting =
    if is_some (output_at lasting.outputs output.to)
    then Reply unit output.to (next_of output.to lasting.outputs) output.segments
    else Input unit lasting.next_id origin output.to 0 false output.segments

-- the outputs in their order, each in the state that those before it leave
abbrev pub output_records : ℕ → List ℕ → List EndedMessage → LastingState → List Record
output_records unit origin [] lasting = []
output_records unit origin (output ∷ outputs) lasting =
    output_record unit origin output lasting ∷ output_records unit origin outputs (output_sent origin output lasting)

-- a completion before its sync point: the outputs, and that the message is completed
abbrev pub completion_records : ℕ → List ℕ → ℕ → List EndedMessage → LastingState → List Record
completion_records unit origin id outputs lasting = output_records unit origin outputs lasting ++ Completed unit id ∷ []

-- a completion: the outputs, that the message is completed, and the sync point with what becomes of the pad
abbrev pub completed_by_step : ℕ → Option Message → List EndedMessage → PadChange → LastingState → List Record
completed_by_step unit None outputs pad lasting = []
completed_by_step unit (Some message) outputs pad lasting = completion_records unit message.origin message.id outputs lasting ++ SyncPoint unit pad ∷ []

-- ---- each lasting step

-- an input as it is kept, under the next id
abbrev pub input_record : List ℕ → ℕ → KeptInput → LastingState → Record
input_record terminal number kept lasting = Input 0 lasting.next_id terminal kept.code number kept.conversation kept.segments

-- a message is discarded, and its origin is told so by a reply under its next number
abbrev pub discarded_by : ℕ → Option Message → AbendCode → LastingState → List Record
discarded_by unit None abend lasting = []
discarded_by unit (Some message) abend lasting = Discarded unit message.id abend (next_of message.origin lasting.outputs) ∷ []

-- the first reply of a terminal is acknowledged
abbrev pub acknowledged_record : List ℕ → LastingState → Record
acknowledged_record terminal lasting = Acknowledged terminal (option_map_or first_number (output_at lasting.outputs terminal) 1)

-- The records of a step in this state, where it is a step of this unit.
abbrev pub step_records : ℕ → LastingStep → LastingState → List Record
step_records unit (Accepts terminal number kept) lasting = input_record terminal number kept lasting ∷ []
step_records unit (Acknowledges terminal) lasting = acknowledged_record terminal lasting ∷ []
step_records unit (Completes id rows outputs pad) lasting = completed_by_step unit (message_at lasting.messages id) outputs pad lasting
step_records unit (Discards id abend) lasting = discarded_by unit (message_at lasting.messages id) abend lasting
step_records unit (Commands command) lasting = Command (commands.command_spelling command) ∷ []

-- the bytes of these records
abbrev pub step_bytes : ℕ → LastingStep → LastingState → List ℕ
step_bytes unit step lasting = flat_map record_spelling (step_records unit step lasting)
