-- The records of a log, done again.
use Rattle.std.specs.Prelude.{ℕ, zero, suc, ◌+◌, ◌-◌, Bool, false, not, ◌&&◌, ◌==◌, List, [], ◌∷◌, ◌++◌, filter, Option, Some, None, if◌then◌else◌}
use Rattle.std.specs.Option.{option_map, option_map_or, option_and_then, is_some}
use Rattle.tm_types.specs.declared.command.LastingCommand.{LastingCommand}
use Rattle.tm_types.specs.declared.command.LastingCommand.TheVariants.{StartTransaction, StopTransaction, StartTerminal, StopTerminal, DequeueFirst, DequeueAll, Exit, AssignClass, AssignPriority}
use Rattle.tm_types.specs.Commands.{command_in}
use Rattle.tm_types.specs.declared.message.Message.{Message}
use Rattle.tm_types.specs.declared.abend.AbendCode.{AbendCode}
use Rattle.model_messages.specs.declared.conversation.Conversation.{Conversation}
use Rattle.model_messages.specs.Pads.{begun}
use Rattle.model_messages.specs.Terminals.{conversation_at}
use Rattle.model_system.specs.Codes.{code_at}
use Rattle.model_system.specs.System.{System}
use Rattle.model_messages.specs.Outputs.{with_terminal, with_reply, next_of, reply_at}
use Rattle.model_machine.specs.Machine.{LastingState, terminal_at, message_at}
use Rattle.model_machine.specs.LastingSteps.{KeptInput, applied, with_pad_by}
use Rattle.model_machine.specs.LastingSteps.LastingStep.{Accepts, Acknowledges, Discards, Commands}
use Rattle.log_records.specs.declared.record.Record.{Record}
use Rattle.log_records.specs.declared.record.Record.TheVariants.{Input, Command, Reply, Discarded, Completed, Acknowledged, SyncPoint, Checkpoint, Terminal, Code, Change}
use Rattle.model_messages.specs.declared.conversation.PadChange.{PadChange}
use Rattle.model_image.specs.States.{is_system_terminal, is_system_code, breaks_a_rule}
use Rattle.model_image.specs.Snapshot.{snapshot_message}
use Rattle.model_image.specs.Slots.{is_image_of}

-- ---- what a unit's records do, at its sync point

-- A reply waits at its terminal, if its number is the next one there. A switched message stands behind all others, if
-- its id is the next one. A completed message goes, if it is there.
abbrev pub done : Record → LastingState → Option LastingState
done (Reply unit terminal number segments) lasting =
    if next_of terminal lasting.outputs == number
    then Some (record lasting { outputs = with_terminal terminal (with_reply segments) lasting.outputs }) else None
done (Input unit id origin code number conversation segments) lasting =
    if (lasting.next_id == id) && (number == 0)
    then Some (record lasting { messages = lasting.messages ++ snapshot_message id origin code conversation segments ∷ []; next_id = id + 1 }) else None
done (Completed unit id) lasting =
    option_map (λ _. record lasting { messages = filter (λ message. not (message.id == id)) lasting.messages }) (message_at lasting.messages id)
done _ lasting = Some lasting

abbrev pub all_done : List Record → LastingState → Option LastingState
all_done [] lasting = Some lasting
all_done (r ∷ records) lasting = option_and_then (all_done records) (done r lasting)

-- ---- what is a lasting step at once

-- The message of an input is the one that the record keeps. One of a conversation at a terminal that has none begins
-- it, with a work area of the length of the code's pad, less 14.
abbrev pub pad_size : System → List ℕ → ℕ
pad_size system code = option_map_or (λ found. found.transaction.scratch_pad) (code_at system.codes code) 0

abbrev pub begins_in : System → LastingState → List ℕ → List ℕ → Bool → Option Conversation
begins_in system lasting origin code conversation =
    if conversation && not (is_some (conversation_at origin lasting.conversations)) then Some (begun code (pad_size system code - 14)) else None

abbrev pub kept_in_record : System → LastingState → List ℕ → List ℕ → Bool → List (List ℕ) → KeptInput
kept_in_record system lasting origin code conversation segments = record {
  code = code;
  conversation = conversation;
  segments = segments;
  begins = begins_in system lasting origin code conversation;
}

-- An input is accepted, if its number and its id are the next ones.
abbrev pub replay_accepts : System → ℕ → List ℕ → List ℕ → ℕ → Bool → List (List ℕ) → LastingState → Option LastingState
replay_accepts system id origin code number conversation segments lasting =
    if option_map_or (λ terminal. terminal.last + 1 == number) (terminal_at lasting.terminals origin) false && (lasting.next_id == id)
    then Some (applied (Accepts origin number (kept_in_record system lasting origin code conversation segments)) lasting)
    else None

-- A reply is acknowledged, if it is the first that is kept.
abbrev pub replay_acknowledges : List ℕ → ℕ → LastingState → Option LastingState
replay_acknowledges terminal number lasting =
    if option_map_or (λ reply. reply.number == number) (reply_at terminal 0 lasting.outputs) false
    then Some (applied (Acknowledges terminal) lasting) else None

-- A message is discarded, if it is there and its origin's next reply has this number.
abbrev pub discards : ℕ → AbendCode → ℕ → LastingState → Option LastingState
discards id abend number lasting =
    if option_map_or (λ message. next_of message.origin lasting.outputs == number) (message_at lasting.messages id) false
    then Some (applied (Discards id abend) lasting) else None

-- A command is done, if its text spells one that lasts. It is counted, also where it changes nothing.
abbrev pub commands : List ℕ → LastingState → Option LastingState
commands text lasting = option_map (λ command. applied (Commands command) lasting) (command_in text)

-- A unit reaches its sync point: its records are done, in their order, and this becomes of the pad of the message
-- that they complete.
abbrev pub with_step : LastingState → LastingState
with_step lasting = record lasting { steps = lasting.steps + 1 }

abbrev pub completed_id : List Record → Option ℕ
completed_id [] = None
completed_id (Completed unit id ∷ records) = Some id
completed_id (r ∷ records) = completed_id records

abbrev pub completed_message : List Record → LastingState → Option Message
completed_message records lasting = option_and_then (message_at lasting.messages) (completed_id records)

abbrev pub syncs : PadChange → List Record → LastingState → Option LastingState
syncs pad records lasting =
    option_map (λ after. with_step (with_pad_by (completed_message records lasting) (λ _. pad) after)) (all_done records lasting)

-- ---- one record after another

-- what lasts, and the records of units that have no sync point yet
pub record Replay : Type 0 where
  pub lasting : LastingState
  pub waiting : List Record

abbrev pub is_of_unit : ℕ → Record → Bool
is_of_unit unit (Input u id origin code number conversation segments) = u == unit
is_of_unit unit (Reply u terminal number segments) = u == unit
is_of_unit unit (Completed u id) = u == unit
is_of_unit unit _ = false

abbrev pub with_waiting : Record → Replay → Replay
with_waiting r replay = record replay { waiting = replay.waiting ++ r ∷ [] }

abbrev pub with_lasting : Replay → Option LastingState → Option Replay
with_lasting replay lasting = option_map (λ after. record replay { lasting = after }) lasting

abbrev pub without_unit : ℕ → Replay → Replay
without_unit unit replay = record replay { waiting = filter (λ r. not (is_of_unit unit r)) replay.waiting }

-- What a record of the log does: none where a number isn't the next one, where what it is about isn't there, and where it
-- is none of a log. A change says something of a slot alone.
abbrev pub replayed : System → Record → Replay → Option Replay
replayed system (Input zero id origin code number conversation segments) replay =
    with_lasting replay (replay_accepts system id origin code number conversation segments replay.lasting)
replayed system (Input (suc u) id origin code number conversation segments) replay =
    Some (with_waiting (Input (suc u) id origin code number conversation segments) replay)
replayed system (Reply unit terminal number segments) replay = Some (with_waiting (Reply unit terminal number segments) replay)
replayed system (Completed unit id) replay = Some (with_waiting (Completed unit id) replay)
replayed system (Acknowledged terminal number) replay = with_lasting replay (replay_acknowledges terminal number replay.lasting)
replayed system (Discarded unit id abend number) replay = with_lasting replay (discards id abend number replay.lasting)
replayed system (SyncPoint unit pad) replay =
    with_lasting (without_unit unit replay) (syncs pad (filter (is_of_unit unit) replay.waiting) replay.lasting)
replayed system (Change unit database slot before after) replay = Some replay
replayed system (Command text) replay = with_lasting replay (commands text replay.lasting)
replayed system (Checkpoint checkpoint next_id next_unit steps) replay = None
replayed system (Terminal name last next stopped conversation) replay = None
replayed system (Code name stopped class priority) replay = None

-- a command names a code of the system, or a terminal
abbrev pub names_known : System → LastingCommand → Bool
names_known system (StartTransaction code) = is_system_code system code
names_known system (StopTransaction code) = is_system_code system code
names_known system (StartTerminal terminal) = is_system_terminal system terminal
names_known system (StopTerminal terminal) = is_system_terminal system terminal
names_known system (DequeueFirst terminal) = is_system_terminal system terminal
names_known system (DequeueAll terminal) = is_system_terminal system terminal
names_known system (Exit terminal) = is_system_terminal system terminal
names_known system (AssignClass code class) = is_system_code system code
names_known system (AssignPriority code priority) = is_system_code system code

-- the names of a record are known where it stands, and the images of a change are of a slot
abbrev pub is_record_known : System → Record → Bool
is_record_known system (Input unit id origin code number conversation segments) = is_system_terminal system origin && is_system_code system code
is_record_known system (Reply unit terminal number segments) = is_system_terminal system terminal
is_record_known system (Acknowledged terminal number) = is_system_terminal system terminal
is_record_known system (Command text) = option_map_or (names_known system) (command_in text) false
is_record_known system r = is_image_of system r

-- 19: each record is one of the log, names what is there, and leaves a state that breaks no rule
abbrev pub unless_it_breaks : System → Replay → Option Replay
unless_it_breaks system replay = if breaks_a_rule system replay.lasting then None else Some replay

abbrev pub replay_one : System → Record → Replay → Option Replay
replay_one system r replay = if is_record_known system r then option_and_then (unless_it_breaks system) (replayed system r replay) else None

abbrev pub replay_all : System → List Record → Replay → Option Replay
replay_all system [] replay = Some replay
replay_all system (r ∷ records) replay = option_and_then (replay_all system records) (replay_one system r replay)

-- what lasts once these records are done again, where no rule is broken
abbrev pub replay_of : System → List Record → LastingState → Option LastingState
replay_of system records lasting =
    option_map (λ replay. replay.lasting) (replay_all system records (record { lasting = lasting; waiting = [] }))
