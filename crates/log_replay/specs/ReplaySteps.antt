-- What the records of a log do to the tables of what lasts: the steps of the definition of a replay, on the tables.
use Rattle.std.specs.Prelude.{ℕ, ◌+◌, ◌-◌, ◌==◌, Bool, true, false, not, ◌&&◌, ◌||◌, if◌then◌else◌, List, [], ◌∷◌, Option, Some, None}
use Rattle.std.specs.List.{list_any}
use Rattle.std.specs.Option.{is_some, option_map, option_map_or, option_and_then, option_or}
use Rattle.tm_types.specs.declared.abend.AbendCode.{AbendCode}
use Rattle.tm_types.specs.declared.command.LastingCommand.{LastingCommand}
use Rattle.tm_types.specs.declared.command.LastingCommand.TheVariants.{StartTransaction, StopTransaction, StartTerminal, StopTerminal, DequeueFirst, DequeueAll, Exit, AssignClass, AssignPriority}
use Rattle.tm_types.specs.declared.message.Message.{Message}
use Rattle.model_messages.specs.declared.conversation.PadChange.{PadChange}
use Rattle.model_messages.specs.declared.conversation.PadChange.TheVariants.{Ends}
use Rattle.model_messages.specs.declared.conversation.Conversation.{Conversation}
use Rattle.model_messages.specs.declared.conversation.TerminalConversation.{TerminalConversation}
use Rattle.model_messages.specs.Pads.{begun}
use Rattle.model_messages.specs.Terminals.{conversation_at}
use Rattle.model_system.specs.System.{System}
use Rattle.model_system.specs.Lists.{change_at}
use Rattle.model_messages.specs.Queue.{queued_message, with_message, without_id_queued}
use Rattle.model_messages.specs.Outputs.{replies_at, with_terminal, with_reply, without_first, next_of, reply_at}
use Rattle.model_machine.specs.Machine.{setting_place, terminal_at, terminal_place}
use Rattle.model_machine.specs.LastingSteps.{KeptInput, with_last_number, with_begun, with_pad_changed, discarded_pad, dfs555i_text, input_message, stopped_code, stopped_terminal, classed_code, ranked_code, without_replies}
use Rattle.log_records.specs.declared.record.Record.{Record}
use Rattle.log_records.specs.declared.record.Record.TheVariants.{Input, Reply, Completed}
use Rattle.model_image.specs.States.{is_small}
use Rattle.model_image.specs.Snapshot.{snapshot_message}
use Rattle.model_image.specs.Replay.{pad_size, completed_id}
use Rattle.image_records.specs.KeptState.{KeptState}

-- ---- parts of steps

-- a message more, behind all others, under the next id
abbrev pub with_added : Message → KeptState → KeptState
with_added message kept = record kept {
  queues = record kept.queues { queued = with_message message kept.queues.queued };
  next_id = kept.next_id + 1;
}

-- a reply more at a terminal, under its next number
abbrev pub with_replied : List ℕ → List (List ℕ) → KeptState → KeptState
with_replied terminal segments kept = record kept { outputs = with_terminal terminal (with_reply segments) kept.outputs }

-- all messages but the one of this id
abbrev pub with_gone : ℕ → KeptState → KeptState
with_gone id kept = record kept { queues = record kept.queues { queued = without_id_queued id kept.queues.queued } }

-- one step more is counted
abbrev pub with_counted : KeptState → KeptState
with_counted kept = record kept { steps = kept.steps + 1 }

-- ---- a unit's records at its sync point

-- a reply waits, or a switched message stands behind all others, if its number or its id is the next one
abbrev pub kept_replies : List ℕ → ℕ → List (List ℕ) → KeptState → Option KeptState
kept_replies terminal number segments kept =
    if next_of terminal kept.outputs == number then Some (with_replied terminal segments kept) else None

abbrev pub kept_switch : ℕ → Message → KeptState → Option KeptState
kept_switch number message kept =
    if (kept.next_id == message.id) && (number == 0) then Some (with_added message kept) else None

abbrev pub does : Record → KeptState → Option KeptState
does (Reply unit terminal number segments) kept = kept_replies terminal number segments kept
does (Input unit id origin code number conversation segments) kept = kept_switch number (snapshot_message id origin code conversation segments) kept
does (Completed unit id) kept = option_map (λ _. with_gone id kept) (queued_message id kept.queues.queued)
does _ kept = Some kept

abbrev pub does_all : List Record → KeptState → Option KeptState
does_all [] kept = Some kept
does_all (r ∷ records) kept = option_and_then (does_all records) (does r kept)

-- a number that may not be counted on
abbrev pub is_over : KeptState → Bool
is_over kept = not (is_small kept.next_id) || list_any (λ t. not (is_small t.next)) kept.outputs

-- the message that a record completes, and the first that records do
abbrev pub message_completed_by : Record → Option ℕ
message_completed_by (Completed unit id) = Some id
message_completed_by _ = None

abbrev pub first_completed : List Record → Option ℕ
first_completed [] = None
first_completed (r ∷ records) = option_or (message_completed_by r) (first_completed records)

-- this becomes of the pad of a message's origin
abbrev pub with_kept_pad : Option Message → PadChange → KeptState → KeptState
with_kept_pad (Some message) pad kept = record kept { conversations = with_pad_changed pad message.origin kept.conversations }
with_kept_pad None pad kept = kept

-- the same by the name of that origin
abbrev pub with_pad_at : Option (List ℕ) → PadChange → KeptState → KeptState
with_pad_at (Some origin) pad kept = record kept { conversations = with_pad_changed pad origin kept.conversations }
with_pad_at None pad kept = kept

abbrev pub message_done : List Record → KeptState → Option Message
message_done records kept = option_and_then (λ id. queued_message id kept.queues.queued) (completed_id records)

abbrev pub step_syncs : PadChange → List Record → KeptState → Option KeptState
step_syncs pad records kept =
    option_map (λ after. with_counted (with_kept_pad (message_done records kept) pad after)) (does_all records kept)

-- ---- what is a lasting step at once

abbrev pub begins_by_input : System → List TerminalConversation → List ℕ → List ℕ → Bool → Option Conversation
begins_by_input system conversations origin code conversation =
    if conversation && not (is_some (conversation_at origin conversations)) then Some (begun code (pad_size system code - 14)) else None

abbrev pub with_accepted : List ℕ → ℕ → KeptInput → KeptState → KeptState
with_accepted origin number input kept = record (with_counted (with_added (input_message kept.next_id origin input) kept)) {
  terminals = change_at kept.terminals (terminal_place kept.terminals origin) (with_last_number number);
  conversations = with_begun origin input.begins kept.conversations;
}

abbrev pub step_accepts : System → ℕ → List ℕ → List ℕ → ℕ → Bool → List (List ℕ) → KeptState → Option KeptState
step_accepts system id origin code number conversation segments kept =
    if option_map_or (λ terminal. terminal.last + 1 == number) (terminal_at kept.terminals origin) false && (kept.next_id == id)
    then Some (with_accepted origin number (record { code = code; conversation = conversation; segments = segments; begins = begins_by_input system kept.conversations origin code conversation }) kept)
    else None

abbrev pub step_acknowledges : List ℕ → ℕ → KeptState → Option KeptState
step_acknowledges terminal number kept =
    if option_map_or (λ reply. reply.number == number) (reply_at terminal 0 kept.outputs) false
    then Some (with_counted (record kept { outputs = with_terminal terminal without_first kept.outputs })) else None

-- the origin of a discarded message is told so: as a reply where it is a terminal that is kept
abbrev pub with_told : List ℕ → List (List ℕ) → KeptState → KeptState
with_told origin segments kept =
    if is_some (replies_at origin kept.outputs)
    then with_replied origin segments kept else with_added (snapshot_message kept.next_id origin origin false segments) kept

abbrev pub with_discarded : ℕ → AbendCode → Message → KeptState → KeptState
with_discarded id abend message kept =
    with_counted (with_told message.origin (dfs555i_text message.code abend ∷ []) (with_gone id (with_kept_pad (Some message) (discarded_pad message) kept)))

abbrev pub step_discards : ℕ → AbendCode → ℕ → KeptState → Option KeptState
step_discards id abend number kept =
    option_and_then (λ message. if next_of message.origin kept.outputs == number then Some (with_discarded id abend message kept) else None)
    (queued_message id kept.queues.queued)

-- ---- a command

-- what it changes, but for the count of steps
abbrev pub kept_commanded : LastingCommand → KeptState → KeptState
kept_commanded (StartTransaction code) kept = record kept { codes = change_at kept.codes (setting_place kept.codes code) (stopped_code false) }
kept_commanded (StopTransaction code) kept = record kept { codes = change_at kept.codes (setting_place kept.codes code) (stopped_code true) }
kept_commanded (StartTerminal terminal) kept = record kept { terminals = change_at kept.terminals (terminal_place kept.terminals terminal) (stopped_terminal false) }
kept_commanded (StopTerminal terminal) kept = record kept { terminals = change_at kept.terminals (terminal_place kept.terminals terminal) (stopped_terminal true) }
kept_commanded (DequeueFirst terminal) kept = record kept { outputs = with_terminal terminal without_first kept.outputs }
kept_commanded (DequeueAll terminal) kept = record kept { outputs = with_terminal terminal without_replies kept.outputs }
kept_commanded (Exit terminal) kept = record kept { conversations = with_pad_changed Ends terminal kept.conversations }
kept_commanded (AssignClass code class) kept = record kept { codes = change_at kept.codes (setting_place kept.codes code) (classed_code class) }
kept_commanded (AssignPriority code priority) kept = record kept { codes = change_at kept.codes (setting_place kept.codes code) (ranked_code priority) }

abbrev pub step_commands : LastingCommand → KeptState → KeptState
step_commands command kept = with_counted (kept_commanded command kept)
