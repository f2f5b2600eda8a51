-- What lasts of a control region, as its tables keep it.
use Rattle.std.specs.Prelude.{◌≡◌, ℕ, ◌+◌, ◌<◌, ◌≤◌, List, Some, None, IsSomeAnd, length, Result, Ok, Err}
use Rattle.tm_types.specs.declared.message.Message.{Message}
use Rattle.tm_types.specs.Segment.{counted_bytes}
use Rattle.model_messages.specs.declared.conversation.PadChange.{PadChange}
use Rattle.model_messages.specs.declared.conversation.TerminalConversation.{TerminalConversation}
use Rattle.model_messages.specs.declared.replies.TerminalReplies.{TerminalReplies}
use Rattle.model_messages.specs.Queue.{QueuesState, messages_of, queued_message, with_message, with_holder, without_id_queued}
use Rattle.model_messages.specs.Outputs.{with_terminal, without_first, outputs_bytes}
use Rattle.model_messages.specs.Room.{input_needs, messages_bytes}
use Rattle.model_messages.specs.declared.ended_message.EndedMessage.{EndedMessage}
use Rattle.model_system.specs.Lists.{change_at}
use Rattle.model_machine.specs.declared.entry.Acked.{Acked}
use Rattle.model_machine.specs.declared.entry.Acked.TheVariants.{Removed, Already}
use Rattle.model_machine.specs.declared.entry.AckRefused.{AckRefused}
use Rattle.model_machine.specs.declared.entry.AckRefused.TheVariants.{Unknown, Ahead, Fault}
use Rattle.model_machine.specs.declared.lasting.TerminalState.{TerminalState}
use Rattle.model_machine.specs.declared.lasting.CodeSetting.{CodeSetting}
use Rattle.model_machine.specs.Machine.{LastingState, terminal_place, output_at}
use Rattle.model_machine.specs.LastingSteps.{KeptInput, LastingStep, input_message, with_pad_changed, with_begun, with_last_number, applied}
use Rattle.model_machine.specs.LastingSteps.LastingStep.{Accepts}
use Rattle.model_machine.specs.MachineCalls.{ack_by}
use Rattle.program_rows.specs.DatabasesState.{DatabasesState, rows_of_stores}
use Rattle.lasting_state.specs.declared.tables.Enqueued.{Enqueued}
use Rattle.lasting_state.specs.declared.tables.Enqueued.TheVariants.{New, Full}
use Rattle.lasting_state.specs.SentOutputs.{outputs_to_codes, switched_messages, with_messages, with_replies}

-- the databases with what each region has changed, holds and waits for; the queues with the region that has
-- each message; and what else lasts but the settings of the codes
pub record TablesState : Type 0 where
  pub databases : DatabasesState
  pub queues : QueuesState
  pub next_id : ℕ
  pub terminals : List TerminalState
  pub outputs : List TerminalReplies
  pub conversations : List TerminalConversation
  pub steps : ℕ

-- what lasts, with these settings of the codes
abbrev pub lasting_of : List CodeSetting → TablesState → LastingState
lasting_of settings t = record {
  rows = rows_of_stores t.databases.committed;
  messages = messages_of t.queues.queued;
  next_id = t.next_id;
  terminals = t.terminals;
  outputs = t.outputs;
  conversations = t.conversations;
  codes = settings;
  steps = t.steps;
}

-- the step was done, whatever the settings of the codes are
abbrev pub Applies : LastingStep → TablesState → TablesState → Type 0
Applies step old new = (settings : List CodeSetting) → lasting_of settings new ≡ applied step (lasting_of settings old)

-- the bytes of all messages and replies
abbrev pub tables_content : TablesState → ℕ
tables_content t = messages_bytes (messages_of t.queues.queued) + outputs_bytes t.outputs

-- the tables with these databases
abbrev pub with_databases : TablesState → DatabasesState → TablesState
with_databases t new = record t { databases = new }

-- what an input of these segments needs, with so many busy regions
abbrev pub tables_input_needs : TablesState → List (List ℕ) → ℕ → ℕ
tables_input_needs t segments busy = input_needs (tables_content t) (counted_bytes segments) busy

-- the input stands behind all other messages, under the next id, and the conversation that it begins at its terminal
abbrev pub enqueued : TablesState → List ℕ → ℕ → KeptInput → TablesState
enqueued t terminal number kept = record t {
  queues = record t.queues { queued = with_message (input_message t.next_id terminal kept) t.queues.queued };
  next_id = t.next_id + 1;
  terminals = change_at t.terminals (terminal_place t.terminals terminal) (with_last_number number);
  conversations = with_begun terminal kept.begins t.conversations;
  steps = t.steps + 1;
}

-- The input is accepted under the next id where there is room for it, and else nothing changes.
abbrev pub IsEnqueued : TablesState → TablesState → List ℕ → ℕ → KeptInput → ℕ → Enqueued → Type 0
IsEnqueued old new terminal number kept busy (New id) =
    (id ≡ old.next_id) × (tables_input_needs old kept.segments busy ≤ old.queues.limit) × (new ≡ enqueued old terminal number kept)
    × Applies (Accepts terminal number kept) old new
IsEnqueued old new terminal number kept busy (Full needed limit) =
    (needed ≡ tables_input_needs old kept.segments busy) × (limit ≡ old.queues.limit) × (limit < needed) × (new ≡ old)

-- a region has a message
abbrev pub message_held : TablesState → ℕ → ℕ → TablesState
message_held t id region = record t { queues = record t.queues { queued = with_holder id (Some region) t.queues.queued } }

-- no region has a message any more, which keeps its place
abbrev pub given_back : TablesState → ℕ → TablesState
given_back t id = record t { queues = record t.queues { queued = with_holder id None t.queues.queued } }

-- A message is gone, and what it sends was sent: to codes, as messages behind all others, and to
-- terminals, as replies. One step more was done; databases and conversations stay.
abbrev pub message_finished : TablesState → Message → List EndedMessage → TablesState
message_finished t message outputs = record t {
  queues = record t.queues { queued = with_messages (switched_messages message.origin (outputs_to_codes t.outputs outputs) t.next_id) (without_id_queued message.id t.queues.queued) };
  next_id = t.next_id + length (outputs_to_codes t.outputs outputs);
  outputs = with_replies outputs t.outputs;
  steps = t.steps + 1;
}

abbrev pub IsMessageFinished : TablesState → TablesState → ℕ → List EndedMessage → Type 0
IsMessageFinished old new id outputs =
    IsSomeAnd (queued_message id old.queues.queued) (λ message. (message.id ≡ id) × (new ≡ message_finished old message outputs))

-- a message is gone, this became of the pad of its origin, and the databases are then these
abbrev pub message_closed : DatabasesState → PadChange → TablesState → Message → List EndedMessage → TablesState
message_closed databases pad t message outputs =
    record (message_finished t message outputs) { databases = databases; conversations = with_pad_changed pad message.origin t.conversations }

-- The message of an id is gone, what it sends was sent, this became of the pad of its origin, and the databases are
-- then these.
abbrev pub IsMessageClosed : DatabasesState → (Message → PadChange) → (Message → List EndedMessage) → TablesState → TablesState → ℕ → Type 0
IsMessageClosed databases pads sends old new id =
    IsSomeAnd (queued_message id old.queues.queued) (λ message. (message.id ≡ id) × (new ≡ message_closed databases (pads message) old message (sends message)))

-- the terminal's first reply is gone
abbrev pub removed : TablesState → List ℕ → TablesState
removed t terminal = record t { outputs = with_terminal terminal without_first t.outputs; steps = t.steps + 1 }

-- An acknowledgement is answered by the replies that are kept. Only a reply that is removed changes
-- anything.
abbrev pub IsAcknowledged : TablesState → TablesState → List ℕ → ℕ → Result Acked AckRefused → Type 0
IsAcknowledged old new terminal number (Ok Removed) = (ack_by (output_at old.outputs terminal) number ≡ Ok Removed) × (new ≡ removed old terminal)
IsAcknowledged old new terminal number (Ok Already) = (ack_by (output_at old.outputs terminal) number ≡ Ok Already) × (new ≡ old)
IsAcknowledged old new terminal number (Err Unknown) = (ack_by (output_at old.outputs terminal) number ≡ Err Unknown) × (new ≡ old)
IsAcknowledged old new terminal number (Err (Ahead first)) = (ack_by (output_at old.outputs terminal) number ≡ Err (Ahead first)) × (new ≡ old)
IsAcknowledged old new terminal number (Err (Fault fault)) = new ≡ old
