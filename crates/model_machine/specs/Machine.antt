-- The state of the machine that serves a system.
use Rattle.std.specs.Prelude.{ℕ, ◌+◌, ◌-◌, ◌≤◌, ◌==◌, nat_le, Bool, true, false, not, ◌&&◌, if◌then◌else◌, Option, Some, None, List, [], ◌∷◌, map, replicate, length, slice_get, position, find}
use Rattle.std.specs.Option.{unwrap_or, is_some}
use Rattle.std.specs.List.{list_any, count_by}
use Rattle.std.specs.Str.{bytes_eq}
use Rattle.tm_types.specs.declared.message.Message.{Message}
use Rattle.model_messages.specs.declared.conversation.TerminalConversation.{TerminalConversation}
use Rattle.model_messages.specs.Terminals.{without_conversation}
use Rattle.model_messages.specs.declared.replies.TerminalReplies.{TerminalReplies}
use Rattle.model_messages.specs.Outputs.{fresh_terminal, replies_at, outputs_bytes}
use Rattle.model_messages.specs.Room.{messages_bytes}
use Rattle.model_messages.specs.Waiting.{count_waiting}
use Rattle.model_system.specs.declared.code_state.CodeState.{CodeState}
use Rattle.model_system.specs.declared.code.Code.{Code}
use Rattle.model_system.specs.declared.code.Transaction.{Transaction}
use Rattle.model_system.specs.System.{System}
use Rattle.model_data.specs.declared.row.Row.{Row}
use Rattle.model_data.specs.Table.{EnqueueTable, empty_table}
use Rattle.model_machine.specs.declared.lasting.TerminalState.{TerminalState}
use Rattle.model_machine.specs.declared.lasting.CodeSetting.{CodeSetting}

-- What lasts of the machine: the rows of each database; the messages in the order of their ids, and the
-- next id; per terminal the last input number and whether it is stopped; the replies kept for each, with
-- the next number; the conversation of each, if it has one; per code whether it is stopped, its class and its
-- priority; and how many lasting steps were done.
pub record LastingState : Type 0 where
  pub rows : List (List Row)
  pub messages : List Message
  pub next_id : ℕ
  pub terminals : List TerminalState
  pub outputs : List TerminalReplies
  pub conversations : List TerminalConversation
  pub codes : List CodeSetting
  pub steps : ℕ

-- a region's message: its code, how many messages the region took in a row, its id, and how many
-- calls its script has made
pub record Slot : Type 0 where
  pub code : List ℕ
  pub taken : ℕ
  pub id : ℕ
  pub calls : ℕ

-- the machine at a moment: what lasts of it; for each region its slot, which may be empty; what the regions
-- hold and wait for; and for each code whether its limit priority counts
pub record Moment : Type 0 where
  pub lasting : LastingState
  pub slots : List (Option Slot)
  pub enqueues : EnqueueTable
  pub raised : List Bool

-- Look-ups by name and by id, each the first that there is.
abbrev pub terminal_place : List TerminalState → List ℕ → Option ℕ
terminal_place terminals name = position (λ terminal. bytes_eq terminal.name name) terminals

abbrev pub terminal_at : List TerminalState → List ℕ → Option TerminalState
terminal_at terminals name = find (λ terminal. bytes_eq terminal.name name) terminals

abbrev pub setting_place : List CodeSetting → List ℕ → Option ℕ
setting_place settings name = position (λ setting. bytes_eq setting.code name) settings

abbrev pub output_at : List TerminalReplies → List ℕ → Option TerminalReplies
output_at outputs name = replies_at name outputs

abbrev pub message_at : List Message → ℕ → Option Message
message_at messages id = find (λ message. message.id == id) messages

-- a region of the system has a number from 1
abbrev pub IsRegion : System → ℕ → Type 0
IsRegion system region = (1 ≤ region) × (region ≤ length system.regions)

abbrev pub slot_in : List (Option Slot) → ℕ → Option Slot
slot_in slots region = unwrap_or (slice_get slots (region - 1)) None

abbrev pub slot_at : Moment → ℕ → Option Slot
slot_at moment region = slot_in moment.slots region

abbrev pub has_message : ℕ → Option Slot → Bool
has_message id (Some slot) = slot.id == id
has_message id None = false

-- a slot has the message
abbrev pub is_held : List (Option Slot) → ℕ → Bool
is_held slots id = list_any (has_message id) slots

-- how many regions have a message
abbrev pub busy_slots : List (Option Slot) → ℕ
busy_slots slots = count_by is_some slots

-- the bytes of the messages and of the replies that are kept
abbrev pub content : LastingState → ℕ
content lasting = messages_bytes lasting.messages + outputs_bytes lasting.outputs

-- the state of a code, and what of it lasts
abbrev pub code_state_by : CodeSetting → Bool → CodeState
code_state_by c raised = record { code = c.code; stopped = c.stopped; class = c.class; priority = c.priority; raised = raised }

abbrev pub setting_of : CodeState → CodeSetting
setting_of s = record { code = s.code; stopped = s.stopped; class = s.class; priority = s.priority }

-- the states of the codes, in the order of the definition
abbrev pub states_by : List CodeSetting → List Bool → List CodeState
states_by [] flags = []
states_by (c ∷ settings) [] = []
states_by (c ∷ settings) (raised ∷ flags) = code_state_by c raised ∷ states_by settings flags

abbrev pub states_of : Moment → List CodeState
states_of moment = states_by moment.lasting.codes moment.raised

-- The limit priority counts from the moment when as many messages of the code wait as its limit
-- count says, until none waits; 65,535 is no limit. `waiting` messages wait now.
abbrev pub raised_by : Transaction → ℕ → Bool → Bool
raised_by transaction waiting raised =
    if waiting == 0 then false
    else if not (transaction.limit_count == 65535) && nat_le transaction.limit_count waiting then true
    else raised

-- the flags of all codes, each by how many of its messages wait now
abbrev pub raised_now : (List ℕ → ℕ) → List Code → List Bool → List Bool
raised_now waiting [] flags = []
raised_now waiting (code ∷ codes) [] = []
raised_now waiting (code ∷ codes) (raised ∷ flags) =
    raised_by code.transaction (waiting code.transaction.code) raised ∷ raised_now waiting codes flags

-- how many messages of a code wait in no slot
abbrev pub waiting_now : LastingState → List (Option Slot) → List ℕ → ℕ
waiting_now lasting slots code = count_waiting (is_held slots) code lasting.messages

-- the machine with what lasts, with these slots and this enqueue table, and with the flags as they follow on
-- those before
abbrev pub moment_with : System → LastingState → List (Option Slot) → EnqueueTable → List Bool → Moment
moment_with system lasting slots table flags =
    record { lasting = lasting; slots = slots; enqueues = table; raised = raised_now (waiting_now lasting slots) system.codes flags }

abbrev pub fresh_terminal_state : List ℕ → TerminalState
fresh_terminal_state name = record { name = name; last = 0; stopped = false }

abbrev pub first_setting : Code → CodeSetting
first_setting code = record {
  code = code.transaction.code;
  stopped = false;
  class = code.transaction.class;
  priority = code.transaction.normal_priority;
}

-- the empty machine: no row, no message, no number used; classes and priorities are those of the
-- definition
abbrev pub empty_state : System → LastingState
empty_state system = record {
  rows = map (λ _. []) system.databases;
  messages = [];
  next_id = 1;
  terminals = map fresh_terminal_state system.terminals;
  outputs = map fresh_terminal system.terminals;
  conversations = map without_conversation system.terminals;
  codes = map first_setting system.codes;
  steps = 0;
}

-- a life starts with what lasted, empty slots, nothing held, and the flags by what waits
abbrev pub start_of : System → LastingState → Moment
start_of system lasting =
    moment_with system lasting (replicate (length system.regions) None) (empty_table (length system.regions)) (map (λ _. false) system.codes)
