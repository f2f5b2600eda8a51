-- The steps that last, and what each leaves. The running machine does them, and a recovery does them again.
use Rattle.std.specs.Prelude.{ℕ, ◌+◌, ◌-◌, ◌==◌, Bool, filter, not, true, false, if◌then◌else◌, Option, Some, None, List, [], ◌∷◌, ◌++◌, codes, slice_index_or}
use Rattle.std.specs.Option.{is_some, option_map}
use Rattle.tm_types.specs.declared.abend.AbendCode.{AbendCode}
use Rattle.tm_types.specs.declared.command.LastingCommand.{LastingCommand}
use Rattle.tm_types.specs.declared.command.LastingCommand.TheVariants.{StartTransaction, StopTransaction, StartTerminal, StopTerminal, DequeueFirst, DequeueAll, Exit, AssignClass, AssignPriority}
use Rattle.tm_types.specs.declared.message.Message.{Message}
use Rattle.tm_types.specs.Words.{first_word, operands}
use Rattle.tm_types.specs.Digits.{four_digits}
use Rattle.model_messages.specs.declared.conversation.Conversation.{Conversation}
use Rattle.model_messages.specs.declared.conversation.PadChange.{PadChange}
use Rattle.model_messages.specs.declared.conversation.PadChange.TheVariants.{Stays, New, Ends}
use Rattle.model_messages.specs.declared.conversation.TerminalConversation.{TerminalConversation}
use Rattle.model_messages.specs.Pads.{begun}
use Rattle.model_messages.specs.Terminals.{conversation_at, with_conversation}
use Rattle.model_messages.specs.Terminals as conversations
use Rattle.model_system.specs.declared.code.Code.{Code}
use Rattle.model_system.specs.Codes.{code_at}
use Rattle.model_system.specs.System.{System}
use Rattle.model_system.specs.Lists.{change_at}
use Rattle.model_messages.specs.declared.replies.TerminalReplies.{TerminalReplies}
use Rattle.model_messages.specs.Outputs.{with_terminal, with_reply, without_first}
use Rattle.model_messages.specs.declared.ended_message.EndedMessage.{EndedMessage}
use Rattle.model_data.specs.declared.row.Row.{Row}
use Rattle.model_machine.specs.declared.lasting.CodeSetting.{CodeSetting}
use Rattle.model_machine.specs.declared.lasting.TerminalState.{TerminalState}
use Rattle.model_machine.specs.Machine.{LastingState, terminal_place, setting_place, output_at, message_at}

-- ---- an input as it is kept

-- the code that it goes to, whether it belongs to a conversation, its segments, and the conversation that begins
-- with it, if one does
pub record KeptInput : Type 0 where
  pub code : List ℕ
  pub conversation : Bool
  pub segments : List (List ℕ)
  pub begins : Option Conversation

-- the first word of an input's first segment
abbrev pub code_word : List (List ℕ) → List ℕ
code_word segments = first_word (slice_index_or segments 0 [])

-- the segments without the first one's first word, and without the blank that ends it
abbrev pub without_word : List (List ℕ) → List (List ℕ)
without_word [] = []
without_word (segment ∷ segments) = operands segment ∷ segments

-- An input to a code without conversations is kept as it is. A code with conversations begins one: the code is cut
-- off, and the pad has a work area of the length of the code's pad, less 14.
abbrev pub kept_alone : List (List ℕ) → KeptInput
kept_alone segments = record { code = code_word segments; conversation = false; segments = segments; begins = None }

abbrev pub kept_first : ℕ → List (List ℕ) → KeptInput
kept_first pad segments = record {
  code = code_word segments;
  conversation = true;
  segments = without_word segments;
  begins = Some (begun (code_word segments) (pad - 14));
}

abbrev pub kept_by_code : Option Code → List (List ℕ) → KeptInput
kept_by_code None segments = kept_alone segments
kept_by_code (Some code) segments =
    if code.transaction.scratch_pad == 0 then kept_alone segments else kept_first code.transaction.scratch_pad segments

-- Where the terminal has a conversation, the input goes to its code whatever the text.
abbrev pub kept_by : System → Option Conversation → List (List ℕ) → KeptInput
kept_by system (Some c) segments = record { code = c.code; conversation = true; segments = segments; begins = None }
kept_by system None segments = kept_by_code (code_at system.codes (code_word segments)) segments

abbrev pub kept_input : System → LastingState → List ℕ → List (List ℕ) → KeptInput
kept_input system lasting terminal segments = kept_by system (conversation_at terminal lasting.conversations) segments

-- ---- the steps

-- An input of a terminal under a number is accepted, and kept so. A terminal's first reply is acknowledged. The
-- message of an id is completed: the rows are these, these outputs are sent, and this becomes of the pad. The
-- message of an id is discarded with an abend. An operator's command is done.
pub data LastingStep : Type 0 where
  Accepts : List ℕ → ℕ → KeptInput → LastingStep
  Acknowledges : List ℕ → LastingStep
  Completes : ℕ → List (List Row) → List EndedMessage → PadChange → LastingStep
  Discards : ℕ → AbendCode → LastingStep
  Commands : LastingCommand → LastingStep

-- a terminal with this number as its last input's
abbrev pub with_last_number : ℕ → TerminalState → TerminalState
with_last_number number terminal = record terminal { last = number }

-- the terminal has this conversation, or none
abbrev pub with_conversing : List ℕ → Option Conversation → List TerminalConversation → List TerminalConversation
with_conversing terminal conversation all = conversations.with_terminal terminal (with_conversation conversation) all

-- a conversation begins at the terminal, if one does
abbrev pub with_begun : List ℕ → Option Conversation → List TerminalConversation → List TerminalConversation
with_begun terminal None all = all
with_begun terminal (Some c) all = with_conversing terminal (Some c) all

-- the message of an input that is kept so
abbrev pub input_message : ℕ → List ℕ → KeptInput → Message
input_message id terminal kept = record { id = id; origin = terminal; code = kept.code; conversation = kept.conversation; segments = kept.segments }

-- What an accepted input leaves: its message behind all others, under the next id, its number as the
-- terminal's last, and the conversation that begins with it.
abbrev pub accepted : List ℕ → ℕ → KeptInput → LastingState → LastingState
accepted terminal number kept lasting = record lasting {
  messages = lasting.messages ++ input_message lasting.next_id terminal kept ∷ [];
  next_id = lasting.next_id + 1;
  terminals = change_at lasting.terminals (terminal_place lasting.terminals terminal) (with_last_number number);
  conversations = with_begun terminal kept.begins lasting.conversations;
}

-- what an acknowledged reply leaves: the terminal without it
abbrev pub acknowledged : List ℕ → LastingState → LastingState
acknowledged terminal lasting = record lasting { outputs = with_terminal terminal without_first lasting.outputs }

-- a message is switched: it stands behind all others, under the next id, and keeps its origin
abbrev pub switched : List ℕ → EndedMessage → LastingState → LastingState
switched origin output lasting = record lasting {
  messages = lasting.messages ++ record { id = lasting.next_id; origin = origin; code = output.to; conversation = false; segments = output.segments } ∷ [];
  next_id = lasting.next_id + 1;
}

-- a reply waits at its terminal, under the next number
abbrev pub replied : EndedMessage → LastingState → LastingState
replied output lasting = record lasting { outputs = with_terminal output.to (with_reply output.segments) lasting.outputs }

-- An output goes to a terminal as a reply, and else to a code as a message.
abbrev pub output_sent : List ℕ → EndedMessage → LastingState → LastingState
output_sent origin output lasting =
    if is_some (output_at lasting.outputs output.to) then replied output lasting else switched origin output lasting

-- outputs go out in their order
abbrev pub all_sent : List ℕ → List EndedMessage → LastingState → LastingState
all_sent origin [] lasting = lasting
all_sent origin (output ∷ outputs) lasting = all_sent origin outputs (output_sent origin output lasting)

-- the messages without the one of this id
abbrev pub without_message : List Message → ℕ → List Message
without_message messages id = filter (λ message. not (message.id == id)) messages

-- a message is gone, and these outputs were sent, which have its origin
abbrev pub finished : Message → List EndedMessage → LastingState → LastingState
finished message outputs lasting =
    all_sent message.origin outputs (record lasting { messages = without_message lasting.messages message.id })

-- what the origin of a message is sent, and nothing else, where the work on it ended abnormally
abbrev pub dfs555i_text : List ℕ → AbendCode → List ℕ
dfs555i_text code abend = codes "DFS555I TRAN " ++ code ++ codes " ABEND U" ++ four_digits abend.number

abbrev pub abend_outputs : Message → AbendCode → List EndedMessage
abend_outputs message abend = record { to = message.origin; segments = dfs555i_text message.code abend ∷ [] } ∷ []

abbrev pub finished_by : Option Message → (Message → List EndedMessage) → LastingState → LastingState
finished_by (Some message) outputs lasting = finished message (outputs message) lasting
finished_by None outputs lasting = lasting

-- The pad of a message's conversation stays, or is another one, or the conversation ends.
abbrev pub with_conversation_text : List ℕ → Conversation → Conversation
with_conversation_text text c = record c { pad = text }

abbrev pub new_pad : List ℕ → TerminalConversation → TerminalConversation
new_pad text t = record t { conversation = option_map (with_conversation_text text) t.conversation }

abbrev pub with_pad_changed : PadChange → List ℕ → List TerminalConversation → List TerminalConversation
with_pad_changed Stays origin all = all
with_pad_changed (New text) origin all = conversations.with_terminal origin (new_pad text) all
with_pad_changed Ends origin all = with_conversing origin None all

-- a discarded message that belongs to a conversation ends it
abbrev pub discarded_pad : Message → PadChange
discarded_pad message = if message.conversation then Ends else Stays

abbrev pub with_pad_by : Option Message → (Message → PadChange) → LastingState → LastingState
with_pad_by (Some message) change lasting = record lasting { conversations = with_pad_changed (change message) message.origin lasting.conversations }
with_pad_by None change lasting = lasting

-- a terminal without its replies, whose numbers stay used
abbrev pub without_replies : TerminalReplies → TerminalReplies
without_replies t = record t { replies = [] }

-- a code and a terminal that are stopped, or started
abbrev pub stopped_code : Bool → CodeSetting → CodeSetting
stopped_code stopped code = record code { stopped = stopped }

abbrev pub stopped_terminal : Bool → TerminalState → TerminalState
stopped_terminal stopped terminal = record terminal { stopped = stopped }

abbrev pub with_stopped_terminal : Bool → List ℕ → LastingState → LastingState
with_stopped_terminal stopped terminal lasting =
    record lasting { terminals = change_at lasting.terminals (terminal_place lasting.terminals terminal) (stopped_terminal stopped) }

-- a code with another class, and with another normal priority
abbrev pub classed_code : ℕ → CodeSetting → CodeSetting
classed_code class code = record code { class = class }

abbrev pub ranked_code : ℕ → CodeSetting → CodeSetting
ranked_code priority code = record code { priority = priority }

abbrev pub with_code_changed : (CodeSetting → CodeSetting) → List ℕ → LastingState → LastingState
with_code_changed change code lasting = record lasting { codes = change_at lasting.codes (setting_place lasting.codes code) change }

-- What a command changes: whether a code or a terminal is stopped, the replies of a terminal, of which the first or
-- all go, the conversation of a terminal, which ends, or the class or the normal priority of a code.
abbrev pub commanded : LastingCommand → LastingState → LastingState
commanded (StartTransaction code) lasting = with_code_changed (stopped_code false) code lasting
commanded (StopTransaction code) lasting = with_code_changed (stopped_code true) code lasting
commanded (StartTerminal terminal) lasting = with_stopped_terminal false terminal lasting
commanded (StopTerminal terminal) lasting = with_stopped_terminal true terminal lasting
commanded (DequeueFirst terminal) lasting = acknowledged terminal lasting
commanded (DequeueAll terminal) lasting = record lasting { outputs = with_terminal terminal without_replies lasting.outputs }
commanded (Exit terminal) lasting = record lasting { conversations = with_conversing terminal None lasting.conversations }
commanded (AssignClass code class) lasting = with_code_changed (classed_code class) code lasting
commanded (AssignPriority code priority) lasting = with_code_changed (ranked_code priority) code lasting

-- what a step changes
abbrev pub changed : LastingStep → LastingState → LastingState
changed (Accepts terminal number kept) lasting = accepted terminal number kept lasting
changed (Acknowledges terminal) lasting = acknowledged terminal lasting
changed (Completes id rows outputs pad) lasting =
    finished_by (message_at lasting.messages id) (λ _. outputs)
    (with_pad_by (message_at lasting.messages id) (λ _. pad) (record lasting { rows = rows }))
changed (Discards id abend) lasting =
    finished_by (message_at lasting.messages id) (λ message. abend_outputs message abend)
    (with_pad_by (message_at lasting.messages id) discarded_pad lasting)
changed (Commands command) lasting = commanded command lasting

-- what a step leaves, which is counted
abbrev pub applied : LastingStep → LastingState → LastingState
applied step lasting = record (changed step lasting) { steps = lasting.steps + 1 }
