-- What lasts but for the rows, as the tables of a control region keep it.
use Rattle.std.specs.Prelude.{◌≡◌, ℕ, List, None, map, false}
use Rattle.tm_types.specs.declared.message.Message.{Message}
use Rattle.model_messages.specs.declared.conversation.TerminalConversation.{TerminalConversation}
use Rattle.model_messages.specs.declared.queued.Queued.{Queued}
use Rattle.model_messages.specs.declared.replies.TerminalReplies.{TerminalReplies}
use Rattle.model_messages.specs.Queue.{QueuesState}
use Rattle.model_system.specs.System.{System}
use Rattle.model_machine.specs.declared.lasting.TerminalState.{TerminalState}
use Rattle.model_machine.specs.declared.lasting.CodeSetting.{CodeSetting}
use Rattle.model_machine.specs.Machine.{LastingState}
use Rattle.model_image.specs.States.{breaks_a_rule}

-- the queues, the replies, the terminals' last inputs and conversations, the settings of the codes, and the counts
pub record KeptState : Type 0 where
  pub queues : QueuesState
  pub next_id : ℕ
  pub terminals : List TerminalState
  pub outputs : List TerminalReplies
  pub conversations : List TerminalConversation
  pub codes : List CodeSetting
  pub steps : ℕ

-- messages that no region has, which may take as many bytes as the system says
abbrev pub free_message : Message → Queued
free_message message = record { message = message; holder = None }

abbrev pub free_queues : System → List Message → QueuesState
free_queues system messages = record { limit = system.qbytes; queued = map free_message messages }

-- the tables of a state
abbrev pub kept_of : System → LastingState → KeptState
kept_of system lasting = record {
  queues = free_queues system lasting.messages;
  next_id = lasting.next_id;
  terminals = lasting.terminals;
  outputs = lasting.outputs;
  conversations = lasting.conversations;
  codes = lasting.codes;
  steps = lasting.steps;
}

-- The tables keep a state, which breaks no rule of a state.
pub record KeepsState (system : System) (lasting : LastingState) (kept : KeptState) : Type 0 where
  pub is : kept ≡ kept_of system lasting
  pub sound : breaks_a_rule system lasting ≡ false
