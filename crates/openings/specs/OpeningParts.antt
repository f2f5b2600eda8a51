-- What a life begins with.
use Rattle.std.specs.Prelude.{◌≡◌, ℕ, None, List, map}
use Rattle.tm_types.specs.declared.message.Message.{Message}
use Rattle.model_messages.specs.declared.queued.Queued.{Queued}
use Rattle.model_messages.specs.declared.replies.TerminalReplies.{TerminalReplies}
use Rattle.model_messages.specs.Queue.{QueuesState}
use Rattle.model_messages.specs.declared.conversation.TerminalConversation.{TerminalConversation}
use Rattle.model_system.specs.System.{System}
use Rattle.model_system.specs.declared.code_state.CodeState.{CodeState}
use Rattle.model_machine.specs.declared.lasting.TerminalState.{TerminalState}
use Rattle.model_machine.specs.Machine.{LastingState, states_of, start_of}
use Rattle.restart_data.specs.declared.restart.RestartSector.{RestartSector}
use Rattle.seg_store.specs.Slots.{rows_of_slots}
use Rattle.seg_store.specs.Stores.{no_changed}
use Rattle.seg_store.specs.ChangedSlots.{AllStores}

-- The tables of a life as they stand when it begins: the queues, the replies, the codes, the terminals, the conversations,
-- and the stores; the restart sector that was written; and the counts.
pub record OpeningParts : Type 0 where
  pub queues : QueuesState
  pub outputs : List TerminalReplies
  pub codes : List CodeState
  pub terminals : List TerminalState
  pub conversations : List TerminalConversation
  pub stores : AllStores
  pub now : RestartSector
  pub next_id : ℕ
  pub next_unit : ℕ
  pub steps : ℕ

-- a message that no region has
abbrev pub waiting_message : Message → Queued
waiting_message message = record { message = message; holder = None }

-- The parts are those of what lasts, as a life starts: no region has a message, and the limit priority counts for the
-- codes whose waiting messages reach their limit count. No slot of the databases counts as changed.
pub record AreOpeningParts (system : System) (state : LastingState) (parts : OpeningParts) : Type 0 where
  pub queues : parts.queues ≡ record { limit = system.qbytes; queued = map waiting_message state.messages }
  pub outputs : parts.outputs ≡ state.outputs
  pub codes : parts.codes ≡ states_of (start_of system state)
  pub terminals : parts.terminals ≡ state.terminals
  pub conversations : parts.conversations ≡ state.conversations
  pub databases : map (λ store. store.dbd) parts.stores.stores ≡ system.databases
  pub rows : map (λ store. rows_of_slots store.slots) parts.stores.stores ≡ state.rows
  pub written : parts.stores.changed ≡ no_changed system.databases
  pub next_id : parts.next_id ≡ state.next_id
  pub steps : parts.steps ≡ state.steps
