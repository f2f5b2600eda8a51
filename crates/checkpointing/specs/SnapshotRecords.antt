-- The records of a snapshot of what lasts.
use Rattle.std.specs.Prelude.{◌≡◌, ℕ, List, [], ◌∷◌, ◌++◌, map}
use Rattle.tm_types.specs.declared.message.Message.{Message}
use Rattle.tm_types.specs.declared.message.Reply.{Reply}
use Rattle.model_messages.specs.declared.conversation.TerminalConversation.{TerminalConversation}
use Rattle.model_system.specs.System.{System}
use Rattle.model_messages.specs.declared.replies.TerminalReplies.{TerminalReplies}
use Rattle.model_machine.specs.declared.lasting.TerminalState.{TerminalState}
use Rattle.model_machine.specs.declared.lasting.CodeSetting.{CodeSetting}
use Rattle.model_machine.specs.Machine.{LastingState}
use Rattle.log_records.specs.declared.record.Record.{Record}
pub use Rattle.system_types.specs.ValidSystem.{AreApart}
use Rattle.log_records.specs.declared.record.Record.TheVariants as record_of
use Rattle.model_image.specs.Snapshot.{code_names}

-- a terminal with its next output and its conversation, in the order of the definition
abbrev pub terminal_records : List TerminalState → List TerminalReplies → List TerminalConversation → List Record
terminal_records (t ∷ ts) (o ∷ os) (c ∷ cs) =
    record_of.Terminal t.name t.last o.next t.stopped c.conversation ∷ terminal_records ts os cs
terminal_records _ _ _ = []

abbrev pub code_record : CodeSetting → Record
code_record c = record_of.Code c.code c.stopped c.class c.priority

-- a message belongs to no unit, and has no number
abbrev pub message_record : Message → Record
message_record m = record_of.Input 0 m.id m.origin m.code 0 m.conversation m.segments

abbrev pub reply_record : List ℕ → Reply → Record
reply_record terminal r = record_of.Reply 0 terminal r.number r.segments

-- the replies by terminal and number
abbrev pub reply_records : List TerminalReplies → List Record
reply_records [] = []
reply_records (o ∷ os) = map (reply_record o.terminal) o.replies ++ reply_records os

-- The counts, the terminals, the codes, the messages in the order of their ids, the replies, and the changes of open
-- units. A life begins without such changes.
abbrev pub snapshot_records : (checkpoint unit : ℕ) → LastingState → (changes : List Record) → List Record
snapshot_records checkpoint unit state changes =
    record_of.Checkpoint checkpoint state.next_id unit state.steps
    ∷ (terminal_records state.terminals state.outputs state.conversations
    ++ (map code_record state.codes
    ++ (map message_record state.messages
    ++ (reply_records state.outputs
    ++ changes))))

-- what lasts has the terminals and codes of the system, in their order
pub record IsOfSystem (system : System) (state : LastingState) : Type 0 where
  pub terminals : map (λ t. t.name) state.terminals ≡ system.terminals
  pub outputs : map (λ t. t.terminal) state.outputs ≡ system.terminals
  pub conversations : map (λ t. t.terminal) state.conversations ≡ system.terminals
  pub codes : map (λ c. c.code) state.codes ≡ code_names system
