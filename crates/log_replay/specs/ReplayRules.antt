-- What doing a record comes to, and which states keep their rules.
use Rattle.std.specs.Prelude.{◌≡◌, ℕ, ◌==◌, Bool, true, false, not, ◌&&◌, if◌then◌else◌, List, [], map, Option, Some}
use Rattle.std.specs.List.{list_all, list_any}
use Rattle.std.specs.Option.{option_map_or, is_none}
use Rattle.std.specs.Str.{bytes_eq}
use Rattle.tm_types.specs.declared.message.Message.{Message}
use Rattle.model_messages.specs.declared.conversation.TerminalConversation.{TerminalConversation}
use Rattle.model_messages.specs.Terminals.{conversation_at}
use Rattle.model_system.specs.Codes.{code_at}
use Rattle.model_system.specs.System.{System}
use Rattle.model_messages.specs.declared.queued.Queued.{Queued}
use Rattle.model_messages.specs.Queue.{messages_of}
use Rattle.model_machine.specs.Machine.{LastingState}
use Rattle.model_image.specs.States.{is_setting, ascend_below, is_system_terminal, is_system_code, are_alone, is_small, breaks_a_rule}
use Rattle.image_records.specs.KeptState.{KeptState}
use Rattle.log_replay.specs.ReplaySteps.{is_over}
use Rattle.image_law.specs.StandingState.{is_run}

-- what lasts as the tables have it, with no row in any database
abbrev pub lasting_in : System → KeptState → LastingState
lasting_in system kept = record {
  rows = map (λ _. []) system.databases;
  messages = messages_of kept.queues.queued;
  next_id = kept.next_id;
  terminals = kept.terminals;
  outputs = kept.outputs;
  conversations = kept.conversations;
  codes = kept.codes;
  steps = kept.steps;
}

-- no region has a message, and the queues have the room that the system says
abbrev pub has_no_holder : Queued → Bool
has_no_holder q = is_none q.holder

pub record AreMessagesFree (system : System) (kept : KeptState) : Type 0 where
  pub limit : kept.queues.limit ≡ system.qbytes
  pub holders : list_all has_no_holder kept.queues.queued ≡ true

-- A step was done on the tables; or it can't be, or a number may not be counted on.
abbrev pub DoesStep : Option KeptState → KeptState → Bool → Type 0
DoesStep answer new true = answer ≡ Some new
DoesStep answer new false = option_map_or is_over answer true ≡ true

-- a message of this origin to this code, which belongs to a conversation or to none, is known beside these conversations
abbrev pub knows_by : System → List TerminalConversation → List ℕ → List ℕ → Bool → Bool
knows_by system conversations origin code conversation =
    is_system_terminal system origin && is_system_code system code
    && (if conversation then option_map_or (λ c. bytes_eq c.code code) (conversation_at origin conversations) false else option_map_or (λ code. code.transaction.scratch_pad == 0) (code_at system.codes code) true)

abbrev pub knows : System → List TerminalConversation → Message → Bool
knows system conversations message = knows_by system conversations message.origin message.code message.conversation

-- the messages are known, and at most one of each conversation waits
abbrev pub are_right : System → KeptState → Bool
are_right system kept =
    list_all (knows system kept.conversations) (messages_of kept.queues.queued) && are_alone (messages_of kept.queues.queued)

-- What no record of a log can break: the settings, that ids ascend, and that replies follow one another.
pub record KeepsRest (kept : KeptState) : Type 0 where
  pub settings : list_all is_setting kept.codes ≡ true
  pub ascending : ascend_below kept.next_id (messages_of kept.queues.queued) ≡ true
  pub runs : list_all is_run kept.outputs ≡ true

-- the ids ascend below the next one, and each number may be counted on
pub record IsOrderly (kept : KeptState) : Type 0 where
  pub ascending : ascend_below kept.next_id (messages_of kept.queues.queued) ≡ true
  pub small : is_over kept ≡ false

-- A record's step was done, and what it leaves breaks no rule; or it can't be done, or breaks one.
abbrev pub RecordLeaves : System → Option LastingState → KeptState → Bool → Type 0
RecordLeaves system answer kept true = (answer ≡ Some (lasting_in system kept)) × (breaks_a_rule system (lasting_in system kept) ≡ false) × AreMessagesFree system kept
RecordLeaves system answer kept false = option_map_or (breaks_a_rule system) answer true ≡ true

-- what tables must keep before a step
pub record AreSound (system : System) (kept : KeptState) : Type 0 where
  pub sound : breaks_a_rule system (lasting_in system kept) ≡ false
  pub free : AreMessagesFree system kept

-- the number of each terminal's next reply may be counted on
abbrev pub AreSmall : KeptState → Type 0
AreSmall kept = list_any (λ t. not (is_small t.next)) kept.outputs ≡ false
