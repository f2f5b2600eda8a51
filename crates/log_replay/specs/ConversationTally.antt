-- The messages of conversations, counted by terminal, so that what a record leaves is judged by the messages that come and
-- go with it.
use Rattle.std.specs.Prelude.{◌≡◌, ℕ, ◌+◌, ◌-◌, ◌==◌, Bool, true, false, not, ◌&&◌, if◌then◌else◌, List, [], ◌∷◌, Option, Some, None}
use Rattle.std.specs.BTreeMap.{is_at}
use Rattle.std.specs.Cmp.Lexicographic.{slice_cmp}
use Rattle.std.specs.Map.{lookup}
use Rattle.std.specs.Option.{unwrap_or, option_map_or, is_some}
use Rattle.std.specs.Ordering.{nat_cmp}
use Rattle.std.specs.Str.{bytes_eq}
use Rattle.tm_types.specs.declared.command.LastingCommand.{LastingCommand}
use Rattle.tm_types.specs.declared.command.LastingCommand.TheVariants.{Exit}
use Rattle.tm_types.specs.declared.message.Message.{Message}
use Rattle.model_messages.specs.declared.conversation.TerminalConversation.{TerminalConversation}
use Rattle.model_messages.specs.declared.conversation.PadChange.{PadChange}
use Rattle.model_messages.specs.declared.conversation.PadChange.TheVariants.{Stays, New, Ends}
use Rattle.model_messages.specs.ConversationInput.{is_conversing}
use Rattle.model_system.specs.System.{System}
use Rattle.model_messages.specs.Queue.{messages_of}
use Rattle.model_messages.specs.Outputs.{replies_at}
use Rattle.image_records.specs.KeptState.{KeptState}
use Rattle.log_replay.specs.ReplayRules.{knows, knows_by}

abbrev pub one_message_if : Bool → ℕ
one_message_if b = if b then 1 else 0

-- how many of these messages belong to the conversation of a terminal
abbrev pub talks_of : List ℕ → List Message → ℕ
talks_of name [] = 0
talks_of name (message ∷ messages) = one_message_if (is_conversing name message) + talks_of name messages

-- how often the rule on messages is broken: by one that isn't known, and by one of a conversation before another of it
abbrev pub faults_of : System → List TerminalConversation → List Message → ℕ
faults_of system conversations [] = 0
faults_of system conversations (message ∷ messages) =
    one_message_if (not (knows system conversations message)) + one_message_if (message.conversation && not (talks_of message.origin messages == 0)) + faults_of system conversations messages

-- the messages of conversations by terminal, and the faults
pub record TallyState : Type 0 where
  pub counts : List (List ℕ × ℕ)
  pub faults : ℕ

abbrev pub count_at : List ℕ → List (List ℕ × ℕ) → ℕ
count_at name counts = unwrap_or (lookup (is_at (slice_cmp nat_cmp name)) counts) 0

-- the count of a name is changed to this one, and each other one stays
abbrev pub SetsCount : List ℕ → ℕ → (old new : List (List ℕ × ℕ)) → Type 0
SetsCount name count old new = (other : List ℕ) → count_at other new ≡ (if bytes_eq name other then count else count_at other old)

-- it counts these messages
abbrev pub Counts : List Message → List (List ℕ × ℕ) → Type 0
Counts messages counts = (name : List ℕ) → count_at name counts ≡ talks_of name messages

-- it counts these messages, and their faults beside these conversations
pub record TallyTells (system : System) (conversations : List TerminalConversation) (messages : List Message) (tally : TallyState) : Type 0 where
  pub counts : Counts messages tally.counts
  pub faults : tally.faults ≡ faults_of system conversations messages

-- it counts what the tables have
abbrev pub TallyFollows : System → KeptState → TallyState → Type 0
TallyFollows system kept tally = TallyTells system kept.conversations (messages_of kept.queues.queued) tally

-- a message comes behind all others
pub record AddsMessage (origin : List ℕ) (conversation known : Bool) (old new : TallyState) : Type 0 where
  pub counts : (name : List ℕ) → count_at name new.counts ≡ count_at name old.counts + one_message_if (bytes_eq origin name && conversation)
  pub faults : new.faults ≡ old.faults + (one_message_if (not known) + one_message_if (conversation && not (count_at origin old.counts == 0)))

-- a message goes
pub record Removes (origin : List ℕ) (conversation known : Bool) (old new : TallyState) : Type 0 where
  pub counts : (name : List ℕ) → count_at name new.counts ≡ count_at name old.counts - one_message_if (bytes_eq origin name && conversation)
  pub faults : new.faults ≡ old.faults - (one_message_if (not known) + one_message_if (conversation && not (count_at origin new.counts == 0)))

-- A message is discarded: it goes, and where its origin is no terminal that is kept, one to the origin comes.
abbrev pub IsDiscardTallied : System → KeptState → List ℕ → Bool → (old new : TallyState) → Type 0
IsDiscardTallied system kept origin true old new = new ≡ old
IsDiscardTallied system kept origin false old new = AddsMessage origin false (knows_by system kept.conversations origin origin false) old new

pub record Discards (system : System) (kept : KeptState) (message : Message) (old new : TallyState) : Type 0 where
  pub between : TallyState
  pub removed : Removes message.origin message.conversation true old between
  pub told : IsDiscardTallied system kept message.origin (is_some (replies_at message.origin kept.outputs)) between new

-- ---- what is right once a conversation changed too

abbrev pub ends_pad : PadChange → Bool
ends_pad Stays = false
ends_pad (New text) = false
ends_pad Ends = true

-- the terminal whose conversation a command ends
abbrev pub conversation_ended_by : LastingCommand → Option (List ℕ)
conversation_ended_by (Exit terminal) = Some terminal
conversation_ended_by _ = None

-- no fault is there, and where the conversation of this terminal ends, no message of it
abbrev pub is_right : Bool → Option (List ℕ) → TallyState → Bool
is_right ends origin tally =
    (tally.faults == 0) && not (ends && option_map_or (λ name. not (count_at name tally.counts == 0)) origin false)
