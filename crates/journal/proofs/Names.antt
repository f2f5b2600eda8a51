-- A step keeps the names of terminals and codes, and leaves messages and replies of 1 to 32 segments.
use Rattle.std.proofs.Common.{◌≡◌, ℕ, zero, suc, Bool, true, false, List, [], ◌∷◌, map, Option, Some, None, refl, ◌∙◌, ap}
use Rattle.std.specs.Prelude.{if◌then◌else◌, slice_get, slice_set}
use Rattle.std.specs.Option.{is_some, option_map, option_map_or}
use Rattle.tm_types.specs.declared.command.LastingCommand.{LastingCommand}
use Rattle.tm_types.specs.declared.command.LastingCommand.TheVariants.{StartTransaction, StopTransaction, StartTerminal, StopTerminal, DequeueFirst, DequeueAll, Exit, AssignClass, AssignPriority}
use Rattle.tm_types.specs.declared.message.Message.{Message}
use Rattle.model_messages.specs.declared.conversation.Conversation.{Conversation}
use Rattle.model_messages.specs.declared.conversation.PadChange.{PadChange}
use Rattle.model_messages.specs.declared.conversation.PadChange.TheVariants.{Stays, New, Ends}
use Rattle.model_messages.specs.declared.conversation.TerminalConversation.{TerminalConversation}
use Rattle.model_messages.specs.Terminals as conversations
use Rattle.model_messages.specs.declared.replies.TerminalReplies.{TerminalReplies}
use Rattle.model_messages.specs.Outputs as outputs
use Rattle.model_messages.specs.declared.ended_message.EndedMessage.{EndedMessage}
use Rattle.model_system.specs.Lists.{change_at}
use Rattle.model_system.specs.System.{System}
use Rattle.model_machine.specs.declared.lasting.CodeSetting.{CodeSetting}
use Rattle.model_machine.specs.declared.lasting.TerminalState.{TerminalState}
use Rattle.model_machine.specs.Machine.{LastingState, message_at, output_at, setting_place, terminal_place}
use Rattle.model_machine.specs.LastingSteps.{LastingStep, abend_outputs, all_sent, applied, classed_code, commanded, discarded_pad, finished_by, new_pad, with_pad_changed, ranked_code, replied, output_sent, stopped_code, stopped_terminal, switched, with_begun, with_last_number, with_pad_by, without_message, without_replies}
use Rattle.model_machine.specs.LastingSteps.LastingStep.{Accepts, Acknowledges, Completes, Discards, Commands}
use Rattle.model_image.specs.Replay.{Replay, replay_all}
use Rattle.checkpointing.specs.SnapshotRecords.{IsOfSystem}
use Rattle.image_law.specs.SegmentCounts.{AreSegmentsCounted}
use Rattle.image_law.proofs.CountsReplayed.{log_counted}
use Rattle.disk_law.specs.Life.{LifeOnDisk, but_rows}
use Rattle.disk_law.specs.LifeSteps.{StepOnDisk, IsStep}

-- ---- changes by name

outputs_keep : (name : List ℕ) (change : TerminalReplies → TerminalReplies) → ((t : TerminalReplies) → (change t).terminal ≡ t.terminal) → (ts : List TerminalReplies) → map (λ t. t.terminal) (outputs.with_terminal name change ts) ≡ map (λ t. t.terminal) ts
outputs_keep name change keeps [] = refl
outputs_keep name change keeps (t ∷ ts) = by (outputs.are_replies_of name t) (outputs_keep name change keeps ts) where
  by : (b : Bool) → map (λ x. x.terminal) (outputs.with_terminal name change ts) ≡ map (λ x. x.terminal) ts
      → map (λ x. x.terminal) (if b then change t ∷ ts else t ∷ outputs.with_terminal name change ts) ≡ map (λ x. x.terminal) (t ∷ ts)
  by true later = ap (λ (n : List ℕ). n ∷ map (λ (x : TerminalReplies). x.terminal) ts) (keeps t)
  by false later = ap (λ (ns : List (List ℕ)). t.terminal ∷ ns) later

conversations_keep : (name : List ℕ) (change : TerminalConversation → TerminalConversation) → ((t : TerminalConversation) → (change t).terminal ≡ t.terminal) → (ts : List TerminalConversation)
    → map (λ t. t.terminal) (conversations.with_terminal name change ts) ≡ map (λ t. t.terminal) ts
conversations_keep name change keeps [] = refl
conversations_keep name change keeps (t ∷ ts) = by (conversations.is_conversation_of name t) (conversations_keep name change keeps ts) where
  by : (b : Bool) → map (λ x. x.terminal) (conversations.with_terminal name change ts) ≡ map (λ x. x.terminal) ts
      → map (λ x. x.terminal) (if b then change t ∷ ts else t ∷ conversations.with_terminal name change ts) ≡ map (λ x. x.terminal) (t ∷ ts)
  by true later = ap (λ (n : List ℕ). n ∷ map (λ (x : TerminalConversation). x.terminal) ts) (keeps t)
  by false later = ap (λ (ns : List (List ℕ)). t.terminal ∷ ns) later

changes_keep : {X Y : Type 0} (name_of : X → Y) (change : X → X) → ((x : X) → name_of (change x) ≡ name_of x) → (xs : List X) (place : Option ℕ) → map name_of (change_at xs place change) ≡ map name_of xs
changes_keep name_of change keeps xs None = refl
changes_keep {X} {Y} name_of change keeps xs (Some place) = at xs place where
  at : (xs : List X) (k : ℕ) → map name_of (option_map_or (λ x. slice_set xs k (change x)) (slice_get xs k) xs) ≡ map name_of xs
  at [] k = refl
  at (x ∷ xs) zero = ap (λ n. n ∷ map name_of xs) (keeps x)
  at (x ∷ xs) (suc k) = by (slice_get xs k) (at xs k) where
    by : (o : Option X) → map name_of (option_map_or (λ y. slice_set xs k (change y)) o xs) ≡ map name_of xs
        → map name_of (option_map_or (λ y. slice_set (x ∷ xs) (suc k) (change y)) o (x ∷ xs)) ≡ map name_of (x ∷ xs)
    by None later = refl
    by (Some y) later = ap (λ ns. name_of x ∷ ns) later

-- ---- a step

-- the names are as before
pub record KeepsNames (before after : LastingState) : Type 0 where
  pub terminals : map (λ t. t.name) after.terminals ≡ map (λ t. t.name) before.terminals
  pub outputs_are : map (λ t. t.terminal) after.outputs ≡ map (λ t. t.terminal) before.outputs
  pub conversations_are : map (λ t. t.terminal) after.conversations ≡ map (λ t. t.terminal) before.conversations
  pub codes_are : map (λ c. c.code) after.codes ≡ map (λ c. c.code) before.codes

sent_names : (origin : List ℕ) (output : EndedMessage) (lasting : LastingState) → KeepsNames lasting (output_sent origin output lasting)
sent_names origin output lasting = by (is_some (output_at lasting.outputs output.to)) where
  by : (b : Bool) → KeepsNames lasting (if b then replied output lasting else switched origin output lasting)
  by true = record { terminals = refl; outputs_are = outputs_keep output.to (outputs.with_reply output.segments) (λ t. refl) lasting.outputs; conversations_are = refl; codes_are = refl }
  by false = record { terminals = refl; outputs_are = refl; conversations_are = refl; codes_are = refl }

names_then : (a b c : LastingState) → KeepsNames a b → KeepsNames b c → KeepsNames a c
names_then a b c first second = record {
  terminals = second.terminals ∙ first.terminals;
  outputs_are = second.outputs_are ∙ first.outputs_are;
  conversations_are = second.conversations_are ∙ first.conversations_are;
  codes_are = second.codes_are ∙ first.codes_are;
}

all_sent_names : (origin : List ℕ) (some : List EndedMessage) (lasting : LastingState) → KeepsNames lasting (all_sent origin some lasting)
all_sent_names origin [] lasting = record { terminals = refl; outputs_are = refl; conversations_are = refl; codes_are = refl }
all_sent_names origin (output ∷ some) lasting =
    names_then lasting (output_sent origin output lasting) (all_sent origin (output ∷ some) lasting) (sent_names origin output lasting) (all_sent_names origin some (output_sent origin output lasting))

padded_names : (change : PadChange) (origin : List ℕ) (all : List TerminalConversation) → map (λ t. t.terminal) (with_pad_changed change origin all) ≡ map (λ t. t.terminal) all
padded_names Stays origin all = refl
padded_names (New text) origin all = conversations_keep origin (new_pad text) (λ t. refl) all
padded_names Ends origin all = conversations_keep origin (conversations.with_conversation None) (λ t. refl) all

finished_names : (found : Option Message) (some : Message → List EndedMessage) (change : Message → PadChange) (lasting : LastingState) → KeepsNames lasting (finished_by found some (with_pad_by found change lasting))
finished_names None some change lasting = record { terminals = refl; outputs_are = refl; conversations_are = refl; codes_are = refl }
finished_names (Some message) some change lasting =
    let behind = with_pad_by (Some message) change lasting in
    let k = all_sent_names message.origin (some message) (record behind { messages = without_message behind.messages message.id }) in
    record {
      terminals = k.terminals;
      outputs_are = k.outputs_are;
      conversations_are = k.conversations_are ∙ padded_names (change message) message.origin lasting.conversations;
      codes_are = k.codes_are;
    }

begun_names : (terminal : List ℕ) (begins : Option Conversation) (all : List TerminalConversation) → map (λ t. t.terminal) (with_begun terminal begins all) ≡ map (λ t. t.terminal) all
begun_names terminal None all = refl
begun_names terminal (Some c) all = conversations_keep terminal (conversations.with_conversation (Some c)) (λ t. refl) all

-- a command changes no name
command_names : (command : LastingCommand) (lasting : LastingState) → KeepsNames lasting (commanded command lasting)
command_names (StartTransaction code) lasting =
    record { terminals = refl; outputs_are = refl; conversations_are = refl; codes_are = changes_keep (λ (c : CodeSetting). c.code) (stopped_code false) (λ c. refl) lasting.codes (setting_place lasting.codes code) }
command_names (StopTransaction code) lasting =
    record { terminals = refl; outputs_are = refl; conversations_are = refl; codes_are = changes_keep (λ (c : CodeSetting). c.code) (stopped_code true) (λ c. refl) lasting.codes (setting_place lasting.codes code) }
command_names (StartTerminal terminal) lasting = record {
  terminals = changes_keep (λ (t : TerminalState). t.name) (stopped_terminal false) (λ t. refl) lasting.terminals (terminal_place lasting.terminals terminal);
  outputs_are = refl;
  conversations_are = refl;
  codes_are = refl;
}
command_names (StopTerminal terminal) lasting = record {
  terminals = changes_keep (λ (t : TerminalState). t.name) (stopped_terminal true) (λ t. refl) lasting.terminals (terminal_place lasting.terminals terminal);
  outputs_are = refl;
  conversations_are = refl;
  codes_are = refl;
}
command_names (DequeueFirst terminal) lasting = record { terminals = refl; outputs_are = outputs_keep terminal outputs.without_first (λ t. refl) lasting.outputs; conversations_are = refl; codes_are = refl }
command_names (DequeueAll terminal) lasting = record { terminals = refl; outputs_are = outputs_keep terminal without_replies (λ t. refl) lasting.outputs; conversations_are = refl; codes_are = refl }
command_names (Exit terminal) lasting =
    record { terminals = refl; outputs_are = refl; conversations_are = conversations_keep terminal (conversations.with_conversation None) (λ t. refl) lasting.conversations; codes_are = refl }
command_names (AssignClass code class) lasting =
    record { terminals = refl; outputs_are = refl; conversations_are = refl; codes_are = changes_keep (λ (c : CodeSetting). c.code) (classed_code class) (λ c. refl) lasting.codes (setting_place lasting.codes code) }
command_names (AssignPriority code priority) lasting =
    record { terminals = refl; outputs_are = refl; conversations_are = refl; codes_are = changes_keep (λ (c : CodeSetting). c.code) (ranked_code priority) (λ c. refl) lasting.codes (setting_place lasting.codes code) }

pub step_names : (step : LastingStep) (lasting : LastingState) → KeepsNames lasting (applied step lasting)
step_names (Accepts terminal number kept) lasting = record {
  terminals = changes_keep (λ (t : TerminalState). t.name) (with_last_number number) (λ t. refl) lasting.terminals (terminal_place lasting.terminals terminal);
  outputs_are = refl;
  conversations_are = begun_names terminal kept.begins lasting.conversations;
  codes_are = refl;
}
step_names (Acknowledges terminal) lasting = record { terminals = refl; outputs_are = outputs_keep terminal outputs.without_first (λ t. refl) lasting.outputs; conversations_are = refl; codes_are = refl }
step_names (Completes id rows some pad) lasting =
    let k = finished_names (message_at lasting.messages id) (λ _. some) (λ _. pad) (record lasting { rows = rows }) in
    record { terminals = k.terminals; outputs_are = k.outputs_are; conversations_are = k.conversations_are; codes_are = k.codes_are }
step_names (Discards id abend) lasting =
    let k = finished_names (message_at lasting.messages id) (λ message. abend_outputs message abend) discarded_pad lasting in
    record { terminals = k.terminals; outputs_are = k.outputs_are; conversations_are = k.conversations_are; codes_are = k.codes_are }
step_names (Commands command) lasting =
    let k = command_names command lasting in
    record { terminals = k.terminals; outputs_are = k.outputs_are; conversations_are = k.conversations_are; codes_are = k.codes_are }

-- What lasts is of the system behind a step.
pub of_system_behind : (system : System) (step : LastingStep) (lasting : LastingState) → IsOfSystem system lasting → IsOfSystem system (applied step lasting)
of_system_behind system step lasting is =
    let k = step_names step lasting in
    record { terminals = k.terminals ∙ is.terminals; outputs = k.outputs_are ∙ is.outputs; conversations = k.conversations_are ∙ is.conversations; codes = k.codes_are ∙ is.codes }

-- ---- segments

left_lasting : (after : Option Replay) (to : Replay) → after ≡ Some to → option_map (λ replay. replay.lasting) after ≡ Some to.lasting
left_lasting after to is = ap (λ (o : Option Replay). option_map (λ (replay : Replay). replay.lasting) o) is

-- Messages and replies have 1 to 32 segments behind a step of a life.
pub step_counted : (life : LifeOnDisk) (step : StepOnDisk) → IsStep life step → AreSegmentsCounted life.lasting → AreSegmentsCounted step.lasting
step_counted life step s is =
    let behind =
    log_counted life.system step.records (but_rows life.system life.lasting) (but_rows life.system step.lasting) s.room.valid (record { messages = is.messages; replies = is.replies })
    (left_lasting (replay_all life.system step.records (record { lasting = but_rows life.system life.lasting; waiting = [] })) (record { lasting = but_rows life.system step.lasting; waiting = [] }) s.leads) in
    record { messages = behind.messages; replies = behind.replies }
