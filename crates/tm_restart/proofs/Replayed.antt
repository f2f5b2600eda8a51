-- What a snapshot's records tell, and what a log's records leave, has the terminals and codes of the definition.
use Rattle.std.proofs.Common.{◌≡◌, ℕ, zero, suc, ◌+◌, Bool, true, false, not, ◌&&◌, List, [], ◌∷◌, ◌++◌, map, refl, ◌∙◌, subst, Some, None}
use Rattle.std.specs.Prelude.{Option, ◌==◌, filter, if◌then◌else◌}
use Rattle.std.specs.Option.{option_map, option_map_or, option_and_then, is_some}
use Rattle.tm_types.specs.declared.command.LastingCommand.{LastingCommand}
use Rattle.tm_types.specs.declared.command.LastingCommand.TheVariants.{StartTransaction, StopTransaction, StartTerminal, StopTerminal, DequeueFirst, DequeueAll, Exit, AssignClass, AssignPriority}
use Rattle.tm_types.specs.declared.message.Message.{Message}
use Rattle.tm_types.specs.Commands.{command_in}
use Rattle.tm_types.specs.declared.abend.AbendCode.{AbendCode}
use Rattle.model_messages.specs.declared.conversation.Conversation.{Conversation}
use Rattle.model_messages.specs.declared.conversation.PadChange.{PadChange}
use Rattle.model_messages.specs.declared.conversation.PadChange.TheVariants.{Stays, New, Ends}
use Rattle.model_messages.specs.declared.conversation.TerminalConversation.{TerminalConversation}
use Rattle.model_messages.specs.Terminals.{with_conversation}
use Rattle.model_messages.specs.Outputs.{with_terminal, with_reply, without_first, next_of, reply_at}
use Rattle.model_messages.specs.declared.ended_message.EndedMessage.{EndedMessage}
use Rattle.model_system.specs.System.{System}
use Rattle.model_system.specs.Lists.{change_at}
use Rattle.model_machine.specs.declared.lasting.CodeSetting.{CodeSetting}
use Rattle.model_machine.specs.Machine.{LastingState, empty_state, message_at, output_at, terminal_at, terminal_place, setting_place}
use Rattle.model_machine.specs.LastingSteps.{KeptInput, applied, changed, output_sent, replied, switched, finished_by, with_pad_by, with_begun, with_last_number, with_pad_changed, new_pad, without_message, dfs555i_text, abend_outputs, discarded_pad, without_replies, stopped_code, stopped_terminal, classed_code, ranked_code}
use Rattle.model_machine.specs.LastingSteps.LastingStep.{Accepts, Acknowledges, Discards, Commands}
use Rattle.log_records.specs.declared.record.Record.{Record}
use Rattle.log_records.specs.declared.record.Record.TheVariants.{Input, Command, Reply, Discarded, Completed, Acknowledged, SyncPoint, Checkpoint, Terminal, Code, Change}
use Rattle.model_image.specs.Snapshot.{code_names, snapshot_message, with_record_told, with_records_told, snapshot_state}
use Rattle.model_image.specs.States.{breaks_a_rule}
use Rattle.model_image.specs.Replay.{Replay, done, all_done, kept_in_record, replay_accepts, replay_acknowledges, discards, commands, completed_message, with_step, syncs, is_of_unit, with_lasting, without_unit, replayed, is_record_known, unless_it_breaks, replay_one, replay_all, replay_of}
use Rattle.image_records.specs.ChangeRecords.{AreNamesKept, of_state, of_output, of_conversation, of_setting}
use Rattle.image_records.proofs.Named.{change_names, output_names, conversation_names, told_named, empty_named}

-- ---- a snapshot

all_told_named : (system : System) (records : List Record) (lasting : LastingState) → AreNamesKept system lasting → AreNamesKept system (with_records_told records lasting)
all_told_named system [] lasting is = is
all_told_named system (r ∷ records) lasting is = all_told_named system records (with_record_told r lasting) (told_named system r lasting is)

pub snapshot_named : (system : System) (records : List Record) → AreNamesKept system (snapshot_state system records)
snapshot_named system records = all_told_named system records (empty_state system) (empty_named system)

-- ---- lists that are changed

begun_names : (terminal : List ℕ) (conversation : Option Conversation) (all : List TerminalConversation) → map of_conversation (with_begun terminal conversation all) ≡ map of_conversation all
begun_names terminal None all = refl
begun_names terminal (Some c) all = conversation_names terminal (with_conversation (Some c)) (λ t. refl) all

padded_names : (pad : PadChange) (origin : List ℕ) (all : List TerminalConversation) → map of_conversation (with_pad_changed pad origin all) ≡ map of_conversation all
padded_names Stays origin all = refl
padded_names (New text) origin all = conversation_names origin (new_pad text) (λ t. refl) all
padded_names Ends origin all = conversation_names origin (with_conversation None) (λ t. refl) all

module _ (system : System) where
  -- what is left, if anything is, has them
  abbrev IfLeft : Option LastingState → Type 0
  IfLeft None = Unit {0}
  IfLeft (Some lasting) = AreNamesKept system lasting

  if_true : (b : Bool) (lasting : LastingState) → AreNamesKept system lasting → IfLeft (if b then Some lasting else None)
  if_true true lasting is = is
  if_true false lasting is = tt

  -- a state with the same terminals and codes
  same : (old new : LastingState) → new.terminals ≡ old.terminals → new.outputs ≡ old.outputs → new.conversations ≡ old.conversations → new.codes ≡ old.codes → AreNamesKept system old → AreNamesKept system new
  same old new terminals outputs conversations codes is = record {
    terminals = (λ i. map of_state (terminals i)) ∙ is.terminals;
    outputs = (λ i. map of_output (outputs i)) ∙ is.outputs;
    conversations = (λ i. map of_conversation (conversations i)) ∙ is.conversations;
    codes = (λ i. map of_setting (codes i)) ∙ is.codes;
  }

  -- ---- what is sent

  switched_named : (origin : List ℕ) (output : EndedMessage) (lasting : LastingState) → AreNamesKept system lasting → AreNamesKept system (switched origin output lasting)
  switched_named origin output lasting is = same lasting (switched origin output lasting) refl refl refl refl is

  replied_named : (output : EndedMessage) (lasting : LastingState) → AreNamesKept system lasting → AreNamesKept system (replied output lasting)
  replied_named output lasting is = record {
    terminals = is.terminals;
    outputs = output_names output.to (with_reply output.segments) (λ t. refl) lasting.outputs ∙ is.outputs;
    conversations = is.conversations;
    codes = is.codes;
  }

  sent_named : (origin : List ℕ) (output : EndedMessage) (lasting : LastingState) → AreNamesKept system lasting → AreNamesKept system (output_sent origin output lasting)
  sent_named origin output lasting is = by (is_some (output_at lasting.outputs output.to)) where
    by : (b : Bool) → AreNamesKept system (if b then replied output lasting else switched origin output lasting)
    by true = replied_named output lasting is
    by false = switched_named origin output lasting is

  -- ---- steps

  with_pad_named : (message : Option Message) (change : Message → PadChange) (lasting : LastingState) → AreNamesKept system lasting → AreNamesKept system (with_pad_by message change lasting)
  with_pad_named None change lasting is = is
  with_pad_named (Some m) change lasting is = record {
    terminals = is.terminals;
    outputs = is.outputs;
    conversations = padded_names (change m) m.origin lasting.conversations ∙ is.conversations;
    codes = is.codes;
  }

  abended_named : (message : Option Message) (abend : AbendCode) (lasting : LastingState) → AreNamesKept system lasting → AreNamesKept system (finished_by message (λ message. abend_outputs message abend) lasting)
  abended_named None abend lasting is = is
  abended_named (Some m) abend lasting is =
      sent_named m.origin (record { to = m.origin; segments = dfs555i_text m.code abend ∷ [] }) (record lasting { messages = without_message lasting.messages m.id })
      (same lasting (record lasting { messages = without_message lasting.messages m.id }) refl refl refl refl is)

  stepped : (lasting : LastingState) (steps : ℕ) → AreNamesKept system lasting → AreNamesKept system (record lasting { steps = steps })
  stepped lasting steps is = same lasting (record lasting { steps = steps }) refl refl refl refl is

  discarded_named : (id : ℕ) (abend : AbendCode) (lasting : LastingState) → AreNamesKept system lasting → AreNamesKept system (applied (Discards id abend) lasting)
  discarded_named id abend lasting is =
      stepped (changed (Discards id abend) lasting) (lasting.steps + 1)
      (abended_named (message_at lasting.messages id) abend (with_pad_by (message_at lasting.messages id) discarded_pad lasting)
      (with_pad_named (message_at lasting.messages id) discarded_pad lasting is))

  acknowledged_named : (terminal : List ℕ) (lasting : LastingState) → AreNamesKept system lasting → AreNamesKept system (applied (Acknowledges terminal) lasting)
  acknowledged_named terminal lasting is = record {
    terminals = is.terminals;
    outputs = output_names terminal without_first (λ t. refl) lasting.outputs ∙ is.outputs;
    conversations = is.conversations;
    codes = is.codes;
  }

  accepted_named : (terminal : List ℕ) (number : ℕ) (kept : KeptInput) (lasting : LastingState) → AreNamesKept system lasting → AreNamesKept system (applied (Accepts terminal number kept) lasting)
  accepted_named terminal number kept lasting is = record {
    terminals = change_names of_state (with_last_number number) (λ t. refl) lasting.terminals (terminal_place lasting.terminals terminal) ∙ is.terminals;
    outputs = is.outputs;
    conversations = begun_names terminal kept.begins lasting.conversations ∙ is.conversations;
    codes = is.codes;
  }

  code_named : (change : CodeSetting → CodeSetting) → ((c : CodeSetting) → of_setting (change c) ≡ of_setting c) → (code : List ℕ) (lasting : LastingState) → AreNamesKept system lasting → map of_setting (change_at lasting.codes (setting_place lasting.codes code) change) ≡ code_names system
  code_named change keeps code lasting is = change_names of_setting change keeps lasting.codes (setting_place lasting.codes code) ∙ is.codes

  terminal_named : (stopped : Bool) (terminal : List ℕ) (lasting : LastingState) → AreNamesKept system lasting → map of_state (change_at lasting.terminals (terminal_place lasting.terminals terminal) (stopped_terminal stopped)) ≡ system.terminals
  terminal_named stopped terminal lasting is = change_names of_state (stopped_terminal stopped) (λ t. refl) lasting.terminals (terminal_place lasting.terminals terminal) ∙ is.terminals

  commanded_named : (command : LastingCommand) (lasting : LastingState) → AreNamesKept system lasting → AreNamesKept system (applied (Commands command) lasting)
  commanded_named (StartTransaction code) lasting is = record { terminals = is.terminals; outputs = is.outputs; conversations = is.conversations; codes = code_named (stopped_code false) (λ c. refl) code lasting is }
  commanded_named (StopTransaction code) lasting is = record { terminals = is.terminals; outputs = is.outputs; conversations = is.conversations; codes = code_named (stopped_code true) (λ c. refl) code lasting is }
  commanded_named (StartTerminal terminal) lasting is = record { terminals = terminal_named false terminal lasting is; outputs = is.outputs; conversations = is.conversations; codes = is.codes }
  commanded_named (StopTerminal terminal) lasting is = record { terminals = terminal_named true terminal lasting is; outputs = is.outputs; conversations = is.conversations; codes = is.codes }
  commanded_named (DequeueFirst terminal) lasting is = acknowledged_named terminal lasting is
  commanded_named (DequeueAll terminal) lasting is = record {
    terminals = is.terminals;
    outputs = output_names terminal without_replies (λ t. refl) lasting.outputs ∙ is.outputs;
    conversations = is.conversations;
    codes = is.codes;
  }
  commanded_named (Exit terminal) lasting is = record {
    terminals = is.terminals;
    outputs = is.outputs;
    conversations = conversation_names terminal (with_conversation None) (λ t. refl) lasting.conversations ∙ is.conversations;
    codes = is.codes;
  }
  commanded_named (AssignClass code class) lasting is = record { terminals = is.terminals; outputs = is.outputs; conversations = is.conversations; codes = code_named (classed_code class) (λ c. refl) code lasting is }
  commanded_named (AssignPriority code priority) lasting is = record { terminals = is.terminals; outputs = is.outputs; conversations = is.conversations; codes = code_named (ranked_code priority) (λ c. refl) code lasting is }

  commanded_left : (command : Option LastingCommand) (lasting : LastingState) → AreNamesKept system lasting → IfLeft (option_map (λ c. applied (Commands c) lasting) command)
  commanded_left None lasting is = tt
  commanded_left (Some command) lasting is = commanded_named command lasting is

  -- ---- the records of a unit, at its sync point

  done_named : (r : Record) (lasting : LastingState) → AreNamesKept system lasting → IfLeft (done r lasting)
  done_named (Reply unit terminal number segments) lasting is =
      if_true (next_of terminal lasting.outputs == number) (record lasting { outputs = with_terminal terminal (with_reply segments) lasting.outputs })
      (record {
        terminals = is.terminals;
        outputs = output_names terminal (with_reply segments) (λ t. refl) lasting.outputs ∙ is.outputs;
        conversations = is.conversations;
        codes = is.codes;
      })
  done_named (Input unit id origin code number conversation segments) lasting is =
      if_true ((lasting.next_id == id) && (number == 0)) (record lasting { messages = lasting.messages ++ snapshot_message id origin code conversation segments ∷ []; next_id = id + 1 })
      (same lasting (record lasting { messages = lasting.messages ++ snapshot_message id origin code conversation segments ∷ []; next_id = id + 1 }) refl refl refl refl is)
  done_named (Completed unit id) lasting is = by (message_at lasting.messages id) where
    by : (found : Option Message) → IfLeft (option_map (λ _. record lasting { messages = filter (λ message. not (message.id == id)) lasting.messages }) found)
    by None = tt
    by (Some m) = same lasting (record lasting { messages = filter (λ message. not (message.id == id)) lasting.messages }) refl refl refl refl is
  done_named (Command text) lasting is = is
  done_named (Discarded unit id abend number) lasting is = is
  done_named (Acknowledged terminal number) lasting is = is
  done_named (SyncPoint unit pad) lasting is = is
  done_named (Checkpoint checkpoint next_id next_unit steps) lasting is = is
  done_named (Terminal name last next stopped conversation) lasting is = is
  done_named (Code name stopped class priority) lasting is = is
  done_named (Change unit database slot before after) lasting is = is

  then_named : (f : LastingState → Option LastingState) (first : Option LastingState) → IfLeft first → ((lasting : LastingState) → AreNamesKept system lasting → IfLeft (f lasting)) → IfLeft (option_and_then f first)
  then_named f None is next = tt
  then_named f (Some lasting) is next = next lasting is

  all_done_named : (records : List Record) (lasting : LastingState) → AreNamesKept system lasting → IfLeft (all_done records lasting)
  all_done_named [] lasting is = is
  all_done_named (r ∷ records) lasting is = then_named (all_done records) (done r lasting) (done_named r lasting is) (λ after has. all_done_named records after has)

  synced_named : (message : Option Message) (pad : PadChange) (after : Option LastingState) → IfLeft after → IfLeft (option_map (λ after. with_step (with_pad_by message (λ _. pad) after)) after)
  synced_named message pad None is = tt
  synced_named message pad (Some lasting) is =
      stepped (with_pad_by message (λ _. pad) lasting) ((with_pad_by message (λ _. pad) lasting).steps + 1) (with_pad_named message (λ _. pad) lasting is)

  -- ---- one record after another

  abbrev IfReplayed : Option Replay → Type 0
  IfReplayed None = Unit {0}
  IfReplayed (Some replay) = AreNamesKept system replay.lasting

  left_named : (replay : Replay) (after : Option LastingState) → IfLeft after → IfReplayed (with_lasting replay after)
  left_named replay None is = tt
  left_named replay (Some lasting) is = is

  replayed_named : (r : Record) (replay : Replay) → AreNamesKept system replay.lasting → IfReplayed (replayed system r replay)
  replayed_named (Input zero id origin code number conversation segments) replay is =
      left_named replay (replay_accepts system id origin code number conversation segments replay.lasting)
      (if_true (option_map_or (λ terminal. terminal.last + 1 == number) (terminal_at replay.lasting.terminals origin) false && (replay.lasting.next_id == id))
      (applied (Accepts origin number (kept_in_record system replay.lasting origin code conversation segments)) replay.lasting)
      (accepted_named origin number (kept_in_record system replay.lasting origin code conversation segments) replay.lasting is))
  replayed_named (Input (suc u) id origin code number conversation segments) replay is = is
  replayed_named (Reply unit terminal number segments) replay is = is
  replayed_named (Completed unit id) replay is = is
  replayed_named (Acknowledged terminal number) replay is =
      left_named replay (replay_acknowledges terminal number replay.lasting)
      (if_true (option_map_or (λ reply. reply.number == number) (reply_at terminal 0 replay.lasting.outputs) false) (applied (Acknowledges terminal) replay.lasting)
      (acknowledged_named terminal replay.lasting is))
  replayed_named (Discarded unit id abend number) replay is =
      left_named replay (discards id abend number replay.lasting)
      (if_true (option_map_or (λ message. next_of message.origin replay.lasting.outputs == number) (message_at replay.lasting.messages id) false) (applied (Discards id abend) replay.lasting)
      (discarded_named id abend replay.lasting is))
  replayed_named (SyncPoint unit pad) replay is =
      let records : List Record = filter (is_of_unit unit) replay.waiting in
      left_named (without_unit unit replay) (syncs pad records replay.lasting)
      (synced_named (completed_message records replay.lasting) pad (all_done records replay.lasting) (all_done_named records replay.lasting is))
  replayed_named (Change unit database slot before after) replay is = is
  replayed_named (Command text) replay is = left_named replay (commands text replay.lasting) (commanded_left (command_in text) replay.lasting is)
  replayed_named (Checkpoint checkpoint next_id next_unit steps) replay is = tt
  replayed_named (Terminal name last next stopped conversation) replay is = tt
  replayed_named (Code name stopped class priority) replay is = tt

  unless_named : (after : Option Replay) → IfReplayed after → IfReplayed (option_and_then (unless_it_breaks system) after)
  unless_named None is = tt
  unless_named (Some replay) is = by (breaks_a_rule system replay.lasting) where
    by : (b : Bool) → IfReplayed (if b then None else Some replay)
    by true = tt
    by false = is

  one_named : (r : Record) (replay : Replay) → AreNamesKept system replay.lasting → IfReplayed (replay_one system r replay)
  one_named r replay is = by (is_record_known system r) (unless_named (replayed system r replay) (replayed_named r replay is)) where
    by : (b : Bool) → IfReplayed (option_and_then (unless_it_breaks system) (replayed system r replay)) → IfReplayed (if b then option_and_then (unless_it_breaks system) (replayed system r replay) else None)
    by true has = has
    by false has = tt

  next_named : (f : Replay → Option Replay) (first : Option Replay) → IfReplayed first → ((replay : Replay) → AreNamesKept system replay.lasting → IfReplayed (f replay)) → IfReplayed (option_and_then f first)
  next_named f None is next = tt
  next_named f (Some replay) is next = next replay is

  all_named : (records : List Record) (replay : Replay) → AreNamesKept system replay.lasting → IfReplayed (replay_all system records replay)
  all_named [] replay is = is
  all_named (r ∷ records) replay is = next_named (replay_all system records) (replay_one system r replay) (one_named r replay is) (λ after has. all_named records after has)

  last_named : (after : Option Replay) (lasting : LastingState) → IfReplayed after → option_map (λ replay. replay.lasting) after ≡ Some lasting → AreNamesKept system lasting
  last_named None lasting is left = absurd cc
  last_named (Some replay) lasting is left = let same : replay.lasting ≡ lasting = cc in subst (AreNamesKept system) same is

  -- what lasts behind the log
  pub log_named : (records : List Record) (lasting after : LastingState) → AreNamesKept system lasting → replay_of system records lasting ≡ Some after → AreNamesKept system after
  log_named records lasting after is left = last_named (replay_all system records (record { lasting = lasting; waiting = [] })) after (all_named records (record { lasting = lasting; waiting = [] }) is) left
