-- What a log's records leave has messages and replies of 1 to 32 segments.
use Rattle.std.proofs.Common.{◌≡◌, ℕ, zero, suc, ◌+◌, Bool, true, false, not, ◌&&◌, List, [], ◌∷◌, ◌++◌, subst, arith, Some, None}
use Rattle.std.specs.Prelude.{Option, ◌==◌, filter, if◌then◌else◌}
use Rattle.std.specs.Option.{option_map, option_map_or, option_and_then, is_some}
use Rattle.std.specs.List.{AllByRecursion}
use Rattle.tm_types.specs.declared.command.LastingCommand.{LastingCommand}
use Rattle.tm_types.specs.declared.command.LastingCommand.TheVariants.{StartTransaction, StopTransaction, StartTerminal, StopTerminal, DequeueFirst, DequeueAll, Exit, AssignClass, AssignPriority}
use Rattle.tm_types.specs.declared.message.Message.{Message}
use Rattle.tm_types.specs.Commands.{command_in}
use Rattle.tm_types.specs.declared.abend.AbendCode.{AbendCode}
use Rattle.model_messages.specs.declared.conversation.PadChange.{PadChange}
use Rattle.model_messages.specs.Outputs.{with_terminal, with_reply, without_first, next_of, reply_at}
use Rattle.model_messages.specs.declared.ended_message.EndedMessage.{EndedMessage}
use Rattle.model_system.specs.System.{System}
use Rattle.model_machine.specs.Machine.{LastingState, message_at, output_at, terminal_at}
use Rattle.model_machine.specs.LastingSteps.{KeptInput, applied, changed, output_sent, replied, switched, finished_by, with_pad_by, without_message, dfs555i_text, abend_outputs, discarded_pad, input_message, without_replies}
use Rattle.model_machine.specs.LastingSteps.LastingStep.{Accepts, Acknowledges, Discards, Commands}
use Rattle.log_records.specs.declared.record.Record.{Record}
use Rattle.log_records.specs.declared.record.Record.TheVariants.{Input, Command, Reply, Discarded, Completed, Acknowledged, SyncPoint, Checkpoint, Terminal, Code, Change}
use Rattle.log_records.specs.RecordSpelling.{IsCount, IsLogRecord}
use Rattle.model_image.specs.Snapshot.{snapshot_message}
use Rattle.model_image.specs.States.{breaks_a_rule}
use Rattle.model_image.specs.Replay.{Replay, done, all_done, kept_in_record, replay_accepts, replay_acknowledges, discards, commands, completed_message, with_step, syncs, is_of_unit, with_waiting, with_lasting, without_unit, replayed, is_record_known, unless_it_breaks, replay_one, replay_all, replay_of}
use Rattle.image_law.specs.SegmentCounts.{AreSegmentsCounted}
use Rattle.image_law.proofs.CountsKept.{one_more, filtered, terminal_kept, reply_counted, without_first_counted}

-- ---- what an answer has, if there is one

-- what is left, if anything is, has it
abbrev IfLeft : Option LastingState → Type 0
IfLeft None = Unit {0}
IfLeft (Some lasting) = AreSegmentsCounted lasting

if_true : (b : Bool) (lasting : LastingState) → AreSegmentsCounted lasting → IfLeft (if b then Some lasting else None)
if_true true lasting is = is
if_true false lasting is = tt

-- ---- what is sent

switched_counted : (origin : List ℕ) (output : EndedMessage) (lasting : LastingState) → IsCount output.segments → AreSegmentsCounted lasting → AreSegmentsCounted (switched origin output lasting)
switched_counted origin output lasting count is = record {
  messages = one_more (λ m. IsCount m.segments) lasting.messages (record { id = lasting.next_id; origin = origin; code = output.to; conversation = false; segments = output.segments }) is.messages count;
  replies = is.replies;
}

replied_counted : (output : EndedMessage) (lasting : LastingState) → IsCount output.segments → AreSegmentsCounted lasting → AreSegmentsCounted (replied output lasting)
replied_counted output lasting count is = record {
  messages = is.messages;
  replies = terminal_kept output.to (with_reply output.segments) lasting.outputs (reply_counted output.segments count) is.replies;
}

sent_counted : (origin : List ℕ) (output : EndedMessage) (lasting : LastingState) → IsCount output.segments → AreSegmentsCounted lasting → AreSegmentsCounted (output_sent origin output lasting)
sent_counted origin output lasting count is =
    by (is_some (output_at lasting.outputs output.to)) where
      by : (b : Bool) → AreSegmentsCounted (if b then replied output lasting else switched origin output lasting)
      by true = replied_counted output lasting count is
      by false = switched_counted origin output lasting count is

-- ---- steps

with_pad_counted : (message : Option Message) (change : Message → PadChange) (lasting : LastingState) → AreSegmentsCounted lasting → AreSegmentsCounted (with_pad_by message change lasting)
with_pad_counted None change lasting is = is
with_pad_counted (Some m) change lasting is = record { messages = is.messages; replies = is.replies }

abended_counted : (message : Option Message) (abend : AbendCode) (lasting : LastingState) → AreSegmentsCounted lasting → AreSegmentsCounted (finished_by message (λ message. abend_outputs message abend) lasting)
abended_counted None abend lasting is = is
abended_counted (Some m) abend lasting is =
    sent_counted m.origin (record { to = m.origin; segments = dfs555i_text m.code abend ∷ [] }) (record lasting { messages = without_message lasting.messages m.id }) (omega arith, omega arith)
    (record { messages = filtered (λ message. IsCount message.segments) (λ message. not (message.id == m.id)) lasting.messages is.messages; replies = is.replies })

stepped : (lasting : LastingState) (steps : ℕ) → AreSegmentsCounted lasting → AreSegmentsCounted (record lasting { steps = steps })
stepped lasting steps is = record { messages = is.messages; replies = is.replies }

discarded_counted : (id : ℕ) (abend : AbendCode) (lasting : LastingState) → AreSegmentsCounted lasting → AreSegmentsCounted (applied (Discards id abend) lasting)
discarded_counted id abend lasting is =
    stepped (changed (Discards id abend) lasting) (lasting.steps + 1)
    (abended_counted (message_at lasting.messages id) abend (with_pad_by (message_at lasting.messages id) discarded_pad lasting)
    (with_pad_counted (message_at lasting.messages id) discarded_pad lasting is))

acknowledged_counted : (terminal : List ℕ) (lasting : LastingState) → AreSegmentsCounted lasting → AreSegmentsCounted (applied (Acknowledges terminal) lasting)
acknowledged_counted terminal lasting is = record {
  messages = is.messages;
  replies = terminal_kept terminal without_first lasting.outputs without_first_counted is.replies;
}

accepted_counted : (terminal : List ℕ) (number : ℕ) (kept : KeptInput) (lasting : LastingState) → IsCount kept.segments → AreSegmentsCounted lasting → AreSegmentsCounted (applied (Accepts terminal number kept) lasting)
accepted_counted terminal number kept lasting count is = record {
  messages = one_more (λ m. IsCount m.segments) lasting.messages (input_message lasting.next_id terminal kept) is.messages count;
  replies = is.replies;
}

commanded_counted : (command : LastingCommand) (lasting : LastingState) → AreSegmentsCounted lasting → AreSegmentsCounted (applied (Commands command) lasting)
commanded_counted (StartTransaction code) lasting is = record { messages = is.messages; replies = is.replies }
commanded_counted (StopTransaction code) lasting is = record { messages = is.messages; replies = is.replies }
commanded_counted (StartTerminal terminal) lasting is = record { messages = is.messages; replies = is.replies }
commanded_counted (StopTerminal terminal) lasting is = record { messages = is.messages; replies = is.replies }
commanded_counted (DequeueFirst terminal) lasting is = acknowledged_counted terminal lasting is
commanded_counted (DequeueAll terminal) lasting is = record {
  messages = is.messages;
  replies = terminal_kept terminal without_replies lasting.outputs (λ t all. tt) is.replies;
}
commanded_counted (Exit terminal) lasting is = record { messages = is.messages; replies = is.replies }
commanded_counted (AssignClass code class) lasting is = record { messages = is.messages; replies = is.replies }
commanded_counted (AssignPriority code priority) lasting is = record { messages = is.messages; replies = is.replies }

commanded_left : (command : Option LastingCommand) (lasting : LastingState) → AreSegmentsCounted lasting → IfLeft (option_map (λ c. applied (Commands c) lasting) command)
commanded_left None lasting is = tt
commanded_left (Some command) lasting is = commanded_counted command lasting is

-- ---- the records of a unit, at its sync point

done_counted : (r : Record) (lasting : LastingState) → IsLogRecord r → AreSegmentsCounted lasting → IfLeft (done r lasting)
done_counted (Reply unit terminal number segments) lasting valid is =
    let last = valid.fields.1.1.1 in
    if_true (next_of terminal lasting.outputs == number) (record lasting { outputs = with_terminal terminal (with_reply segments) lasting.outputs })
    (record { messages = is.messages; replies = terminal_kept terminal (with_reply segments) lasting.outputs (reply_counted segments (last.0, last.1)) is.replies })
done_counted (Input unit id origin code number conversation segments) lasting valid is =
    let last = valid.fields.1.1.1.1.1.1 in
    if_true ((lasting.next_id == id) && (number == 0)) (record lasting { messages = lasting.messages ++ snapshot_message id origin code conversation segments ∷ []; next_id = id + 1 })
    (record { messages = one_more (λ m. IsCount m.segments) lasting.messages (snapshot_message id origin code conversation segments) is.messages (last.0, last.1); replies = is.replies })
done_counted (Completed unit id) lasting valid is =
    by (message_at lasting.messages id) where
      by : (found : Option Message) → IfLeft (option_map (λ _. record lasting { messages = filter (λ message. not (message.id == id)) lasting.messages }) found)
      by None = tt
      by (Some m) = record { messages = filtered (λ message. IsCount message.segments) (λ message. not (message.id == id)) lasting.messages is.messages; replies = is.replies }
done_counted (Command text) lasting valid is = is
done_counted (Discarded unit id abend number) lasting valid is = is
done_counted (Acknowledged terminal number) lasting valid is = is
done_counted (SyncPoint unit pad) lasting valid is = is
done_counted (Checkpoint checkpoint next_id next_unit steps) lasting valid is = is
done_counted (Terminal name last next stopped conversation) lasting valid is = is
done_counted (Code name stopped class priority) lasting valid is = is
done_counted (Change unit database slot before after) lasting valid is = is

then_counted : (f : LastingState → Option LastingState) (first : Option LastingState) → IfLeft first → ((lasting : LastingState) → AreSegmentsCounted lasting → IfLeft (f lasting)) → IfLeft (option_and_then f first)
then_counted f None is next = tt
then_counted f (Some lasting) is next = next lasting is

all_done_counted : (records : List Record) (lasting : LastingState) → AllByRecursion IsLogRecord records → AreSegmentsCounted lasting → IfLeft (all_done records lasting)
all_done_counted [] lasting valid is = is
all_done_counted (r ∷ records) lasting valid is =
    then_counted (all_done records) (done r lasting) (done_counted r lasting valid.0 is) (λ after has. all_done_counted records after valid.1 has)

synced_counted : (message : Option Message) (pad : PadChange) (after : Option LastingState) → IfLeft after → IfLeft (option_map (λ after. with_step (with_pad_by message (λ _. pad) after)) after)
synced_counted message pad None is = tt
synced_counted message pad (Some lasting) is =
    let padded = with_pad_counted message (λ _. pad) lasting is in
    stepped (with_pad_by message (λ _. pad) lasting) ((with_pad_by message (λ _. pad) lasting).steps + 1) padded

-- ---- one record after another

record IsReplayCounted (replay : Replay) : Type 0 where
  pub lasting : AreSegmentsCounted replay.lasting
  pub waiting : AllByRecursion IsLogRecord replay.waiting

abbrev IfReplayed : Option Replay → Type 0
IfReplayed None = Unit {0}
IfReplayed (Some replay) = IsReplayCounted replay

left_counted : (replay : Replay) (after : Option LastingState) → AllByRecursion IsLogRecord replay.waiting → IfLeft after → IfReplayed (with_lasting replay after)
left_counted replay None waiting is = tt
left_counted replay (Some lasting) waiting is = record { lasting = is; waiting = waiting }

waits : (r : Record) (replay : Replay) → IsLogRecord r → IsReplayCounted replay → IsReplayCounted (with_waiting r replay)
waits r replay valid is = record { lasting = is.lasting; waiting = one_more IsLogRecord replay.waiting r is.waiting valid }

replayed_counted : (system : System) (r : Record) (replay : Replay) → IsLogRecord r → IsReplayCounted replay → IfReplayed (replayed system r replay)
replayed_counted system (Input zero id origin code number conversation segments) replay valid is =
    let last = valid.fields.1.1.1.1.1.1 in
    left_counted replay (replay_accepts system id origin code number conversation segments replay.lasting) is.waiting
    (if_true (option_map_or (λ terminal. terminal.last + 1 == number) (terminal_at replay.lasting.terminals origin) false && (replay.lasting.next_id == id))
    (applied (Accepts origin number (kept_in_record system replay.lasting origin code conversation segments)) replay.lasting)
    (accepted_counted origin number (kept_in_record system replay.lasting origin code conversation segments) replay.lasting (last.0, last.1) is.lasting))
replayed_counted system (Input (suc u) id origin code number conversation segments) replay valid is = waits (Input (suc u) id origin code number conversation segments) replay valid is
replayed_counted system (Reply unit terminal number segments) replay valid is = waits (Reply unit terminal number segments) replay valid is
replayed_counted system (Completed unit id) replay valid is = waits (Completed unit id) replay valid is
replayed_counted system (Acknowledged terminal number) replay valid is =
    left_counted replay (replay_acknowledges terminal number replay.lasting) is.waiting
    (if_true (option_map_or (λ reply. reply.number == number) (reply_at terminal 0 replay.lasting.outputs) false) (applied (Acknowledges terminal) replay.lasting)
    (acknowledged_counted terminal replay.lasting is.lasting))
replayed_counted system (Discarded unit id abend number) replay valid is =
    left_counted replay (discards id abend number replay.lasting) is.waiting
    (if_true (option_map_or (λ message. next_of message.origin replay.lasting.outputs == number) (message_at replay.lasting.messages id) false) (applied (Discards id abend) replay.lasting)
    (discarded_counted id abend replay.lasting is.lasting))
replayed_counted system (SyncPoint unit pad) replay valid is =
    let records : List Record = filter (is_of_unit unit) replay.waiting in
    left_counted (without_unit unit replay) (syncs pad records replay.lasting) (filtered IsLogRecord (λ r. not (is_of_unit unit r)) replay.waiting is.waiting)
    (synced_counted (completed_message records replay.lasting) pad (all_done records replay.lasting)
    (all_done_counted records replay.lasting (filtered IsLogRecord (is_of_unit unit) replay.waiting is.waiting) is.lasting))
replayed_counted system (Change unit database slot before after) replay valid is = is
replayed_counted system (Command text) replay valid is =
    left_counted replay (commands text replay.lasting) is.waiting (commanded_left (command_in text) replay.lasting is.lasting)
replayed_counted system (Checkpoint checkpoint next_id next_unit steps) replay valid is = tt
replayed_counted system (Terminal name last next stopped conversation) replay valid is = tt
replayed_counted system (Code name stopped class priority) replay valid is = tt

unless_counted : (system : System) (after : Option Replay) → IfReplayed after → IfReplayed (option_and_then (unless_it_breaks system) after)
unless_counted system None is = tt
unless_counted system (Some replay) is = by (breaks_a_rule system replay.lasting) where
  by : (b : Bool) → IfReplayed (if b then None else Some replay)
  by true = tt
  by false = is

one_counted : (system : System) (r : Record) (replay : Replay) → IsLogRecord r → IsReplayCounted replay → IfReplayed (replay_one system r replay)
one_counted system r replay valid is = by (is_record_known system r) (unless_counted system (replayed system r replay) (replayed_counted system r replay valid is)) where
  by : (b : Bool) → IfReplayed (option_and_then (unless_it_breaks system) (replayed system r replay)) → IfReplayed (if b then option_and_then (unless_it_breaks system) (replayed system r replay) else None)
  by true has = has
  by false has = tt

next_counted : (f : Replay → Option Replay) (first : Option Replay) → IfReplayed first → ((replay : Replay) → IsReplayCounted replay → IfReplayed (f replay)) → IfReplayed (option_and_then f first)
next_counted f None is next = tt
next_counted f (Some replay) is next = next replay is

all_counted : (system : System) (records : List Record) (replay : Replay) → AllByRecursion IsLogRecord records → IsReplayCounted replay → IfReplayed (replay_all system records replay)
all_counted system [] replay valid is = is
all_counted system (r ∷ records) replay valid is =
    next_counted (replay_all system records) (replay_one system r replay) (one_counted system r replay valid.0 is) (λ after has. all_counted system records after valid.1 has)

last_counted : (after : Option Replay) (lasting : LastingState) → IfReplayed after → option_map (λ replay. replay.lasting) after ≡ Some lasting → AreSegmentsCounted lasting
last_counted None lasting is left = absurd cc
last_counted (Some replay) lasting is left = let same : replay.lasting ≡ lasting = cc in subst AreSegmentsCounted same is.lasting

-- what lasts behind the log
pub log_counted : (system : System) (records : List Record) (lasting after : LastingState) → AllByRecursion IsLogRecord records → AreSegmentsCounted lasting → replay_of system records lasting ≡ Some after → AreSegmentsCounted after
log_counted system records lasting after valid is left =
    last_counted (replay_all system records (record { lasting = lasting; waiting = [] })) after (all_counted system records (record { lasting = lasting; waiting = [] }) valid (record { lasting = is; waiting = tt })) left
