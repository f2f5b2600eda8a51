-- What a snapshot's records tell has messages and replies of 1 to 32 segments.
use Rattle.std.proofs.Common.{ℕ, List, [], ◌∷◌, map}
use Rattle.std.specs.List.{AllByRecursion}
use Rattle.model_messages.specs.Outputs.{fresh_terminal}
use Rattle.model_system.specs.System.{System}
use Rattle.model_machine.specs.Machine.{LastingState, empty_state}
use Rattle.log_records.specs.declared.record.Record.{Record}
use Rattle.log_records.specs.declared.record.Record.TheVariants.{Input, Command, Reply, Discarded, Completed, Acknowledged, SyncPoint, Checkpoint, Terminal, Code, Change}
use Rattle.log_records.specs.RecordSpelling.{IsCount, IsLogRecord}
use Rattle.model_image.specs.Snapshot.{snapshot_message, with_record_told, with_records_told, snapshot_state, with_kept}
use Rattle.image_law.specs.SegmentCounts.{AreAllCounted, AreSegmentsCounted}
use Rattle.image_law.proofs.CountsKept.{one_more, terminal_kept, kept_counted}

told_counted : (r : Record) (lasting : LastingState) → IsLogRecord r → AreSegmentsCounted lasting → AreSegmentsCounted (with_record_told r lasting)
told_counted (Checkpoint checkpoint next_id next_unit steps) lasting valid is = record { messages = is.messages; replies = is.replies }
told_counted (Terminal name last next stopped conversation) lasting valid is = record {
  messages = is.messages;
  replies = terminal_kept name (λ t. record t { next = next }) lasting.outputs (λ t all. all) is.replies;
}
told_counted (Code name stopped class priority) lasting valid is = record { messages = is.messages; replies = is.replies }
told_counted (Input unit id origin code number conversation segments) lasting valid is = record {
  messages =
      let last = valid.fields.1.1.1.1.1.1 in
      one_more (λ m. IsCount m.segments) lasting.messages (snapshot_message id origin code conversation segments) is.messages (last.0, last.1);
  replies = is.replies;
}
told_counted (Reply unit terminal number segments) lasting valid is = record {
  messages = is.messages;
  replies =
      let last = valid.fields.1.1.1 in
      terminal_kept terminal (with_kept number segments) lasting.outputs (kept_counted number segments (last.0, last.1)) is.replies;
}
told_counted (Command text) lasting valid is = is
told_counted (Discarded unit id abend number) lasting valid is = is
told_counted (Completed unit id) lasting valid is = is
told_counted (Acknowledged terminal number) lasting valid is = is
told_counted (SyncPoint unit pad) lasting valid is = is
told_counted (Change unit database slot before after) lasting valid is = is

all_told_counted : (records : List Record) (lasting : LastingState) → AllByRecursion IsLogRecord records → AreSegmentsCounted lasting → AreSegmentsCounted (with_records_told records lasting)
all_told_counted [] lasting valid is = is
all_told_counted (r ∷ records) lasting valid is = all_told_counted records (with_record_told r lasting) valid.1 (told_counted r lasting valid.0 is)

fresh_counted : (names : List (List ℕ)) → AreAllCounted (map fresh_terminal names)
fresh_counted [] = tt
fresh_counted (n ∷ names) = (tt, fresh_counted names)

-- nothing is there yet
pub empty_counted : (system : System) → AreSegmentsCounted (empty_state system)
empty_counted system = record { messages = tt; replies = fresh_counted system.terminals }

pub snapshot_counted : (system : System) (records : List Record) → AllByRecursion IsLogRecord records → AreSegmentsCounted (snapshot_state system records)
snapshot_counted system records valid = all_told_counted records (empty_state system) valid (empty_counted system)
