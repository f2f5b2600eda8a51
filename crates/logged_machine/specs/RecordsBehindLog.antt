-- Records that are told behind what was appended to a log.
use Rattle.std.specs.Prelude.{◌≡◌, ℕ, ◌+◌, ◌<◌, ◌≤◌, List, ◌++◌, length}
use Rattle.std.specs.List.{flat_map, AllByRecursion}
use Rattle.log_records.specs.declared.record.Record.{Record}
use Rattle.log_records.specs.RecordSpelling.{record_spelling, IsLogRecord}
use Rattle.log_records.proofs.Takes.{IsBytes}
use Rattle.log_writer.specs.Writer.{Writer}
use Rattle.log_writer.specs.ForcedLog.{log_sectors_of}
use Rattle.disk_law.specs.SlotChanges.{with_bytes_behind}
use Rattle.disk_law.specs.JournalState.{JournalState}
use Rattle.journal.specs.JournalDisk.{LeavesSectors}

-- With so many bytes more the log's area has room for all.
abbrev pub HasRoomInArea : ℕ → Writer → Type 0
HasRoomInArea room log = (own : ℕ) → own ≤ room → log.place + log_sectors_of (length log.appended + own) ≤ log.count

-- So many bytes are all with which 32 sectors stay free.
abbrev pub IsAllBut : ℕ → Writer → Type 0
IsAllBut room log = (own : ℕ) → LeavesSectors log own → own ≤ room

-- With a call's own bytes, if it has some and so many at most, 32 sectors stay free.
abbrev pub StayFree : ℕ → Writer → Type 0
StayFree room log = (own : ℕ) → 0 < own → own ≤ room → LeavesSectors log own

-- These records were appended, each one by the ranges of its fields, and they fit the log's area.
pub record Appends (records : List Record) (old new : JournalState) : Type 0 where
  pub log : new.log ≡ with_bytes_behind (flat_map record_spelling records) old.log
  pub restart : new.restart ≡ old.restart
  pub valid : AllByRecursion IsLogRecord records
  pub bytes : IsBytes (flat_map record_spelling records)
  pub fits : old.log.place + log_sectors_of (length (old.log.appended ++ flat_map record_spelling records)) ≤ old.log.count
