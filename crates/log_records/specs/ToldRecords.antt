-- Records that are told behind others, in a room.
use Rattle.std.specs.Prelude.{◌≡◌, ℕ, ◌<◌, ◌≤◌, List, ◌++◌, length}
use Rattle.std.specs.List.{AllByRecursion, flat_map}
use Rattle.log_records.specs.declared.record.Record.{Record}
use Rattle.log_records.specs.declared.untold.Untold.{Untold}
use Rattle.log_records.specs.declared.untold.Untold.TheVariants.{Memory, Full}
use Rattle.log_records.specs.RecordSpelling.{record_spelling, IsLogRecord}

-- the spelling of records, one after the other
abbrev pub spelled_records : List Record → List ℕ
spelled_records records = flat_map record_spelling records

-- The bytes have these records, one after the other, behind what was there.
pub record AddsRecords (records : List Record) (old new : List ℕ) : Type 0 where
  pub bytes : new ≡ old ++ spelled_records records
  pub valid : AllByRecursion IsLogRecord records

-- The records are told behind what was told before, and the room is enough for them.
pub record TellsInRoom (records : List Record) (room : ℕ) (old new : List ℕ) : Type 0 where
  pub told : new ≡ old ++ spelled_records records
  pub valid : AllByRecursion IsLogRecord records
  pub fits : length (spelled_records records) ≤ room

-- They are longer than the room for them, where that is the reason.
abbrev pub AreRecordsUntold : List Record → ℕ → Untold → Type 0
AreRecordsUntold records room Memory = Unit {0}
AreRecordsUntold records room Full = room < length (spelled_records records)

-- the bytes of this length are longer, where that is the reason
abbrev pub AreRecordsTooLong : ℕ → ℕ → Untold → Type 0
AreRecordsTooLong length room Memory = Unit {0}
AreRecordsTooLong length room Full = room < length
