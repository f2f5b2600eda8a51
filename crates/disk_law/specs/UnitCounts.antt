-- What a machine counts on with its log, and the units of the records there.
use Rattle.std.specs.Prelude.{◌≡◌, ℕ, ◌+◌, ◌<◌, ◌≤◌, List, ◌++◌, length, Ok}
use Rattle.tm_disk.specs.Disk.{Image, DiskState}
use Rattle.model_system.specs.System.{System}
use Rattle.log_records.specs.declared.record.Record.{Record}
use Rattle.log_writer.specs.ForcedLog.{log_of_writer, log_sectors_of}
use Rattle.model_image.specs.Counters.{told_unit, greatest_unit}
use Rattle.model_image.specs.CutRecords.{cut_of}
use Rattle.model_image.specs.RecoveredState.{snapshot_from}
use Rattle.disk_law.specs.JournalState.{JournalState}

-- An image's snapshot tells of no unit above the next one, and each record of its log, with what is appended, is of one below.
pub record TellsUnits (system : System) (journal : JournalState) (next_unit : ℕ) (image : Image) : Type 0 where
  pub snapshot : (records : List Record) → snapshot_from system image journal.restart ≡ Ok records → told_unit records ≤ next_unit
  pub log : greatest_unit (cut_of (log_of_writer journal.log image ++ journal.log.appended)).records < next_unit

-- So it is of each image that a crash may leave.
abbrev pub TellUnits : System → JournalState → ℕ → DiskState → Type 0
TellUnits system journal next_unit disk = (image : Image) → disk.may_leave image → TellsUnits system journal next_unit image

-- None of the machine's own counters of its log is above a bound: the epoch, the log's next sequence behind all that is to be forced,
-- the checkpoint and the next unit.
pub record StandsUpTo (high : ℕ) (journal : JournalState) (next_unit : ℕ) : Type 0 where
  pub epoch : journal.restart.epoch ≤ high
  pub sequence : journal.log.sequence + journal.log.place + log_sectors_of (length journal.log.appended) ≤ high
  pub checkpoint : journal.restart.checkpoint ≤ high
  pub unit : next_unit ≤ high
