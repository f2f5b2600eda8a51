-- What reading the log of an image answers.
use Rattle.std.specs.Prelude.{◌≡◌, ℕ, Bool, List, length, Result, Ok, Err, Decides}
use Rattle.tm_disk.specs.Disk.{Image, DiskState, FailedSince}
use Rattle.model_system.specs.System.{System}
use Rattle.log_records.specs.declared.record.Record.{Record}
use Rattle.log_records.proofs.Takes.{IsBytes}
use Rattle.log_sectors.specs.Chain.{chain, joined_payloads}
use Rattle.restart_data.specs.declared.restart.RestartSector.{RestartSector}
use Rattle.model_system.specs.Areas.{log_first}
use Rattle.model_image.specs.Counters.{next_sequence}
use Rattle.model_image.specs.CutRecords.{cut_of, IsRecordCutOff}
use Rattle.model_image.specs.RecoveredState.{first_later}
use Rattle.image_reading.specs.declared.area.LogArea.{LogArea}
use Rattle.image_reading.specs.declared.reading.ReadLog.{ReadLog}
use Rattle.image_reading.specs.declared.reading.LogFault.{LogFault}
use Rattle.image_reading.specs.declared.reading.LogFault.TheVariants as faults

-- An area's chain, and the first of its sectors of a later epoch: it begins at a place and has so many sectors.
pub record IsAreaOf (count : ℕ) (image : Image) (first sequence epoch : ℕ) (area : LogArea) : Type 0 where
  pub payload : area.payload ≡ joined_payloads (chain count image first sequence epoch)
  pub sectors : area.sectors ≡ length (chain count image first sequence epoch)
  pub later : area.later ≡ first_later count image first epoch

-- Bytes are cut into these records, and it is decided whether what is left behind them is cut off.
pub record IsCutInto (bytes : List ℕ) (records : List Record) (is_cut_off : Bool) : Type 0 where
  pub all : records ≡ (cut_of bytes).records
  pub decided : Decides is_cut_off (IsRecordCutOff (cut_of bytes).rest)

-- so of some bytes
pub record ComesFromBytes (records : List Record) (is_cut_off : Bool) : Type 0 where
  pub bytes : List ℕ
  pub are : IsBytes bytes
  pub cut : IsCutInto bytes records is_cut_off

-- the bytes of the log that a restart sector names
abbrev pub log_bytes : System → Image → RestartSector → List ℕ
log_bytes system image restart = joined_payloads (chain system.logs image (log_first system restart.log) restart.sequence restart.epoch)

-- The log's records are those of the image, and so is the sequence behind it.
pub record IsLogOf (system : System) (restart : RestartSector) (image : Image) (read : ReadLog) : Type 0 where
  pub cut : IsCutInto (log_bytes system image restart) read.records.items read.is_cut_off
  pub sequence : read.next_sequence ≡ next_sequence system image restart
  pub later : read.later ≡ first_later system.logs image (log_first system restart.log) restart.epoch

-- The disk failed in the call exactly where that is told.
abbrev pub LogCause : {A : Type 0} → Result A LogFault → DiskState → DiskState → Type 0
LogCause (Ok value) old new = new.faults ≡ old.faults
LogCause (Err faults.Disk) old new = FailedSince old new
LogCause (Err faults.Memory) old new = new.faults ≡ old.faults
