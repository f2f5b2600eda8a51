-- What reading the snapshot of an image answers.
use Rattle.std.specs.Prelude.{◌≡◌, true, List, None, Result, Ok, Err}
use Rattle.std.specs.List.{list_all, AllByRecursion}
use Rattle.tm_disk.specs.Disk.{Image, DiskState, FailedSince}
use Rattle.model_system.specs.System.{System}
use Rattle.log_records.specs.declared.record.Record.{Record}
use Rattle.log_records.specs.RecordSpelling.{IsLogRecord}
use Rattle.restart_data.specs.declared.restart.RestartSector.{RestartSector}
use Rattle.restart_data.specs.Rules.{first_broken}
use Rattle.model_image.specs.RecoveredState.{snapshot_from}
use Rattle.model_image.specs.Slots.{is_image_of}
use Rattle.model_image.specs.Snapshot.{snapshot_rules}
use Rattle.image_records.specs.RecordAnswers.{SnapshotState, IsSnapshotStateOf}
use Rattle.image_reading.specs.declared.fault.ReadFault.{ReadFault}
use Rattle.image_reading.specs.declared.fault.ReadFault.TheVariants as faults

-- What was read comes from records in their ranges that break no rule on a snapshot; their changes are of slots, with images
-- of records.
pub record ComesFromRecords (system : System) (snapshot : SnapshotState) : Type 0 where
  pub records : List Record
  pub is_of : IsSnapshotStateOf system records snapshot
  pub unbroken : first_broken (snapshot_rules system records) ≡ None
  pub images : list_all (is_image_of system) records ≡ true
  pub valid : AllByRecursion IsLogRecord records

-- the records of the image's snapshot are these
pub record IsSnapshotRead (system : System) (image : Image) (restart : RestartSector) (snapshot : SnapshotState) : Type 0 where
  pub records : List Record
  pub has : snapshot_from system image restart ≡ Ok records
  pub is_of : IsSnapshotStateOf system records snapshot

-- What is answered where there is memory and the disk doesn't fail: what the records come to, or the lowest rule that is
-- broken, with its sector.
abbrev pub TellsSnapshotOf : System → RestartSector → Image → Result SnapshotState ReadFault → Type 0
TellsSnapshotOf system restart image (Ok snapshot) = IsSnapshotRead system image restart snapshot
TellsSnapshotOf system restart image (Err (faults.Bad rule sector)) = snapshot_from system image restart ≡ Err (rule, sector)
TellsSnapshotOf system restart image (Err faults.Disk) = Unit {0}
TellsSnapshotOf system restart image (Err faults.Memory) = Unit {0}

-- The disk failed in the call exactly where that is told.
abbrev pub ReadCause : Result SnapshotState ReadFault → DiskState → DiskState → Type 0
ReadCause (Ok value) old new = new.faults ≡ old.faults
ReadCause (Err (faults.Bad rule sector)) old new = new.faults ≡ old.faults
ReadCause (Err faults.Disk) old new = FailedSince old new
ReadCause (Err faults.Memory) old new = new.faults ≡ old.faults
