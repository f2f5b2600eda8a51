-- What writing a restart sector or a snapshot leaves, and what reading it tells.
use Rattle.std.specs.Prelude.{◌≡◌, ℕ, ◌≤◌, Bool, List, length, Option, Some, Result, Ok, Err}
use Rattle.tm_disk.specs.Disk.{Image, DiskState, FailedSince, with_sector, ChangesOnly}
use Rattle.restart_data.specs.declared.restart.RestartSector.{RestartSector}
use Rattle.restart_data.specs.declared.restart.RestartFault.{RestartFault}
use Rattle.restart_data.specs.declared.restart.RestartFault.TheVariants as restart_faults
use Rattle.restart_data.specs.declared.snapshot.SnapshotFault.{SnapshotFault}
use Rattle.restart_data.specs.declared.snapshot.SnapshotFault.TheVariants as snapshot_faults
use Rattle.restart_data.specs.Restart.{IsRestart, restart_sector, restart_in}
use Rattle.restart_data.specs.Snapshot.{SectorFault, snapshot_sectors_of, snapshot_in}

-- The restart sector is this one, and is read as such; all other sectors stay.
pub record Restarts (value : RestartSector) (before after : Image) : Type 0 where
  pub set : after ≡ with_sector before 0 (restart_sector value)
  pub read : (most : ℕ) (single : Bool) → value.sectors ≤ most → restart_in most single after ≡ Ok (Some value)

-- The sectors from a place on hold these bytes as the snapshot of a checkpoint; all other sectors stay.
pub record Saves (first checkpoint : ℕ) (bytes : List ℕ) (before after : Image) : Type 0 where
  pub changes : ChangesOnly first (snapshot_sectors_of (length bytes)) before after
  pub read : snapshot_in (snapshot_sectors_of (length bytes)) after first checkpoint ≡ Ok bytes

-- what reading a restart sector answers
abbrev pub TellsRestart : Result (Option RestartSector) RestartFault → Result (Option RestartSector) ℕ → Type 0
TellsRestart (Ok found) read = read ≡ Ok found
TellsRestart (Err (restart_faults.Bad rule)) read = read ≡ Err rule
TellsRestart (Err restart_faults.Disk) read = Unit {0}

-- A restart sector that breaks none of its rules, where a snapshot has at most so many sectors.
pub record IsValid (most : ℕ) (restart : RestartSector) : Type 0 where
  pub is : IsRestart restart
  pub fits : restart.sectors ≤ most

-- The disk failed in the call exactly where that is told.
abbrev pub RestartCause : Result (Option RestartSector) RestartFault → DiskState → DiskState → Type 0
RestartCause (Ok found) old new = new.faults ≡ old.faults
RestartCause (Err (restart_faults.Bad rule)) old new = new.faults ≡ old.faults
RestartCause (Err restart_faults.Disk) old new = FailedSince old new

-- what reading a snapshot answers, where there is memory
abbrev pub TellsSnapshot : Result (List ℕ) SnapshotFault → Result (List ℕ) SectorFault → Type 0
TellsSnapshot (Ok bytes) read = read ≡ Ok bytes
TellsSnapshot (Err (snapshot_faults.Bad rule sector)) read = read ≡ Err (rule, sector)
TellsSnapshot (Err snapshot_faults.Disk) read = Unit {0}
TellsSnapshot (Err snapshot_faults.Memory) read = Unit {0}

abbrev pub SnapshotCause : Result (List ℕ) SnapshotFault → DiskState → DiskState → Type 0
SnapshotCause (Ok bytes) old new = new.faults ≡ old.faults
SnapshotCause (Err (snapshot_faults.Bad rule sector)) old new = new.faults ≡ old.faults
SnapshotCause (Err snapshot_faults.Disk) old new = FailedSince old new
SnapshotCause (Err snapshot_faults.Memory) old new = new.faults ≡ old.faults
