-- The first image of a system's disk.
use Rattle.std.specs.Prelude.{◌≡◌, ◌⊎◌, ℕ, ◌+◌, ◌<◌, ◌≤◌, List, [], length, Some, None, Ok}
use Rattle.tm_disk.specs.Disk.{Image, sector_at}
use Rattle.tm_disk.specs.Sector.{blank}
use Rattle.model_system.specs.System.{System}
use Rattle.model_machine.specs.Machine.{empty_state}
use Rattle.log_records.specs.declared.record.Record.{Record}
use Rattle.restart_data.specs.declared.restart.RestartSector.{RestartSector}
use Rattle.restart_data.specs.Restart.{restart_in}
use Rattle.restart_data.specs.Snapshot.{snapshot_in}
use Rattle.model_system.specs.Areas.{is_single, snapshot_area, snapshot_first, log_first}
pub use Rattle.model_system.specs.Areas.{sectors_needed}
use Rattle.checkpointing.specs.SnapshotRecords.{snapshot_records}
use Rattle.openings.specs.ColdWrites.{text_sectors, text_sector}

-- the records of the first snapshot: checkpoint 1 of the empty machine, whose next unit is 1
abbrev pub first_records : System → List Record
first_records system = snapshot_records 1 1 (empty_state system) []

-- a cold start begins to count at 1, with the first areas
pub record IsFirstRestart (now : RestartSector) : Type 0 where
  pub epoch : now.epoch ≡ 1
  pub checkpoint : now.checkpoint ≡ 1
  pub sequence : now.sequence ≡ 1
  pub snapshot : now.snapshot ≡ 0
  pub log : now.log ≡ 0

-- The image has this restart sector, the text in its sectors, and these bytes as its snapshot. Both log areas and the data
-- are zeros.
pub record IsFirstImage (system : System) (text bytes : List ℕ) (now : RestartSector) (image : Image) : Type 0 where
  pub restart : restart_in (snapshot_area system) (is_single system) image ≡ Ok (Some now)
  pub has_text : (x : ℕ) → x < text_sectors (length text) → sector_at image (1 + x) ≡ text_sector text x
  pub snapshot : snapshot_in now.sectors image (snapshot_first system now.snapshot) now.checkpoint ≡ Ok bytes
  pub blanks : (k : ℕ) → log_first system 0 ≤ k → k < sectors_needed system → sector_at image k ≡ blank

-- The image is the one before; or its restart sector is all zeros; or it is the first image.
abbrev pub BeginsImage : System → List ℕ → List ℕ → RestartSector → Image → Image → Type 0
BeginsImage system text bytes now before after =
    (after ≡ before) ⊎ ((restart_in (snapshot_area system) (is_single system) after ≡ Ok None) ⊎ IsFirstImage system text bytes now after)
