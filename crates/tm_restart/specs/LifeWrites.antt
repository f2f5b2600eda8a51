-- What stands on the disk while a life is prepared, and once it may begin.
use Rattle.std.specs.Prelude.{◌≡◌, ◌⊎◌, ℕ, Bool, ◌<◌, ◌≤◌, List, length, Some, Ok, slice_get}
use Rattle.tm_disk.specs.Disk.{Image, sector_at}
use Rattle.model_system.specs.System.{System}
use Rattle.restart_data.specs.declared.restart.RestartSector.{RestartSector}
use Rattle.restart_data.specs.Restart.{restart_in}
use Rattle.restart_data.specs.Snapshot.{snapshot_sectors_of, snapshot_in}
use Rattle.restart_data.specs.WrittenSectors.{Saves, Restarts}
use Rattle.model_system.specs.Areas.{snapshot_area, snapshot_first, slot_size}
use Rattle.model_image.specs.Slots.{slot_at}
use Rattle.seg_store.specs.DataSectors.{slot_spelling}
use Rattle.image_loading.specs.LoadedStore.{given_to}
use Rattle.checkpointing.specs.Checkpoint.{InArea}
use Rattle.checkpointing.specs.CheckpointSteps.{Then}
use Rattle.tm_restart.specs.GivenSlots.{GivenSlots, IsGiven, HasPutAll}

-- ---- the steps

-- The slots that are given, and then the snapshot in the area of the new restart sector, and then that restart sector.
abbrev pub WritesLifeSnapshot : System → GivenSlots → List ℕ → RestartSector → Image → Image → Type 0
WritesLifeSnapshot system given bytes now = Then (HasPutAll system given) (Saves (snapshot_first system now.snapshot) now.checkpoint bytes)

abbrev pub WritesLifeRestart : System → GivenSlots → List ℕ → RestartSector → Image → Image → Type 0
WritesLifeRestart system given bytes now = Then (WritesLifeSnapshot system given bytes now) (Restarts now)

-- ---- what they leave

-- Only sectors that are given, and those of the new snapshot's area, may be others.
pub record ChangesUnreadSectors (system : System) (given : GivenSlots) (now : RestartSector) (before after : Image) : Type 0 where
  pub size : length after ≡ length before
  pub each : (k : ℕ) → (sector_at after k ≡ sector_at before k) ⊎ (IsGiven system given k (sector_at after k) ⊎ InArea (snapshot_first system now.snapshot) (snapshot_area system) k)

-- a sector that is written: the restart sector, one of the new snapshot's area, or one that is given
abbrev pub IsSectorWritten : System → GivenSlots → RestartSector → ℕ → List ℕ → Type 0
IsSectorWritten system given now k sector = (k ≡ 0) ⊎ (InArea (snapshot_first system now.snapshot) (snapshot_area system) k ⊎ IsGiven system given k sector)

-- The image has this restart sector, these bytes as its snapshot, and the slots as they are given. All other sectors stay.
pub record IsRewritten (system : System) (given : GivenSlots) (bytes : List ℕ) (now : RestartSector) (before after : Image) : Type 0 where
  pub restart : (most : ℕ) (single : Bool) → now.sectors ≤ most → restart_in most single after ≡ Ok (Some now)
  pub snapshot : snapshot_in (snapshot_sectors_of (length bytes)) after (snapshot_first system now.snapshot) now.checkpoint ≡ Ok bytes
  pub holds : (place number : ℕ) (slots : List (ℕ × List ℕ)) (given_bytes : List ℕ) → place < length system.databases → slice_get given place ≡ Some slots → given_to number slots ≡ Some given_bytes
      → slot_at system after place number ≡ slot_spelling (slot_size system place) given_bytes
  pub size : length after ≡ length before
  pub elsewhere : (k : ℕ) → (sector_at after k ≡ sector_at before k) ⊎ IsSectorWritten system given now k (sector_at after k)

-- At any moment only unread sectors are others; or all was written.
abbrev pub Rewrites : System → GivenSlots → List ℕ → RestartSector → Image → Image → Type 0
Rewrites system given bytes now before after = ChangesUnreadSectors system given now before after ⊎ IsRewritten system given bytes now before after
