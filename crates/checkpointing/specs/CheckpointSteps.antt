-- What stands on the disk while a checkpoint is taken.
use Rattle.std.specs.Prelude.{◌≡◌, ◌⊎◌, ℕ, ◌+◌, length}
use Rattle.tm_disk.specs.Disk.{Image, sector_at}
use Rattle.restart_data.specs.WrittenSectors.{Saves, Restarts}
use Rattle.log_writer.specs.Writer.{Writer}
use Rattle.log_writer.specs.ForcedLog.{AddsFront, AddsAll}
use Rattle.checkpointing.specs.CheckpointParts.{CheckpointParts, next_restart}
use Rattle.seg_store.specs.ChangedSlots.{AllStores}
use Rattle.seg_store.specs.DataSectors.{HasPut}
use Rattle.seg_store.specs.WrittenSlots.{changed_bytes}
use Rattle.model_system.specs.Areas.{data_first}
use Rattle.checkpointing.specs.DirtySlots.{DirtyAt}
use Rattle.checkpointing.specs.Checkpoint.{InArea}

-- one step, and then another
pub record Then (first second : Image → Image → Type 0) (before after : Image) : Type 0 where
  pub middle : Image
  pub one : first before middle
  pub two : second middle after

-- The log is forced, then the slots that were changed are written, then the snapshot, and then the restart sector.
abbrev pub WritesSlots : CheckpointParts → Writer → AllStores → Image → Image → Type 0
WritesSlots parts log stores = Then (AddsAll log) (HasPut (data_first parts.system 0) (changed_bytes stores))

abbrev pub WritesSnapshot : CheckpointParts → Writer → AllStores → Image → Image → Type 0
WritesSnapshot parts log stores = Then (WritesSlots parts log stores) (Saves parts.snapshot_at (parts.now.checkpoint + 1) parts.snapshot)

abbrev pub WritesRestart : CheckpointParts → Writer → AllStores → Image → Image → Type 0
WritesRestart parts log stores = Then (WritesSnapshot parts log stores) (Restarts (next_restart parts log))

-- The sectors that the restart sector before the checkpoint leads nobody to: those of changed slots, which a record
-- names, and the free snapshot area.
pub record ChangesUnread (parts : CheckpointParts) (stores : AllStores) (before after : Image) : Type 0 where
  pub size : length after ≡ length before
  pub each : (k : ℕ) → (sector_at after k ≡ sector_at before k) ⊎ (DirtyAt parts.system stores k ⊎ InArea parts.snapshot_at parts.snapshot_sectors k)

-- At any moment until the restart sector is written a front of what was appended was forced; or all of it, and only such
-- sectors are others since.
abbrev pub Prepares : CheckpointParts → Writer → AllStores → Image → Image → Type 0
Prepares parts log stores before after = AddsFront log before after ⊎ Then (AddsAll log) (ChangesUnread parts stores) before after

-- And then the restart sector was written, too.
abbrev pub Takes : CheckpointParts → Writer → AllStores → Image → Image → Type 0
Takes parts log stores before after = Prepares parts log stores before after ⊎ WritesRestart parts log stores before after
