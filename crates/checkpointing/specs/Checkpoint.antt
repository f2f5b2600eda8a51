-- What a checkpoint leaves, once it is done.
use Rattle.std.specs.Prelude.{◌≡◌, ◌⊎◌, ℕ, Bool, ◌+◌, ◌<◌, ◌≤◌, [], ◌++◌, length, slice_index_or, Some, Ok}
use Rattle.tm_disk.specs.Disk.{Image, sector_at}
use Rattle.model_system.specs.System.{System}
use Rattle.model_machine.specs.Machine.{LastingState}
use Rattle.restart_data.specs.Restart.{restart_in}
use Rattle.restart_data.specs.Snapshot.{snapshot_in}
use Rattle.log_writer.specs.Writer.{Writer}
use Rattle.log_writer.specs.ForcedLog.{log_of_writer, log_sectors_of, StaysOrLogs}
use Rattle.model_image.specs.RecoveredState.{Recovers}
use Rattle.checkpointing.specs.CheckpointParts.{CheckpointParts, next_restart}
use Rattle.model_data.specs.Record.{rows_spelling}
use Rattle.seg_store.specs.ChangedSlots.{AllStores}
use Rattle.seg_store.specs.DataSectors.{slot_spelling}
use Rattle.model_system.specs.Areas.{slot_size}
use Rattle.model_image.specs.Slots.{slot_at}
use Rattle.checkpointing.specs.DirtySlots.{DirtySlot, DirtyAt}

-- What lasts by the image before, lasts by the one after.
abbrev pub KeepsRecovery : System → Image → Image → Type 0
KeepsRecovery system before after = (state : LastingState) → Recovers system before (Ok state) → Recovers system after (Ok state)

-- one of so many sectors from a place on
pub record InArea (first count k : ℕ) : Type 0 where
  pub low : first ≤ k
  pub high : k < first + count

-- The sectors that a checkpoint writes: the restart sector, the free snapshot area, the log's next sectors, and those of
-- the slots that were changed.
abbrev pub IsCheckpointWritten : CheckpointParts → Writer → AllStores → ℕ → Type 0
IsCheckpointWritten parts log stores k =
    (k ≡ 0)
    ⊎ (InArea parts.snapshot_at parts.snapshot_sectors k
    ⊎ (InArea (log.first + log.place) (log_sectors_of (length log.appended)) k ⊎ DirtyAt parts.system stores k))

-- The image after a checkpoint, by the one before: the log has what was appended; each slot that was changed stands in
-- its sectors; the new snapshot stands in the area that was free; and the restart sector names it and the other log
-- area. All other sectors stay.
pub record IsCheckpointed (parts : CheckpointParts) (log : Writer) (stores : AllStores) (before after : Image) : Type 0 where
  pub restart : (most : ℕ) (single : Bool) → (next_restart parts log).sectors ≤ most → restart_in most single after ≡ Ok (Some (next_restart parts log))
  pub snapshot : snapshot_in (next_restart parts log).sectors after parts.snapshot_at (next_restart parts log).checkpoint ≡ Ok parts.snapshot
  pub log_has : log_of_writer log after ≡ log_of_writer log before ++ log.appended
  pub log_each : (x : ℕ) → x < log.count → StaysOrLogs log before after x
  pub slots : (place number : ℕ) (slot : DirtySlot stores place number) → slot_at parts.system after place number ≡ slot_spelling (slot_size parts.system place) (rows_spelling (slice_index_or slot.store.slots number []))
  pub size : length after ≡ length before
  pub elsewhere : (k : ℕ) → (sector_at after k ≡ sector_at before k) ⊎ IsCheckpointWritten parts log stores k
