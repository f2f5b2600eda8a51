-- What a checkpoint asks for.
use Rattle.std.specs.Prelude.{◌≡◌, ℕ, ◌+◌, List, ◌++◌, IsSome, Some, Ok}
use Rattle.tm_disk.specs.Disk.{Image, DiskState}
use Rattle.model_system.specs.System.{System}
use Rattle.log_records.specs.declared.record.Record.{Record}
use Rattle.restart_data.specs.declared.restart.RestartSector.{RestartSector}
use Rattle.restart_data.specs.Restart.{restart_in}
use Rattle.log_writer.specs.Writer.{Writer}
use Rattle.log_writer.specs.ForcedLog.{log_of_writer, AddsFront}
use Rattle.model_image.specs.SectorsAhead.{NoneAhead}
use Rattle.model_system.specs.Areas.{is_single, snapshot_area}
use Rattle.model_image.specs.CutRecords.{cut_of}
use Rattle.model_image.specs.Slots.{named_by}
use Rattle.model_image.specs.RecoveredState.{snapshot_from}
use Rattle.checkpointing.specs.CheckpointParts.{CheckpointParts}
use Rattle.seg_store.specs.ChangedSlots.{AllStores}
use Rattle.checkpointing.specs.DirtySlots.{DirtySlot}
use Rattle.checkpointing.specs.Checkpoint.{KeepsRecovery, IsCheckpointed}

-- Each image that a crash may leave has this restart sector.
abbrev pub HasRestart : System → RestartSector → DiskState → Type 0
HasRestart system restart disk = (image : Image) → disk.may_leave image → restart_in (snapshot_area system) (is_single system) image ≡ Ok (Some restart)

-- In each of them no log sector of this epoch has this sequence or a later one.
abbrev pub NoneIsAhead : System → ℕ → ℕ → DiskState → Type 0
NoneIsAhead system epoch sequence disk = (image : Image) → disk.may_leave image → NoneAhead system image epoch sequence

-- In each of them a record of the snapshot that holds, or of the log with what is appended, names each slot that was
-- changed since it was written.
abbrev pub ChangedAreNamed : CheckpointParts → Writer → AllStores → DiskState → Type 0
ChangedAreNamed parts log stores disk =
    (image : Image) → disk.may_leave image
    → (snapshot : List Record) → snapshot_from parts.system image parts.now ≡ Ok snapshot
    → (place number : ℕ) → DirtySlot stores place number
    → IsSome (named_by snapshot (cut_of (log_of_writer log image ++ log.appended)).records (place + 1) number)

-- Until what is appended is forced, and once it is, what lasts stays the same: each image that a crash may leave within the
-- force recovers as the one before it.
abbrev pub ForceKeeps : CheckpointParts → Writer → DiskState → Type 0
ForceKeeps parts log disk =
    (before after : Image) → disk.may_leave before → AddsFront log before after → KeepsRecovery parts.system before after

-- The new snapshot with no log behind it, and the slots as the stores have them, recover to the same.
abbrev pub SnapshotKeeps : CheckpointParts → Writer → AllStores → DiskState → Type 0
SnapshotKeeps parts log stores disk =
    (before after : Image) → disk.may_leave before → IsCheckpointed parts log stores before after → KeepsRecovery parts.system before after
