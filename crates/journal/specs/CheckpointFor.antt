-- What a checkpoint asks for: a life whose snapshot is given. And what it leaves, behind a force of all that was appended.
use Rattle.std.specs.Prelude.{◌≡◌, ◌⊎◌, ℕ, ◌<◌, ◌≤◌, List, length}
use Rattle.tm_disk.specs.Disk.{Image, DiskState}
use Rattle.model_system.specs.System.{System}
use Rattle.model_machine.specs.Machine.{LastingState}
use Rattle.log_records.specs.declared.record.Record.{Record}
use Rattle.log_writer.specs.Writer.{Writer}
use Rattle.log_writer.specs.ForcedLog.{IsWriterReady, AddsFront, AddsAll}
use Rattle.restart_data.specs.declared.restart.RestartSector.{RestartSector}
use Rattle.seg_store.specs.ChangedSlots.{AllStores}
use Rattle.model_system.specs.Areas.{snapshot_area, snapshot_first, log_first, data_first}
use Rattle.disk_law.specs.CommittedBytes.{Touches}
use Rattle.checkpointing.specs.CheckpointParts.{CheckpointParts, forced_writer, other_area}
use Rattle.checkpointing.specs.Checkpoint.{IsCheckpointed}
use Rattle.checkpointing.specs.CheckpointSteps.{Takes}
use Rattle.disk_law.specs.Life.{LifeOnDisk, IsLifeOnDisk}
use Rattle.disk_law.specs.KeptImages.{AreImagesKept}
use Rattle.disk_law.specs.LifeCheckpoint.{MayCheckpoint}
use Rattle.disk_law.specs.LifeSteps.{forced_life}
use Rattle.disk_law.specs.PendingMoves.{PendsBehind}
use Rattle.disk_law.specs.JournalState.{JournalState}

-- The parts of a checkpoint with these bytes as its snapshot: it goes to the areas that the restart sector doesn't name.
abbrev pub parts_for : System → RestartSector → List ℕ → CheckpointParts
parts_for system now bytes = record {
  system = system;
  now = now;
  snapshot_at = snapshot_first system (other_area now.snapshot);
  snapshot_sectors = snapshot_area system;
  log_at = log_first system (other_area now.log);
  log_sectors = system.logs;
  snapshot = bytes;
}

-- This life is of the system, the journal and the disk, where these states pend, and a checkpoint of it may be taken with these bytes,
-- which tell that open units touched this.
pub record AreCheckpointPartsOf (system : System) (journal : JournalState) (stores : AllStores) (bytes : List ℕ) (touches : Touches) (told : List Record) (states : List LastingState) (disk : DiskState) (life : LifeOnDisk) : Type 0 where
  pub of_system : life.system ≡ system
  pub writer : life.log ≡ journal.log
  pub now : life.now ≡ journal.restart
  pub is_life : IsLifeOnDisk life
  pub may : MayCheckpoint bytes stores touches told life
  pub pends : PendsBehind states life disk

-- There is such a life, all areas are on the disk, and the writer stands where the log ends.
pub record CanCheckpoint (system : System) (journal : JournalState) (stores : AllStores) (bytes : List ℕ) (disk : DiskState) : Type 0 where
  pub life : LifeOnDisk
  pub touches : Touches
  pub told : List Record
  pub states : List LastingState
  pub is : AreCheckpointPartsOf system journal stores bytes touches told states disk life
  pub areas : data_first system (length system.databases) ≤ disk.size
  pub ready : IsWriterReady journal.log disk
  pub some : 0 < length bytes

-- All that was appended to this life is forced, so that each image has it, and a checkpoint of it may be taken.
pub record CanTake (system : System) (journal : JournalState) (stores : AllStores) (bytes : List ℕ) (disk : DiskState) : Type 0 where
  pub life : LifeOnDisk
  pub touches : Touches
  pub told : List Record
  pub of_system : life.system ≡ system
  pub writer : forced_writer life.log ≡ journal.log
  pub now : life.now ≡ journal.restart
  pub is_life : IsLifeOnDisk life
  pub may : MayCheckpoint bytes stores touches told life
  pub kept : AreImagesKept (forced_life life) disk
  pub areas : data_first system (length system.databases) ≤ disk.size
  pub ready : IsWriterReady journal.log disk
  pub some : 0 < length bytes

-- ---- what a checkpoint leaves behind the force

-- All that was appended is forced, and the checkpoint goes on from there.
pub record TakesForced (parts : CheckpointParts) (log : Writer) (stores : AllStores) (before after : Image) : Type 0 where
  pub middle : Image
  pub all : AddsAll log before middle
  pub takes : Takes parts (forced_writer log) stores middle after

-- At any moment a front of that is forced; or all of it, and a front of the checkpoint's steps is done.
abbrev pub TakesBehindForce : CheckpointParts → Writer → AllStores → Image → Image → Type 0
TakesBehindForce parts log stores before after = AddsFront log before after ⊎ TakesForced parts log stores before after

-- All that was appended is forced, and the checkpoint is done behind it.
pub record IsCheckpointedBehindForce (parts : CheckpointParts) (log : Writer) (stores : AllStores) (before after : Image) : Type 0 where
  pub middle : Image
  pub all : AddsAll log before middle
  pub is : IsCheckpointed parts (forced_writer log) stores middle after
