-- What the write of one changed slot asks for: a life that has it.
use Rattle.std.specs.Prelude.{◌≡◌, ℕ, ◌≤◌, List, length}
use Rattle.tm_disk.specs.Disk.{DiskState}
use Rattle.model_system.specs.System.{System}
use Rattle.model_system.specs.Areas.{data_first}
use Rattle.model_machine.specs.Machine.{LastingState}
use Rattle.log_writer.specs.ForcedLog.{IsWriterReady}
use Rattle.seg_store.specs.declared.slot_place.SlotPlace.{SlotPlace}
use Rattle.seg_store.specs.ChangedSlots.{AllStores}
use Rattle.seg_store.specs.WrittenSlots.{changed_bytes}
use Rattle.seg_store.specs.OneSlot.{only_changed, IsSlotPlace, IsMarked}
use Rattle.disk_law.specs.Life.{LifeOnDisk}
use Rattle.disk_law.specs.LifeCheckpoint.{HasStores}
use Rattle.disk_law.specs.PendingMoves.{PendsBehind}
use Rattle.disk_law.specs.JournalState.{JournalState}

-- This life is of the system, the journal, the stores and the disk, where these states pend.
pub record IsSlotWriteOf (system : System) (journal : JournalState) (stores : AllStores) (states : List LastingState) (disk : DiskState) (life : LifeOnDisk) : Type 0 where
  pub of_system : life.system ≡ system
  pub writer : life.log ≡ journal.log
  pub now : life.now ≡ journal.restart
  pub slots : HasStores life stores
  pub pends : PendsBehind states life disk

-- There is such a life, all areas are on the disk, the writer stands where the log ends, and the slot is there and counts as changed.
pub record CanWriteSlot (system : System) (journal : JournalState) (stores : AllStores) (place : SlotPlace) (disk : DiskState) : Type 0 where
  pub life : LifeOnDisk
  pub states : List LastingState
  pub is : IsSlotWriteOf system journal stores states disk life
  pub areas : data_first system (length system.databases) ≤ disk.size
  pub ready : IsWriterReady journal.log disk
  pub there : IsSlotPlace place stores.stores
  pub marked : IsMarked place stores.changed

-- what is written of the slot
abbrev pub slot_write_pieces : SlotPlace → AllStores → List (ℕ × List ℕ)
slot_write_pieces place stores = changed_bytes (only_changed place stores)
