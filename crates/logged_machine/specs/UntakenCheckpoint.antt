-- A snapshot, and a checkpoint that was not taken.
use Rattle.std.specs.Prelude.{◌≡◌, ℕ, ◌+◌, ◌≤◌, List, [], length}
use Rattle.tm_disk.specs.Disk.{DiskState, FailedSince}
use Rattle.model_system.specs.System.{System}
use Rattle.model_machine.specs.declared.entry.ControlFault.{ControlFault}
use Rattle.model_machine.specs.declared.entry.ControlFault.TheVariants.{Memory, Disk, Spent}
use Rattle.model_system.specs.Areas.{snapshot_area}
use Rattle.log_writer.specs.ForcedLog.{log_sectors_of}
use Rattle.seg_store.specs.Slots.{Stored}
use Rattle.seg_store.specs.WrittenSlots.{changed_sectors}
use Rattle.checkpointing.specs.CheckpointParts.{next_restart, next_writer}
use Rattle.disk_law.specs.JournalState.{JournalState}
use Rattle.journal.specs.CheckpointFor.{parts_for}
use Rattle.journal.specs.OpenUnits.{AreUnitsOf}
use Rattle.checkpointing.specs.declared.touches.OpenUnit.{OpenUnit}
use Rattle.checkpointing.specs.SnapshotRecords.{snapshot_records}
use Rattle.checkpointing.specs.SpelledRecords.{AddsSpelled}
use Rattle.checkpointing.specs.Touches.{changes_of_units}
use Rattle.program_rows.specs.DatabasesState.{with_all_settled}
use Rattle.tm_machine.specs.SlotChanges.{slots_now}
use Rattle.tm_machine.specs.Parts.{PartsState}

-- The bytes spell what lasts of the parts under this number of a checkpoint, and what the regions' units touched.
pub record IsSnapshot (parts : PartsState) (units : List ℕ) (next_unit number : ℕ) (bytes : List ℕ) : Type 0 where
  pub opens : List OpenUnit
  pub are : AreUnitsOf (slots_now parts) units opens
  pub few : length opens ≤ length parts.system.regions
  pub adds : AddsSpelled (snapshot_records number next_unit parts.moment.lasting (changes_of_units (slots_now parts).stores opens)) [] bytes

-- the parts where no slot counts as changed
abbrev pub settled_parts : PartsState → PartsState
settled_parts parts = record parts { databases = with_all_settled parts.databases }

-- With some bytes as its snapshot a checkpoint was taken: the next restart sector holds, and the log begins anew in the other
-- area, behind all that was written.
pub record TakesNext (system : System) (old new : JournalState) : Type 0 where
  pub bytes : List ℕ
  pub restart : new.restart ≡ next_restart (parts_for system old.restart bytes) old.log
  pub log : new.log ≡ next_writer (parts_for system old.restart bytes) old.log

-- How many sectors a checkpoint writes at most: those of what was appended, those of each slot that counts as changed, those of a
-- snapshot's area, and the restart sector.
abbrev pub checkpoint_sectors : System → List Stored → List (List ℕ) → JournalState → ℕ
checkpoint_sectors system stores changed journal = log_sectors_of (length journal.log.appended) + changed_sectors stores changed + snapshot_area system + 1

-- Nothing has changed.
pub record SameAll {D : Type 0} (parts parts' : PartsState) (journal journal' : JournalState) (disk disk' : D) : Type 0 where
  pub parts_are : parts' ≡ parts
  pub journal_is : journal' ≡ journal
  pub disk_is : disk' ≡ disk

-- For want of memory nothing has changed; else the disk failed.
abbrev pub Untaken : {D : Type 0} → (D → DiskState) → PartsState → PartsState → JournalState → JournalState → D → D → ControlFault → Type 0
Untaken state parts parts' journal journal' disk disk' Memory = SameAll parts parts' journal journal' disk disk'
Untaken state parts parts' journal journal' disk disk' Disk = FailedSince (state disk) (state disk')
Untaken state parts parts' journal journal' disk disk' (Spent counter) = ⊥
