-- What a call other than a checkpoint writes, and how far a call raises what is counted on.
use Rattle.std.specs.Prelude.{◌≡◌, ◌⊎◌, ℕ, ◌+◌, ◌≤◌, Bool, List, [], length, Option, Some, None}
use Rattle.std.specs.Option.{is_some}
use Rattle.tm_disk.specs.Disk.{DiskState, Within, WritesAtMost, ChangesOnly}
use Rattle.model_system.specs.System.{System}
use Rattle.model_machine.specs.MachineCalls.{lasting_step}
use Rattle.model_machine.specs.declared.entry.ControlCall.{ControlCall}
use Rattle.model_machine.specs.declared.entry.ControlFault.{ControlFault}
use Rattle.model_machine.specs.declared.entry.ControlFault.TheVariants.{Memory, Disk, Spent}
use Rattle.log_writer.specs.Writer.{Writer}
use Rattle.log_writer.specs.ForcedLog.{log_sectors_of}
use Rattle.disk_law.specs.SlotChanges.{with_bytes_behind}
use Rattle.disk_law.specs.JournalState.{JournalState}
use Rattle.journal.specs.JournalDisk.{LeavesSectors}
use Rattle.tm_machine.specs.Parts.{PartsState}
use Rattle.logged_machine.specs.ToldCalls.{own_bytes}
use Rattle.logged_machine.specs.UntakenCheckpoint.{TakesNext, checkpoint_sectors}

-- whether a step lasts of a call
abbrev pub has_lasting_step : PartsState → ControlCall → Bool
has_lasting_step parts call = is_some (lasting_step parts.system parts.moment call)

-- ---- what it writes

-- The disk was told to write no more sectors than what was appended takes. No others have changed than so many in the log's
-- area, behind those that were written before.
pub record WritesLog (log : Writer) (old new : DiskState) : Type 0 where
  pub most : WritesAtMost (log_sectors_of (length log.appended)) old new
  pub only : Within (ChangesOnly (log.first + log.place) (log_sectors_of (length log.appended))) old new

-- The call's records were appended. Nothing was written.
pub record AppendsAlone {D : Type 0} (own : List ℕ) (old new : JournalState) (disk disk' : D) : Type 0 where
  pub log : new.log ≡ with_bytes_behind own old.log
  pub restart : new.restart ≡ old.restart
  pub disk_is : disk' ≡ disk

-- Nothing was done.
pub record DoesNothing {D : Type 0} (old new : JournalState) (disk disk' : D) : Type 0 where
  pub journal : new ≡ old
  pub disk_is : disk' ≡ disk

-- A call that takes no checkpoint, by the fault that it has in place of an answer. The disk can't fail in it.
abbrev pub AppendsBy : {D : Type 0} → Option ControlFault → List ℕ → JournalState → JournalState → D → D → Type 0
AppendsBy None own old new disk disk' = AppendsAlone own old new disk disk'
AppendsBy (Some Disk) own old new disk disk' = ⊥
AppendsBy (Some Memory) own old new disk disk' = DoesNothing old new disk disk'
AppendsBy (Some (Spent counter)) own old new disk disk' = DoesNothing old new disk disk'

-- ---- whether a checkpoint is due

-- None is due before a call that has no bytes of its own to append, or leaves 32 sectors of the log's area free with them.
abbrev pub NoCheckpointIsDue : Writer → List ℕ → Type 0
NoCheckpointIsDue log own = (own ≡ []) ⊎ LeavesSectors log (length own)

-- A checkpoint was taken, in so many sectors at most, and from there the call took none.
pub record WritesBehindDueCheckpoint {D : Type 0} (state : D → DiskState) (own : List ℕ) (system : System) (sectors : ℕ) (old new : JournalState) (disk disk' : D) : Type 0 where
  pub middle : JournalState
  pub mid : D
  pub takes : TakesNext system old middle
  pub most : WritesAtMost sectors (state disk) (state mid)
  pub appends : AppendsAlone own middle new mid disk'

-- A call before which one is due: it takes one, in so many sectors at most, or the disk failed in it, or there was no memory.
abbrev pub WritesDueCheckpoint : {D : Type 0} → (D → DiskState) → Option ControlFault → List ℕ → System → ℕ → JournalState → JournalState → D → D → Type 0
WritesDueCheckpoint state None own system sectors old new disk disk' = WritesBehindDueCheckpoint state own system sectors old new disk disk'
WritesDueCheckpoint state (Some Disk) own system sectors old new disk disk' = WritesAtMost sectors (state disk) (state disk')
WritesDueCheckpoint state (Some Memory) own system sectors old new disk disk' = DoesNothing old new disk disk'
WritesDueCheckpoint state (Some (Spent counter)) own system sectors old new disk disk' = DoesNothing old new disk disk'

-- Where no checkpoint is due before a call it takes none; where one is, it takes one and no more.
pub record TakesCheckpointWhereDue {D : Type 0} (state : D → DiskState) (fault : Option ControlFault) (parts : PartsState) (units : List ℕ) (call : ControlCall) (old new : JournalState) (disk disk' : D) : Type 0 where
  pub spares : NoCheckpointIsDue old.log (own_bytes parts units call) → AppendsBy fault (own_bytes parts units call) old new disk disk'
  pub due :
      (NoCheckpointIsDue old.log (own_bytes parts units call) → ⊥)
      → WritesDueCheckpoint state fault (own_bytes parts units call) parts.system (checkpoint_sectors parts.system parts.databases.stores parts.databases.changed old) old new disk disk'

-- ---- what it counts on

-- the log's next sequence once all that was appended is forced
abbrev pub sequence_to_come : JournalState → ℕ
sequence_to_come journal = journal.log.sequence + journal.log.place + log_sectors_of (length journal.log.appended)

-- The epoch stays. The log's next sequence, with what is to be forced, rises by so many sectors at most, the checkpoint and the next unit
-- by one.
pub record Raises (sectors : ℕ) (old new : JournalState) (next next' : ℕ) : Type 0 where
  pub epoch : new.restart.epoch ≡ old.restart.epoch
  pub sequence : sequence_to_come new ≤ sequence_to_come old + sectors
  pub checkpoint : new.restart.checkpoint ≤ old.restart.checkpoint + 1
  pub unit : next' ≤ next + 1
