-- A checkpoint that was taken.
use Rattle.std.specs.Prelude.{◌≡◌, ℕ, ◌+◌, false, List, [], Some, Ok}
use Rattle.tm_disk.specs.Disk.{Image, DiskState, Only, WritesAtMost}
use Rattle.model_system.specs.System.{System}
use Rattle.restart_data.specs.declared.restart.RestartSector.{RestartSector}
use Rattle.restart_data.specs.Restart.{restart_in}
use Rattle.log_sectors.specs.Chain.{chain}
use Rattle.model_system.specs.Areas.{is_single, snapshot_area, log_first}
use Rattle.seg_store.specs.Slots.{Stored}
use Rattle.disk_law.specs.JournalState.{JournalState}
use Rattle.model_machine.specs.Machine.{Moment, moment_with}
use Rattle.model_machine.specs.declared.entry.CheckpointRefused.{CheckpointRefused}
use Rattle.model_machine.specs.declared.entry.CheckpointRefused.TheVariants.{BusyRegion, Fault}
use Rattle.model_machine.specs.declared.entry.ControlFault.TheVariants.{Memory, Disk, Spent}
use Rattle.program_rows.specs.DatabasesState.{DatabasesState, with_all_settled}
use Rattle.logged_machine.specs.UntakenCheckpoint.{TakesNext, checkpoint_sectors}
use Rattle.logged_machine.specs.LoggedState.{LoggedState}
use Rattle.tm_machine.specs.Parts.{PartsState}

-- The image has a restart sector with this number, and an empty chain behind it.
pub record HasNumber (system : System) (number : ℕ) (image : Image) : Type 0 where
  pub restart : RestartSector
  pub found : restart_in (snapshot_area system) (is_single system) image ≡ Ok (Some restart)
  pub checkpoint : restart.checkpoint ≡ number
  pub empty : chain system.logs image (log_first system restart.log) restart.sequence restart.epoch ≡ []

-- The checkpoint has this number, the next one. So has each image that a crash may leave, and that is the one shown. The log
-- begins anew in the other area.
pub record IsTaken (system : System) (number : ℕ) (old new : JournalState) (disk : DiskState) : Type 0 where
  pub next : number ≡ old.restart.checkpoint + 1
  pub now : new.restart.checkpoint ≡ number
  pub images : (image : Image) → disk.may_leave image → HasNumber system number image
  pub synced : Only disk.shown disk
  pub takes : TakesNext system old new

-- What it leaves of the machine: no slot counts as changed, and the numbers of units are as they were.
pub record LeavesSettled (before after : DatabasesState) (old new : List ℕ) (next next' : ℕ) : Type 0 where
  pub databases : after ≡ with_all_settled before
  pub units : new ≡ old
  pub next_unit : next' ≡ next

-- It writes no more sectors than those of what was appended, those of each slot that counts as changed, those of a snapshot's area,
-- and the restart sector.
abbrev pub WritesCheckpoint : System → List Stored → List (List ℕ) → JournalState → DiskState → DiskState → Type 0
WritesCheckpoint system stores changed journal old new = WritesAtMost (checkpoint_sectors system stores changed journal) old new

-- Where a region's work forbids it, and where there is no memory, nothing at all has changed, and nothing was written.
abbrev pub StaysUntaken : {D : Type 0} → CheckpointRefused → LoggedState D → LoggedState D → Type 0
StaysUntaken (BusyRegion region id) old new = new ≡ old
StaysUntaken (Fault Memory) old new = new ≡ old
StaysUntaken (Fault Disk) old new = new.served ≡ false
StaysUntaken (Fault (Spent counter)) old new = ⊥

-- the moment of parts, with the flags as they follow on their own
abbrev pub again : PartsState → Moment
again parts = moment_with parts.system parts.moment.lasting parts.moment.slots parts.moment.enqueues parts.moment.raised
