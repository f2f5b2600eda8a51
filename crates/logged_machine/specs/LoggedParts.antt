-- What holds of the parts of a machine with its log.
use Rattle.std.specs.Prelude.{◌≡◌, ℕ, ◌≤◌, List, [], ◌∷◌, length}
use Rattle.tm_disk.specs.Disk.{DiskState}
use Rattle.model_machine.specs.Machine.{LastingState}
use Rattle.disk_law.specs.JournalState.{JournalState}
use Rattle.log_writer.specs.ForcedLog.{IsWriterReady}
use Rattle.model_system.specs.Areas.{data_first}
use Rattle.disk_law.specs.UnitCounts.{TellUnits}
use Rattle.disk_law.specs.Life.{LifeOnDisk}
use Rattle.disk_law.specs.PendingMoves.{PendsBehind}
use Rattle.tm_machine.specs.Parts.{PartsState}
use Rattle.logged_machine.specs.CarriedParts.{IsCarried}

-- Some life goes with the machine, whose regions have units of these numbers, and these states pend: the first is what each image
-- recovers to that a crash may leave, the last is what lasts now, and each is behind one lasting step more. The journal's writer is the
-- life's, and its restart sector the one that holds. All areas of the system are on the disk.
-- Each region has a number, and no record on the disk or to come there is of a unit to come.
pub record IsLogged (parts : PartsState) (units : List ℕ) (next_unit : ℕ) (journal : JournalState) (text : List ℕ) (states : List LastingState) (disk : DiskState) : Type 0 where
  pub life : LifeOnDisk
  pub carried : IsCarried parts units next_unit life
  pub pends : PendsBehind states life disk
  pub writer : life.log ≡ journal.log
  pub now : life.now ≡ journal.restart
  pub text_is : life.text ≡ text
  pub areas : data_first parts.system (length parts.system.databases) ≤ disk.size
  pub ready : IsWriterReady journal.log disk
  pub counted : length units ≡ length parts.system.regions
  pub told : TellUnits parts.system journal next_unit disk

-- So it is with some text and some states.
pub record HasLogged (parts : PartsState) (units : List ℕ) (next_unit : ℕ) (journal : JournalState) (disk : DiskState) : Type 0 where
  pub text : List ℕ
  pub states : List LastingState
  pub is : IsLogged parts units next_unit journal text states disk

-- how many lasting steps there were in the first of these states
abbrev pub steps_forced : List LastingState → ℕ
steps_forced [] = 0
steps_forced (state ∷ states) = state.steps

-- Some states pend, and the first has so many lasting steps.
pub record PendSome (parts : PartsState) (units : List ℕ) (next_unit : ℕ) (journal : JournalState) (text : List ℕ) (forced : ℕ) (disk : DiskState) : Type 0 where
  pub states : List LastingState
  pub logged : IsLogged parts units next_unit journal text states disk
  pub steps : forced ≡ steps_forced states
