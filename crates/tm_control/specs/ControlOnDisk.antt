-- A control region on its disk, as its callers see it.
use Rattle.std.specs.Prelude.{◌≡◌, ℕ, ◌++◌, ◌+◌, ◌-◌, ◌≤◌, Bool, true, false, List, [], ◌∷◌, Option, Some, Ok}
use Rattle.tm_disk.specs.Disk.{Image, DiskState}
use Rattle.model_system.specs.System.{System}
use Rattle.model_machine.specs.Machine.{LastingState, start_of}
use Rattle.model_machine.specs.History.{ControlState, IsCall, AreSteps, call_of, moment_after, control_moment}
use Rattle.model_machine.specs.declared.counts.Counter.{Counter}
use Rattle.model_machine.specs.declared.entry.Entry.{Entry}
use Rattle.model_machine.specs.declared.entry.Entry.TheVariants.{Checked}
use Rattle.model_machine.specs.declared.entry.ControlFault.TheVariants.{Disk}
use Rattle.openings.specs.OpenedImage.{counters, first_spent}
use Rattle.program_rows.specs.DatabasesState.{DatabasesState}
use Rattle.disk_law.specs.JournalState.{JournalState}
use Rattle.model_image.specs.RecoveredState.{Recovers}
use Rattle.checkpointing.specs.DefinitionText.{HasText, IsNumberedFrom}
use Rattle.openings.specs.Faults.{fault_in}

-- The control region as its history tells it; the number of the checkpoint with which it opened; the definition's text; whether it is
-- up; how many of the life's lasting steps each image has that a crash may leave; how often its disk had failed when it was opened; the databases as they are, with what each region has changed; what it keeps of its log; the numbers of the
-- regions' units; the number of the next unit; and its disk.
pub record ControlOnDisk (D : Type 0) : Type 0 where
  pub control : ControlState
  pub checkpoint : ℕ
  pub text : List ℕ
  pub up : Bool
  pub forced : ℕ
  pub began : ℕ
  pub databases : DatabasesState
  pub journal : JournalState
  pub units : List ℕ
  pub next_unit : ℕ
  pub disk : D

-- what lasts once these entries were added to the opening
abbrev pub lasting_after_entries : System → LastingState → List Entry → LastingState
lasting_after_entries system opening entries = (moment_after system (start_of system opening) entries).lasting

-- the number of the last checkpoint that these entries tell of, or this one
abbrev pub last_checked : ℕ → List Entry → ℕ
last_checked least [] = least
last_checked least (Checked freeze (Ok number) ∷ entries) = last_checked number entries
last_checked least (entry ∷ entries) = last_checked least entries

-- The image recovers to what lasted behind a front of these entries of a life that has at least so many lasting steps.
pub record RecoversSince (system : System) (opening : LastingState) (forced : ℕ) (entries : List Entry) (image : Image) : Type 0 where
  pub front : List Entry
  pub rest : List Entry
  pub split : entries ≡ front ++ rest
  pub enough : opening.steps + forced ≤ (lasting_after_entries system opening front).steps
  pub recovers : Recovers system image (Ok (lasting_after_entries system opening front))

-- how many lasting steps the life has
abbrev pub front_of : ControlState → ℕ
front_of control = (control_moment control).lasting.steps - control.opening.steps

-- While it is up, each entry is a step of the machine, and each image that a crash may leave recovers to what lasted behind at least the
-- lasting steps that are forced, of which there are no more than were done. It is
-- of the definition's text, and its checkpoint has the number that was told last, or a higher one.
pub record IsControlUp (control : ControlState) (forced checkpoint : ℕ) (text : List ℕ) (disk : DiskState) : Type 0 where
  pub legal : AreSteps control.system (start_of control.system control.opening) control.history
  pub most : control.opening.steps + forced ≤ (control_moment control).lasting.steps
  pub images : (image : Image) → disk.may_leave image → RecoversSince control.system control.opening forced control.history image
  pub texts : (image : Image) → disk.may_leave image → HasText control.system text image
  pub numbered : (image : Image) → disk.may_leave image → IsNumberedFrom control.system (last_checked checkpoint control.history) image

-- Once the disk has failed, the last entry has the fault in place of its answer, and each image that a crash may leave
-- recovers to what lasted behind at least the lasting steps that were forced before. Its checkpoint is as high.
pub record IsControlDown (control : ControlState) (forced checkpoint : ℕ) (text : List ℕ) (disk : DiskState) : Type 0 where
  pub before : List Entry
  pub entry : Entry
  pub all : control.history ≡ before ++ entry ∷ []
  pub legal : AreSteps control.system (start_of control.system control.opening) before
  pub call : IsCall control.system (call_of entry)
  pub fault : fault_in entry ≡ Some Disk
  pub most : control.opening.steps + forced ≤ (lasting_after_entries control.system control.opening before).steps
  pub images : (image : Image) → disk.may_leave image → RecoversSince control.system control.opening forced before image
  pub texts : (image : Image) → disk.may_leave image → HasText control.system text image
  pub numbered : (image : Image) → disk.may_leave image → IsNumberedFrom control.system (last_checked checkpoint control.history) image

abbrev pub LastsBy : Bool → ControlState → ℕ → ℕ → List ℕ → DiskState → Type 0
LastsBy true control forced checkpoint text disk = IsControlUp control forced checkpoint text disk
LastsBy false control forced checkpoint text disk = IsControlDown control forced checkpoint text disk

-- So it is of every control region.
abbrev pub Lasts : {D : Type 0} → (D → DiskState) → ControlOnDisk D → Type 0
Lasts state c = LastsBy c.up c.control c.forced c.checkpoint c.text (state c.disk)

-- the first counter that stands at its limit, in the order in which they are looked at
abbrev pub control_spent_now : {D : Type 0} → ControlOnDisk D → Option Counter
control_spent_now c =
    first_spent (counters c.journal.restart.epoch (c.journal.log.sequence + c.journal.log.place) c.journal.restart.checkpoint c.next_unit (control_moment c.control).lasting)
