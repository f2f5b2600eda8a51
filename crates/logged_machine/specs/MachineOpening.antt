-- What a machine with its log is opened with.
use Rattle.std.specs.Prelude.{◌≡◌, ℕ, ◌≤◌, List, [], map}
use Rattle.tm_disk.specs.Disk.{Image, DiskState}
use Rattle.model_system.specs.System.{System}
use Rattle.model_machine.specs.Machine.{LastingState, start_of}
use Rattle.model_image.specs.HeldStores.{HoldsStores}
use Rattle.model_system.specs.Areas.{sectors_needed}
use Rattle.disk_law.specs.JournalState.{JournalState}
use Rattle.openings.specs.OpeningParts.{AreOpeningParts, OpeningParts}
use Rattle.openings.specs.OpenedImage.{MayBegin}
use Rattle.openings.specs.Renewal.{IsRenewed}
use Rattle.tm_machine.specs.Parts.{PartsState}
use Rattle.openings.specs.declared.how.How.{How}
use Rattle.openings.specs.LifeBeginning.{BeginsLife}

-- The machine stands where that begins, and so do its journal and the number of the next unit. No slot of its databases
-- counts as changed.
pub record OpensOn (how : How) (system : System) (text : List ℕ) (old new : DiskState) (machine : PartsState) (journal : JournalState) (next_unit : ℕ) (opening : LastingState) : Type 0 where
  pub moment : machine.moment ≡ start_of system opening
  pub unchanged : machine.databases.changed ≡ map (λ dbd. []) system.databases
  pub no_fault : new.faults ≡ old.faults
  pub size : sectors_needed system ≤ old.size
  pub begins : BeginsLife how system text old opening journal.restart journal.log next_unit

-- ---- what it begins with

-- Each image that a crash may leave has what a life begins with, and all areas of the system are on the disk.
pub record BeginsOn (system : System) (text : List ℕ) (parts : OpeningParts) (state : LastingState) (disk : DiskState) : Type 0 where
  pub are : AreOpeningParts system state parts
  pub may : MayBegin system text parts state
  pub renewed : (image : Image) → disk.may_leave image → IsRenewed system text parts.now parts.next_unit state image
  pub stored : (image : Image) → disk.may_leave image → HoldsStores system parts.stores.stores image
  pub size : sectors_needed system ≤ disk.size
