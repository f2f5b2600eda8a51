-- What opening a machine with its log answers.
use Rattle.std.specs.Prelude.{◌≡◌, ℕ, ◌≤◌, true, List, [], ◌∷◌, length, map, replicate}
use Rattle.tm_disk.specs.Disk.{DiskState, Stays, Within}
use Rattle.model_system.specs.System.{System}
use Rattle.model_machine.specs.Machine.{LastingState, start_of}
use Rattle.model_system.specs.Areas.{sectors_needed}
use Rattle.openings.specs.declared.how.How.{How}
use Rattle.openings.specs.LifeBeginning.{BeginsLife, KeepsBy}
use Rattle.logged_machine.specs.LoggedState.{LoggedState, Pends}

-- The machine stands where that begins, and so does all that it counts on. No region has a unit, no slot counts as changed, and no step
-- pends.
pub record OpensMachine {D : Type 0} (state : D → DiskState) (how : How) (system : System) (text : List ℕ) (disk : D) (new : LoggedState D) (opening : LastingState) : Type 0 where
  pub system_is : new.machine.system ≡ system
  pub moment : new.machine.moment ≡ start_of system opening
  pub unchanged : new.machine.databases.changed ≡ map (λ dbd. []) system.databases
  pub units : new.units ≡ replicate (length system.regions) 0
  pub text_is : new.text ≡ text
  pub served : new.served ≡ true
  pub no_fault : (state new.disk).faults ≡ (state disk).faults
  pub stays : Stays (state disk) (state new.disk)
  pub size : sectors_needed system ≤ (state disk).size
  pub begins : BeginsLife how system text (state disk) opening new.journal.restart new.journal.log new.next_unit
  pub forced : new.forced ≡ opening.steps
  pub pends : Pends state (opening ∷ []) new
  pub any_moment : Within (KeepsBy how system text) (state disk) (state new.disk)
