-- The numbers of the checkpoints that a session tells of, and the disk that shows them.
use Rattle.std.specs.Prelude.{◌≡◌, ℕ, List, [], ◌∷◌, ◌++◌, Option, Some, None, Ok, IsTrue}
use Rattle.tm_disk.specs.Disk.{Image, DiskState}
use Rattle.model_system.specs.System.{System}
use Rattle.model_machine.specs.declared.entry.Entry.{Entry}
use Rattle.model_machine.specs.declared.entry.Entry.TheVariants.{Checked}
use Rattle.model_system.specs.Areas.{is_single, snapshot_area}
use Rattle.restart_data.specs.declared.restart.RestartSector.{RestartSector}
use Rattle.restart_data.specs.Restart.{restart_in}
use Rattle.model_session.specs.Lives.{LifeState, LastLife}
use Rattle.model_session.specs.SessionState.{DiskEvent, SessionState, last_life}
use Rattle.model_session.specs.SessionState.DiskEvent.{Tells}

-- the numbers that entries tell of, in their order
abbrev pub numbers_in : List Entry → List ℕ
numbers_in [] = []
numbers_in (Checked freeze (Ok number) ∷ entries) = number ∷ numbers_in entries
numbers_in (entry ∷ entries) = numbers_in entries

-- those of lives, and of the last one, if one has begun
abbrev pub numbers_told : List LifeState → List ℕ
numbers_told [] = []
numbers_told (life ∷ lives) = numbers_in life.history ++ numbers_told lives

abbrev pub numbers_of : Option LastLife → List ℕ
numbers_of None = []
numbers_of (Some life) = numbers_in life.history

-- all of a session so far
abbrev pub numbers_so_far : SessionState → List ℕ
numbers_so_far state = numbers_told state.lives ++ numbers_of (last_life state.standing)

-- those of events at its disk
abbrev pub told_numbers : List DiskEvent → List ℕ
told_numbers [] = []
told_numbers (Tells number ∷ events) = number ∷ told_numbers events
told_numbers (event ∷ events) = told_numbers events

-- The image has a restart sector with this number.
pub record HasCheckpoint (system : System) (number : ℕ) (image : Image) : Type 0 where
  pub restart : RestartSector
  pub found : restart_in (snapshot_area system) (is_single system) image ≡ Ok (Some restart)
  pub number_is : restart.checkpoint ≡ number

-- the disk shows this number in its restart sector, where it tells its contents
abbrev pub ShowsNumber : System → ℕ → DiskState → Type 0
ShowsNumber system number disk = IsTrue disk.tells → HasCheckpoint system number disk.shown

-- where an entry tells of a checkpoint, the disk shows its number
abbrev pub ShowsTold : System → Entry → DiskState → Type 0
ShowsTold system (Checked freeze (Ok number)) disk = ShowsNumber system number disk
ShowsTold system _ disk = Unit {0}
