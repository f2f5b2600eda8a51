-- What a control region opens with, and what is handed back at the end of a life.
use Rattle.std.specs.Prelude.{◌≡◌, ℕ, ◌+◌, ◌≤◌, true, List, [], length, map, replicate}
use Rattle.tm_disk.specs.Disk.{DiskState, Stays, Within}
use Rattle.model_system.specs.System.{System}
use Rattle.model_machine.specs.Machine.{start_of}
use Rattle.model_machine.specs.History.{AscendAbove, IsLegal, moment_after}
use Rattle.deadlock_pick.specs.NoCycles.{HasNoCycles}
use Rattle.model_system.specs.Areas.{sectors_needed}
use Rattle.openings.specs.declared.how.How.{How}
use Rattle.openings.specs.LifeBeginning.{KeepsBy, BeginsLife}
use Rattle.openings.specs.declared.life.Life.{Life}
use Rattle.tm_control.specs.ControlOnDisk.{ControlOnDisk, lasting_after_entries}

-- A control region was opened: it is up, and has no entry yet. What it counts on stands where it begins. No region has a unit, and no slot
-- counts as changed.
pub record OpensControl {D : Type 0} (state : D → DiskState) (how : How) (system : System) (text : List ℕ) (disk : D) (new : ControlOnDisk D) : Type 0 where
  pub system_is : new.control.system ≡ system
  pub text_is : new.text ≡ text
  pub history : new.control.history ≡ []
  pub checkpoint : new.checkpoint ≡ new.journal.restart.checkpoint
  pub unchanged : new.databases.changed ≡ map (λ dbd. []) system.databases
  pub units : new.units ≡ replicate (length system.regions) 0
  pub up : new.up ≡ true
  pub forced : new.forced ≡ 0
  pub began : new.began ≡ (state disk).faults
  pub no_fault : (state new.disk).faults ≡ (state disk).faults
  pub stays : Stays (state disk) (state new.disk)
  pub size : sectors_needed system ≤ (state disk).size
  pub begins : BeginsLife how system text (state disk) new.control.opening new.journal.restart new.journal.log new.next_unit
  pub any_moment : Within (KeepsBy how system text) (state disk) (state new.disk)

-- The life is the opening with the history, which is legal; the numbers of its checkpoints ascend from the one with which it opened. It
-- is kept with the lasting steps that were answered, and with how many of them were forced, and no ring
-- of regions that wait for one another stands behind these. The disk, the system and the text are handed back, with the
-- disk's count of faults when the life began.
pub record Closes {D : Type 0} (c : ControlOnDisk D) (disk : D) (life : Life) (system : System) (text : List ℕ) (faults : ℕ) : Type 0 where
  pub disk_is : disk ≡ c.disk
  pub system_is : system ≡ c.control.system
  pub text_is : text ≡ c.text
  pub faults_are : faults ≡ c.began
  pub opening : life.opening ≡ c.control.opening
  pub checkpoint : life.checkpoint ≡ c.checkpoint
  pub history : life.history ≡ c.control.history
  pub forced : life.forced ≡ c.forced
  pub legal : IsLegal c.control.system (start_of c.control.system c.control.opening) c.control.history
  pub numbers : AscendAbove c.checkpoint c.control.history
  pub kept : c.control.opening.steps + life.kept ≡ (lasting_after_entries c.control.system c.control.opening legal.steps).steps
  pub rings : HasNoCycles (moment_after c.control.system (start_of c.control.system c.control.opening) legal.steps).enqueues
