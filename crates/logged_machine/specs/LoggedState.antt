-- A machine with its log on a disk, as its callers see it.
use Rattle.std.specs.Prelude.{◌≡◌, ℕ, ◌+◌, Bool, true, List, Option}
use Rattle.tm_disk.specs.Disk.{Image, DiskState}
use Rattle.model_machine.specs.declared.counts.Counter.{Counter}
use Rattle.model_machine.specs.Machine.{LastingState}
use Rattle.checkpointing.specs.DefinitionText.{HasText, IsNumberedFrom}
use Rattle.checkpointing.specs.Counts.{CountsUpTo}
use Rattle.disk_law.specs.UnitCounts.{StandsUpTo}
use Rattle.openings.specs.OpenedImage.{counters, first_spent}
use Rattle.disk_law.specs.JournalState.{JournalState}
use Rattle.disk_law.specs.KeptImages.{RecoversOne}
use Rattle.logged_machine.specs.LoggedParts.{IsLogged, steps_forced}
use Rattle.tm_machine.specs.Parts.{PartsState}

-- The machine; the text of its definition; whether its calls are served; how many lasting steps each image has that a crash may leave;
-- what it keeps of its log; the numbers of the regions' units; the number of the next unit; and its disk.
pub record LoggedState (D : Type 0) : Type 0 where
  pub machine : PartsState
  pub text : List ℕ
  pub served : Bool
  pub forced : ℕ
  pub journal : JournalState
  pub units : List ℕ
  pub next_unit : ℕ
  pub disk : D

-- These states pend, and the first has just the steps that each image has.
pub record Pends {D : Type 0} (state : D → DiskState) (states : List LastingState) (l : LoggedState D) : Type 0 where
  pub logged : IsLogged l.machine l.units l.next_unit l.journal l.text states (state l.disk)
  pub forced : l.forced ≡ steps_forced states

-- Some states pend. Each image that a crash may leave is of this text, and recovers to one of the states that pend; its checkpoint has the number of the
-- restart sector that holds, or a higher one. Where the machine's own counters stand up to a
-- bound, it counts further by the sectors of a log area at most.
pub record AreLasting {D : Type 0} (state : D → DiskState) (l : LoggedState D) : Type 0 where
  pub some : (states : List LastingState) × Pends state states l
  pub recover : (states : List LastingState) → Pends state states l → (image : Image) → (state l.disk).may_leave image → RecoversOne l.machine.system states image
  pub have_text : (image : Image) → (state l.disk).may_leave image → HasText l.machine.system l.text image
  pub numbered : (image : Image) → (state l.disk).may_leave image → IsNumberedFrom l.machine.system l.journal.restart.checkpoint image
  pub counts : (high : ℕ) → StandsUpTo high l.journal l.next_unit → (image : Image) → (state l.disk).may_leave image → CountsUpTo l.machine.system (high + l.machine.system.logs) image

-- So it is while calls are served.
abbrev pub LastsNow : {D : Type 0} → (D → DiskState) → LoggedState D → Type 0
LastsNow state l = l.served ≡ true → AreLasting state l

-- the first counter that stands at its limit, in the order in which they are looked at
abbrev pub machine_spent_now : {D : Type 0} → LoggedState D → Option Counter
machine_spent_now l =
    first_spent (counters l.journal.restart.epoch (l.journal.log.sequence + l.journal.log.place) l.journal.restart.checkpoint l.next_unit l.machine.moment.lasting)
