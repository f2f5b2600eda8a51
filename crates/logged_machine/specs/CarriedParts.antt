-- A life on its disk that goes with a control region's parts.
use Rattle.std.specs.Prelude.{ℕ, List}
use Rattle.disk_law.specs.Life.{LifeOnDisk}
use Rattle.tm_machine.specs.Parts.{PartsState}
use Rattle.tm_machine.specs.SlotChanges.{slots_now}
use Rattle.journal.specs.CarriedLife.{IsCarriedBy}

-- It goes with the parts' machine and slots. The units of the regions have these numbers, and the next one gets this.
abbrev pub IsCarried : PartsState → List ℕ → ℕ → LifeOnDisk → Type 0
IsCarried parts units next_unit life = IsCarriedBy parts.system parts.moment (slots_now parts) units next_unit life
