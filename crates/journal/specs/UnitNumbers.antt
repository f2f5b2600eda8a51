-- The numbers of the regions' units. A region takes the next number with a message, and goes on with another one under a number
-- of its own; a region without a message has none, which is the number 0.
use Rattle.std.specs.Prelude.{◌≡◌, ℕ, ◌+◌, ◌-◌, ◌<◌, nat_lt, List, [], ◌∷◌, Option, Some, length, slice_get, slice_index_or, slice_set}
use Rattle.std.specs.Option.{is_some}
use Rattle.model_data.specs.declared.victim.Victim.{Victim}
use Rattle.model_machine.specs.declared.entry.Turned.{Turned}
use Rattle.model_machine.specs.declared.entry.Turned.TheVariants.{Scheduled, Called, Next, QC, Done, Abended, Idle, Held, Waits, Backed}
use Rattle.model_machine.specs.Machine.{Slot}

-- the number of a region's unit
abbrev pub unit_of_region : List ℕ → ℕ → ℕ
unit_of_region units region = slice_index_or units (region - 1) 0

abbrev pub with_unit : ℕ → ℕ → List ℕ → List ℕ
with_unit region unit units = slice_set units (region - 1) unit

abbrev pub without_units : List Victim → List ℕ → List ℕ
without_units [] units = units
without_units (v ∷ victims) units = without_units victims (with_unit v.region 0 units)

-- the numbers behind a region's turn, by its answer and the number that was next before
abbrev pub units_after : Turned → ℕ → ℕ → List ℕ → List ℕ
units_after (Scheduled code id) region next units = with_unit region next units
units_after (Called function pcb status) region next units = units
units_after (Next code id further) region next units = with_unit region next units
units_after (QC code id) region next units = with_unit region 0 units
units_after (Done code id) region next units = with_unit region 0 units
units_after (Abended code id abend) region next units = with_unit region 0 units
units_after Idle region next units = units
units_after (Held need limit) region next units = units
units_after (Waits resource by) region next units = units
units_after (Backed victims) region next units = without_units victims units

-- and the next number
abbrev pub next_after : Turned → ℕ → ℕ
next_after (Scheduled code id) next = next + 1
next_after (Called function pcb status) next = next
next_after (Next code id further) next = next + 1
next_after (QC code id) next = next
next_after (Done code id) next = next
next_after (Abended code id abend) next = next
next_after Idle next = next
next_after (Held need limit) next = next
next_after (Waits resource by) next = next
next_after (Backed victims) next = next

-- Each region that has a message has a number, from 1 on and below the next one, which no other region has; one without a
-- message has none.
pub record AreUnitsNumbered (slots : List (Option Slot)) (units : List ℕ) (next_unit : ℕ) : Type 0 where
  pub count : length units ≡ length slots
  pub some : 0 < next_unit
  pub busy : (place unit : ℕ) (slot : Option Slot) → slice_get units place ≡ Some unit → slice_get slots place ≡ Some slot → nat_lt 0 unit ≡ is_some slot
  pub below : (place unit : ℕ) → slice_get units place ≡ Some unit → unit < next_unit
  pub apart : (place other unit : ℕ) → slice_get units place ≡ Some unit → slice_get units other ≡ Some unit → 0 < unit → place ≡ other
