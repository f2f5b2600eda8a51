-- The open units of regions, by their numbers.
use Rattle.std.specs.Prelude.{ℕ, suc, nat_lt, if◌then◌else◌, List, [], ◌∷◌}
use Rattle.unit_work.specs.declared.change.Change.{Change}
use Rattle.checkpointing.specs.declared.touches.OpenUnit.{OpenUnit}

-- an open unit's number, and the slots that it touched
abbrev pub Numbered : Type 0
Numbered = ℕ × List Change

abbrev pub numbered_unit : OpenUnit → Numbered
numbered_unit u = (u.number, u.work.now.slots)

-- a unit among others that stand by their numbers
abbrev pub insert_unit : Numbered → List Numbered → List Numbered
insert_unit unit [] = unit ∷ []
insert_unit unit (other ∷ units) = if nat_lt unit.0 other.0 then unit ∷ other ∷ units else other ∷ insert_unit unit units

-- the first place whose unit has a higher number
abbrev pub place_among_units : ℕ → List Numbered → ℕ
place_among_units number [] = 0
place_among_units number (other ∷ units) = if nat_lt number other.0 then 0 else suc (place_among_units number units)

-- The units of regions, by the number of each region's and what it touched. A region without a unit has the number 0.
abbrev pub units_open : List ℕ → List (List Change) → List Numbered
units_open [] touched = []
units_open (number ∷ numbers) [] = []
units_open (number ∷ numbers) (slots ∷ touched) =
    if nat_lt 0 number then insert_unit (number, slots) (units_open numbers touched) else units_open numbers touched
