-- The open units of the control region, as a checkpoint takes them.
use Rattle.std.specs.Prelude.{◌≡◌, ℕ, ◌-◌, ◌<◌, ◌≤◌, List, [], map, slice_get, Some}
use Rattle.std.specs.List.{AllByRecursion}
use Rattle.checkpointing.specs.declared.touches.OpenUnit.{OpenUnit}
use Rattle.checkpointing.specs.Touches.{UnitsAscend}
use Rattle.disk_law.specs.KeptUnits.{IsUnitOpen, unit_kept}
use Rattle.program_rows.specs.SlotsState.{SlotsState, touched_in}

-- It is a region's, with its number, and keeps the slots that the region has touched.
pub record IsUnitOf (slots : SlotsState) (units : List ℕ) (u : OpenUnit) : Type 0 where
  pub region : ℕ
  pub least : 1 ≤ region
  pub found : slice_get units (region - 1) ≡ Some u.number
  pub some : 0 < u.number
  pub keeps : u.work.now.slots ≡ touched_in region slots

-- They are those of all regions that have a number, by their numbers.
pub record AreUnitsOf (slots : SlotsState) (units : List ℕ) (opens : List OpenUnit) : Type 0 where
  pub each : AllByRecursion (IsUnitOf slots units) opens
  pub all : (place unit : ℕ) → slice_get units place ≡ Some unit → 0 < unit → IsUnitOpen (map unit_kept opens) unit
  pub ascending : UnitsAscend opens

-- the slots once all are written
abbrev pub written : SlotsState → SlotsState
written slots = record slots { changed = map (λ numbers. []) slots.changed }
