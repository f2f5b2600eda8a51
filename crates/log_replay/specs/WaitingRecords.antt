-- The records of units that have no sync point yet, by unit.
use Rattle.std.specs.Prelude.{◌≡◌, ℕ, ◌==◌, if◌then◌else◌, List, []}
use Rattle.std.specs.BTreeMap.{is_at}
use Rattle.std.specs.Map.{lookup}
use Rattle.std.specs.Option.{unwrap_or}
use Rattle.std.specs.Ordering.{nat_cmp}
use Rattle.log_records.specs.declared.record.Record.{Record}

-- the records of a unit, in their order
abbrev pub of_unit : ℕ → List (ℕ × List Record) → List Record
of_unit unit units = unwrap_or (lookup (is_at (nat_cmp unit)) units) []

-- those of a unit are changed, and those of each other one stay
abbrev pub ChangesUnit : ℕ → (List Record → List Record) → (old new : List (ℕ × List Record)) → Type 0
ChangesUnit unit change old new =
    (other : ℕ) → of_unit other new ≡ (if unit == other then change (of_unit other old) else of_unit other old)
