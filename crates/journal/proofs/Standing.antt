-- A unit stands at its place.
use Rattle.std.proofs.Common.{◌≡◌, ℕ, suc, Bool, true, false, List, [], ◌∷◌, ◌++◌, take, drop, refl, ◌∙◌, ap}
use Rattle.std.specs.Prelude.{nat_lt, if◌then◌else◌, map}
use Rattle.std.specs.List.{insert}
use Rattle.checkpointing.specs.declared.touches.OpenUnit.{OpenUnit}
use Rattle.journal.specs.NumberedUnits.{Numbered, numbered_unit, insert_unit, place_among_units}

stands : (unit : OpenUnit) (units : List OpenUnit) (p : ℕ) → p ≡ place_among_units unit.number (map numbered_unit units)
    → map numbered_unit (take p units ++ unit ∷ drop p units) ≡ insert_unit (numbered_unit unit) (map numbered_unit units)
stands unit [] p is = rw is refl
stands unit (other ∷ units) p is = by (nat_lt unit.number other.number) p is (stands unit units)
  where
    by : (b : Bool) (p : ℕ) → p ≡ (if b then 0 else suc (place_among_units unit.number (map numbered_unit units)))
        → ((q : ℕ) → q ≡ place_among_units unit.number (map numbered_unit units) → map numbered_unit (take q units ++ unit ∷ drop q units) ≡ insert_unit (numbered_unit unit) (map numbered_unit units))
        → map numbered_unit (take p (other ∷ units) ++ unit ∷ drop p (other ∷ units)) ≡ (if b then numbered_unit unit ∷ numbered_unit other ∷ map numbered_unit units else numbered_unit other ∷ insert_unit (numbered_unit unit) (map numbered_unit units))
    by true p is rest = rw is refl
    by false p is rest = rw is (ap (λ (l : List Numbered). numbered_unit other ∷ l) (rest (place_among_units unit.number (map numbered_unit units)) refl))

pub inserted : (unit : OpenUnit) (units after : List OpenUnit) (p : ℕ) → p ≡ place_among_units unit.number (map numbered_unit units) → after ≡ insert units p unit
    → map numbered_unit after ≡ insert_unit (numbered_unit unit) (map numbered_unit units)
inserted unit units after p is made = ap (map numbered_unit) made ∙ stands unit units p is
