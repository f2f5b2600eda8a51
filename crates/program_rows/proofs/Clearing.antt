-- One element after another is set.
use Rattle.std.proofs.Common.{◌≡◌, ℕ, ◌+◌, ◌<◌, zero, suc, refl, sym, ◌∙◌, ap, arith, [], ◌∷◌, ◌++◌, List, length, drop, set, replicate, map, get_or, Some}
use Rattle.std.specs.List.{slice_get}
use Rattle.std.proofs.lemmas.List.{length-map}
use Rattle.unit_work.specs.Changes.{Changes}
use Rattle.program_rows.specs.declared.opened.Opened.{Opened}
use Rattle.program_rows.specs.OpenUnits.{unit_records_of}
use Rattle.program_rows.specs.PlannedChanges.{databases_opened}
use Rattle.program_rows.proofs.Seen.{regions_length}

-- how many units there are
pub units_count : (o : Opened) → length (unit_records_of o.units.items) ≡ length o.units.items
units_count o = length-map o.units.items (λ (x : Changes). x.records)

pub regions_count : (o : Opened) → length (databases_opened o).regions ≡ length o.units.items
regions_count o = regions_length 0 (unit_records_of o.units.items) (unit_records_of o.units.items) o.stores.stores ∙ units_count o

-- the slots of the unit at a place
pub unit_slots : (units : List Changes) (k : ℕ) (u : Changes) → slice_get units k ≡ Some u → get_or (map (λ (x : Changes). x.slots) units) k [] ≡ u.slots
unit_slots [] k u e = cc
unit_slots (x ∷ units) zero u e = let same : x ≡ u = cc in ap (λ (c : Changes). c.slots) same
unit_slots (x ∷ units) (suc k) u e = unit_slots units k u e

pub cleared_next : {A : Type 0} (a : A) (xs : List A) (i : ℕ) → i < length xs → set (replicate i a ++ drop i xs) i a ≡ replicate (i + 1) a ++ drop (i + 1) xs
cleared_next a [] i lt = absurd (omega (arith, lt))
cleared_next a (x ∷ xs) zero lt = refl
cleared_next a (x ∷ xs) (suc i) lt =
    let more : suc i + 1 ≡ suc (i + 1) = omega arith in
    ap (λ l. a ∷ l) (cleared_next a xs i (omega (arith, lt))) ∙ sym (ap (λ n. replicate n a ++ drop n (x ∷ xs)) more)

pub cleared_all : {A : Type 0} (a : A) (xs : List A) (i : ℕ) → i ≡ length xs → replicate i a ++ drop i xs ≡ replicate (length xs) a
cleared_all a [] zero e = refl
cleared_all a [] (suc i) e = absurd (omega (arith, e))
cleared_all a (x ∷ xs) zero e = absurd (omega (arith, e))
cleared_all a (x ∷ xs) (suc i) e = ap (λ l. a ∷ l) (cleared_all a xs i (omega (arith, e)))
