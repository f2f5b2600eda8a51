-- Open units that are listed by their numbers, as `insert` puts them together, are those of the regions.
use Rattle.std.proofs.Common.{◌≡◌, ℕ, zero, suc, ◌-◌, ◌<◌, ◌≤◌, Bool, true, false, nat_lt, List, [], ◌∷◌, length, refl, sym, ◌∙◌, ap, subst, arith, Some, None}
use Rattle.std.specs.Prelude.{map, slice_get, if◌then◌else◌}
use Rattle.std.specs.List.{AllByRecursion}
use Rattle.std.proofs.lemmas.Bool.{ltb-true, ltb-false}
use Rattle.unit_work.specs.declared.change.Change.{Change}
use Rattle.model_machine.specs.Machine.{Slot}
use Rattle.checkpointing.specs.declared.touches.OpenUnit.{OpenUnit}
use Rattle.checkpointing.specs.Touches.{UnitsAscend}
use Rattle.disk_law.specs.KeptUnits.{IsUnitOpen, unit_kept}
use Rattle.journal.specs.NumberedUnits.{Numbered, numbered_unit, insert_unit, units_open}
use Rattle.program_rows.specs.SlotsState.{SlotsState, touched_in}
use Rattle.journal.specs.UnitNumbers.{AreUnitsNumbered}
use Rattle.journal.specs.OpenUnits.{AreUnitsOf, IsUnitOf}

-- ---- a unit among others

insert_all : (P : Numbered → Type 0) (unit : Numbered) (units : List Numbered) → P unit → AllByRecursion P units → AllByRecursion P (insert_unit unit units)
insert_all P unit [] one all = (one, all)
insert_all P unit (other ∷ units) one all = by (nat_lt unit.0 other.0) (insert_all P unit units one all.1) where
  by : (b : Bool) → AllByRecursion P (insert_unit unit units) → AllByRecursion P (if b then unit ∷ other ∷ units else other ∷ insert_unit unit units)
  by true later = (one, all)
  by false later = (all.0, later)

-- Numbers ascend.
abbrev Ascends : List Numbered → Type 0
Ascends [] = Unit {0}
Ascends (unit ∷ units) = AllByRecursion (λ (v : Numbered). unit.0 < v.0) units × Ascends units

above : (least : ℕ) (other : Numbered) (units : List Numbered) → least < other.0 → AllByRecursion (λ (v : Numbered). other.0 < v.0) units → AllByRecursion (λ (v : Numbered). least < v.0) units
above least other [] less all = all
above least other (v ∷ units) less all = (omega (arith, less, all.0), above least other units less all.1)

between : (a b : ℕ) → a ≤ b → (a ≡ b → ⊥) → a < b
between a b most differ = by (nat_lt a b) refl where
  by : (t : Bool) → nat_lt a b ≡ t → a < b
  by true e = ltb-true a b e
  by false e = absurd (differ (omega (arith, most, ltb-false a b e)))

insert_ascends : (unit : Numbered) (units : List Numbered) → AllByRecursion (λ (v : Numbered). v.0 ≡ unit.0 → ⊥) units → Ascends units → Ascends (insert_unit unit units)
insert_ascends unit [] apart up = (up, up)
insert_ascends unit (other ∷ units) apart up = by (nat_lt unit.0 other.0) refl (insert_ascends unit units apart.1 up.1) where
  by : (b : Bool) → nat_lt unit.0 other.0 ≡ b → Ascends (insert_unit unit units) → Ascends (if b then unit ∷ other ∷ units else other ∷ insert_unit unit units)
  by true is later = ((ltb-true unit.0 other.0 is, above unit.0 other units (ltb-true unit.0 other.0 is) up.0), up)
  by false is later = (insert_all (λ (v : Numbered). other.0 < v.0) unit units (between other.0 unit.0 (ltb-false unit.0 other.0 is) apart.0) up.0, later)

-- one has this number
record IsAmong (number : ℕ) (units : List Numbered) : Type 0 where
  place : ℕ
  unit : Numbered
  found : slice_get units place ≡ Some unit
  is : unit.0 ≡ number

behind : (number : ℕ) (other : Numbered) (units : List Numbered) → IsAmong number units → IsAmong number (other ∷ units)
behind number other units a = record { place = suc a.place; unit = a.unit; found = a.found; is = a.is }

among_inserted : (unit : Numbered) (units : List Numbered) → IsAmong unit.0 (insert_unit unit units)
among_inserted unit [] = record { place = 0; unit = unit; found = refl; is = refl }
among_inserted unit (other ∷ units) = by (nat_lt unit.0 other.0) (among_inserted unit units) where
  by : (b : Bool) → IsAmong unit.0 (insert_unit unit units) → IsAmong unit.0 (if b then unit ∷ other ∷ units else other ∷ insert_unit unit units)
  by true later = record { place = 0; unit = unit; found = refl; is = refl }
  by false later = behind unit.0 other (insert_unit unit units) later

among_still : (number : ℕ) (unit : Numbered) (units : List Numbered) → IsAmong number units → IsAmong number (insert_unit unit units)
among_still number unit [] a = absurd (let none : None ≡ Some a.unit = a.found in cc)
among_still number unit (other ∷ units) a = by (nat_lt unit.0 other.0) a.place a.found (among_still number unit units) where
  by : (b : Bool) (place : ℕ) → slice_get (other ∷ units) place ≡ Some a.unit → (IsAmong number units → IsAmong number (insert_unit unit units)) → IsAmong number (if b then unit ∷ other ∷ units else other ∷ insert_unit unit units)
  by true place found later = record { place = suc place; unit = a.unit; found = found; is = a.is }
  by false zero found later = record { place = 0; unit = a.unit; found = found; is = a.is }
  by false (suc place) found later = behind number other (insert_unit unit units) (later (record { place = place; unit = a.unit; found = found; is = a.is }))

-- ---- the units of regions

module _ (Good : ℕ → List Change → Type 0) where
  abbrev IsGood : Numbered → Type 0
  IsGood unit = Good unit.0 unit.1

  each_good : (units : List ℕ) (touched : List (List Change))
      → ((place unit : ℕ) (some : List Change) → slice_get units place ≡ Some unit → slice_get touched place ≡ Some some → 0 < unit → Good unit some) → AllByRecursion IsGood (units_open units touched)
  each_good [] touched good = tt
  each_good (unit ∷ units) [] good = tt
  each_good (unit ∷ units) (some ∷ touched) good =
      let rest = each_good units touched (λ place. good (suc place)) in
      by (nat_lt 0 unit) refl rest where
        by : (b : Bool) → nat_lt 0 unit ≡ b → AllByRecursion IsGood (units_open units touched) → AllByRecursion IsGood (if b then insert_unit (unit, some) (units_open units touched) else units_open units touched)
        by true is rest = insert_all IsGood (unit, some) (units_open units touched) (good 0 unit some refl refl (ltb-true 0 unit is)) rest
        by false is rest = rest

abbrev Apart : List ℕ → Type 0
Apart units = (place other unit : ℕ) → slice_get units place ≡ Some unit → slice_get units other ≡ Some unit → 0 < unit → place ≡ other

one_before : (place other : ℕ) → suc place ≡ suc other → place ≡ other
one_before place other e = cc

units_ascend : (units : List ℕ) (touched : List (List Change)) → Apart units → Ascends (units_open units touched)
units_ascend [] touched apart = tt
units_ascend (unit ∷ units) [] apart = tt
units_ascend (unit ∷ units) (some ∷ touched) apart =
    by (nat_lt 0 unit) refl (units_ascend units touched (λ place other n one two least. one_before place other (apart (suc place) (suc other) n one two least))) where
      differs : 0 < unit → (place n : ℕ) (some : List Change) → slice_get units place ≡ Some n → slice_get touched place ≡ Some some → 0 < n → n ≡ unit → ⊥
      differs least place n some found there more same =
          let clash : 0 ≡ suc place = apart 0 (suc place) unit refl (found ∙ ap (λ (k : ℕ). Some k) same) least in
          cc

      by : (b : Bool) → nat_lt 0 unit ≡ b → Ascends (units_open units touched) → Ascends (if b then insert_unit (unit, some) (units_open units touched) else units_open units touched)
      by true is rest = insert_ascends (unit, some) (units_open units touched) (each_good (λ n some. n ≡ unit → ⊥) units touched (differs (ltb-true 0 unit is))) rest
      by false is rest = rest

shorter : (a b : ℕ) → suc a ≡ suc b → a ≡ b
shorter a b e = cc

all_among : (units : List ℕ) (touched : List (List Change)) → length touched ≡ length units → (place unit : ℕ) → slice_get units place ≡ Some unit → 0 < unit → IsAmong unit (units_open units touched)
all_among [] touched same place unit found least = absurd cc
all_among (other ∷ units) [] same place unit found least = absurd cc
all_among (other ∷ units) (some ∷ touched) same place unit found least =
    by (nat_lt 0 other) refl place found (λ p f. all_among units touched (shorter (length touched) (length units) same) p unit f least) where
      by : (b : Bool) → nat_lt 0 other ≡ b → (place : ℕ) → slice_get (other ∷ units) place ≡ Some unit → ((p : ℕ) → slice_get units p ≡ Some unit → IsAmong unit (units_open units touched))
          → IsAmong unit (if b then insert_unit (other, some) (units_open units touched) else units_open units touched)
      by true is zero found later =
          subst (λ (n : ℕ). IsAmong n (insert_unit (other, some) (units_open units touched))) (let e : Some other ≡ Some unit = found in cc) (among_inserted (other, some) (units_open units touched))
      by true is (suc place) found later = among_still unit (other, some) (units_open units touched) (later place found)
      by false is zero found later =
          let e : Some other ≡ Some unit = found in
          let equal : other ≡ unit = cc in
          absurd (omega (arith, ltb-false 0 other is, equal, least))
      by false is (suc place) found later = later place found

-- ---- as a checkpoint takes them

opens_all : (P : Numbered → Type 0) (opens : List OpenUnit) → AllByRecursion P (map numbered_unit opens) → AllByRecursion (λ u. P (numbered_unit u)) opens
opens_all P [] all = all
opens_all P (u ∷ opens) all = (all.0, opens_all P opens all.1)

opens_ascend : (opens : List OpenUnit) → Ascends (map numbered_unit opens) → UnitsAscend opens
opens_ascend [] up = up
opens_ascend (u ∷ opens) up = (opens_all (λ (v : Numbered). u.number < v.0) opens up.0, opens_ascend opens up.1)

is_open_in : (opens : List OpenUnit) (number place : ℕ) (unit : Numbered) → slice_get (map numbered_unit opens) place ≡ Some unit → unit.0 ≡ number → IsUnitOpen (map unit_kept opens) number
is_open_in [] number place unit found is = absurd cc
is_open_in (u ∷ opens) number zero unit found is =
    record { place = 0; unit = unit_kept u; found = refl; is = (let e : Some (numbered_unit u) ≡ Some unit = found in first e) ∙ is } where
      first : Some (numbered_unit u) ≡ Some unit → u.number ≡ unit.0
      first e = ap (λ (o : Rattle.std.specs.Prelude.Option Numbered). Rattle.std.specs.Option.option_map_or (λ (n : Numbered). n.0) o 0) e
is_open_in (u ∷ opens) number (suc place) unit found is =
    let more = is_open_in opens number place unit found is in
    record { place = suc more.place; unit = more.unit; found = more.found; is = more.is }

-- a unit is that of the region at some place, and these are the slots that the region has touched
record IsRegions (slots : SlotsState) (units : List ℕ) (unit : ℕ) (some : List Change) : Type 0 where
  place : ℕ
  found : slice_get units place ≡ Some unit
  least : 0 < unit
  is : some ≡ touched_in (suc place) slots

-- Where each region's touched slots stand at its place, they are those of the regions.
pub units_listed : (slots : SlotsState) (regions : List (Rattle.std.specs.Prelude.Option Slot)) (units : List ℕ) (next : ℕ) → AreUnitsNumbered regions units next → (touched : List (List Change)) → length touched ≡ length units
    → ((place : ℕ) (some : List Change) → slice_get touched place ≡ Some some → some ≡ touched_in (suc place) slots)
    → (opens : List OpenUnit) → map numbered_unit opens ≡ units_open units touched → AreUnitsOf slots units opens
units_listed slots regions units next n touched same keeps opens are = record { each = each_open opens good; all = all_open; ascending = opens_ascend opens (subst Ascends (sym are) (units_ascend units touched n.apart)) } where
  good : AllByRecursion (λ (v : Numbered). IsRegions slots units v.0 v.1) (map numbered_unit opens)
  good = subst (λ (l : List Numbered). AllByRecursion (λ (v : Numbered). IsRegions slots units v.0 v.1) l) (sym are)
      (each_good (IsRegions slots units) units touched (λ place unit some found there least. record { place = place; found = found; least = least; is = keeps place some there }))

  back : (place : ℕ) → suc place - 1 ≡ place
  back place = omega arith

  each_open : (opens : List OpenUnit) → AllByRecursion (λ (v : Numbered). IsRegions slots units v.0 v.1) (map numbered_unit opens) → AllByRecursion (IsUnitOf slots units) opens
  each_open [] all = all
  each_open (u ∷ opens) all = (record { region = suc all.0.place; least = omega arith; found = ap (λ k. slice_get units k) (back all.0.place) ∙ all.0.found; some = all.0.least; keeps = all.0.is }, each_open opens all.1)

  all_open : (place unit : ℕ) → slice_get units place ≡ Some unit → 0 < unit → IsUnitOpen (map unit_kept opens) unit
  all_open place unit found least =
      let a = subst (λ (l : List Numbered). IsAmong unit l) (sym are) (all_among units touched same place unit found least) in
      is_open_in opens unit a.place a.unit a.found a.is

-- ---- how many they are

length_inserted : (unit : Numbered) (units : List Numbered) → length (insert_unit unit units) ≡ suc (length units)
length_inserted unit [] = refl
length_inserted unit (other ∷ units) = by (nat_lt unit.0 other.0) (length_inserted unit units) where
  by : (b : Bool) → length (insert_unit unit units) ≡ suc (length units) → length (if b then unit ∷ other ∷ units else other ∷ insert_unit unit units) ≡ suc (suc (length units))
  by true later = refl
  by false later = ap (λ n. suc n) later

few_open : (units : List ℕ) (touched : List (List Change)) → length (units_open units touched) ≤ length touched
few_open [] touched = omega arith
few_open (unit ∷ units) [] = omega arith
few_open (unit ∷ units) (some ∷ touched) = by (nat_lt 0 unit) (few_open units touched) where
  by : (b : Bool) → length (units_open units touched) ≤ length touched → length (if b then insert_unit (unit, some) (units_open units touched) else units_open units touched) ≤ suc (length touched)
  by true later = omega (arith, length_inserted (unit, some) (units_open units touched), later)
  by false later = omega (arith, later)

same_many : (opens : List OpenUnit) → length (map numbered_unit opens) ≡ length opens
same_many [] = refl
same_many (u ∷ opens) = ap (λ n. suc n) (same_many opens)

-- No more units are open than there are regions.
pub few_listed : (units : List ℕ) (touched : List (List Change)) (opens : List OpenUnit) → map numbered_unit opens ≡ units_open units touched → length opens ≤ length touched
few_listed units touched opens are = omega (arith, same_many opens, ap (λ (l : List Numbered). length l) are, few_open units touched)
