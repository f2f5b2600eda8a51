-- What a snapshot of parts has.
use Rattle.std.proofs.Common.{◌≡◌, ℕ, zero, suc, ◌+◌, ◌-◌, ◌≤◌, nat_lt, List, [], ◌∷◌, length, map, drop, Some, sym, ◌∙◌, ap, subst, arith}
use Rattle.std.specs.Prelude.{slice_get, slice_index_or, if◌then◌else◌}
use Rattle.std.specs.List.{AllByRecursion}
use Rattle.log_records.specs.declared.record.Record.{Record}
use Rattle.model_machine.specs.Machine.{LastingState}
use Rattle.unit_work.specs.declared.change.Change.{Change}
use Rattle.disk_law.specs.Life.{LifeOnDisk}
use Rattle.journal.specs.NumberedUnits.{insert_unit, numbered_unit, units_open}
use Rattle.checkpointing.specs.declared.touches.OpenUnit.{OpenUnit}
use Rattle.checkpointing.specs.SnapshotRecords.{snapshot_records}
use Rattle.checkpointing.specs.SpelledRecords.{AddsSpelled, IsWritable}
use Rattle.checkpointing.specs.Touches.{AreAllSpelled, HasFewSectors, changes_of_units}
use Rattle.program_rows.specs.SlotsState.{touched_in}
use Rattle.tm_machine.specs.SlotChanges.{HasSlots, slots_now}
use Rattle.tm_machine.specs.Parts.{PartsState}
use Rattle.journal.specs.OpenUnits.{AreUnitsOf}
use Rattle.journal.proofs.Listed.{few_listed, units_listed}
use Rattle.logged_machine.specs.CarriedParts.{IsCarried}
use Rattle.logged_machine.proofs.Storing.{all_spelled, few_sectors}
use Rattle.logged_machine.proofs.WritableParts.{writable}
use Rattle.logged_machine.specs.UntakenCheckpoint.{IsSnapshot}

-- ---- the units of regions, from the last one on

-- as many numbers as regions, of which there are few
pub record HasSoMany (parts : PartsState) (units : List ℕ) : Type 0 where
  pub regions : length units ≡ length parts.system.regions
  pub touched : length (slots_now parts).touched ≡ length units
  pub few : length units ≤ 8

pub so_many : (parts : PartsState) (units : List ℕ) → HasSlots parts → length units ≡ length parts.system.regions → HasSoMany parts units
so_many parts units has same = record { regions = same; touched = has.have.count ∙ sym same; few = omega (arith, same, has.defined.few_regions) }

one_more : (units : List ℕ) (touched : List (List Change)) (k unit : ℕ) → slice_get units k ≡ Some unit → length touched ≡ length units
    → units_open (drop k units) (drop k touched)
    ≡ (if nat_lt 0 unit then insert_unit (unit, slice_index_or touched k []) (units_open (drop (suc k) units) (drop (suc k) touched)) else units_open (drop (suc k) units) (drop (suc k) touched))
one_more [] touched k unit found same = absurd cc
one_more (u ∷ units) [] k unit found same = absurd cc
one_more (u ∷ units) (some ∷ touched) zero unit found same =
    let is : u ≡ unit = cc in
    ap (λ (n : ℕ). if nat_lt 0 n then insert_unit (n, some) (units_open units touched) else units_open units touched) is
one_more (u ∷ units) (some ∷ touched) (suc k) unit found same = one_more units touched k unit found (shorter (length touched) (length units) same) where
  shorter : (a b : ℕ) → suc a ≡ suc b → a ≡ b
  shorter a b e = cc

-- The unit of the region at a place, behind those from the next place on.
pub unit_before : (parts : PartsState) (units : List ℕ) → HasSoMany parts units → (place unit : ℕ) → slice_get units place ≡ Some unit → (before after : List OpenUnit)
    → map numbered_unit before ≡ units_open (drop (place + 1) units) (drop (place + 1) (slots_now parts).touched)
    → map numbered_unit after ≡ (if nat_lt 0 unit then insert_unit (unit, touched_in (place + 1) (slots_now parts)) (map numbered_unit before) else map numbered_unit before)
    → map numbered_unit after ≡ units_open (drop place units) (drop place (slots_now parts).touched)
unit_before parts units many place unit found before after so added =
    let next : place + 1 ≡ suc place = omega arith in
    let region : place + 1 - 1 ≡ place = omega arith in
    added
    ∙ ap (λ (r : ℕ). if nat_lt 0 unit then insert_unit (unit, slice_index_or (slots_now parts).touched r []) (map numbered_unit before) else map numbered_unit before) region
    ∙ ap (λ (l : List (ℕ × List Change)). if nat_lt 0 unit then insert_unit (unit, slice_index_or (slots_now parts).touched place []) l else l)
    (so ∙ ap (λ (n : ℕ). units_open (drop n units) (drop n (slots_now parts).touched)) next)
    ∙ sym (one_more units (slots_now parts).touched place unit found many.touched)

-- ---- what is spelled

touched_so : (touched : List (List Change)) (k : ℕ) (some : List Change) → slice_get touched k ≡ Some some → some ≡ slice_index_or touched k []
touched_so [] k some found = absurd cc
touched_so (x ∷ touched) zero some found = let same : x ≡ some = cc in sym same
touched_so (x ∷ touched) (suc k) some found = touched_so touched k some found

module _ (parts : PartsState) (units : List ℕ) (next : ℕ) (has : HasSlots parts) (carried : (life : LifeOnDisk) × IsCarried parts units next life) (counted : length units ≡ length parts.system.regions)
    (opens : List OpenUnit) (are : map numbered_unit opens ≡ units_open units (slots_now parts).touched) where
  its : AreUnitsOf (slots_now parts) units opens
  its =
      units_listed (slots_now parts) parts.moment.slots units next carried.1.is.numbers (slots_now parts).touched (has.have.count ∙ sym counted)
      (λ place some found. touched_so (slots_now parts).touched place some found ∙ ap (λ (k : ℕ). slice_index_or (slots_now parts).touched k []) (back place)) opens are where
        back : (place : ℕ) → place ≡ suc place - 1
        back place = omega arith

  few : length opens ≤ length parts.system.regions
  few = omega (arith, few_listed units (slots_now parts).touched opens are, has.have.count)

  -- All can be spelled.
  pub record MaySpell : Type 0 where
    pub writable_is : IsWritable (record parts.moment.lasting { rows = [] })
    pub spelled : AreAllSpelled (slots_now parts).stores opens
    pub few_each : AllByRecursion HasFewSectors (slots_now parts).stores

  pub may_spell : MaySpell
  may_spell = record {
    writable_is = writable parts units next carried.0 carried.1 has;
    spelled = all_spelled parts units next carried.0 carried.1 has opens its;
    few_each = few_sectors parts units next carried.0 carried.1 has opens its;
  }

  -- What is spelled is a snapshot.
  pub snapshot_of : (number : ℕ) (bytes : List ℕ) → AddsSpelled (snapshot_records number next parts.moment.lasting (changes_of_units (slots_now parts).stores opens)) [] bytes → IsSnapshot parts units next number bytes
  snapshot_of number bytes adds = record { opens = opens; are = its; few = few; adds = adds }

-- A state with the same but for the rows is spelled alike.
pub spelled_so : (number next : ℕ) (state lasting : LastingState) (changes : List Record) (bytes : List ℕ) → state ≡ record lasting { rows = [] } → AddsSpelled (snapshot_records number next state changes) [] bytes
    → AddsSpelled (snapshot_records number next lasting changes) [] bytes
spelled_so number next state lasting changes bytes same adds = subst (λ (s : LastingState). AddsSpelled (snapshot_records number next s changes) [] bytes) same adds
