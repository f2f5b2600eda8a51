-- A checkpoint of parts: the life goes with them once all is written.
use Rattle.std.proofs.Common.{◌≡◌, ⊎_elim, ℕ, zero, suc, ◌+◌, ◌-◌, ◌<◌, ◌≤◌, Bool, true, false, List, [], ◌∷◌, length, sym, ◌∙◌, subst, arith, Some}
use Rattle.std.specs.Prelude.{slice_get}
use Rattle.std.specs.List.{AllByRecursion}
use Rattle.tm_types.specs.declared.dbd.Dbd.{Dbd}
use Rattle.model_data.specs.declared.row.Row.{Row}
use Rattle.model_data.specs.Record.{rows_spelling}
use Rattle.log_writer.specs.ForcedLog.{log_sectors_of}
use Rattle.seg_store.specs.Slots.{Stored, IsSlot}
use Rattle.unit_work.specs.declared.change.Change.{Change}
use Rattle.unit_work.specs.Marks.{is_marked}
use Rattle.checkpointing.specs.declared.touches.OpenUnit.{OpenUnit}
use Rattle.checkpointing.specs.SnapshotRecords.{snapshot_records}
use Rattle.checkpointing.specs.SpelledRecords.{AddsSpelled}
use Rattle.checkpointing.specs.Touches.{AreAllSpelled, AreOpen, AreSlotsTouched, HasFewSectors, IsSpelled, IsSlotTouched, changes_of_units}
use Rattle.checkpointing.proofs.Judged.{AreCounts}
use Rattle.disk_law.specs.Life.{LifeOnDisk}
use Rattle.disk_law.specs.LifeCheckpoint.{MayCheckpoint, after_checkpoint}
use Rattle.program_rows.specs.SlotsState.{SlotsState, HaveSlots, IsTouchedSlot, slots_stores, touched_in}
use Rattle.program_rows.specs.DatabasesState.{with_all_settled}
use Rattle.tm_machine.specs.SlotChanges.{HasSlots, slots_now}
use Rattle.tm_machine.specs.Parts.{PartsState}
use Rattle.journal.specs.OpenUnits.{AreUnitsOf, written}
use Rattle.journal.proofs.Checkpoints as checkpoints
use Rattle.journal.proofs.Checkpoints.{none_marked}
use Rattle.logged_machine.specs.CarriedParts.{IsCarried}
use Rattle.logged_machine.proofs.Holding.{hold_touched}

-- ---- slots that are written

touched_written : (s : SlotsState) (some : List Change) → AllByRecursion (IsTouchedSlot s) some → AllByRecursion (IsTouchedSlot (written s)) some
touched_written s [] all = tt
touched_written s (c ∷ some) all = (record { there = all.0.there; known = all.0.known; first = all.0.first }, touched_written s some all.1)

no_marks : (b : Bool) → b ≡ false → b ≡ true → ⊥
no_marks b none some = let clash : false ≡ true = sym none ∙ some in cc

-- They are still those of the databases.
pub have_written : (dbds : List Dbd) (n : ℕ) (s : SlotsState) → HaveSlots dbds n s → HaveSlots dbds n (written s)
have_written dbds n s have = record {
  stores = have.stores;
  committed = have.committed;
  valid = have.valid;
  valid_committed = have.valid_committed;
  count = have.count;
  touched = λ region.
      let are = have.touched region in
      record { each = touched_written s (touched_in region s) are.each; ascend = are.ascend; few = are.few; few_before = are.few_before; few_now = are.few_now };
  apart = have.apart;
  untouched = have.untouched;
  marks = λ database slot least marked. absurd (no_marks (is_marked (written s).changed database slot) (none_marked s.changed database slot) marked);
}

-- ---- what is to be spelled

below : (stores : List Stored) (k : ℕ) (store : Stored) → slice_get stores k ≡ Some store → k < length stores
below [] k store found = absurd cc
below (s ∷ stores) zero store found = omega arith
below (s ∷ stores) (suc k) store found = omega (arith, below stores k store found)

few_at : (stores : List Stored) (k : ℕ) (store : Stored) → AllByRecursion HasFewSectors stores → slice_get stores k ≡ Some store → store.dbd.sectors ≤ 8
few_at [] k store each found = absurd cc
few_at (s ∷ stores) zero store each found = let same : s ≡ store = cc in subst HasFewSectors same each.0
few_at (s ∷ stores) (suc k) store each found = few_at stores k store each.1 found

short_record : (dbd : Dbd) (rows : List Row) → dbd.sectors ≤ 8 → IsSlot dbd rows → length (rows_spelling rows) ≤ 32000
short_record dbd rows few is =
    ⊎_elim
    (λ (none : rows ≡ []). subst (λ (l : List Row). length (rows_spelling l) ≤ 32000) (sym none) (omega arith))
    (λ valid. omega (arith, valid.within, few))
    is

slot_spelled : (stores : List Stored) → AllByRecursion HasFewSectors stores → (c : Change) → IsSlotTouched stores c → IsSpelled stores c
slot_spelled stores few c t = record {
  least = t.least;
  most = omega (arith, below stores (c.db - 1) t.store t.found, t.least);
  short = short_record t.store.dbd c.before (few_at stores (c.db - 1) t.store few t.found) t.before;
}

slots_spelled : (stores : List Stored) → AllByRecursion HasFewSectors stores → (some : List Change) → AllByRecursion (IsSlotTouched stores) some → AllByRecursion (IsSpelled stores) some
slots_spelled stores few [] all = tt
slots_spelled stores few (c ∷ some) all = (slot_spelled stores few c all.0, slots_spelled stores few some all.1)

units_spelled : (stores : List Stored) → AllByRecursion HasFewSectors stores → (opens : List OpenUnit) → AllByRecursion (λ u. AreSlotsTouched stores u.work.now.slots) opens → AreAllSpelled stores opens
units_spelled stores few [] all = tt
units_spelled stores few (u ∷ opens) all = (record { each = slots_spelled stores few u.work.now.slots all.0.each; few = all.0.few }, units_spelled stores few opens all.1)

module _ (parts : PartsState) (units : List ℕ) (next : ℕ) (life : LifeOnDisk) (c : IsCarried parts units next life) (has : HasSlots parts) (opens : List OpenUnit) (o : AreUnitsOf (slots_now parts) units opens) where
  abbrev regions : ℕ
  regions = length parts.system.regions

  -- Records have at most eight sectors.
  pub few_sectors : AllByRecursion HasFewSectors (slots_now parts).stores
  few_sectors = Rattle.message_run.proofs.NextTold.few_sectors parts.system (slots_now parts).stores has.defined has.have.stores

  open_units : AreOpen (slots_now parts).stores opens
  open_units = checkpoints.are_open parts.system has.defined regions parts.moment (slots_now parts) units next life c has.have (hold_touched parts has) opens o

  -- What the units touched can be spelled.
  pub all_spelled : AreAllSpelled (slots_now parts).stores opens
  all_spelled = units_spelled (slots_now parts).stores few_sectors opens open_units.each

  module _ (few : length opens ≤ length parts.system.regions) (counts : AreCounts (life.now.checkpoint + 1) next) (bytes : List ℕ)
      (adds : AddsSpelled (snapshot_records (life.now.checkpoint + 1) next parts.moment.lasting (changes_of_units (slots_now parts).stores opens)) [] bytes)
      (sequence : life.log.sequence + life.log.place + log_sectors_of (length life.log.appended) < 2000000000000000000) where
    -- The checkpoint may be taken.
    pub may_store : MayCheckpoint bytes (slots_stores (slots_now parts))
        (checkpoints.kept_now parts.system has.defined regions parts.moment (slots_now parts) units next life c has.have (hold_touched parts has) opens o)
        (snapshot_records (life.now.checkpoint + 1) next parts.moment.lasting (changes_of_units (slots_now parts).stores opens)) life
    may_store =
        checkpoints.may_checkpoint parts.system has.defined regions parts.moment (slots_now parts) units next life c has.have (hold_touched parts has) opens o counts few bytes adds sequence

    -- Once it is taken, and no slot counts as changed any more, the life goes with the parts.
    pub stored : IsCarried (record parts { databases = with_all_settled parts.databases }) units next
        (after_checkpoint bytes (checkpoints.kept_now parts.system has.defined regions parts.moment (slots_now parts) units next life c has.have (hold_touched parts has) opens o) life)
    stored =
        checkpoints.checkpoint_carried parts.system has.defined regions parts.moment (slots_now parts) units next life c has.have (hold_touched parts has) opens o counts few bytes adds sequence
        (have_written parts.system.databases regions (slots_now parts) has.have)
