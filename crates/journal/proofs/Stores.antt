-- The slots of a life are those of stores whose slots these are.
use Rattle.std.proofs.Common.{◌≡◌, ℕ, zero, suc, ◌+◌, ◌<◌, ◌≤◌, Bool, true, false, ◌||◌, List, [], ◌∷◌, length, refl, sym, ◌∙◌, ap, subst, arith, Some}
use Rattle.std.specs.Prelude.{Option, ◌==◌, slice_get, slice_index_or}
use Rattle.std.specs.List.{list_any, All, AllByRecursion}
use Rattle.std.specs.Option.{option_map_or}
use Rattle.std.proofs.lemmas.Bool.{eq-eqb}
use Rattle.std.proofs.lemmas.List.Elements.{All-head, All-tail}
use Rattle.tm_types.specs.declared.dbd.Dbd.{Dbd}
use Rattle.model_data.specs.declared.row.Row.{Row}
use Rattle.model_data.proofs.Entries.{all_map}
use Rattle.model_system.specs.System.{System}
use Rattle.model_system.specs.Areas.{most_sectors}
use Rattle.model_image.proofs.Places.{most_has}
use Rattle.seg_store.specs.Slots.{Stored, AreSlots}
use Rattle.system_types.specs.ValidSystem.{IsDatabase, IsSystem}
use Rattle.unit_work.specs.Images.{slots_of_database, image_bytes_at, IsSlotOf}
use Rattle.checkpointing.specs.DirtySlots.{AreStoresOf, DirtySlot}
use Rattle.disk_law.specs.LifeCheckpoint.{is_slot_changed, HasStores}
use Rattle.disk_law.specs.Life as life
use Rattle.disk_law.proofs.Changing.{IsKnownSlot}
use Rattle.disk_law.proofs.Recovering.{all_at, index_found}
use Rattle.unit_work.specs.Marks.{is_marked}
use Rattle.program_rows.specs.SlotsState.{SlotsState, HaveSlots, slots_stores}
use Rattle.journal.proofs.Places.{there_of, known_of, bytes_of_place}

-- a number that is listed is found by a test on all
listed : (numbers : List ℕ) (index number : ℕ) → slice_get numbers index ≡ Some number → list_any (λ n. n == number) numbers ≡ true
listed [] index number found = absurd cc
listed (n ∷ numbers) zero number found =
    let same : n ≡ number = cc in ap (λ b. b || list_any (λ m. m == number) numbers) (eq-eqb n number same)
listed (n ∷ numbers) (suc index) number found = by (n == number) (listed numbers index number found) where
  by : (b : Bool) → list_any (λ m. m == number) numbers ≡ true → b || list_any (λ m. m == number) numbers ≡ true
  by true e = refl
  by false e = e

pub marked_of_place : (changed : List (List ℕ)) (place number : ℕ) → is_marked changed (place + 1) number ≡ is_slot_changed changed place number
marked_of_place changed place number = ap (λ k. list_any (λ n. n == number) (slice_index_or changed k [])) (omega arith)

-- ---- how many sectors their slots have

few_each : (dbds : List Dbd) → All IsDatabase dbds → AllByRecursion (λ dbd. dbd.sectors ≤ 8) dbds
few_each [] all = tt
few_each (dbd ∷ dbds) all = ((All-head IsDatabase dbd dbds all).few_sectors, few_each dbds (All-tail IsDatabase dbd dbds all))

-- at most eight in a system that a definition defines
pub few_sectors_of : (system : System) → IsSystem system → AllByRecursion (λ dbd. dbd.sectors ≤ 8) system.databases
few_sectors_of system valid = few_each system.databases valid.databases

module _ (system : System) (regions : ℕ) (slots : SlotsState) (have : HaveSlots system.databases regions slots) where
  -- what holds of each database holds of its slots
  stores_up_to : (most : ℕ) → AllByRecursion (λ dbd. dbd.sectors ≤ most) system.databases → AllByRecursion (λ s. s.dbd.sectors ≤ most) slots.stores
  stores_up_to most few =
      all_map (λ (s : Stored). s.dbd) (λ (dbd : Dbd). dbd.sectors ≤ most) slots.stores
      (subst (λ (dbds : List Dbd). AllByRecursion (λ dbd. dbd.sectors ≤ most) dbds) (sym have.stores) few)

  pub stores_most : AllByRecursion (λ s. s.dbd.sectors ≤ most_sectors system) slots.stores
  stores_most = stores_up_to (most_sectors system) (most_has system)

-- ---- which slots these are

module _ (system : System) (regions : ℕ) (slots : SlotsState) (have : HaveSlots system.databases regions slots) (few_sectors : AllByRecursion (λ dbd. dbd.sectors ≤ 8) system.databases) where
  dirty_below : (place number : ℕ) (slot : DirtySlot (slots_stores slots) place number) → number < slot.store.dbd.roots
  dirty_below place number slot =
      let marked : is_marked slots.changed (place + 1) number ≡ true =
      marked_of_place slots.changed place number
      ∙ ap (λ (numbers : List ℕ). list_any (λ n. n == number) numbers) (index_found slots.changed place slot.numbers [] slot.changed)
      ∙ listed slot.numbers slot.index number slot.listed in
      let here : slots_of_database (place + 1) slots.stores ≡ slot.store.slots =
      ap (λ k. option_map_or (λ (s : Stored). s.slots) (slice_get slots.stores k) []) (omega arith) ∙ ap (λ (o : Option Stored). option_map_or (λ (s : Stored). s.slots) o []) slot.found in
      let valid = all_at (λ (s : Stored). AreSlots s.dbd s.slots) slots.stores place slot.store have.valid slot.found in
      omega (arith, have.marks (place + 1) number (omega arith) marked, ap (λ (l : List (List Row)). length l) here, valid.count)

  pub are_of : AreStoresOf system (slots_stores slots)
  are_of = record { databases = have.stores; few_sectors = stores_up_to system regions slots have 8 few_sectors; below = dirty_below }

  -- A life whose slots stand so, and are marked so, has these stores.
  pub has_stores : (l : life.LifeOnDisk) → l.system ≡ system
      → life.EachSlot system (λ place number. l.present (place + 1) number ≡ image_bytes_at (place + 1) number slots.stores)
      → life.EachSlot system (λ place number. l.changed (place + 1) number ≡ is_marked slots.changed (place + 1) number) → HasStores l (slots_stores slots)
  has_stores l same stand marked = record {
    are_of = subst (λ (y : System). AreStoresOf y (slots_stores slots)) (sym same) are_of;
    valid = have.valid;
    present = λ place number dbd found below.
        stand place number dbd (subst (λ (y : System). slice_get y.databases place ≡ Some dbd) same found) below ∙ bytes_of_place slots.stores place number;
    changed = λ place number dbd found below.
        marked place number dbd (subst (λ (y : System). slice_get y.databases place ≡ Some dbd) same found) below ∙ marked_of_place slots.changed place number;
  }

-- So each known slot of it stands, and is marked.
module _ (system : System) (slots : SlotsState) (l : life.LifeOnDisk) (same : l.system ≡ system) (has : HasStores l (slots_stores slots)) where
  pub stands_so : (d s : ℕ) → IsKnownSlot system d s → l.present d s ≡ image_bytes_at d s slots.stores
  stands_so d s known =
      ap (λ k. l.present k s) known.is
      ∙ has.present known.place s known.dbd (subst (λ (y : System). slice_get y.databases known.place ≡ Some known.dbd) (sym same) known.found) known.below
      ∙ sym (bytes_of_place slots.stores known.place s)
      ∙ sym (ap (λ k. image_bytes_at k s slots.stores) known.is)

  pub marked_so : (d s : ℕ) → IsKnownSlot system d s → l.changed d s ≡ is_marked slots.changed d s
  marked_so d s known =
      ap (λ k. l.changed k s) known.is
      ∙ has.changed known.place s known.dbd (subst (λ (y : System). slice_get y.databases known.place ≡ Some known.dbd) (sym same) known.found) known.below
      ∙ sym (marked_of_place slots.changed known.place s)
      ∙ sym (ap (λ k. is_marked slots.changed k s) known.is)

-- what is there is there in stores of the same databases
pub stays_there : (system : System) (n m : ℕ) (old new : SlotsState) → HaveSlots system.databases n old → HaveSlots system.databases m new → (d s : ℕ) → IsSlotOf old.stores d s → IsSlotOf new.stores d s
stays_there system n m old new have had d s there =
    there_of system new.stores had.stores had.valid d s (known_of system old.stores have.stores have.valid d s there)

-- a known slot is there
pub is_there : (system : System) (n : ℕ) (slots : SlotsState) → HaveSlots system.databases n slots → (d s : ℕ) → IsKnownSlot system d s → IsSlotOf slots.stores d s
is_there system n slots have d s known = there_of system slots.stores have.stores have.valid d s known

pub known_slot_of : (system : System) (n : ℕ) (slots : SlotsState) → HaveSlots system.databases n slots → (d s : ℕ) → IsSlotOf slots.stores d s → IsKnownSlot system d s
known_slot_of system n slots have d s there = known_of system slots.stores have.stores have.valid d s there
