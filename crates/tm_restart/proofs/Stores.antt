-- The databases that were loaded are the stores of the system, and their rows those of the image.
use Rattle.std.proofs.Common.{◌≡◌, ℕ, zero, suc, ◌+◌, List, [], ◌∷◌, map, refl, sym, ◌∙◌, ap, subst, arith, Some, None, Ok}
use Rattle.std.specs.Prelude.{slice_get}
use Rattle.tm_types.specs.declared.dbd.Dbd.{Dbd}
use Rattle.tm_types.specs.SegTypes.{IsHierarchy}
use Rattle.tm_disk.specs.Disk.{Image}
use Rattle.model_data.specs.declared.row.Row.{Row}
use Rattle.model_system.specs.System.{System}
use Rattle.log_records.specs.declared.record.Record.{Record}
use Rattle.seg_store.specs.Slots.{Stored, rows_of_slots}
use Rattle.seg_store.specs.ChangedSlots.{Kept, stored}
use Rattle.model_system.specs.Areas.{data_first}
use Rattle.model_image.specs.Faults.{unless_fault}
use Rattle.model_image.specs.Slots.{SlotOnImage, slots_by, image_slot_in, all_slots, slot_fault, slot_rows, rows_of_databases, image_rows_from}
use Rattle.checkpointing.proofs.Slots.{dbd_found}
use Rattle.image_loading.specs.LoadedStores.{AreAllMade, AreSlotted}
use Rattle.tm_restart.specs.LoadedStores.{AreStoresLoaded}
use Rattle.tm_restart.proofs.Stored.{slots_of}

rows_loaded : (databases : List (List SlotOnImage)) (stores : List Kept) → AreSlotted databases stores → rows_of_databases databases ≡ map (λ store. rows_of_slots store.slots) (map stored stores)
rows_loaded [] [] are = refl
rows_loaded [] (s ∷ stores) are = absurd are
rows_loaded (d ∷ databases) [] are = absurd are
rows_loaded (d ∷ databases) (s ∷ stores) are =
    ap (λ (l : List (List Row)). rows_of_slots l ∷ rows_of_databases databases) (sym are.0)
    ∙ ap (λ (rest : List (List Row)). rows_of_slots s.slots ∷ rest) (rows_loaded databases stores are.1)

dbds_loaded : (dbds : List Dbd) (stores : List Kept) → AreAllMade dbds stores → map (λ store. store.dbd) (map stored stores) ≡ dbds
dbds_loaded [] [] are = refl
dbds_loaded [] (s ∷ stores) are = absurd are
dbds_loaded (d ∷ dbds) [] are = absurd are
dbds_loaded (d ∷ dbds) (s ∷ stores) are =
    ap (λ (x : Dbd). x ∷ map (λ (store : Stored). store.dbd) (map stored stores)) are.0.database ∙ ap (λ (rest : List Dbd). d ∷ rest) (dbds_loaded dbds stores are.1)

types_at : (dbds : List Dbd) (stores : List Kept) (place : ℕ) (store : Stored) → AreAllMade dbds stores → slice_get (map stored stores) place ≡ Some store → IsHierarchy store.dbd.types
types_at [] [] place store are found = absurd cc
types_at [] (s ∷ stores) place store are found = absurd are
types_at (d ∷ dbds) [] place store are found = absurd are
types_at (d ∷ dbds) (s ∷ stores) zero store are found = let same : stored s ≡ store = cc in subst (λ (x : Stored). IsHierarchy x.dbd.types) same are.0.valid.types
types_at (d ∷ dbds) (s ∷ stores) (suc place) store are found = types_at dbds stores place store are.1 found

slots_at : (databases : List (List SlotOnImage)) (stores : List Kept) (place : ℕ) (store : Stored) (slots : List SlotOnImage) → AreSlotted databases stores → slice_get (map stored stores) place ≡ Some store → slice_get databases place ≡ Some slots → store.slots ≡ map slot_rows slots
slots_at [] [] place store slots are found there = absurd cc
slots_at [] (s ∷ stores) place store slots are found there = absurd are
slots_at (d ∷ databases) [] place store slots are found there = absurd are
slots_at (d ∷ databases) (s ∷ stores) zero store slots are found there =
    let same : stored s ≡ store = cc in
    let also : d ≡ slots = cc in
    subst (λ (x : Stored). x.slots ≡ map slot_rows slots) same (are.0 ∙ ap (map slot_rows) also)
slots_at (d ∷ databases) (s ∷ stores) (suc place) store slots are found there = slots_at databases stores place store slots are.1 found there

module _ (system : System) (image : Image) (snapshot log : List Record) (stores : List Kept) (made : AreAllMade system.databases stores) (slotted : AreSlotted (all_slots system image snapshot log 0 system.databases) stores) where
  -- The stores are those of the system, with what the image has in each slot.
  pub stores_loaded : AreStoresLoaded system image snapshot log (map stored stores)
  stores_loaded =
      let databases : map (λ store. store.dbd) (map stored stores) ≡ system.databases = dbds_loaded system.databases stores made in
      record {
        databases = databases;
        types = λ place store found. types_at system.databases stores place store made found;
        each = λ place store found.
            let at : 0 + place ≡ place = omega arith in
            slots_at (all_slots system image snapshot log 0 system.databases) stores place store (slots_by (image_slot_in image snapshot log store.dbd (data_first system place) (place + 1)) store.dbd.roots 0) slotted found
            (slots_of system image snapshot log 0 place system.databases store.dbd (dbd_found (map stored stores) system.databases place store databases found)
            ∙ ap (λ p. Some (slots_by (image_slot_in image snapshot log store.dbd (data_first system p) (p + 1)) store.dbd.roots 0)) at);
      }

  -- and their rows are the image's
  pub rows_found : slot_fault (all_slots system image snapshot log 0 system.databases) ≡ None → image_rows_from system image snapshot log ≡ Ok (map (λ store. rows_of_slots store.slots) (map stored stores))
  rows_found none =
      ap (λ (o : _). unless_fault o (rows_of_databases (all_slots system image snapshot log 0 system.databases))) none
      ∙ ap (λ (l : List (List Row)). Ok l) (rows_loaded (all_slots system image snapshot log 0 system.databases) stores slotted)
