-- The slots of the stores that were changed since they were written, and their sectors.
use Rattle.std.specs.Prelude.{◌≡◌, ℕ, ◌+◌, ◌<◌, ◌≤◌, List, slice_get, Some, map}
use Rattle.std.specs.List.{AllByRecursion}
use Rattle.model_system.specs.System.{System}
use Rattle.seg_store.specs.Slots.{Stored}
use Rattle.seg_store.specs.ChangedSlots.{AllStores}
use Rattle.model_system.specs.Areas.{slot_first, slot_size}

-- A slot that was changed: its database's place from 0 on, and its number.
pub record DirtySlot (stores : AllStores) (place number : ℕ) : Type 0 where
  pub store : Stored
  pub found : slice_get stores.stores place ≡ Some store
  pub numbers : List ℕ
  pub changed : slice_get stores.changed place ≡ Some numbers
  pub index : ℕ
  pub listed : slice_get numbers index ≡ Some number

-- a sector of such a slot
pub record DirtyAt (system : System) (stores : AllStores) (k : ℕ) : Type 0 where
  pub place : ℕ
  pub number : ℕ
  pub slot : DirtySlot stores place number
  pub index : ℕ
  pub within : index < slot_size system place
  pub sector : k ≡ slot_first system place number + index

-- The stores are those of the system's databases; a slot has at most 8 sectors, and a changed slot is one of the database.
pub record AreStoresOf (system : System) (stores : AllStores) : Type 0 where
  pub databases : map (λ store. store.dbd) stores.stores ≡ system.databases
  pub few_sectors : AllByRecursion (λ store. store.dbd.sectors ≤ 8) stores.stores
  pub below : (place number : ℕ) (slot : DirtySlot stores place number) → number < slot.store.dbd.roots
