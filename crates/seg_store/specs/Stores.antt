-- The stores of a system's databases.
use Rattle.std.specs.Prelude.{◌≡◌, ℕ, ◌-◌, [], List, Some, map, slice_get, slice_set}
use Rattle.std.specs.Borrow.{Lends, MutBor, Fml}
use Rattle.tm_types.specs.declared.dbd.Dbd.{Dbd}
use Rattle.seg_store.specs.Slots.{Stored, free_slots}
use Rattle.seg_store.specs.ChangedSlots.{Kept, stored, AllStores}
use Rattle.seg_store.specs.contracts.store.Store as store
use Rattle.seg_store.specs.contracts.stores.Stores as stores

-- a database without rows
abbrev pub empty_store : Dbd → Stored
empty_store dbd = record { dbd = dbd; slots = free_slots dbd.roots }

-- the databases, in their order, without rows
abbrev pub empty_stores : List Dbd → List Stored
empty_stores dbds = map empty_store dbds

-- and no slot is changed
abbrev pub no_changed : List Dbd → List (List ℕ)
no_changed dbds = map (λ dbd. []) dbds

-- the store of the database with this number, counted from 1
pub record IsStoreOf (all : AllStores) (db : ℕ) (one : Kept) : Type 0 where
  pub stored_is : slice_get all.stores (db - 1) ≡ Some (stored one)
  pub changed_is : slice_get all.changed (db - 1) ≡ Some one.changed

-- these stores with another one for the database of this number, counted from 1
abbrev pub with_store : AllStores → ℕ → Kept → AllStores
with_store all db one = record {
  stores = slice_set all.stores (db - 1) (stored one);
  changed = slice_set all.changed (db - 1) one.changed;
}

-- the stores end with what is left behind r as the store of this database
abbrev pub LendsStore : MutBor AllStores → ℕ → MutBor Kept → Fml
LendsStore s db r = Lends stores.the_row store.the_row s r (with_store s.now db)
