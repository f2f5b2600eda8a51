-- The open units of the regions: the records that each has changed, and what backing them out leaves.
use Rattle.std.specs.Prelude.{◌≡◌, ◌≢◌, ℕ, ◌<◌, ◌≤◌, ◌⊎◌, Bool, true, false, List, [], ◌∷◌, None, Some, length, suc, map, slice_index_or, slice_set}
use Rattle.std.specs.List.{AllByRecursion, list_any}
use Rattle.tm_types.specs.declared.resource.Resource.{Resource}
use Rattle.tm_types.specs.declared.resource.Mode.TheVariants.{Exclusive}
use Rattle.model_data.specs.Table.{EnqueueTable}
use Rattle.pi_enqueue.specs.KeptTable.{IsTableKept, held_mode}
use Rattle.seg_store.specs.Slots.{Stored, AreSlots, has_root}
use Rattle.unit_work.specs.Images.{image_at, IsSlotOf}
use Rattle.unit_work.specs.declared.change.Change.{Change}
use Rattle.unit_work.specs.Changes.{Changes, is_seen, AreSlotsInOrder, AreChangesKept}
use Rattle.unit_work.specs.BackOut.{was_in, backed_out, backs, CanBackOut}
use Rattle.program_rows.specs.DatabasesState.{DatabasesState, RegionRows, roots_of, rows_of_stores}

-- the records that each unit has changed
abbrev pub unit_records_of : List Changes → List (List Change)
unit_records_of units = map (λ u. u.records) units

-- the slots that each unit has touched
abbrev pub unit_slots_of : List Changes → List (List Change)
unit_slots_of units = map (λ u. u.slots) units

-- the stores with all these units backed out
abbrev pub backed_all : List (List Change) → List Stored → List Stored
backed_all [] stores = stores
backed_all (records ∷ units) stores = backed_out records (backed_all units stores)

-- what the unit at this place sees: the stores with all others backed out
abbrev pub seen_by : ℕ → List (List Change) → List Stored → List Stored
seen_by place units stores = backed_all (slice_set units place []) stores

-- so for each of these units, the first of them at this place
abbrev pub regions_from : ℕ → List (List Change) → List (List Change) → List Stored → List RegionRows
regions_from place [] all stores = []
regions_from place (records ∷ units) all stores =
    record { rows = rows_of_stores (seen_by place all stores); changed = roots_of records } ∷ regions_from (suc place) units all stores

-- the databases with these open units, whose slots these are; these slots of the stores are changed
abbrev pub with_open_units : List (List Change) → List (List Change) → List Stored → List (List ℕ) → EnqueueTable → DatabasesState
with_open_units units slots stores changed table = record {
  committed = backed_all units stores;
  stores = stores;
  changed = changed;
  regions = regions_from 0 units units stores;
  touched = slots;
  table = table;
}

-- the region has the resource alone
abbrev pub HoldsAlone : EnqueueTable → ℕ → Resource → Type 0
HoldsAlone table region resource = held_mode region resource table.holds ≡ Some Exclusive

-- a changed record that was there and still is, in the slot that it had
pub record StaysInSlot (stores : List Stored) (c : Change) : Type 0 where
  pub was : c.before ≢ []
  pub is : has_root c.root (image_at c.db c.slot stores) ≡ true

-- of any other changed record, which came, went or moved, the region has the sequence of the database alone
abbrev pub Sits : EnqueueTable → List Stored → ℕ → Change → Type 0
Sits table stores region c = StaysInSlot stores c ⊎ HoldsAlone table region (record { db = c.db; root = None })

-- an open unit: it can be backed out, and its region has each record alone that it changed
pub record IsOpenUnit (table : EnqueueTable) (stores : List Stored) (region : ℕ) (records : List Change) : Type 0 where
  pub can : CanBackOut records stores
  pub kept : AreChangesKept records
  pub alone : AllByRecursion (λ c. HoldsAlone table region (record { db = c.db; root = Some c.root })) records
  pub sits : AllByRecursion (Sits table stores region) records

-- open units, the first of them in region 1
pub record AreUnits (units : List (List Change)) (stores : List Stored) (table : EnqueueTable) : Type 0 where
  pub valid : AllByRecursion (λ s. AreSlots s.dbd s.slots) stores
  pub compatible : IsTableKept table
  pub count : length units ≡ table.regions
  pub numbered : AllByRecursion (λ hold. 1 ≤ hold.0.resource.db) table.holds
  pub each : (place : ℕ) → place < length units → IsOpenUnit table stores (suc place) (slice_index_or units place [])

-- the record of one of these changes was in the slot
abbrev pub was_there : List Change → ℕ → ℕ → Bool
was_there records db slot = list_any (was_in db slot) records

-- A touched slot: its record before is one that the unit has changed, or it was free, and the region has the sequence of
-- the database alone. Backing out leaves the image that it had first.
pub record IsRecordTouched (table : EnqueueTable) (stores : List Stored) (region : ℕ) (records : List Change) (s : Change) : Type 0 where
  pub there : IsSlotOf stores s.db s.slot
  pub first : image_at s.db s.slot (backed_out records stores) ≡ s.before
  pub sits : (was_there records s.db s.slot ≡ true) ⊎ ((s.before ≡ []) × HoldsAlone table region (record { db = s.db; root = None }))

-- the slots that a unit with these records has touched: backing it out sets and changes no other
pub record AreTouchedByUnit (table : EnqueueTable) (stores : List Stored) (region : ℕ) (records slots : List Change) : Type 0 where
  pub each : AllByRecursion (IsRecordTouched table stores region records) slots
  pub order : AreSlotsInOrder slots
  pub idle : (db slot : ℕ) → 1 ≤ db → is_seen db slot slots ≡ false → backs records db slot (image_at db slot stores) ≡ false
  pub others : (db slot : ℕ) → 1 ≤ db → is_seen db slot slots ≡ false → image_at db slot (backed_out records stores) ≡ image_at db slot stores

-- so for each unit, the first of them in region 1
abbrev pub AllTouch : List (List Change) → List (List Change) → List Stored → EnqueueTable → Type 0
AllTouch units slots stores table =
    (place : ℕ) → place < length units → AreTouchedByUnit table stores (suc place) (slice_index_or units place []) (slice_index_or slots place [])
