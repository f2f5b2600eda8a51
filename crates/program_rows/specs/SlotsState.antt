-- What calls, commits and back outs do to the slots of the databases.
use Rattle.std.specs.Prelude.{◌≡◌, ◌⊎◌, ◌<◌, ◌≤◌, ℕ, ◌-◌, true, false, List, [], ◌∷◌, length, map, sum_by, slice_index_or, slice_set, Option, None, Some}
use Rattle.std.specs.List.{AllByRecursion, list_any}
use Rattle.tm_types.specs.declared.dbd.Dbd.{Dbd}
use Rattle.model_data.specs.declared.row.Row.{Row}
use Rattle.model_data.specs.Path.{root_of}
use Rattle.model_data.specs.Record as rows
use Rattle.model_data.specs.Table.{EnqueueTable}
use Rattle.log_records.specs.declared.record.Record.{Record}
use Rattle.log_records.specs.declared.record.Record.TheVariants as told
use Rattle.seg_store.specs.Slots.{Stored, AreSlots}
use Rattle.seg_store.specs.ChangedSlots.{AllStores}
use Rattle.unit_work.specs.declared.change.Change.{Change}
use Rattle.unit_work.specs.Changes.{ChangesAscend, is_seen, with_slot}
use Rattle.unit_work.specs.Images.{slots_of_database, image_at, image_bytes_at, IsSlotOf}
use Rattle.unit_work.specs.Marks.{is_marked, AreMarked}
use Rattle.unit_work.specs.ToldChanges.{ChangesTold, is_told_of}
use Rattle.program_rows.specs.OpenUnits.{HoldsAlone}
use Rattle.pi_enqueue.specs.KeptTable.{IsTableKept}
use Rattle.program_rows.specs.DatabasesState.{DatabasesState, dbds_of}
use Rattle.program_rows.specs.ToldChanges.{back_out_told}

-- the slots as they are committed and as they are, the numbers of those that were changed since they were written, and the
-- slots that each region has touched, by database and slot, each with its first image
pub record SlotsState : Type 0 where
  pub committed : List Stored
  pub stores : List Stored
  pub changed : List (List ℕ)
  pub touched : List (List Change)

abbrev pub slots_state_of : DatabasesState → SlotsState
slots_state_of databases = record {
  committed = databases.committed;
  stores = databases.stores;
  changed = databases.changed;
  touched = databases.touched;
}

abbrev pub slots_stores : SlotsState → AllStores
slots_stores s = record { stores = s.stores; changed = s.changed }

-- the slots that a region has touched
abbrev pub touched_in : ℕ → SlotsState → List Change
touched_in region s = slice_index_or s.touched (region - 1) []

abbrev pub with_touched : ℕ → List Change → SlotsState → List (List Change)
with_touched region slots s = slice_set s.touched (region - 1) slots

-- ---- a call

-- It changes nothing.
pub record ChangesNone (old new : SlotsState) (records : List Record) : Type 0 where
  pub none : records ≡ []
  pub same : new ≡ old

-- It changes one slot, which its region has touched then; what stood there is the first image where it hadn't before. The slot is
-- marked, also where it has the same again.
pub record ChangesOne (unit region : ℕ) (old new : SlotsState) (records : List Record) : Type 0 where
  pub slot : Change
  pub stood : slot.before ≡ image_at slot.db slot.slot old.stores
  pub one : records ≡ told.Change unit slot.db slot.slot (rows.rows_spelling slot.before) (image_bytes_at slot.db slot.slot new.stores) ∷ []
  pub touched : new.touched ≡ with_touched region (with_slot slot (touched_in region old)) old
  pub marked : is_marked new.changed slot.db slot.slot ≡ true

-- The slot is marked, also where it has the same again; but for one that had no record, neither at first nor until then.
abbrev pub IsMarkedBack : AllStores → AllStores → Change → Type 0
IsMarkedBack old new c = (is_marked new.changed c.db c.slot ≡ true) ⊎ ((c.before ≡ []) × (image_at c.db c.slot old.stores ≡ []))

-- It takes back all that the region has changed: each touched slot has its first image and is marked, and the region has touched none.
pub record TakesBack (unit region : ℕ) (old new : SlotsState) (records : List Record) : Type 0 where
  pub all : records ≡ map (back_out_told unit old.stores) (touched_in region old)
  pub each : AllByRecursion (λ c. image_at c.db c.slot new.stores ≡ c.before) (touched_in region old)
  pub touched : new.touched ≡ with_touched region [] old
  pub marked : AllByRecursion (IsMarkedBack (slots_stores old) (slots_stores new)) (touched_in region old)

-- What a call does that tells these records. A slot that none tells of stands as before, and what is committed stays.
pub record CallsSo (unit region : ℕ) (old new : SlotsState) (records : List Record) : Type 0 where
  pub told : ChangesTold unit old.stores new.stores records
  pub does : ChangesNone old new records ⊎ (ChangesOne unit region old new records ⊎ TakesBack unit region old new records)
  pub marks : AreMarked (λ database slot. list_any (is_told_of database slot) records) (slots_stores old) (slots_stores new)
  pub committed : new.committed ≡ old.committed

-- ---- an end

-- What a region has changed is committed: the slots that it touched are committed as they stand, all others as before, and
-- it has touched none.
pub record CommitsSo (region : ℕ) (old new : SlotsState) : Type 0 where
  pub stores : new.stores ≡ old.stores
  pub changed : new.changed ≡ old.changed
  pub touched : new.touched ≡ with_touched region [] old
  pub each : AllByRecursion (λ c. image_at c.db c.slot new.committed ≡ image_at c.db c.slot old.stores) (touched_in region old)
  pub others : (database slot : ℕ) → 1 ≤ database → is_seen database slot (touched_in region old) ≡ false
      → image_at database slot new.committed ≡ image_at database slot old.committed

-- What a region has changed is taken back: the slots that it touched have their first images and are marked, all others stand as
-- before, and it has touched none. What is committed stays.
pub record GivesUpSo (region : ℕ) (old new : SlotsState) : Type 0 where
  pub committed : new.committed ≡ old.committed
  pub databases : map (λ s. s.dbd) new.stores ≡ map (λ s. s.dbd) old.stores
  pub touched : new.touched ≡ with_touched region [] old
  pub each : AllByRecursion (λ c. image_at c.db c.slot new.stores ≡ c.before) (touched_in region old)
  pub others : (database slot : ℕ) → 1 ≤ database → is_seen database slot (touched_in region old) ≡ false
      → image_at database slot new.stores ≡ image_at database slot old.stores
  pub marks : AreMarked (λ database slot. is_seen database slot (touched_in region old)) (slots_stores old) (slots_stores new)
  pub marked : AllByRecursion (IsMarkedBack (slots_stores old) (slots_stores new)) (touched_in region old)

-- ---- what always holds

-- how many records an image has
abbrev pub image_records_in : List Row → ℕ
image_records_in [] = 0
image_records_in (row ∷ rows) = 1

-- A slot that a region has touched is there, and its first image is the one that is committed.
pub record IsTouchedSlot (s : SlotsState) (c : Change) : Type 0 where
  pub there : IsSlotOf s.stores c.db c.slot
  pub known : c.db ≤ length s.stores
  pub first : c.before ≡ image_at c.db c.slot s.committed

-- The slots that a region has touched: each once, in order, at most 64; at most 32 had a record before, and at most 32 have one.
pub record AreTouchedSlots (s : SlotsState) (slots : List Change) : Type 0 where
  pub each : AllByRecursion (IsTouchedSlot s) slots
  pub ascend : ChangesAscend slots
  pub few : length slots ≤ 64
  pub few_before : sum_by (λ c. image_records_in c.before) slots ≤ 32
  pub few_now : sum_by (λ c. image_records_in (image_at c.db c.slot s.stores)) slots ≤ 32

-- the root of the record in an image, none where there is no record
abbrev pub root_in : List Row → Option (List ℕ)
root_in [] = None
root_in (row ∷ rows) = Some (root_of row.path)

-- A region holds alone what it has touched: the record that was in the slot, or the sequence of the database where it was free.
abbrev pub HoldsSlot : EnqueueTable → ℕ → Change → Type 0
HoldsSlot table region c = HoldsAlone table region (record { db = c.db; root = root_in c.before })

-- The slots of these databases, with what so many regions have touched: no slot is touched by two, and a slot that none has
-- touched stands as it is committed. Marked slots are there.
pub record HaveSlots (dbds : List Dbd) (regions : ℕ) (s : SlotsState) : Type 0 where
  pub stores : map (λ t. t.dbd) s.stores ≡ dbds
  pub committed : map (λ t. t.dbd) s.committed ≡ dbds
  pub valid : AllByRecursion (λ t. AreSlots t.dbd t.slots) s.stores
  pub valid_committed : AllByRecursion (λ t. AreSlots t.dbd t.slots) s.committed
  pub count : length s.touched ≡ regions
  pub touched : (region : ℕ) → AreTouchedSlots s (touched_in region s)
  pub apart : (one other database slot : ℕ) → 1 ≤ one → 1 ≤ other → is_seen database slot (touched_in one s) ≡ true → is_seen database slot (touched_in other s) ≡ true → one ≡ other
  pub untouched : (database slot : ℕ) → 1 ≤ database → ((region : ℕ) → is_seen database slot (touched_in region s) ≡ false)
      → image_at database slot s.committed ≡ image_at database slot s.stores
  pub marks : (database slot : ℕ) → 1 ≤ database → is_marked s.changed database slot ≡ true → slot < length (slots_of_database database s.stores)

-- What always holds of the slots of databases.
pub record AreOnSlots (databases : DatabasesState) : Type 0 where
  pub have : HaveSlots (dbds_of databases) (length databases.regions) (slots_state_of databases)
  pub holds : (region : ℕ) → 1 ≤ region → AllByRecursion (HoldsSlot databases.table region) (touched_in region (slots_state_of databases))
  pub compatible : IsTableKept databases.table
