-- The slots that open units changed, as records.
use Rattle.std.specs.Prelude.{◌≡◌, ◌⊎◌, ℕ, ◌-◌, ◌<◌, ◌≤◌, List, [], ◌∷◌, ◌++◌, length, map, sum_by, slice_get, slice_index_or, Some}
use Rattle.std.specs.Option.{option_map_or}
use Rattle.std.specs.List.{AllByRecursion}
use Rattle.model_data.specs.declared.row.Row.{Row}
use Rattle.model_data.specs.Record.{rows_spelling}
use Rattle.log_records.specs.declared.record.Record.{Record}
use Rattle.log_records.specs.declared.record.Record.TheVariants as record_of
use Rattle.seg_store.specs.Slots.{Stored, AreSlots, IsSlot}
use Rattle.unit_work.specs.declared.change.Change.{Change}
use Rattle.checkpointing.specs.declared.touches.OpenUnit.{OpenUnit}

-- what stands in a slot of the database of this number, counted from 1
abbrev pub image_in : List Stored → ℕ → ℕ → List Row
image_in stores db slot = option_map_or (λ s. slice_index_or s.slots slot []) (slice_get stores (db - 1)) []

-- a slot that a unit touched: its first image before the unit, and what stands there now
abbrev pub touch_record : ℕ → List Stored → Change → Record
touch_record unit stores c = record_of.Change unit c.db c.slot (rows_spelling c.before) (rows_spelling (image_in stores c.db c.slot))

-- those of a unit, which keeps them by database and slot
abbrev pub touch_records : ℕ → List Stored → List Change → List Record
touch_records unit stores slots = map (touch_record unit stores) slots

-- those of all open units
abbrev pub changes_of_units : List Stored → List OpenUnit → List Record
changes_of_units stores [] = []
changes_of_units stores (u ∷ units) = touch_records u.number stores u.work.now.slots ++ changes_of_units stores units

-- a record of the database has at most 8 sectors
abbrev pub HasFewSectors : Stored → Type 0
HasFewSectors s = s.dbd.sectors ≤ 8

-- the database is there, and the record that stood in the slot is spelled in at most 32,000 bytes
pub record IsSpelled (stores : List Stored) (c : Change) : Type 0 where
  pub least : 1 ≤ c.db
  pub most : c.db ≤ length stores
  pub short : length (rows_spelling c.before) ≤ 32000

-- a unit touches at most 64 slots: where its at most 32 records were, and where they are
pub record AreSpelled (stores : List Stored) (slots : List Change) : Type 0 where
  pub each : AllByRecursion (IsSpelled stores) slots
  pub few : length slots ≤ 64

abbrev pub AreAllSpelled : List Stored → List OpenUnit → Type 0
AreAllSpelled stores units = AllByRecursion (λ u. AreSpelled stores u.work.now.slots) units

-- ---- what open units touched

-- A slot that a unit touched is one of a database that is there, and had a record of it or none.
pub record IsSlotTouched (stores : List Stored) (c : Change) : Type 0 where
  pub store : Stored
  pub least : 1 ≤ c.db
  pub found : slice_get stores (c.db - 1) ≡ Some store
  pub slots : AreSlots store.dbd store.slots
  pub within : c.slot < store.dbd.roots
  pub before : IsSlot store.dbd c.before

-- a slot before another, by database and slot
abbrev pub IsSlotBefore : Change → Change → Type 0
IsSlotBefore c d = (c.db < d.db) ⊎ ((c.db ≡ d.db) × (c.slot < d.slot))

abbrev pub SlotsAscend : List Change → Type 0
SlotsAscend [] = Unit {0}
SlotsAscend (c ∷ []) = Unit {0}
SlotsAscend (c ∷ d ∷ slots) = IsSlotBefore c d × SlotsAscend (d ∷ slots)

-- how many records an image has
abbrev pub touched_records_in : List Row → ℕ
touched_records_in [] = 0
touched_records_in (row ∷ rows) = 1

-- Of the slots that a unit touched at most 32 had a record before, and at most 32 have one now, as it changes at most 32
-- records.
pub record AreSlotsTouched (stores : List Stored) (slots : List Change) : Type 0 where
  pub each : AllByRecursion (IsSlotTouched stores) slots
  pub ascending : SlotsAscend slots
  pub few : length slots ≤ 64
  pub few_before : sum_by (λ c. touched_records_in c.before) slots ≤ 32
  pub few_now : sum_by (λ c. touched_records_in (image_in stores c.db c.slot)) slots ≤ 32

-- the units stand by their numbers
abbrev pub UnitsAscend : List OpenUnit → Type 0
UnitsAscend [] = Unit {0}
UnitsAscend (u ∷ units) = AllByRecursion (λ v. u.number < v.number) units × UnitsAscend units

pub record AreOpen (stores : List Stored) (units : List OpenUnit) : Type 0 where
  pub each : AllByRecursion (λ u. AreSlotsTouched stores u.work.now.slots) units
  pub ascending : UnitsAscend units
