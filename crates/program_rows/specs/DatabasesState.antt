-- The databases, with the changes of the work on a message in each region.
use Rattle.std.specs.Prelude.{◌≡◌, ℕ, ◌-◌, ◌≤◌, List, [], ◌∷◌, Some, length, map, slice_get, slice_index_or, slice_set}
use Rattle.tm_types.specs.declared.dbd.Dbd.{Dbd}
use Rattle.tm_types.specs.SegTypes.{IsHierarchy}
use Rattle.model_data.specs.declared.row.Row.{Row}
use Rattle.model_data.specs.Rows.{AreRows, record_of, with_record}
use Rattle.model_data.specs.declared.call.Position.{Position}
use Rattle.model_data.specs.Data.{Data}
use Rattle.model_data.specs.Table.{EnqueueTable}
use Rattle.seg_store.specs.Slots.{Stored, rows_of_slots}
use Rattle.unit_work.specs.declared.change.Change.{Change}

-- what the work in a region sees: the rows of each database; and the records that it has changed, each once,
-- the number of its database and its root, in the order of their first changes
pub record RegionRows : Type 0 where
  pub rows : List (List Row)
  pub changed : List (ℕ × List ℕ)

-- The stores as they were committed, which backing out all regions would leave, slots included; the stores as
-- they are, with the changes of all regions; of each store the numbers of the slots that were changed since they were
-- written; what each region sees and has changed; the slots that each region has touched, by database and slot, each with
-- its first image and the root last touched in it; and what the regions hold and wait for.
pub record DatabasesState : Type 0 where
  pub committed : List Stored
  pub stores : List Stored
  pub changed : List (List ℕ)
  pub regions : List RegionRows
  pub touched : List (List Change)
  pub table : EnqueueTable

-- so with these slots that were changed since they were written
abbrev pub with_marks : List (List ℕ) → DatabasesState → DatabasesState
with_marks changed databases = record databases { changed = changed }

-- as they are once each changed slot is written
abbrev pub with_all_settled : DatabasesState → DatabasesState
with_all_settled databases = record databases { changed = map (λ numbers. []) databases.changed }

-- the records of these changes
abbrev pub roots_of : List Change → List (ℕ × List ℕ)
roots_of records = map (λ c. (c.db, c.root)) records

-- the databases' definitions
abbrev pub dbds_of : DatabasesState → List Dbd
dbds_of databases = map (λ s. s.dbd) databases.stores

-- the rows of each database
abbrev pub rows_of_stores : List Stored → List (List Row)
rows_of_stores stores = map (λ s. rows_of_slots s.slots) stores

-- the rows that are committed
abbrev pub committed_rows : DatabasesState → List (List Row)
committed_rows databases = rows_of_stores databases.committed

-- the rows of the database of this number, counted from 1
abbrev pub database_rows_in : ℕ → List (List Row) → List Row
database_rows_in number rows = slice_index_or rows (number - 1) []

-- the rows of each database are rows of it
pub record AreRowsOf (dbds : List Dbd) (rows : List (List Row)) : Type 0 where
  pub count : length rows ≡ length dbds
  pub types : (number : ℕ) (dbd : Dbd) → slice_get dbds (number - 1) ≡ Some dbd → IsHierarchy dbd.types
  pub each : (number : ℕ) (dbd : Dbd) → slice_get dbds (number - 1) ≡ Some dbd → AreRows dbd (database_rows_in number rows)

-- one record of the database of this number is as in the first rows, all else as in the second
abbrev pub with_record_from : ℕ → List ℕ → List (List Row) → List (List Row) → List (List Row)
with_record_from number root from to =
    slice_set to (number - 1) (with_record root (record_of root (database_rows_in number from)) (database_rows_in number to))

-- these records are as in the first rows, all others as in the second
abbrev pub with_records_from : List (ℕ × List ℕ) → List (List Row) → List (List Row) → List (List Row)
with_records_from [] from to = to
with_records_from (c ∷ changed) from to = with_record_from c.0 c.1 from (with_records_from changed from to)

-- regions are numbered from 1; one that isn't there sees nothing
abbrev pub no_rows : RegionRows
no_rows = record { rows = []; changed = [] }

abbrev pub region_at : ℕ → DatabasesState → RegionRows
region_at region databases = slice_index_or databases.regions (region - 1) no_rows

-- the slots that a region has touched since its last commit or back out
abbrev pub touched_by : ℕ → DatabasesState → List Change
touched_by region databases = slice_index_or databases.touched (region - 1) []

pub record IsRegionOf (databases : DatabasesState) (region : ℕ) : Type 0 where
  pub least : 1 ≤ region
  pub most : region ≤ length databases.regions

-- a region that has changed nothing sees what is committed
abbrev pub clean_region : List (List Row) → RegionRows
clean_region rows = record { rows = rows; changed = [] }

-- the rows of the database of this number, as a region sees them
abbrev pub rows_numbered : ℕ → ℕ → DatabasesState → List Row
rows_numbered region number databases = database_rows_in number (region_at region databases).rows

-- the databases as the definition of a call sees them, by a program in this region whose PCBs stand here
abbrev pub data_of : ℕ → DatabasesState → List Position → Data
data_of region databases positions =
    record { rows = (region_at region databases).rows; positions = positions; changed = (region_at region databases).changed }

-- the region has changed nothing since its last commit
pub record IsClean (region : ℕ) (databases : DatabasesState) : Type 0 where
  pub sees : (region_at region databases).rows ≡ committed_rows databases
  pub changed : (region_at region databases).changed ≡ []
