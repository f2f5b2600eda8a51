-- What a call on the databases answers and leaves.
use Rattle.std.specs.Prelude.{◌≡◌, ℕ, ◌-◌, ◌≤◌, List, [], Option, None, Some, IfSome, length, slice_set}
use Rattle.tm_types.specs.declared.abend.AbendCode.{AbendCode}
use Rattle.tm_types.specs.Segment.{IsSegmentText}
use Rattle.tm_types.specs.declared.dbd.SegType.{SegType}
use Rattle.model_data.specs.Conditions.{IsPosition}
use Rattle.model_data.specs.Data.{with_changed_root}
use Rattle.model_data.specs.DatabaseCalls.{DliResult}
use Rattle.tm_types.specs.declared.resource.Resource.{Resource}
use Rattle.model_data.specs.declared.request.Request.{Request}
use Rattle.model_data.specs.Table.{EnqueueTable}
use Rattle.model_data.specs.EnqueueRequests.{after_asks, released}
use Rattle.program_rows.specs.Isolation.{AgreeOnHeld}
use Rattle.program_rows.specs.SlotsState.{slots_state_of, AreOnSlots, CommitsSo, GivesUpSo}
use Rattle.program_rows.specs.DatabasesState.{DatabasesState, RegionRows, region_at, committed_rows, clean_region, with_records_from}
use Rattle.program_rows.specs.declared.answer.Answered as answer
use Rattle.program_rows.specs.declared.answer.DataAnswer.{DataAnswer}
use Rattle.program_rows.specs.declared.answer.DataAnswer.TheVariants.{Answered, Abend, Blocked}

-- the abend to which a call led, if it led to one
abbrev pub answer_abend : DataAnswer → Option AbendCode
answer_abend (Answered a) = None
answer_abend (Abend code) = Some code
answer_abend (Blocked blocked) = None

-- an answer is that of the definition, and its data is the text of a segment
pub record IsAnswer (d : DliResult) (a : answer.Answered) : Type 0 where
  pub status : a.status ≡ d.status
  pub area : a.area ≡ d.area
  pub position : a.position ≡ d.position
  pub text : IfSome a.area IsSegmentText

abbrev pub GivesAnswer : DliResult → DataAnswer → Type 0
GivesAnswer d (Answered a) = IsAnswer d a
GivesAnswer d (Abend code) = Unit {0}
GivesAnswer d (Blocked blocked) = Unit {0}

-- an answered call leaves its PCB at a position of the database with these types
abbrev pub StandsInDatabase : List SegType → DataAnswer → Type 0
StandsInDatabase types (Answered a) = IsPosition types a.position
StandsInDatabase types (Abend code) = Unit {0}
StandsInDatabase types (Blocked blocked) = Unit {0}

-- the resource at which a call is blocked, and the region that blocks it
abbrev pub told_blocked : Option (Request × ℕ) → Option (Resource × ℕ)
told_blocked (Some blocked) = Some (blocked.0.resource, blocked.1)
told_blocked None = None

abbrev pub blocked_of : DataAnswer → Option (Resource × ℕ)
blocked_of (Blocked blocked) = Some (blocked.resource, blocked.by)
blocked_of (Answered a) = None
blocked_of (Abend code) = None

-- The call was not blocked, and leads to the abend that its definition gives, or to none.
abbrev pub LeadsToAbend : Option AbendCode → DataAnswer → Type 0
LeadsToAbend abend (Answered a) = abend ≡ None
LeadsToAbend abend (Abend code) = abend ≡ Some code
LeadsToAbend abend (Blocked blocked) = Unit {0}

-- what an answered call leaves of what its region sees: rows and changed records as its definition does
abbrev pub rows_after_call : ℕ → DliResult → RegionRows → RegionRows
rows_after_call number d region = record {
  rows = slice_set region.rows (number - 1) d.rows;
  changed = with_changed_root number d.changed region.changed;
}

-- What the regions see behind a call of one: the others see what they saw. A call that is blocked, or leads to
-- an abend, changes nothing for its region either, and so does one that gives data.
abbrev pub regions_after : ℕ → ℕ → DliResult → DatabasesState → DataAnswer → List RegionRows
regions_after region number d old (Answered a) = slice_set old.regions (region - 1) (rows_after_call number d (region_at region old))
regions_after region number d old (Abend code) = old.regions
regions_after region number d old (Blocked blocked) = old.regions

-- What a call leaves of what the regions hold and wait for: it has asked for what it needs. One that leads to an
-- abend asks for nothing.
abbrev pub table_left : ℕ → List Request → EnqueueTable → DataAnswer → EnqueueTable
table_left region requests table (Answered a) = after_asks region requests table
table_left region requests table (Abend code) = table
table_left region requests table (Blocked blocked) = after_asks region requests table

-- a call that leads to an abend changes nothing at all, and one that is blocked only what is asked for
abbrev pub StaysUnlessMade : DatabasesState → DatabasesState → DataAnswer → Type 0
StaysUnlessMade old new (Answered a) = Unit {0}
StaysUnlessMade old new (Abend code) = new ≡ old
StaysUnlessMade old new (Blocked blocked) = new ≡ record old { table = new.table }

-- the region has taken back all its changes
abbrev pub regions_backed : ℕ → DatabasesState → List RegionRows
regions_backed region old = slice_set old.regions (region - 1) (clean_region (committed_rows old))

-- What the work in another region sees once a region's changes stay: its own changed records as they were, all
-- others as they are committed now. In what is committed all that it holds is as before.
pub record IsBeside (other : ℕ) (old new : DatabasesState) : Type 0 where
  pub sees : region_at other new
      ≡ record { rows = with_records_from (region_at other old).changed (region_at other old).rows (committed_rows new); changed = (region_at other old).changed }
  pub held : AgreeOnHeld old.table other (committed_rows old) (committed_rows new)

-- The region's changes stay, each record in its slot: what it saw is committed, and it holds and waits for nothing
-- any more.
pub record IsCommitted (region : ℕ) (old new : DatabasesState) : Type 0 where
  pub stores : new.stores ≡ old.stores
  pub rows : committed_rows new ≡ (region_at region old).rows
  pub own : region_at region new ≡ clean_region (committed_rows new)
  pub count : length new.regions ≡ length old.regions
  pub others : (other : ℕ) → (other ≡ region → ⊥) → 1 ≤ other → other ≤ length old.regions → IsBeside other old new
  pub touched : new.touched ≡ slice_set old.touched (region - 1) []
  pub slots : CommitsSo region (slots_state_of old) (slots_state_of new)
  pub table : new.table ≡ released region old.table

-- The region's changes are taken back, and all that it holds and waits for is given up.
pub record IsGivenUp (region : ℕ) (old new : DatabasesState) : Type 0 where
  pub committed : new.committed ≡ old.committed
  pub regions : new.regions ≡ regions_backed region old
  pub touched : new.touched ≡ slice_set old.touched (region - 1) []
  pub slots : GivesUpSo region (slots_state_of old) (slots_state_of new)
  pub on_slots : AreOnSlots new
  pub table : new.table ≡ released region old.table
