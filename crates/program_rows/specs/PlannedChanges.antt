-- What is made of the plan of a call that nothing blocks.
use Rattle.std.specs.Prelude.{◌≡◌, ◌<◌, ◌≤◌, ℕ, ◌-◌, true, false, List, Option, None, Some, IfSome, [], length, slice_get, slice_index_or, slice_set}
use Rattle.tm_types.specs.declared.abend.AbendCode.{AbendCode}
use Rattle.tm_types.specs.declared.dbd.Dbd.{Dbd}
use Rattle.model_data.specs.Rows.{record_of, IsImage}
use Rattle.model_data.specs.Data.{limit_abend_by}
use Rattle.model_data.specs.declared.request.Request.{Request}
use Rattle.model_data.specs.Table.{EnqueueTable}
use Rattle.model_data.specs.EnqueueRequests.{after_asks, first_blocked}
use Rattle.pi_enqueue.specs.KeptTable.{IsTableKept}
use Rattle.seg_rows.specs.RowsRefused.{set_refusal}
use Rattle.seg_store.specs.Slots.{Stored, AreSlots, rows_of_slots, slot_for, with_root}
use Rattle.unit_work.specs.declared.change.Change.{Change}
use Rattle.unit_work.specs.Changes.{AreSlotsInOrder, is_full, with_change, with_slot}
use Rattle.dli_calls.specs.declared.planned.Edit.{Edit}
use Rattle.dli_calls.specs.declared.planned.Planned.{Planned}
use Rattle.dli_calls.specs.CallPlan.{limit_of}
use Rattle.program_rows.specs.DatabasesState.{DatabasesState, roots_of, rows_of_stores, database_rows_in}
use Rattle.program_rows.specs.CallAnswers.{told_blocked}
use Rattle.log_records.specs.ToldRecords.{spelled_records}
use Rattle.program_rows.specs.ToldChanges.{set_told}
use Rattle.log_records.specs.declared.record.Record.{Record}
use Rattle.log_records.specs.declared.untold.Untold.{Untold}
use Rattle.log_records.specs.declared.untold.Untold.TheVariants.{Memory, Full}
use Rattle.unit_work.specs.Images.{slots_of_database}
use Rattle.unit_work.specs.Marks.{is_marked, AreMarked}
use Rattle.unit_work.specs.ToldChanges.{is_told_of}
use Rattle.seg_store.specs.ChangedSlots.{AllStores, slot_changed}
use Rattle.std.specs.List.{list_any}
use Rattle.program_rows.specs.OpenUnits.{unit_records_of, unit_slots_of, with_open_units, AreUnits, AllTouch}
use Rattle.program_rows.specs.declared.answer.Answered as answer
use Rattle.program_rows.specs.declared.answer.DataAnswer.{DataAnswer}
use Rattle.program_rows.specs.declared.answer.DataAnswer.TheVariants.{Answered, Abend, Blocked}
use Rattle.program_rows.specs.declared.asked.Asked.{Asked}
use Rattle.program_rows.specs.declared.opened.Opened.{Opened}

-- the databases with what is open, as they are seen
abbrev pub databases_opened : Opened → DatabasesState
databases_opened o = with_open_units (unit_records_of o.units.items) (unit_slots_of o.units.items) o.stores.stores o.stores.changed o.table

abbrev pub IsOpenedWhole : Opened → Type 0
IsOpenedWhole o = AreUnits (unit_records_of o.units.items) o.stores.stores o.table

-- and the slots that its units have touched
abbrev pub HasTouched : Opened → Type 0
HasTouched o = AllTouch (unit_records_of o.units.items) (unit_slots_of o.units.items) o.stores.stores o.table

-- the slots that are marked as changed are there
abbrev pub AreThere : AllStores → Type 0
AreThere all = (database slot : ℕ) → 1 ≤ database → is_marked all.changed database slot ≡ true → slot < length (slots_of_database database all.stores)

pub record IsUnitWhole (o : Opened) : Type 0 where
  pub units : IsOpenedWhole o
  pub touched : HasTouched o
  pub marks : AreThere o.stores

-- the records that a region has changed
abbrev pub changed_in : ℕ → Opened → List Change
changed_in region o = slice_index_or (unit_records_of o.units.items) (region - 1) []

-- the slots that a region has touched
abbrev pub region_slots_in : ℕ → Opened → List Change
region_slots_in region o = slice_index_or (unit_slots_of o.units.items) (region - 1) []

-- nothing has changed
pub record IsSame (old new : Opened) : Type 0 where
  pub units : unit_records_of new.units.items ≡ unit_records_of old.units.items
  pub slots : unit_slots_of new.units.items ≡ unit_slots_of old.units.items
  pub stores : new.stores.stores ≡ old.stores.stores
  pub changed : new.stores.changed ≡ old.stores.changed
  pub table : new.table ≡ old.table

-- the region waits at the first of these requests that is blocked
abbrev pub WaitsAt : List Request → EnqueueTable → DataAnswer → Type 0
WaitsAt requests table (Answered a) = ⊥
WaitsAt requests table (Abend code) = ⊥
WaitsAt requests table (Blocked b) = told_blocked (first_blocked requests table) ≡ Some (b.resource, b.by)

-- nothing of these requests is blocked, and the plan is answered
pub record ReadsAs (requests : List Request) (table : EnqueueTable) (p : Planned) (a : answer.Answered) : Type 0 where
  pub free : first_blocked requests table ≡ None
  pub status : a.status ≡ p.status
  pub area : a.area ≡ p.area
  pub position : a.position ≡ p.position

-- or the region waits
abbrev pub Reads : List Request → EnqueueTable → Planned → DataAnswer → Type 0
Reads requests table p (Answered a) = ReadsAs requests table p a
Reads requests table p (Abend code) = ⊥
Reads requests table p (Blocked b) = told_blocked (first_blocked requests table) ≡ Some (b.resource, b.by)

-- the record of an edit takes this slot, within the limits of the database
pub record TakesSlot (s : Stored) (e : Edit) (slot : ℕ) : Type 0 where
  pub valid : AreSlots s.dbd s.slots
  pub place : slot_for e.root s.slots ≡ Some slot
  pub image : IsImage s.dbd e.root e.image
  pub accepted : set_refusal s.dbd e.root e.image (rows_of_slots s.slots) ≡ None

-- the image in the record's slot is that of an edit
pub record IsPut (number : ℕ) (e : Edit) (old new : List Stored) : Type 0 where
  pub s : Stored
  pub t : Stored
  pub at : slice_get old (number - 1) ≡ Some s
  pub dbd : t.dbd ≡ s.dbd
  pub slots : t.slots ≡ with_root e.root e.image s.slots
  pub valid : AreSlots t.dbd t.slots
  pub stores : new ≡ slice_set old (number - 1) t

-- what is kept of a record that takes a slot of this store
abbrev pub change_kept : ℕ → ℕ → Edit → Stored → Change
change_kept number slot e s = record { db = number; slot = slot; root = e.root; before = record_of e.root (rows_of_slots s.slots) }

-- the region has asked for what a call needs
pub record HasAskedIn (asked : Asked) (old new : EnqueueTable) : Type 0 where
  pub table : new ≡ after_asks asked.region asked.requests.items old
  pub kept : IsTableKept new

-- the slot that is set, with the bytes there and those of the image
abbrev pub edit_told : ℕ → ℕ → Option Edit → List Stored → List Record
edit_told unit number (Some e) stores = set_told unit number e.image stores (slot_for e.root (slots_of_database number stores))
edit_told unit number None stores = []

-- No slot counts as changed then but the one that is told of, whatever the unit's number; and the slot that is set does, also where
-- it has the same again.
pub record MarksEdit (number : ℕ) (e : Edit) (old new : AllStores) : Type 0 where
  pub told : (unit : ℕ) → AreMarked (λ database slot. list_any (is_told_of database slot) (edit_told unit number (Some e) old.stores)) old new
  pub own : IfSome (slot_changed e.root e.image (slots_of_database number old.stores)) (λ slot. is_marked new.changed number slot ≡ true)

-- a record is set, and its image before kept; the region has asked for what that needs
pub record IsSet (asked : Asked) (e : Edit) (old new : Opened) : Type 0 where
  pub slot : ℕ
  pub put : IsPut asked.number e old.stores.stores new.stores.stores
  pub takes : TakesSlot put.s e slot
  pub room : is_full asked.number e.root (changed_in asked.region old) ≡ false
  pub units : unit_records_of new.units.items
      ≡ slice_set (unit_records_of old.units.items) (asked.region - 1) (with_change (change_kept asked.number slot e put.s) (changed_in asked.region old))
  pub slots : unit_slots_of new.units.items
      ≡ slice_set (unit_slots_of old.units.items) (asked.region - 1) (with_slot (change_kept asked.number slot e put.s) (region_slots_in asked.region old))
  pub order : AreSlotsInOrder (with_slot (change_kept asked.number slot e put.s) (region_slots_in asked.region old))
  pub marks : MarksEdit asked.number e old.stores new.stores
  pub asks : HasAskedIn asked old.table new.table

-- no record is set; the region has asked for what the call needs
pub record HasAsked (asked : Asked) (old new : Opened) : Type 0 where
  pub units : unit_records_of new.units.items ≡ unit_records_of old.units.items
  pub slots : unit_slots_of new.units.items ≡ unit_slots_of old.units.items
  pub stores : new.stores.stores ≡ old.stores.stores
  pub changed : new.stores.changed ≡ old.stores.changed
  pub asks : HasAskedIn asked old.table new.table

-- the abend to which an edit leads, if it leads to one
abbrev pub edit_abend : Asked → Dbd → Edit → Opened → Option AbendCode
edit_abend asked dbd e o =
    limit_abend_by asked.number (roots_of (changed_in asked.region o)) (Some e.root) (limit_of (set_refusal dbd e.root e.image (database_rows_in asked.number (rows_of_stores o.stores.stores))))

-- what an answered plan leaves
abbrev pub IsEdited : Asked → Dbd → Opened → Opened → Option Edit → Type 0
IsEdited asked dbd old new None = HasAsked asked old new
IsEdited asked dbd old new (Some e) = (edit_abend asked dbd e old ≡ None) × IsSet asked e old new

-- the plan is answered
pub record IsPlanMade (asked : Asked) (dbd : Dbd) (p : Planned) (old new : Opened) (a : answer.Answered) : Type 0 where
  pub status : a.status ≡ p.status
  pub area : a.area ≡ p.area
  pub position : a.position ≡ p.position
  pub edited : IsEdited asked dbd old new p.edit

-- or its edit leads to this abend
abbrev pub LeadsTo : Asked → Dbd → Opened → AbendCode → Option Edit → Type 0
LeadsTo asked dbd old code None = ⊥
LeadsTo asked dbd old code (Some e) = edit_abend asked dbd e old ≡ Some code

abbrev pub Makes : Asked → Dbd → Planned → Opened → Opened → DataAnswer → Type 0
Makes asked dbd p old new (Answered a) = IsPlanMade asked dbd p old new a
Makes asked dbd p old new (Abend code) = LeadsTo asked dbd old code p.edit × IsSame old new
Makes asked dbd p old new (Blocked b) = ⊥

-- the edit is made, or leads to an abend that changes nothing
abbrev pub EditMade : Asked → Edit → Opened → Opened → Option AbendCode → Type 0
EditMade asked e old new None = IsSet asked e old new
EditMade asked e old new (Some code) = IsSame old new

-- nothing where it leads to an abend
abbrev pub told_unless : Option AbendCode → List Record → List Record
told_unless None records = records
told_unless (Some code) records = []

abbrev pub made_told : ℕ → ℕ → Option Edit → List Stored → DataAnswer → List Record
made_told unit number edit stores (Answered a) = edit_told unit number edit stores
made_told unit number edit stores (Abend code) = []
made_told unit number edit stores (Blocked b) = []

-- the edit leads to no abend, and what is told of it is longer than the room for it, where that is the reason
abbrev pub planned_abend : Asked → Dbd → Option Edit → Opened → Option AbendCode
planned_abend asked dbd (Some e) o = edit_abend asked dbd e o
planned_abend asked dbd None o = None

abbrev pub IsUntoldEdit : Asked → Dbd → Option Edit → Opened → ℕ → ℕ → Untold → Type 0
IsUntoldEdit asked dbd edit o unit room Memory = Unit {0}
IsUntoldEdit asked dbd edit o unit room Full =
    (planned_abend asked dbd edit o ≡ None) × (room < length (spelled_records (edit_told unit asked.number edit o.stores.stores)))
