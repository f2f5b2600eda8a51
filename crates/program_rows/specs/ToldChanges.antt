-- What a step on the databases tells of the slots that it changes, on the state before it.
use Rattle.std.specs.Prelude.{◌≤◌, ℕ, ◌-◌, List, [], ◌∷◌, Option, None, Some, length, map, slice_set}
use Rattle.tm_types.specs.declared.abend.AbendCode.{AbendCode}
use Rattle.tm_types.specs.declared.dbd.Dbd.{Dbd}
use Rattle.model_data.specs.declared.row.Row.{Row}
use Rattle.model_data.specs.Record as rows
use Rattle.model_data.specs.Rows.{record_of}
use Rattle.model_data.specs.declared.call.DbCall.{DbCall}
use Rattle.model_data.specs.declared.call.Position.{Position}
use Rattle.model_data.specs.Data.{data_abend}
use Rattle.model_data.specs.DatabaseCalls.{DliResult, dli}
use Rattle.model_data.specs.declared.request.Request.{Request}
use Rattle.model_data.specs.EnqueueRequests.{first_blocked}
use Rattle.log_records.specs.declared.record.Record.{Record}
use Rattle.log_records.specs.declared.record.Record.TheVariants as told
use Rattle.seg_store.specs.Slots.{Stored, slot_for}
use Rattle.unit_work.specs.declared.change.Change.{Change}
use Rattle.unit_work.specs.Changes.{with_slot}
use Rattle.unit_work.specs.Images.{slots_of_database, image_at, image_bytes_at, IsSlotOf}
use Rattle.program_rows.specs.DatabasesState.{DatabasesState, data_of, rows_numbered, touched_by}
use Rattle.program_rows.specs.Isolation.{requests_of_call}
use Rattle.program_rows.specs.declared.answer.DataAnswer.{DataAnswer}
use Rattle.program_rows.specs.declared.answer.DataAnswer.TheVariants.{Answered, Abend, Blocked}

-- A record is set, in the slot that it has or takes: the bytes that stand there, and those of the image.
abbrev pub set_told : ℕ → ℕ → List Row → List Stored → Option ℕ → List Record
set_told unit number image stores (Some slot) = told.Change unit number slot (image_bytes_at number slot stores) (rows.rows_spelling image) ∷ []
set_told unit number image stores None = []

-- the record that a call changes, if it changes one, as the call leaves it
abbrev pub changed_told : ℕ → ℕ → Option (List ℕ) → List Row → List Stored → List Record
changed_told unit number (Some root) after stores = set_told unit number (record_of root after) stores (slot_for root (slots_of_database number stores))
changed_told unit number None after stores = []

-- a call that is blocked or leads to an abend tells nothing
abbrev pub unless_stopped : Option (Request × ℕ) → Option AbendCode → List Record → List Record
unless_stopped None None records = records
unless_stopped (Some blocked) abend records = []
unless_stopped None (Some code) records = []

-- What a unit's call tells of the database of this number, by a program in this region.
abbrev pub call_told : ℕ → ℕ → ℕ → Dbd → DbCall → Position → DatabasesState → List Record
call_told unit region number dbd call at old =
    let d = dli dbd call at (rows_numbered region number old) in
    unless_stopped (first_blocked (requests_of_call region number dbd call at old) old.table) (data_abend number (data_of region old []) d)
    (changed_told unit number d.changed d.rows old.stores)

-- What ROLB tells: of each slot that the unit has touched the image that it has, and the one that it had first.
abbrev pub back_out_told : ℕ → List Stored → Change → Record
back_out_told unit stores s = told.Change unit s.db s.slot (image_bytes_at s.db s.slot stores) (rows.rows_spelling s.before)

abbrev pub back_told : ℕ → ℕ → DatabasesState → List Record
back_told unit region old = map (back_out_told unit old.stores) (touched_by region old)

-- A touched slot is there, and both of its images are short enough for a record.
pub record IsToldable (stores : List Stored) (s : Change) : Type 0 where
  pub there : IsSlotOf stores s.db s.slot
  pub known : s.db ≤ length stores
  pub present : length (image_bytes_at s.db s.slot stores) ≤ 32000
  pub first : length (rows.rows_spelling s.before) ≤ 32000

-- ---- what a call touches

abbrev pub slot_touched : ℕ → List ℕ → List Stored → Option ℕ → List Change → List Change
slot_touched number root stores (Some slot) slots = with_slot (record { db = number; slot = slot; root = root; before = image_at number slot stores }) slots
slot_touched number root stores None slots = slots

abbrev pub changed_touched : ℕ → Option (List ℕ) → List Stored → List Change → List Change
changed_touched number (Some root) stores slots = slot_touched number root stores (slot_for root (slots_of_database number stores)) slots
changed_touched number None stores slots = slots

-- the slots that each region has touched, behind a call of one
abbrev pub touched_after : ℕ → ℕ → DliResult → DatabasesState → DataAnswer → List (List Change)
touched_after region number d old (Answered a) = slice_set old.touched (region - 1) (changed_touched number d.changed old.stores (touched_by region old))
touched_after region number d old (Abend code) = old.touched
touched_after region number d old (Blocked blocked) = old.touched
