-- What a call comes to, by the rows in a store.
use Rattle.std.specs.Prelude.{◌≡◌, ℕ, ◌-◌, List, Some, slice_get}
use Rattle.tm_types.specs.declared.dbd.Dbd.{Dbd}
use Rattle.model_data.specs.declared.call.DbCall.{DbCall}
use Rattle.model_data.specs.declared.call.Position.{Position}
use Rattle.model_data.specs.DatabaseCalls.{dli}
use Rattle.model_data.specs.Footprint.{footprint}
use Rattle.seg_store.specs.Slots.{Stored, rows_of_slots}
use Rattle.dli_calls.specs.declared.needed.NeededPlan.{NeededPlan}
use Rattle.dli_calls.specs.CallPlan.{IsThere, Plans}

-- the plan and its needs are those of the rows in the store of the database with this number
pub record IsPlannedIn (number : ℕ) (dbd : Dbd) (call : DbCall) (at : Position) (stores : List Stored) (p : NeededPlan) : Type 0 where
  pub store : Stored
  pub is_stored : slice_get stores (number - 1) ≡ Some store
  pub needs : p.needs ≡ footprint dbd call at (rows_of_slots store.slots)
  pub planned : Plans dbd (rows_of_slots store.slots) (dli dbd call at (rows_of_slots store.slots)) p.planned
  pub there : IsThere (rows_of_slots store.slots) p.planned.edit
