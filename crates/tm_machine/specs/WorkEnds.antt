-- How the work of a region on a message ends.
use Rattle.std.specs.Prelude.{◌≡◌, ◌≤◌, ◌-◌, ℕ, List, Option, Some, None, IsSome, IsSomeAnd, length, slice_get}
use Rattle.model_messages.specs.Queue.{IsNewId, queued_at}
use Rattle.model_machine.specs.LastingSteps.{LastingStep}
use Rattle.model_machine.specs.LastingSteps.LastingStep.{Completes}
use Rattle.model_machine.specs.Trial.{WorkEnd}
use Rattle.model_machine.specs.Trial.Advance.{Stops}
use Rattle.model_machine.specs.Machine.{Slot, slot_at}
use Rattle.model_machine.specs.Requests.{blocked_now}
use Rattle.model_machine.specs.MachineCalls.{slot_work}
use Rattle.lasting_state.specs.RecordRanges.{HaveCounts}
use Rattle.program_rows.specs.DatabasesState.{AreRowsOf, IsRegionOf, committed_rows, dbds_of, region_at}
use Rattle.program_rows.specs.CallAnswers.{IsCommitted}
use Rattle.lasting_state.specs.Tables.{Applies, IsMessageClosed, TablesState}
use Rattle.region_work.specs.declared.region.Busy.{Busy}
use Rattle.region_work.specs.RegionWork.{SuitsUnit, outputs_by, pad_by}
use Rattle.tm_machine.specs.Parts.{PartsState}

-- a region's work on its message ends so, and nothing that it asks for is blocked
pub record SlotEnds (state : PartsState) (region : ℕ) (end : WorkEnd) (slot : Slot) : Type 0 where
  pub free : blocked_now state.system state.moment region slot ≡ None
  pub stops : IsSomeAnd (slot_work state.system state.moment.lasting slot) (λ work. work.advance ≡ Stops end)

abbrev pub EndsSo : PartsState → ℕ → WorkEnd → Type 0
EndsSo state region end = IsSomeAnd (slot_at state.moment region) (SlotEnds state region end)

-- so it is of the work that a region has
abbrev pub OfWork : List (Option Busy) → ℕ → (Busy → Type 0) → Type 0
OfWork regions region holds = (busy : Busy) → slice_get regions (region - 1) ≡ Some (Some busy) → holds busy

-- A region has work whose message is there, and its outputs have as many segments as records have room for.
pub record MayCompleteWork (tables : TablesState) (regions : List (Option Busy)) (region : ℕ) : Type 0 where
  pub busy : Busy
  pub works_on : slice_get regions (region - 1) ≡ Some (Some busy)
  pub defined : region ≤ length regions
  pub works : IsRegionOf tables.databases region
  pub found : IsSome (queued_at busy.id tables.queues.queued)
  pub counts : HaveCounts (outputs_by busy.unit)

-- the step that completes it
abbrev pub completion_of : ℕ → TablesState → Busy → LastingStep
completion_of region tables busy = Completes busy.id (region_at region tables.databases).rows (outputs_by busy.unit) (pad_by busy.unit)

-- It was completed, and its rows are committed.
pub record IsCompleted (region : ℕ) (busy : Busy) (tables tables' : TablesState) : Type 0 where
  pub above : IsNewId tables.next_id tables.queues.queued
  pub suits : SuitsUnit busy.unit (pad_by busy.unit)
  pub closed : IsMessageClosed tables'.databases (λ _. pad_by busy.unit) (λ _. outputs_by busy.unit) tables tables' busy.id
  pub applies : Applies (completion_of region tables busy) tables tables'
  pub committed : IsCommitted region tables.databases tables'.databases
  pub dbds : dbds_of tables'.databases ≡ dbds_of tables.databases
  pub rows : AreRowsOf (dbds_of tables'.databases) (committed_rows tables'.databases)
