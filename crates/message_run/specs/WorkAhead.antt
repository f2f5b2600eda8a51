-- A region's work is what as many calls of its script, made from the start on the rows that are committed, lead
-- to, whatever other regions have changed meanwhile.
use Rattle.std.specs.Prelude.{◌≡◌, ℕ, zero, suc, ◌+◌, ◌-◌, ⊤, List, [], ◌∷◌, ◌++◌, All, IsTrue, Option, None, Some, slice_set}
use Rattle.tm_types.specs.declared.message.Message.{Message}
use Rattle.tm_types.specs.declared.resource.Resource.{Resource}
use Rattle.io_pcb.specs.Pads.{conversation_by}
use Rattle.model_data.specs.declared.row.Row.{Row}
use Rattle.model_system.specs.declared.need.Need.{Need}
use Rattle.script_run.specs.RunningScript.{HasTexts}
use Rattle.model_system.specs.Script.{script_start, script_after}
use Rattle.model_system.specs.Jobs.{Job}
use Rattle.model_machine.specs.Trial.{Given, Trial, WorkEnd, CalledWith, trial_of, trial_need, advance}
use Rattle.model_machine.specs.Trial.Advance.{Goes, Stops}
use Rattle.model_machine.specs.Trial.WorkEnd.{Ends, Syncs, Abends}
use Rattle.model_data.specs.Table.{EnqueueTable, is_request_served}
use Rattle.model_data.specs.EnqueueRequests.{after_asks, first_blocked}
use Rattle.model_data.specs.declared.request.Request.{Request}
use Rattle.model_machine.specs.Requests.{asked_before, requests_of}
use Rattle.program_rows.specs.CallAnswers.{told_blocked}
use Rattle.program_rows.specs.DatabasesState.{DatabasesState, IsClean, region_at, committed_rows, dbds_of, data_of}
use Rattle.message_run.specs.RunState.{RunState, AreStanding}
use Rattle.message_run.specs.declared.run.Advanced.{Advanced}
use Rattle.message_run.specs.declared.run.Advanced.TheVariants.{Called, Ended, Waits}
use Rattle.message_run.specs.declared.run.Ending.{Ending}
use Rattle.message_run.specs.declared.run.Ending.TheVariants.{End, Sync, Abend}

-- a message as it is given to its program with this pad: it belongs to a conversation of its code, or to none
-- where there is no pad
abbrev pub given_with : Message → Option (List ℕ) → Given
given_with message pad = record { message = message; conversation = conversation_by message.code pad }

-- a region holds what it asked for, in this mode or a stronger one
abbrev pub IsHeld : EnqueueTable → Request → Type 0
IsHeld table request = IsTrue (is_request_served request table.holds)

-- what the script needs behind so many calls, and all that it needed for them
abbrev pub needs_behind : Job → Option Trial → List Need
needs_behind job (Some trial) = trial_need job trial ∷ []
needs_behind job None = []

abbrev pub needs_before : Job → List (List Row) → Given → ℕ → List Need
needs_before job rows given zero = []
needs_before job rows given (suc calls) = needs_before job rows given calls ++ needs_behind job (trial_of job rows given calls)

-- The script stands where the answers to these calls lead it. The message's work is as these calls leave it, and
-- the region sees the databases as they have changed the rows that are committed. What they asked for the region holds, and their areas and keys are texts of segments.
pub record IsAhead (job : Job) (given : Given) (region : ℕ) (databases : DatabasesState) (run : RunState) : Type 0 where
  pub trial : Trial
  pub made : trial_of job (committed_rows databases) given run.calls ≡ Some trial
  pub limit : run.machine.limit ≡ job.transaction.statement_limit
  pub script : script_after job.lines job.transaction.statement_limit script_start trial.answers ≡ run.machine.script
  pub work : trial.work ≡ run.work
  pub seen : trial.databases ≡ data_of region databases run.positions
  pub held : All (IsHeld databases.table) (asked_before region job (committed_rows databases) given run.calls)
  pub texts : All HasTexts (needs_before job (committed_rows databases) given run.calls)
  pub dbds : dbds_of databases ≡ job.system.databases
  pub standing : AreStanding job.system.databases job.pcbs run.positions

-- the work whose script has made no call yet, in a region that has changed nothing
pub record IsStart (job : Job) (given : Given) (run : RunState) : Type 0 where
  pub calls : run.calls ≡ 0
  pub ahead : (region : ℕ) (databases : DatabasesState) → IsClean region databases → dbds_of databases ≡ job.system.databases
      → IsAhead job given region databases run

abbrev pub end_of : Ending → WorkEnd
end_of End = Ends
end_of Sync = Syncs
end_of (Abend abend) = Abends abend

-- What the script's next call needs was asked for, and nothing of it is blocked.
pub record IsCallFree (job : Job) (region : ℕ) (before after : DatabasesState) (trial : Trial) : Type 0 where
  pub free : first_blocked (requests_of region job trial) before.table ≡ None
  pub asked : after.table ≡ after_asks region (requests_of region job trial) before.table

-- The script's next call was made on the databases before, told, and answered with this status: the
-- trial goes on by that call.
pub record TrialGoesBy (job : Job) (given : Given) (region : ℕ) (before after : DatabasesState) (trial : Trial) (old new : RunState) (call : CalledWith) : Type 0 where
  pub calls : new.calls ≡ old.calls + 1
  pub free : IsCallFree job region before after trial
  pub ahead : IsAhead job given region after new
  pub goes : advance job (committed_rows before) trial ≡ Goes ahead.trial call

-- The work has ended: the trial stops so. The databases are as they were, and of what a call needs that led to
-- an abend nothing is blocked.
pub record StopsSo (job : Job) (given : Given) (region : ℕ) (before after : DatabasesState) (trial : Trial) (old new : RunState) (end : WorkEnd) : Type 0 where
  pub calls : new.calls ≡ old.calls
  pub free : first_blocked (requests_of region job trial) before.table ≡ None
  pub ahead : IsAhead job given region after new
  pub stops : advance job (committed_rows before) trial ≡ Stops end

-- What the script's next call needs was asked for, and this of it is blocked; the call wasn't made.
pub record WaitsFor (job : Job) (given : Given) (region : ℕ) (before after : DatabasesState) (trial : Trial) (old new : RunState) (resource : Resource) (by : ℕ) : Type 0 where
  pub calls : new.calls ≡ old.calls
  pub blocked : told_blocked (first_blocked (requests_of region job trial) before.table) ≡ Some (resource, by)
  pub asked : after.table ≡ after_asks region (requests_of region job trial) before.table
  pub ahead : IsAhead job given region after new

-- A region's next step behind a trial: its script's next call was made and answered, or the work has ended, or
-- the region waits. The databases before and after it come first, then the work before and after it.
abbrev pub Advances : Job → Given → ℕ → DatabasesState → DatabasesState → Trial → RunState → RunState → Advanced → Type 0
Advances job given region before after trial old new (Called function pcb status) =
    TrialGoesBy job given region before after trial old new (record { function = function; pcb = pcb; status = status })
Advances job given region before after trial old new (Ended ending) = StopsSo job given region before after trial old new (end_of ending)
Advances job given region before after trial old new (Waits resource by) = WaitsFor job given region before after trial old new resource by

-- The same, whatever the message on which the work has come so far.
abbrev pub WorkGoesOn : Job → ℕ → DatabasesState → DatabasesState → RunState → RunState → Advanced → Type 0
WorkGoesOn job region before after old new advanced =
    (given : Given) (ahead : IsAhead job given region before old) → Advances job given region before after ahead.trial old new advanced

-- The end of the work leaves the databases as they are, and a call that waits leaves all but what regions ask for.
abbrev pub StaysUnlessCalled : DatabasesState → DatabasesState → Advanced → Type 0
StaysUnlessCalled before after (Called function pcb status) = ⊤
StaysUnlessCalled before after (Ended ending) = after ≡ before
StaysUnlessCalled before after (Waits resource by) = after ≡ record before { table = after.table }

-- A region's step leaves what is committed, and what other regions see.
pub record StayOthers (region : ℕ) (before after : DatabasesState) : Type 0 where
  pub committed : after.committed ≡ before.committed
  pub dbds : dbds_of after ≡ dbds_of before
  pub regions : after.regions ≡ slice_set before.regions (region - 1) (region_at region after)
