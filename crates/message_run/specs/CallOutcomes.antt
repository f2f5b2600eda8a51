-- How a call of a script is answered, and what that leaves of the work.
use Rattle.std.specs.Prelude.{◌≡◌, ℕ, ◌-◌, ⊤, List, Some, None, length, replicate, slice_set}
use Rattle.model_system.specs.Script.{Answer}
use Rattle.model_system.specs.declared.need.CallText.{CallText}
use Rattle.model_system.specs.System.{System}
use Rattle.model_messages.specs.MessageWork.{MessageWork}
use Rattle.model_messages.specs.MessageCalls.{unique_answer, reset_work}
use Rattle.model_data.specs.Data.{nowhere}
use Rattle.model_data.specs.declared.request.Request.{Request}
use Rattle.model_data.specs.EnqueueRequests.{after_asks, first_blocked, waits_for_nothing}
use Rattle.model_machine.specs.Trial.{Reached, Outcome, outcome_at}
use Rattle.model_machine.specs.Requests.{requests_at}
use Rattle.script_run.specs.RunningScript.{answered_machine}
use Rattle.tm_types.specs.declared.resource.Resource.{Resource}
use Rattle.tm_types.specs.declared.status.Status.{Status}
use Rattle.program_rows.specs.CallAnswers.{told_blocked, regions_backed}
use Rattle.program_rows.specs.DatabasesState.{DatabasesState, committed_rows, data_of}
use Rattle.program_rows.specs.declared.answer.Answered.{Answered as DataAnswered}
use Rattle.message_run.specs.RunState.{RunState}
use Rattle.message_run.specs.declared.answer.CallEnd.{CallEnd}
use Rattle.message_run.specs.declared.answer.CallEnd.TheVariants.{Answered, Abended, Waits}

-- what a call comes to by what it reaches, where the work in a region has come so far
abbrev pub outcome_of : System → Reached → ℕ → DatabasesState → RunState → CallText → Outcome
outcome_of system target region databases run call =
    outcome_at system (committed_rows databases) target run.work (data_of region databases run.positions) call

-- what it asks for before it is made
abbrev pub requests_by_run : Reached → ℕ → DatabasesState → RunState → CallText → List Request
requests_by_run target region databases run call = requests_at region target (data_of region databases run.positions) call

-- A region asked for all this, and nothing of it is blocked.
pub record AreGranted (region : ℕ) (requests : List Request) (before after : DatabasesState) : Type 0 where
  pub free : first_blocked requests before.table ≡ None
  pub asked : after.table ≡ after_asks region requests before.table

-- A region asked for all this, and this of it is blocked.
pub record AreBlocked (region : ℕ) (requests : List Request) (before after : DatabasesState) (resource : Resource) (by : ℕ) : Type 0 where
  pub blocked : told_blocked (first_blocked requests before.table) ≡ Some (resource, by)
  pub asked : after.table ≡ after_asks region requests before.table

-- A call was answered: the script has the answer, and the work, the databases and the PCBs are as the
-- call leaves them.
pub record AnswersCall (region : ℕ) (outcome : Outcome) (after : DatabasesState) (old new : RunState) (status : Status) : Type 0 where
  pub calls : new.calls ≡ old.calls
  pub machine : new.machine ≡ answered_machine old.machine outcome.answer
  pub work : new.work ≡ outcome.work
  pub seen : data_of region after new.positions ≡ outcome.databases
  pub told : status ≡ outcome.answer.status
  pub goes_on : outcome.abend ≡ None

-- it was answered, and this is so of the status
abbrev pub IfAnswered : (Status → Type 0) → CallEnd → Type 0
IfAnswered P (Answered status) = P status
IfAnswered P (Abended abend) = ⊥
IfAnswered P (Waits resource by) = ⊥

-- A call was answered; or it leads to an abend, where nothing of what it needs is blocked and nothing changes;
-- or what it asks for is blocked, and it wasn't made. The databases before and after it come first.
abbrev pub CallComesTo : ℕ → List Request → Outcome → DatabasesState → DatabasesState → RunState → RunState → CallEnd → Type 0
CallComesTo region requests outcome before after old new (Answered status) =
    AreGranted region requests before after × AnswersCall region outcome after old new status
CallComesTo region requests outcome before after old new (Abended abend) =
    (first_blocked requests before.table ≡ None) × (new ≡ old) × (after ≡ before) × (outcome.abend ≡ Some abend)
CallComesTo region requests outcome before after old new (Waits resource by) =
    AreBlocked region requests before after resource by × (new ≡ old)

-- A call that leads to an abend leaves the databases as they are, and one that waits leaves all but what regions ask for.
abbrev pub StaysUnlessAnswered : DatabasesState → DatabasesState → CallEnd → Type 0
StaysUnlessAnswered before after (Answered status) = ⊤
StaysUnlessAnswered before after (Abended abend) = after ≡ before
StaysUnlessAnswered before after (Waits resource by) = after ≡ record before { table = after.table }

-- only a call that is answered tells anything
abbrev pub IsQuietUnlessAnswered : List ℕ → List ℕ → CallEnd → Type 0
IsQuietUnlessAnswered told now (Answered status) = ⊤
IsQuietUnlessAnswered told now (Abended abend) = now ≡ told
IsQuietUnlessAnswered told now (Waits resource by) = now ≡ told

-- The script was answered with this, and told its status, and the message's work is this one.
pub record ServesCall (answer : Answer) (work : MessageWork) (old new : RunState) (status : Status) : Type 0 where
  pub told : status ≡ answer.status
  pub state : new ≡ record old { machine = answered_machine old.machine answer; work = work }

-- The same at a ROLB, which leaves each PCB nowhere.
pub record RollsBack (old new : RunState) (status : Status) : Type 0 where
  pub told : status ≡ (unique_answer old.work).status
  pub state : new ≡ record {
    calls = old.calls;
    machine = answered_machine old.machine (unique_answer old.work);
    work = reset_work old.work;
    positions = replicate (length old.positions) nowhere;
  }

-- What a ROLB leaves of the databases too: what its region has changed is taken back, and it waits for nothing.
pub record IsRolled (region : ℕ) (before after : DatabasesState) (old new : RunState) (end : CallEnd) : Type 0 where
  pub rolls : IfAnswered (RollsBack old new) end
  pub regions : after.regions ≡ regions_backed region before
  pub table : after.table ≡ waits_for_nothing region before.table

-- the script was answered with what a call on a database gave, and the PCB stands where it then does
abbrev pub told_run : ℕ → DataAnswered → RunState → RunState
told_run pcb given run = record run {
  machine = answered_machine run.machine (record { status = given.status; area = given.area });
  positions = slice_set run.positions (pcb - 1) given.position;
}
