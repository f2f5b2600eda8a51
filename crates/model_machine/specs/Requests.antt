-- What a region asks for before its script's next call is made, and what blocks it.
use Rattle.std.specs.Prelude.{◌≡◌, ℕ, zero, suc, ◌-◌, Option, Some, None, List, [], ◌∷◌, ◌++◌, map, length, slice_set}
use Rattle.std.specs.Option.{option_map_or}
use Rattle.model_data.specs.declared.row.Row.{Row}
use Rattle.model_system.specs.declared.need.CallText.{CallText}
use Rattle.model_system.specs.declared.need.Need.{Need}
use Rattle.model_system.specs.declared.need.Need.TheVariants.{Call, Ended, Abend}
use Rattle.model_system.specs.System.{System}
use Rattle.model_system.specs.Jobs.{Job, job_of}
use Rattle.model_data.specs.declared.need.Need.{Need as RootNeed}
use Rattle.model_data.specs.Data.{Data, rows_at, position_at}
use Rattle.model_data.specs.Footprint.{footprint}
use Rattle.model_data.specs.declared.request.Request.{Request}
use Rattle.model_data.specs.declared.victim.Victim.{Victim}
use Rattle.model_data.specs.Table.{EnqueueTable}
use Rattle.model_data.specs.EnqueueRequests.{after_asks, first_blocked, released}
use Rattle.model_data.specs.Cycle.{Breaks, after_victims}
use Rattle.model_machine.specs.declared.entry.Turned.{Turned}
use Rattle.model_machine.specs.declared.entry.Turned.TheVariants.{Scheduled, Called, Next, QC, Done, Abended, Idle, Held, Waits, Backed}
use Rattle.model_machine.specs.Trial.{DbPcb, Given, Reached, Trial, pcb_reached, db_call, trial_need, trial_of}
use Rattle.model_machine.specs.Trial.Reached.{Messages, Rows, Nothing}
use Rattle.model_machine.specs.Machine.{LastingState, Moment, Slot, slot_at}
use Rattle.model_machine.specs.WorkSoFar.{slot_trial}

-- a region asks for a record of a database, or for its sequence resource
abbrev pub request_for : ℕ → ℕ → RootNeed → Request
request_for region number need = record { region = region; resource = record { db = number; root = need.root }; mode = need.mode }

-- What a call on a database needs, as the region's own work sees the rows.
abbrev pub database_requests : ℕ → DbPcb → Data → CallText → List Request
database_requests region target d call =
    map (request_for region target.number) (footprint target.dbd (db_call target call) (position_at d call.pcb) (rows_at d target.number))

-- a call on messages needs nothing
abbrev pub requests_at : ℕ → Reached → Data → CallText → List Request
requests_at region Messages d call = []
requests_at region (Rows target) d call = database_requests region target d call
requests_at region Nothing d call = []

abbrev pub requests_by : ℕ → Job → Trial → Need → List Request
requests_by region job trial (Call call) = requests_at region (pcb_reached job.system.databases job.pcbs call.pcb) trial.databases call
requests_by region job trial Ended = []
requests_by region job trial (Abend code) = []

-- what the script's next call behind these calls needs
abbrev pub requests_of : ℕ → Job → Trial → List Request
requests_of region job trial = requests_by region job trial (trial_need job trial)

-- all that so many calls of a script asked for, made from its start
abbrev pub asked_behind : ℕ → Job → Option Trial → List Request
asked_behind region job (Some trial) = requests_of region job trial
asked_behind region job None = []

abbrev pub asked_before : ℕ → Job → List (List Row) → Given → ℕ → List Request
asked_before region job rows given zero = []
asked_before region job rows given (suc calls) =
    asked_before region job rows given calls ++ asked_behind region job (trial_of job rows given calls)

-- what a slot's region asks for in its next turn
abbrev pub requests_on : System → LastingState → ℕ → Slot → Job → List Request
requests_on system lasting region slot job = option_map_or (requests_of region job) (slot_trial system lasting slot) []

abbrev pub slot_requests : System → LastingState → ℕ → Slot → List Request
slot_requests system lasting region slot = option_map_or (requests_on system lasting region slot) (job_of system slot.code) []

-- the first of them that is blocked, with the region that blocks it
abbrev pub blocked_now : System → Moment → ℕ → Slot → Option (Request × ℕ)
blocked_now system moment region slot = first_blocked (slot_requests system moment.lasting region slot) moment.enqueues

-- the table once a region has asked for what its turn needs; one that is empty asks for nothing
abbrev pub table_by : System → Moment → ℕ → Option Slot → EnqueueTable
table_by system moment region (Some slot) = after_asks region (slot_requests system moment.lasting region slot) moment.enqueues
table_by system moment region None = moment.enqueues

abbrev pub asked_table : System → Moment → ℕ → EnqueueTable
asked_table system moment region = table_by system moment region (slot_at moment region)

-- how many records each region's work has changed
abbrev pub changes_by : System → LastingState → Option Slot → ℕ
changes_by system lasting (Some slot) = option_map_or (λ trial. length trial.databases.changed) (slot_trial system lasting slot) 0
changes_by system lasting None = 0

abbrev pub changes_now : System → Moment → List ℕ
changes_now system moment = map (changes_by system moment.lasting) moment.slots

-- Where a region's request is blocked, these victims are the right ones: none where its wait closes no
-- ring, and else one for each ring. Where none is blocked, nobody gives way.
abbrev pub BreaksWhere : List ℕ → ℕ → EnqueueTable → List Victim → Option (Request × ℕ) → Type 0
BreaksWhere changes region table victims (Some blocked) = Breaks changes region table victims
BreaksWhere changes region table victims None = victims ≡ []

abbrev pub BreaksRingsAt : System → Moment → ℕ → List Victim → Option Slot → Type 0
BreaksRingsAt system moment region victims (Some slot) =
    BreaksWhere (changes_now system moment) region (asked_table system moment region) victims (blocked_now system moment region slot)
BreaksRingsAt system moment region victims None = victims ≡ []

-- What a turn's answer leaves of the table in which the region has asked: victims hold and wait for nothing
-- any more, nor does a region whose work on its message has ended.
abbrev pub table_after : Turned → ℕ → EnqueueTable → EnqueueTable
table_after (Scheduled code id) region table = table
table_after (Called function pcb status) region table = table
table_after (Next code id next) region table = released region table
table_after (QC code id) region table = released region table
table_after (Done code id) region table = released region table
table_after (Abended code id abend) region table = released region table
table_after Idle region table = table
table_after (Held need limit) region table = table
table_after (Waits resource by) region table = table
table_after (Backed victims) region table = after_victims victims table

-- victims give up their messages, which keep their places
abbrev pub without_victims : List Victim → List (Option Slot) → List (Option Slot)
without_victims [] slots = slots
without_victims (v ∷ victims) slots = without_victims victims (slice_set slots (v.region - 1) None)
