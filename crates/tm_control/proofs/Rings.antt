-- No ring of waiting regions stands after any call.
use Rattle.std.proofs.Common.{◌≡◌, ℕ, Bool, true, false, List, [], ◌∷◌, refl, sym, ap, subst}
use Rattle.std.specs.Prelude.{Option, Some, None, if◌then◌else◌, map, nat_lt}
use Rattle.std.specs.Option.{option_map_or}
use Rattle.model_data.specs.declared.need.Need.{Need as RootNeed}
use Rattle.model_data.specs.Data.{Data}
use Rattle.model_data.specs.declared.request.Request.{Request}
use Rattle.model_data.specs.declared.victim.Victim.{Victim}
use Rattle.model_data.specs.Table.{EnqueueTable, empty_table}
use Rattle.model_data.specs.Cycle.{after_victims}
use Rattle.model_system.specs.declared.need.CallText.{CallText}
use Rattle.model_system.specs.declared.need.Need.{Need}
use Rattle.model_system.specs.declared.need.Need.TheVariants.{Call, Ended, Abend}
use Rattle.model_system.specs.System.{System}
use Rattle.model_system.specs.Jobs.{Job, job_of}
use Rattle.model_machine.specs.declared.entry.ControlCall.{ControlCall}
use Rattle.model_machine.specs.declared.entry.ControlCall.TheVariants.{Input, Receive, Acknowledge, Turn, Command, Checkpoint, AskQuiet}
use Rattle.model_machine.specs.declared.entry.Entry.{Entry}
use Rattle.model_machine.specs.declared.entry.Turned.{Turned}
use Rattle.model_machine.specs.declared.entry.Turned.TheVariants.{Scheduled, Called, Next, QC, Done, Abended, Idle, Held, Waits, Backed}
use Rattle.model_machine.specs.Trial.{Reached, Trial, Advance, pcb_reached, trial_need}
use Rattle.model_machine.specs.Trial.Reached.{Messages, Rows, Nothing}
use Rattle.model_machine.specs.Trial.WorkEnd.{Ends, Syncs, Abends}
use Rattle.model_machine.specs.Trial.Advance.{Goes, Stops}
use Rattle.model_machine.specs.Machine.{LastingState, Moment, Slot, slot_at, start_of}
use Rattle.model_machine.specs.LastingSteps.{applied}
use Rattle.model_machine.specs.Pick.{Candidate}
use Rattle.model_machine.specs.WorkSoFar.{slot_trial}
use Rattle.model_machine.specs.Requests.{BreaksRingsAt, BreaksWhere, blocked_now, changes_now, request_for, requests_at, requests_by, requests_of, requests_on, slot_requests, table_after, table_by}
use Rattle.model_machine.specs.MachineCalls.{AtWork, blocked_answer, ending_step, enqueues_after, need_now, next_message, pick_now, schedule_answer, slot_answer, slot_work, sync_answer, turn_by, work_answer}
use Rattle.model_machine.specs.History.{AreSteps, AreVictims, after_entry, call_of, moment_after, victims_in}
use Rattle.pi_enqueue.proofs.Asking.{AreOf}
use Rattle.deadlock_pick.specs.NoCycles.{HasNoCycles}
use Rattle.deadlock_pick.proofs.Breaking.{broken_none, granted_none, released_none}

-- ---- a region's requests are its own
own_map : (region number : ℕ) (needs : List RootNeed) → AreOf region (map (request_for region number) needs)
own_map region number [] = tt
own_map region number (need ∷ needs) = (refl, own_map region number needs)

own_at : (region : ℕ) (target : Reached) (d : Data) (call : CallText) → AreOf region (requests_at region target d call)
own_at region Messages d call = tt
own_at region (Rows target) d call = own_map region target.number _
own_at region Nothing d call = tt

own_by : (region : ℕ) (job : Job) (trial : Trial) (need : Need) → AreOf region (requests_by region job trial need)
own_by region job trial (Call call) = own_at region (pcb_reached job.system.databases job.pcbs call.pcb) trial.databases call
own_by region job trial Ended = tt
own_by region job trial (Abend code) = tt

own_requests : (system : System) (lasting : LastingState) (region : ℕ) (slot : Slot) → AreOf region (slot_requests system lasting region slot)
own_requests system lasting region slot = by (job_of system slot.code)
  where
    on : (job : Job) (trial : Option Trial) → AreOf region (option_map_or (requests_of region job) trial [])
    on job None = tt
    on job (Some trial) = own_by region job trial (trial_need job trial)

    by : (job : Option Job) → AreOf region (option_map_or (requests_on system lasting region slot) job [])
    by None = tt
    by (Some job) = on job (slot_trial system lasting slot)

-- ---- a turn
-- an answer in which no region gave way leaves no ring
rings_after : (answer : Turned) (region : ℕ) (table : EnqueueTable) → ((victims : List Victim) → answer ≡ Backed victims → ⊥) → HasNoCycles table → HasNoCycles (table_after answer region table)
rings_after (Scheduled code id) region table other none = none
rings_after (Called function pcb status) region table other none = none
rings_after (Next code id next) region table other none = released_none region table none
rings_after (QC code id) region table other none = released_none region table none
rings_after (Done code id) region table other none = released_none region table none
rings_after (Abended code id abend) region table other none = released_none region table none
rings_after Idle region table other none = none
rings_after (Held need limit) region table other none = none
rings_after (Waits resource by) region table other none = none
rings_after (Backed victims) region table other none = absurd (other victims refl)

scheduled_other : (picked : Option Candidate) (need limit : ℕ) (victims : List Victim) → schedule_answer picked need limit ≡ Backed victims → ⊥
scheduled_other None need limit victims e = cc
scheduled_other (Some pick) need limit victims e = by (nat_lt limit need) e
  where
    by : (b : Bool) → (if b then Held need limit else Scheduled pick.code pick.id) ≡ Backed victims → ⊥
    by true f = cc
    by false f = cc

synced_other : (slot : Slot) (next : Option ℕ) (victims : List Victim) → sync_answer slot next ≡ Backed victims → ⊥
synced_other slot None victims e = cc
synced_other slot (Some next) victims e = cc

worked_other : (system : System) (moment : Moment) (slot : Slot) (trial : Trial) (advance : Advance) (victims : List Victim) → work_answer system moment slot trial advance ≡ Backed victims → ⊥
worked_other system moment slot trial (Goes after call) victims e = cc
worked_other system moment slot trial (Stops Ends) victims e = cc
worked_other system moment slot trial (Stops Syncs) victims e =
    synced_other slot (next_message system moment (applied (ending_step slot trial Syncs) moment.lasting) slot) victims e
worked_other system moment slot trial (Stops (Abends abend)) victims e = cc

slot_other : (system : System) (moment : Moment) (slot : Slot) (victims : List Victim) → slot_answer system moment slot ≡ Backed victims → ⊥
slot_other system moment slot victims = by (slot_work system moment.lasting slot)
  where
    by : (work : Option AtWork) → option_map_or (λ w. work_answer system moment slot w.trial w.advance) work Idle ≡ Backed victims → ⊥
    by None e = cc
    by (Some work) e = worked_other system moment slot work.trial work.advance victims e

blocked_table : (blocked : Request × ℕ) (victims : List Victim) (region : ℕ) (table : EnqueueTable) → table_after (blocked_answer blocked victims) region table ≡ after_victims victims table
blocked_table blocked [] region table = refl
blocked_table blocked (v ∷ victims) region table = refl

rings_slot : (system : System) (moment : Moment) (region : ℕ) (victims : List Victim) (slot : Slot) → BreaksWhere (changes_now system moment) region (table_by system moment region (Some slot)) victims (blocked_now system moment region slot)
    → HasNoCycles moment.enqueues
    → HasNoCycles (table_after (option_map_or (λ blocked. blocked_answer blocked victims) (blocked_now system moment region slot) (slot_answer system moment slot)) region (table_by system moment region (Some slot)))
rings_slot system moment region victims slot breaks none = by (blocked_now system moment region slot) refl breaks
  where
    own : AreOf region (slot_requests system moment.lasting region slot)
    own = own_requests system moment.lasting region slot

    by : (blocked : Option (Request × ℕ)) → blocked_now system moment region slot ≡ blocked → BreaksWhere (changes_now system moment) region (table_by system moment region (Some slot)) victims blocked
        → HasNoCycles (table_after (option_map_or (λ b. blocked_answer b victims) blocked (slot_answer system moment slot)) region (table_by system moment region (Some slot)))
    by None e h =
        rings_after (slot_answer system moment slot) region (table_by system moment region (Some slot)) (slot_other system moment slot)
        (granted_none region (slot_requests system moment.lasting region slot) moment.enqueues own e none)
    by (Some blocked) e h =
        subst HasNoCycles (sym (blocked_table blocked victims region (table_by system moment region (Some slot))))
        (broken_none (changes_now system moment) region (slot_requests system moment.lasting region slot) moment.enqueues victims own none h)

rings_turn : (system : System) (moment : Moment) (region : ℕ) (victims : List Victim) (slot : Option Slot) → BreaksRingsAt system moment region victims slot → slot_at moment region ≡ slot
    → HasNoCycles moment.enqueues → HasNoCycles (table_after (turn_by system moment region victims slot) region (table_by system moment region slot))
rings_turn system moment region victims None breaks here none =
    rings_after (schedule_answer (pick_now system moment region) (need_now moment) system.qbytes) region moment.enqueues (scheduled_other (pick_now system moment region) (need_now moment) system.qbytes) none
rings_turn system moment region victims (Some slot) breaks here none =
    rings_slot system moment region victims slot
    (subst (λ t. BreaksWhere (changes_now system moment) region t victims (blocked_now system moment region slot)) (ap (table_by system moment region) here) breaks) none

-- ---- any call
rings_call : (system : System) (moment : Moment) (call : ControlCall) (victims : List Victim) → AreVictims system moment victims call → HasNoCycles moment.enqueues → HasNoCycles (enqueues_after system moment call victims)
rings_call system moment (Input terminal number segments) victims h none = none
rings_call system moment (Receive terminal) victims h none = none
rings_call system moment (Acknowledge terminal number) victims h none = none
rings_call system moment (Turn region) victims h none = rings_turn system moment region victims (slot_at moment region) h refl none
rings_call system moment (Command command) victims h none = none
rings_call system moment (Checkpoint freeze) victims h none = none
rings_call system moment AskQuiet victims h none = none

rings_on : (system : System) (moment : Moment) (entries : List Entry) → AreSteps system moment entries → HasNoCycles moment.enqueues → HasNoCycles (moment_after system moment entries).enqueues
rings_on system moment [] steps none = none
rings_on system moment (entry ∷ entries) steps none =
    rings_on system (after_entry system moment entry) entries steps.1 (rings_call system moment (call_of entry) (victims_in entry) steps.0.victims none)

no_wait : false ≡ true → ⊥
no_wait e = cc

rings_start : (regions : ℕ) → HasNoCycles (empty_table regions)
rings_start regions region there [] ring = ring
rings_start regions region there (first ∷ []) ring = no_wait ring.1.waits
rings_start regions region there (first ∷ next ∷ others) ring = no_wait ring.1.waits.0

-- whatever the calls of a life were, no ring stands behind them
pub no_ring : (system : System) (opening : LastingState) (entries : List Entry) → AreSteps system (start_of system opening) entries → HasNoCycles (moment_after system (start_of system opening) entries).enqueues
no_ring system opening entries steps = rings_on system (start_of system opening) entries steps (rings_start _)
