-- The moment behind a step, by what lasts, the slots and the flags.
use Rattle.std.proofs.Common.{◌≡◌, ℕ, ◌-◌, List, [], refl, sym, ap, ◌∙◌}
use Rattle.std.specs.Prelude.{Option, Some, None, slice_set}
use Rattle.std.specs.Option.{option_map_or, option_and_then}
use Rattle.model_messages.specs.Queue.{free_count}
use Rattle.model_system.specs.declared.code_state.CodeState.{CodeState}
use Rattle.model_system.specs.System.{System}
use Rattle.model_machine.specs.declared.entry.ControlCall.TheVariants.{Turn}
use Rattle.model_machine.specs.declared.entry.Turned.{Turned}
use Rattle.model_machine.specs.declared.entry.Turned.TheVariants.{Idle}
use Rattle.model_machine.specs.Trial.{Advance, Trial}
use Rattle.model_system.specs.Jobs.{Job, job_of}
use Rattle.model_data.specs.declared.victim.Victim.{Victim}
use Rattle.model_data.specs.Table.{EnqueueTable}
use Rattle.model_machine.specs.WorkSoFar.{slot_trial}
use Rattle.model_machine.specs.Requests.{BreaksRingsAt, asked_table, blocked_now, requests_of, requests_on, slot_requests, table_after, table_by, without_victims}
use Rattle.model_machine.specs.Machine.{LastingState, Moment, Slot, slot_at, waiting_now, moment_with}
use Rattle.model_machine.specs.LastingSteps.{LastingStep, applied}
use Rattle.model_machine.specs.MachineCalls.{AtWork, After, blocked_answer, turn_answer, turn_by, turn_step, slot_after, slot_answer, slot_work, step_in_turn, unless_blocked, work_answer, ended_step}
use Rattle.model_machine.proofs.Flags.{now_same}
use Rattle.lasting_state.specs.Tables.{TablesState, lasting_of}
use Rattle.region_work.specs.declared.region.Busy.{Busy}
use Rattle.tm_machine.specs.Parts.{work_slots, settings_of, flags_of, AreHoldersTold, AreParts}
use Rattle.tm_machine.proofs.Linked.{free_count_is}
use Rattle.tm_machine.proofs.Raising.{IsFollowed, followed_none}

-- where the flags followed, the moment is the one that the machine makes
pub moment_is : (system : System) (lasting : LastingState) (slots : List (Option Slot)) (tables : TablesState) (states states' : List CodeState) (regions : List (Option Busy)) (table : EnqueueTable)
    → IsFollowed system (λ name. free_count name tables.queues.queued) states states' → AreHoldersTold (work_slots regions) tables.queues.queued
    → lasting_of (settings_of states) tables ≡ lasting → work_slots regions ≡ slots → tables.databases.table ≡ table
    → record { lasting = lasting_of (settings_of states') tables; slots = work_slots regions; enqueues = tables.databases.table; raised = flags_of states' } ≡ moment_with system lasting slots table (flags_of states)
moment_is system lasting slots tables states states' regions table follows told lasts slotted same =
    ap {B = Moment} (λ s. record { lasting = lasting_of s tables; slots = work_slots regions; enqueues = tables.databases.table; raised = flags_of states' }) follows.settings
    ∙ ap {B = Moment} (λ f. record { lasting = lasting_of (settings_of states) tables; slots = work_slots regions; enqueues = tables.databases.table; raised = f })
    (follows.flags ∙ now_same (λ name. free_count name tables.queues.queued) (waiting_now (lasting_of (settings_of states) tables) (work_slots regions)) system.codes (flags_of states)
    (λ name. sym (free_count_is name (work_slots regions) tables.queues.queued told)))
    ∙ ap (λ l. moment_with system l (work_slots regions) tables.databases.table (flags_of states)) lasts
    ∙ ap (λ ss. moment_with system lasting ss tables.databases.table (flags_of states)) slotted
    ∙ ap (λ t. moment_with system lasting slots t (flags_of states)) same

-- where nothing moved, the moment stays
pub moment_stays : (system : System) (tables : TablesState) (states : List CodeState) (regions : List (Option Busy)) → AreParts system tables states regions
    → record { lasting = lasting_of (settings_of states) tables; slots = work_slots regions; enqueues = tables.databases.table; raised = flags_of states }
    ≡ moment_with system (lasting_of (settings_of states) tables) (work_slots regions) tables.databases.table (flags_of states)
moment_stays system tables states regions parts =
    moment_is system (lasting_of (settings_of states) tables) (work_slots regions) tables states states regions tables.databases.table
    (followed_none system (λ name. free_count name tables.queues.queued) (λ name. free_count name tables.queues.queued) states parts.settled (λ name. refl)) parts.told refl refl refl

-- ---- turns
-- what a turn leaves, by the region's slot, the answer, the step, and the table once the region has asked
pub turn_leaves : (system : System) (moment : Moment) (region : ℕ) (victims : List Victim) (slot : Option Slot) (answer : Turned) (step : Option LastingStep) (table : EnqueueTable)
    → slot_at moment region ≡ slot → turn_answer system moment region victims ≡ answer
    → option_and_then (step_in_turn system moment region) slot ≡ step → table_by system moment region slot ≡ table
    → After system moment (Turn region) victims
    ≡ moment_with system (option_map_or (λ s. applied s moment.lasting) step moment.lasting) (without_victims victims (slice_set moment.slots (region - 1) (slot_after answer slot))) (table_after answer region table) moment.raised
turn_leaves system moment region victims slot answer step table here says does asked =
    ap (λ s. leaves s (turn_answer system moment region victims) (slot_at moment region) (asked_table system moment region)) (ap (option_and_then (step_in_turn system moment region)) here ∙ does)
    ∙ ap (λ a. leaves step a (slot_at moment region) (asked_table system moment region)) says
    ∙ ap (λ s. leaves step answer s (asked_table system moment region)) here
    ∙ ap (leaves step answer slot) (ap (table_by system moment region) here ∙ asked)
  where
    leaves : Option LastingStep → Turned → Option Slot → EnqueueTable → Moment
    leaves s a o t = moment_with system (option_map_or (λ s. applied s moment.lasting) s moment.lasting) (without_victims victims (slice_set moment.slots (region - 1) (slot_after a o))) (table_after a region t) moment.raised

-- what a region's next turn asks for, by its job and how far its calls have come
pub requests_are : (system : System) (lasting : LastingState) (region : ℕ) (slot : Slot) (job : Job) (trial : Trial)
    → job_of system slot.code ≡ Some job → slot_trial system lasting slot ≡ Some trial → slot_requests system lasting region slot ≡ requests_of region job trial
requests_are system lasting region slot job trial serves made =
    ap (λ j. option_map_or (requests_on system lasting region slot) j []) serves
    ∙ ap (λ t. option_map_or (requests_of region job) t []) made

-- a turn of a region at work that nothing blocks, by what comes behind its calls
pub turn_works : (system : System) (moment : Moment) (region : ℕ) (slot : Slot) (work : AtWork) (next : Advance) → slot_at moment region ≡ Some slot → blocked_now system moment region slot ≡ None
    → slot_work system moment.lasting slot ≡ Some work → work.advance ≡ next → turn_answer system moment region [] ≡ work_answer system moment slot work.trial next
turn_works system moment region slot work next here free works is =
    ap (turn_by system moment region []) here
    ∙ ap (λ b. option_map_or (λ blocked. blocked_answer blocked []) b (slot_answer system moment slot)) free
    ∙ ap (λ w. option_map_or (λ w. work_answer system moment slot w.trial w.advance) w Idle) works
    ∙ ap (work_answer system moment slot work.trial) is

pub turn_steps : (system : System) (moment : Moment) (region : ℕ) (slot : Slot) (work : AtWork) (next : Advance) → blocked_now system moment region slot ≡ None
    → slot_work system moment.lasting slot ≡ Some work → work.advance ≡ next → step_in_turn system moment region slot ≡ ended_step slot work.trial next
turn_steps system moment region slot work next free works is =
    ap (λ b. unless_blocked b (turn_step system moment.lasting slot)) free
    ∙ ap (option_and_then (λ w. ended_step slot w.trial w.advance)) works ∙ ap (ended_step slot work.trial) is

-- nobody gives way where nothing is blocked
pub nobody_breaks : (system : System) (moment : Moment) (region : ℕ) (slot : Slot) → slot_at moment region ≡ Some slot → blocked_now system moment region slot ≡ None
    → BreaksRingsAt system moment region [] (slot_at moment region)
nobody_breaks system moment region slot here free =
    rw here (rw free refl)
