-- A region's script goes on.
use Rattle.std.proofs.Common.{◌≡◌, ℕ, zero, suc, ◌+◌, ◌-◌, ◌≤◌, List, [], ◌∷◌, length, refl, sym, ap, ◌∙◌, subst, arith}
use Rattle.std.specs.Prelude.{Option, Some, None, IsSomeAnd, IfSome, slice_get, slice_set, unwrap_or}
use Rattle.std.specs.Option.{option_map, option_and_then}
use Rattle.tm_types.specs.declared.message.Message.{Message}
use Rattle.model_messages.specs.Queue.{queued_message, messages_of}
use Rattle.model_messages.proofs.Laws.{message_found}
use Rattle.model_system.specs.declared.code_state.CodeState.{CodeState}
use Rattle.model_system.specs.System.{System}
use Rattle.model_system.specs.Jobs.{Job, job_of}
use Rattle.model_machine.specs.Trial.{Given, Trial, trial_of}
use Rattle.model_machine.specs.Machine.{message_at as message_in, Moment, Slot}
use Rattle.model_machine.specs.Requests.{requests_of}
use Rattle.model_machine.specs.WorkSoFar.{slot_trial}
use Rattle.model_machine.specs.MachineCalls.{slot_work, work_by}
use Rattle.message_run.specs.declared.run.Advanced.{Advanced}
use Rattle.message_run.specs.declared.run.Advanced.TheVariants.{Called, Ended, Waits}
use Rattle.message_run.specs.WorkAhead.{IsAhead, Advances, StayOthers, StaysUnlessCalled}
use Rattle.program_rows.specs.DatabasesState.{DatabasesState, dbds_of, rows_of_stores}
use Rattle.lasting_state.specs.Tables.{TablesState, lasting_of}
use Rattle.region_work.specs.declared.region.Busy.{Busy}
use Rattle.region_work.specs.RegionWork.{given_in, IsWork, IsQueuedWork, SameMessage, WorkStepsOn, RegionSteps, SameWork}
use Rattle.tm_machine.specs.Parts.{work_slot, work_slots, settings_of, flags_of, AreParts}
use Rattle.tm_machine.proofs.Linked.{step_told, step_at_work, set_length, get_slots}
use Rattle.tm_machine.proofs.Others.{IsKeptBeside, are_beside, beside_same, beside_step, idle_at_work, own_requests, rows_stay, stay_at_work}
use Rattle.message_run.specs.RunState.{RunState}

-- what holds of some message holds of each that is found
found_all : (P : Message → Type 0) (found : Option Message) → IsSomeAnd found P → (m : Message) → found ≡ Some m → P m
found_all P (Some n) h m e = let here : n ≡ m = cc in subst P here h
found_all P None h m e = cc

-- a region that keeps its message, and whose work is right with these databases
abbrev pub Keeps : System → ℕ → TablesState → DatabasesState → Option Busy → Option Busy → Type 0
Keeps system region tables left None new = (new ≡ None) × (left ≡ tables.databases)
Keeps system region tables left (Some old) (Some new) =
    SameMessage old new × ((message : Message) → queued_message old.id tables.queues.queued ≡ Some message → IsWork system left region (given_in tables.conversations message) new)
    × IsKeptBeside region tables.databases left
Keeps system region tables left (Some old) None = ⊥

advanced_ahead : (job : Job) (given : Given) (region : ℕ) (databases left : DatabasesState) (trial : Trial) (old new : RunState) (advanced : Advanced)
    → Advances job given region databases left trial old new advanced → IsAhead job given region left new
advanced_ahead job given region databases left trial old new (Called function pcb status) h = h.ahead
advanced_ahead job given region databases left trial old new (Ended ending) h = h.ahead
advanced_ahead job given region databases left trial old new (Waits resource by) h = h.ahead

advanced_beside : (job : Job) (given : Given) (region : ℕ) (databases left : DatabasesState) (trial : Trial) (old new : RunState) (advanced : Advanced) → 1 ≤ region
    → StayOthers region databases left → StaysUnlessCalled databases left advanced
    → Advances job given region databases left trial old new advanced → IsKeptBeside region databases left
advanced_beside job given region databases left trial old new (Called function pcb status) positive others stays h =
    beside_step region databases left (requests_of region job trial) positive others (own_requests region job trial) h.free.asked
advanced_beside job given region databases left trial old new (Ended ending) positive others stays h = beside_same region databases left stays
advanced_beside job given region databases left trial old new (Waits resource by) positive others stays h =
    beside_step region databases left (requests_of region job trial) positive others (own_requests region job trial) h.asked

pub steps_keep : (system : System) (region : ℕ) (tables : TablesState) (left : DatabasesState) (old new : Option Busy) (advanced : Option Advanced) → 1 ≤ region
    → StayOthers region tables.databases left → IfSome advanced (StaysUnlessCalled tables.databases left)
    → RegionSteps system region tables left old new advanced → Keeps system region tables left old new
steps_keep system region tables left None new None positive others stays h = h
steps_keep system region tables left None new (Some advanced) positive others stays h = absurd h
steps_keep system region tables left (Some old) None None positive others stays h = absurd h
steps_keep system region tables left (Some old) None (Some advanced) positive others stays h = absurd h
steps_keep system region tables left (Some old) (Some new) None positive others stays h = absurd h
steps_keep system region tables left (Some old) (Some new) (Some advanced) positive others stays h =
    by (queued_message old.id tables.queues.queued) h
  where
    work : (given : Given) → WorkStepsOn system region tables.databases left given old new advanced → IsWork system left region given new
    work given s = record {
      job = s.steps.job;
      serves = ap (job_of system) s.same.code ∙ s.steps.serves;
      unit = rw s.is (advanced_ahead s.steps.job given region tables.databases left s.steps.ahead.trial s.before s.after advanced s.steps.advances);
    }

    by : (found : Option Message) → IsSomeAnd found (λ message. WorkStepsOn system region tables.databases left (given_in tables.conversations message) old new advanced)
        → SameMessage old new × ((message : Message) → found ≡ Some message → IsWork system left region (given_in tables.conversations message) new) × IsKeptBeside region tables.databases left
    by (Some m) s = (
      s.same,
      λ message e. let here : m ≡ message = cc in subst (λ n. IsWork system left region (given_in tables.conversations n) new) here (work (given_in tables.conversations m) s),
      advanced_beside s.steps.job (given_in tables.conversations m) region tables.databases left s.steps.ahead.trial s.before s.after advanced positive others stays s.steps.advances,
    )
    by None s = absurd s

pub same_keep : (system : System) (region : ℕ) (tables : TablesState) (left : DatabasesState) (old new : Option Busy) → left ≡ tables.databases → SameWork system region tables old new → Keeps system region tables left old new
same_keep system region tables left None new is h = absurd h
same_keep system region tables left (Some old) None is h = absurd h
same_keep system region tables left (Some old) (Some new) is h = (
  h.0,
  λ message e. subst (λ d. IsWork system d region (given_in tables.conversations message) new) (sym is) (found_all (λ m. IsWork system tables.databases region (given_in tables.conversations m) new) (queued_message new.id tables.queues.queued) h.2 message (ap (λ id. queued_message id tables.queues.queued) h.0.id ∙ e)),
  beside_same region tables.databases left is,
)

pub set_same : (regions : List (Option Busy)) (place : ℕ) (old : Option Busy) → slice_get regions place ≡ Some old → slice_set regions place old ≡ regions
set_same [] place old e = refl
set_same (r ∷ regions) zero old e = let here : r ≡ old = cc in ap (λ o. o ∷ regions) (sym here)
set_same (r ∷ regions) (suc place) old e = ap (λ rs. r ∷ rs) (set_same regions place old e)

module _ (system : System) (tables : TablesState) (states : List CodeState) (regions : List (Option Busy)) (region : ℕ)
    (parts : AreParts system tables states regions) where
  pub queued_work : 1 ≤ region → (old : Option Busy) → slice_get regions (region - 1) ≡ Some old → IfSome old (IsQueuedWork system tables region)
  queued_work positive None e = tt
  queued_work positive (Some busy) e =
      let work = parts.at_work (region - 1) busy e in
      let here : region - 1 + 1 ≡ region = omega (arith, positive) in
      rw (ap (option_map (λ q. q.message)) work.found) (subst (λ n. IsWork system tables.databases n (given_in tables.conversations work.message) busy) here work.work)

  pub parts_step : 1 ≤ region → (old new : Option Busy) (tables' : TablesState) → slice_get regions (region - 1) ≡ Some old
      → tables' ≡ record tables { databases = tables'.databases } → tables'.databases.committed ≡ tables.databases.committed → dbds_of tables'.databases ≡ dbds_of tables.databases → Keeps system region tables tables'.databases old new
      → AreParts system tables' states (slice_set regions (region - 1) new)
  parts_step positive None new tables' e is committed dbds h =
      rw h.0 (rw (set_same regions (region - 1) None e) (subst (λ t. AreParts system t states regions) (sym (is ∙ ap (λ d. record tables { databases = d }) h.1)) parts))
  parts_step positive (Some old) None tables' e is committed dbds h = absurd h
  parts_step positive (Some old) (Some new) tables' e is committed dbds h =
      subst (λ t. AreParts system t states (slice_set regions (region - 1) (Some new))) (sym is) (record {
        valid = parts.valid;
        limit = parts.limit;
        names = parts.names;
        regions_are = set_length regions (region - 1) (Some new) ∙ parts.regions_are;
        states_are = parts.states_are;
        settled = parts.settled;
        told = step_told tables.queues.queued regions (region - 1) old new e h.0.id parts.told;
        at_work = step_at_work system tables.databases tables'.databases tables.conversations tables.queues.queued regions (region - 1) old new e h.0.id
            (λ message found. subst (λ n. IsWork system tables'.databases n (given_in tables.conversations message) new) (sym here) (h.1 message found))
            (stay_at_work system parts.valid tables.databases tables'.databases regions region h.2 count positive)
            parts.at_work;
        conversations = parts.conversations;
        databases = are_beside system region tables.databases tables'.databases parts.databases h.2 dbds (rows_stay tables.databases tables'.databases committed dbds parts.databases.rows);
        idle = idle_at_work system parts.valid tables.databases tables'.databases regions region h.2 count positive new parts.idle;
      })
    where
      here : region - 1 + 1 ≡ region
      here = omega (arith, positive)

      count : length tables.databases.regions ≡ length regions
      count = parts.databases.regions ∙ sym parts.regions_are

  abbrev pub moment_at : List (Option Busy) → Moment
  moment_at rs = record { lasting = lasting_of (settings_of states) tables; slots = work_slots rs; enqueues = tables.databases.table; raised = flags_of states }

  pub slot_is : (old : Option Busy) → slice_get regions (region - 1) ≡ Some old → unwrap_or (slice_get (work_slots regions) (region - 1)) None ≡ work_slot old
  slot_is old e = ap (λ s. unwrap_or s None) (get_slots regions (region - 1) ∙ ap (option_map work_slot) e)

  -- what a region's calls give, by its message, and what comes behind them
  pub trial_is : (slot : Slot) (message : Message) (job : Job) (trial : Trial) → queued_message slot.id tables.queues.queued ≡ Some message → job_of system slot.code ≡ Some job
      → trial_of job (rows_of_stores tables.databases.committed) (given_in tables.conversations message) slot.calls ≡ Some trial
      → slot_trial system (lasting_of (settings_of states) tables) slot ≡ Some trial
  trial_is slot message job trial found serves made =
      ap (option_and_then (λ j. option_and_then (λ m. trial_of j (rows_of_stores tables.databases.committed) (given_in tables.conversations m) slot.calls) (message_in (messages_of tables.queues.queued) slot.id))) serves
      ∙ ap (option_and_then (λ m. trial_of job (rows_of_stores tables.databases.committed) (given_in tables.conversations m) slot.calls)) (message_found slot.id tables.queues.queued ∙ found)
      ∙ made

  pub work_is : (slot : Slot) (message : Message) (job : Job) (trial : Trial) → queued_message slot.id tables.queues.queued ≡ Some message → job_of system slot.code ≡ Some job
      → trial_of job (rows_of_stores tables.databases.committed) (given_in tables.conversations message) slot.calls ≡ Some trial
      → slot_work system (lasting_of (settings_of states) tables) slot ≡ Some (work_by job (lasting_of (settings_of states) tables) trial)
  work_is slot message job trial found serves made =
      ap (option_and_then (λ j. option_and_then (λ t. Some (work_by j (lasting_of (settings_of states) tables) t)) (slot_trial system (lasting_of (settings_of states) tables) slot))) serves
      ∙ ap (option_and_then (λ t. Some (work_by job (lasting_of (settings_of states) tables) t))) (trial_is slot message job trial found serves made)
