-- What a turn of a region that is at work comes to.
use Rattle.std.proofs.Common.{◌≡◌, ℕ, ◌+◌, ◌-◌, ◌≤◌, List, [], refl, sym, ap, ◌∙◌, subst}
use Rattle.std.specs.Prelude.{Option, Some, None, IsSomeAnd, Result, Ok, Err, IfOk, IfSome, OnOk, OnErr, slice_get, slice_set}
use Rattle.tm_types.specs.declared.message.Message.{Message}
use Rattle.model_messages.specs.Queue.{queued_message, free_count}
use Rattle.model_system.specs.declared.code_state.CodeState.{CodeState}
use Rattle.model_machine.specs.declared.lasting.CodeSetting.{CodeSetting}
use Rattle.model_system.specs.System.{System}
use Rattle.model_machine.specs.declared.entry.Turned.TheVariants.{Called as TurnCalled}
use Rattle.model_machine.specs.Trial.{Advance, trial_of}
use Rattle.model_data.specs.Table.{EnqueueTable}
use Rattle.model_data.specs.EnqueueRequests.{after_asks, first_blocked}
use Rattle.program_rows.specs.CallAnswers.{told_blocked}
use Rattle.model_machine.specs.Requests.{blocked_now, requests_of, slot_requests, table_by}
use Rattle.model_machine.specs.Trial.Advance.{Goes as TrialGoes}
use Rattle.model_machine.specs.Machine.{Moment, Slot, IsRegion, slot_at, moment_with, waiting_now}
use Rattle.model_machine.specs.MachineCalls.{AtWork, slot_work, turn_answer, work_by}
use Rattle.message_run.specs.declared.run.Advanced.{Advanced}
use Rattle.message_run.specs.declared.run.Advanced.TheVariants.{Called, Ended, Waits}
use Rattle.program_rows.specs.DatabasesState.{DatabasesState, rows_of_stores}
use Rattle.lasting_state.specs.Tables.{TablesState, lasting_of}
use Rattle.message_run.specs.WorkAhead.{Advances, StayOthers, StaysUnlessCalled}
use Rattle.region_work.specs.declared.region.Busy.{Busy}
use Rattle.region_work.specs.RegionWork.{given_in, SameMessage, WorkStepsOn, RegionSteps, SameWork, calls_made}
use Rattle.tm_machine.specs.Parts.{PartsState, work_slots, settings_of, flags_of, AreParts}
use Rattle.tm_machine.specs.Victims.{AreFlagsSettled}
use Rattle.tm_machine.specs.Turns.{RegionGoes}
use Rattle.model_machine.proofs.Flags.{now_same}
use Rattle.tm_machine.proofs.Linked.{free_count_is, set_slots, slot_told}
use Rattle.tm_machine.proofs.Leaving.{nobody_breaks, requests_are, turn_leaves, turn_works, turn_steps}
use Rattle.tm_machine.proofs.Stepped.{Keeps, steps_keep, same_keep, moment_at, slot_is, trial_is, work_is, set_same}

pub some_and : {X : Type 0} (P : X → Type 0) (o : Option X) (x : X) → o ≡ Some x → P x → IsSomeAnd o P
some_and P o x e h = rw e h

some-is : {X : Type 0} (a b : X) → Some a ≡ Some b → a ≡ b
some-is a b e = cc

-- what lasts stays while the work goes on
pub lasting_stays : (settings : List CodeSetting) (tables tables' : TablesState) → tables' ≡ record tables { databases = tables'.databases } → tables'.databases.committed ≡ tables.databases.committed
    → lasting_of settings tables' ≡ lasting_of settings tables
lasting_stays settings tables tables' is same =
    ap (lasting_of settings) is ∙ ap (λ c. record (lasting_of settings tables) { rows = rows_of_stores c }) same

module _ (system : System) (tables : TablesState) (states : List CodeState) (regions : List (Option Busy)) (region : ℕ)
    (parts : AreParts system tables states regions) (here : IsRegion system region) where
  abbrev moment_of : List (Option Busy) → Moment
  moment_of rs = moment_at system tables states regions region parts rs

  abbrev state_of : DatabasesState → List (Option Busy) → PartsState
  state_of left rs = record { system = system; moment = record (moment_of rs) { enqueues = left.table }; databases = left }

  abbrev slot_for : Busy → Slot
  slot_for busy = record { code = busy.code; taken = busy.taken; id = busy.id; calls = calls_made busy.unit }

  same_slots : (old new : Busy) → slice_get regions (region - 1) ≡ Some (Some old) → slot_for new ≡ slot_for old
      → work_slots (slice_set regions (region - 1) (Some new)) ≡ work_slots regions
  same_slots old new e same =
      set_slots regions (region - 1) (Some new) ∙ ap (λ s. slice_set (work_slots regions) (region - 1) (Some s)) same
      ∙ sym (set_slots regions (region - 1) (Some old)) ∙ ap work_slots (set_same regions (region - 1) (Some old) e)

  slot_same : (old new : Busy) (calls : ℕ) → SameMessage old new → calls_made new.unit ≡ calls
      → slot_for new ≡ record { code = old.code; taken = old.taken; id = old.id; calls = calls }
  slot_same old new calls same count =
      ap (λ c. record { code = c; taken = new.taken; id = new.id; calls = calls_made new.unit }) same.code
      ∙ ap (λ t. record { code = old.code; taken = t; id = new.id; calls = calls_made new.unit }) same.taken
      ∙ ap (λ i. record { code = old.code; taken = old.taken; id = i; calls = calls_made new.unit }) same.id
      ∙ ap (λ n. record { code = old.code; taken = old.taken; id = old.id; calls = n }) count

  -- a slot that keeps its message changes no flag
  slots_stay : (table : EnqueueTable) (slot : Slot) (old : Busy) → slice_get regions (region - 1) ≡ Some (Some old) → slot.id ≡ old.id
      → record (moment_of regions) { slots = slice_set (work_slots regions) (region - 1) (Some slot); enqueues = table }
      ≡ moment_with system (moment_of regions).lasting (slice_set (work_slots regions) (region - 1) (Some slot)) table (flags_of states)
  slots_stay table slot old e same =
      ap (λ f. record (moment_of regions) { slots = slice_set (work_slots regions) (region - 1) (Some slot); enqueues = table; raised = f })
      (sym parts.settled ∙ now_same (λ name. free_count name tables.queues.queued) (waiting_now (moment_of regions).lasting (slice_set (work_slots regions) (region - 1) (Some slot))) system.codes (flags_of states)
      (λ name. sym (free_count_is name (slice_set (work_slots regions) (region - 1) (Some slot)) tables.queues.queued
      (slot_told tables.queues.queued regions (region - 1) old slot e same parts.told))))

  settled_here : AreFlagsSettled (record { system = system; moment = moment_of regions; databases = tables.databases })
  settled_here =
      now_same (waiting_now (moment_of regions).lasting (work_slots regions)) (λ name. free_count name tables.queues.queued) system.codes (flags_of states)
      (λ name. free_count_is name (work_slots regions) tables.queues.queued parts.told)
      ∙ parts.settled

  module _ (left : DatabasesState) (old new : Busy) (message : Message) (advanced : Advanced) (e : slice_get regions (region - 1) ≡ Some (Some old))
      (found : queued_message old.id tables.queues.queued ≡ Some message) (s : WorkStepsOn system region tables.databases left (given_in tables.conversations message) old new advanced) where
    here_slot : slot_at (moment_of regions) region ≡ Some (slot_for old)
    here_slot = slot_is system tables states regions region parts (Some old) e

    made_here : trial_of s.steps.job (rows_of_stores tables.databases.committed) (given_in tables.conversations message) (calls_made old.unit) ≡ Some s.steps.ahead.trial
    made_here = subst (λ n. trial_of s.steps.job (rows_of_stores tables.databases.committed) (given_in tables.conversations message) n ≡ Some s.steps.ahead.trial) s.calls s.steps.ahead.made

    abbrev work_here : AtWork
    work_here = work_by s.steps.job (moment_of regions).lasting s.steps.ahead.trial

    works : slot_work system (moment_of regions).lasting (slot_for old) ≡ Some work_here
    works = work_is system tables states regions region parts (slot_for old) message s.steps.job s.steps.ahead.trial found s.steps.serves made_here

    asks : slot_requests system (moment_of regions).lasting region (slot_for old) ≡ requests_of region s.steps.job s.steps.ahead.trial
    asks = requests_are system (moment_of regions).lasting region (slot_for old) s.steps.job s.steps.ahead.trial s.steps.serves
        (trial_is system tables states regions region parts (slot_for old) message s.steps.job s.steps.ahead.trial found s.steps.serves made_here)

    blocked_is : blocked_now system (moment_of regions) region (slot_for old) ≡ first_blocked (requests_of region s.steps.job s.steps.ahead.trial) tables.databases.table
    blocked_is = ap (λ qs. first_blocked qs tables.databases.table) asks

    table_is : table_by system (moment_of regions) region (Some (slot_for old)) ≡ after_asks region (requests_of region s.steps.job s.steps.ahead.trial) tables.databases.table
    table_is = ap (λ qs. after_asks region qs tables.databases.table) asks

    stays_here : new.unit ≡ Some s.after → s.after.calls ≡ s.before.calls → work_slots (slice_set regions (region - 1) (Some new)) ≡ work_slots regions
    stays_here is calls = same_slots old new e (slot_same old new (calls_made old.unit) s.same (ap calls_made is ∙ calls ∙ s.calls))

    by : (a : Advanced) → StaysUnlessCalled tables.databases left a → Advances s.steps.job (given_in tables.conversations message) region tables.databases left s.steps.ahead.trial s.before s.after a
        → RegionGoes (record { system = system; moment = moment_of regions; databases = tables.databases }) (state_of left (slice_set regions (region - 1) (Some new))) region (Some a)
    by (Called function pcb status) stays a = record {
      victims = nobody_breaks system (moment_of regions) region (slot_for old) here_slot free;
      answer = sym answer;
      after =
          ap (λ ss. record (moment_of regions) { slots = ss; enqueues = left.table })
          (set_slots regions (region - 1) (Some new)
          ∙ ap (λ slot. slice_set (work_slots regions) (region - 1) (Some slot)) (slot_same old new (calls_made old.unit + 1) s.same (ap calls_made s.is ∙ a.calls ∙ ap (λ n. n + 1) s.calls)))
          ∙ slots_stay left.table (record (slot_for old) { calls = calls_made old.unit + 1 }) old e refl
          ∙ sym (turn_leaves system (moment_of regions) region [] (Some (slot_for old)) (TurnCalled function pcb status) None left.table here_slot answer
          (turn_steps system (moment_of regions) region (slot_for old) work_here next free works a.goes) (table_is ∙ sym a.free.asked));
      system = refl;
    }
      where
        next : Advance
        next = TrialGoes a.ahead.trial (record { function = function; pcb = pcb; status = status })

        free : blocked_now system (moment_of regions) region (slot_for old) ≡ None
        free = blocked_is ∙ a.free.free

        answer : turn_answer system (moment_of regions) region [] ≡ TurnCalled function pcb status
        answer = turn_works system (moment_of regions) region (slot_for old) work_here next here_slot free works a.goes
    by (Ended ending) stays a = (
      some_and _ (slot_at (moment_of regions) region) (slot_for old) here_slot (record {
        free = blocked_is ∙ a.free;
        stops = some_and _ (slot_work system (moment_of regions).lasting (slot_for old)) work_here works a.stops;
      }),
      ap (λ ss. record { system = system; moment = record (moment_of regions) { slots = ss; enqueues = left.table }; databases = left }) (stays_here s.is a.calls)
          ∙ ap (λ (d : DatabasesState). record { system = system; moment = record (moment_of regions) { enqueues = d.table }; databases = d }) stays,
    )
    by (Waits resource blocker) stays a = record {
      slot = slot_for old;
      here = here_slot;
      blocked = ap told_blocked blocked_is ∙ a.blocked;
      moment =
          ap (λ ss. record (moment_of regions) { slots = ss; enqueues = left.table }) (stays_here s.is a.calls)
          ∙ ap (λ t. record (moment_of regions) { enqueues = t }) (a.asked ∙ sym table_is ∙ sym (ap (table_by system (moment_of regions) region) here_slot));
      settled = settled_here;
      system = refl;
      databases = stays;
    }

  goes_by : (left : DatabasesState) (old new : Option Busy) (advanced : Option Advanced) → slice_get regions (region - 1) ≡ Some old
      → IfSome advanced (StaysUnlessCalled tables.databases left) → RegionSteps system region tables left old new advanced
      → RegionGoes (record { system = system; moment = moment_of regions; databases = tables.databases }) (state_of left (slice_set regions (region - 1) new)) region advanced
  goes_by left None new None e stays h = (
    slot_is system tables states regions region parts None e,
    ap (λ rs. record { system = system; moment = record (moment_of rs) { enqueues = left.table }; databases = left }) (ap (slice_set regions (region - 1)) h.0 ∙ set_same regions (region - 1) None e)
        ∙ ap (λ (d : DatabasesState). record { system = system; moment = record (moment_of regions) { enqueues = d.table }; databases = d }) h.1,
  )
  goes_by left None new (Some advanced) e stays h = absurd h
  goes_by left (Some old) None None e stays h = absurd h
  goes_by left (Some old) None (Some advanced) e stays h = absurd h
  goes_by left (Some old) (Some new) None e stays h = absurd h
  goes_by left (Some old) (Some new) (Some advanced) e stays h = by_found (queued_message old.id tables.queues.queued) refl h
    where
      by_found : (found : Option Message) → queued_message old.id tables.queues.queued ≡ found → IsSomeAnd found (λ message. WorkStepsOn system region tables.databases left (given_in tables.conversations message) old new advanced)
          → RegionGoes (record { system = system; moment = moment_of regions; databases = tables.databases }) (state_of left (slice_set regions (region - 1) (Some new))) region (Some advanced)
      by_found (Some message) f s = by left old new message advanced e f s advanced stays s.steps.advances
      by_found None f s = absurd s

  pub goes_is : (tables' : TablesState) (old new : Option Busy) (advanced : Option Advanced) → slice_get regions (region - 1) ≡ Some old
      → tables' ≡ record tables { databases = tables'.databases } → tables'.databases.committed ≡ tables.databases.committed → IfSome advanced (StaysUnlessCalled tables.databases tables'.databases)
      → RegionSteps system region tables tables'.databases old new advanced
      → RegionGoes (record { system = system; moment = moment_of regions; databases = tables.databases })
      (record { system = system; moment = record { lasting = lasting_of (settings_of states) tables'; slots = work_slots (slice_set regions (region - 1) new); enqueues = tables'.databases.table; raised = flags_of states }; databases = tables'.databases }) region advanced
  goes_is tables' old new advanced e is committed stays h =
      subst (λ l. RegionGoes (record { system = system; moment = moment_of regions; databases = tables.databases })
      (record { system = system; moment = record { lasting = l; slots = work_slots (slice_set regions (region - 1) new); enqueues = tables'.databases.table; raised = flags_of states }; databases = tables'.databases }) region advanced)
      (sym (lasting_stays (settings_of states) tables tables' is committed))
      (goes_by tables'.databases old new advanced e stays h)

  pub same_moment : (old new : Option Busy) → slice_get regions (region - 1) ≡ Some old → SameWork system region tables old new
      → work_slots (slice_set regions (region - 1) new) ≡ work_slots regions
  same_moment None new e h = absurd h
  same_moment (Some old) None e h = absurd h
  same_moment (Some old) (Some new) e h = same_slots old new e (slot_same old new (calls_made old.unit) h.0 h.1)

pub on_both : {X E : Type 0} {P Q : X → Type 0} {R : Type 0} (r : Result X E) → ((x : X) → P x → Q x → R) → IfOk r P → IfOk r Q → OnOk r R
on_both (Ok x) f h k = f x h k
on_both (Err e) f h k = tt

pub err_map : {X E : Type 0} {P Q : Type 0} (r : Result X E) → (P → Q) → OnErr r P → OnErr r Q
err_map (Ok x) f h = tt
err_map (Err e) f h = f h

pub err_map_2 : {X E : Type 0} {P Q R : Type 0} (r : Result X E) → (P → Q → R) → OnErr r P → OnErr r Q → OnErr r R
err_map_2 (Ok x) f h k = tt
err_map_2 (Err e) f h k = f h k

pub keeps_by : {E : Type 0} (system : System) (region : ℕ) (tables tables' : TablesState) (old new : Option Busy) (r : Result (Option Advanced) E) → 1 ≤ region
    → StayOthers region tables.databases tables'.databases → IfOk r (λ advanced. IfSome advanced (StaysUnlessCalled tables.databases tables'.databases))
    → IfOk r (RegionSteps system region tables tables'.databases old new) → OnErr r (SameWork system region tables old new) → OnErr r (tables' ≡ tables) → Keeps system region tables tables'.databases old new
keeps_by system region tables tables' old new (Ok advanced) positive others stays steps same kept = steps_keep system region tables tables'.databases old new advanced positive others stays steps
keeps_by system region tables tables' old new (Err e) positive others stays steps same kept = same_keep system region tables tables'.databases old new (ap (λ t. t.databases) kept) same

pub ok_both : {X E : Type 0} (P Q R : X → Type 0) (r : Result X E) → ((x : X) → P x → Q x → R x) → IfOk r P → IfOk r Q → IfOk r R
ok_both P Q R (Ok x) f h k = f x h k
ok_both P Q R (Err e) f h k = tt
