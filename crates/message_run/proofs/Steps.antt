-- A region's work goes on as the trial does.
use Rattle.std.proofs.Common.{◌≡◌, ℕ, ◌+◌, ◌-◌, ◌<◌, ◌≤◌, Bool, true, false, List, [], ◌∷◌, ◌++◌, length, sym, ◌∙◌, ap, refl, subst, add-one, arith}
use Rattle.std.specs.Prelude.{Option, Some, None, IsSome, if◌then◌else◌, ◌&&◌, ◌==◌, All, replicate, slice_index_or}
use Rattle.std.specs.Option.{option_and_then}
use Rattle.std.proofs.lemmas.List.Elements.{All-nil, All-append, All-push, All-weaker}
use Rattle.tm_types.specs.declared.abend.AbendCode.{AbendCode}
use Rattle.tm_types.specs.declared.dbd.Dbd.{Dbd}
use Rattle.tm_types.specs.declared.resource.Resource.{Resource}
use Rattle.tm_types.specs.declared.status.Status.{Status}
use Rattle.model_system.specs.declared.need.CallText.{CallText}
use Rattle.model_system.specs.declared.need.Need.{Need}
use Rattle.model_system.specs.declared.need.Need.TheVariants.{Call}
use Rattle.model_system.specs.declared.program.ScriptLine.{ScriptLine}
use Rattle.model_system.specs.Script.{Answer, ScriptState, script_start, script_after, need_at, script_answered}
use Rattle.model_system.proofs.Settled.{script_after_append}
use Rattle.model_system.specs.declared.pcb.Pcb.{Pcb}
use Rattle.model_system.specs.Jobs.{Job}
use Rattle.model_system.specs.Pcbs.{pcb_at}
use Rattle.script_run.specs.RunningScript.{Running, HasTexts, answered_machine, waiting_told}
use Rattle.script_run.proofs.GoingOn.{answered_more, behind_is}
use Rattle.model_data.specs.declared.call.Position.{Position}
use Rattle.model_data.specs.Data.{Data, data_start, nowhere}
use Rattle.model_data.specs.declared.request.Request.{Request}
use Rattle.model_data.specs.Table.{EnqueueTable}
use Rattle.model_data.specs.EnqueueRequests.{after_asks, first_blocked}
use Rattle.model_messages.specs.MessageWork.{MessageWork, message_start}
use Rattle.seg_store.specs.Slots.{Stored}
use Rattle.program_rows.specs.DatabasesState.{DatabasesState, RegionRows, IsClean, committed_rows, rows_of_stores, dbds_of, data_of, no_rows}
use Rattle.program_rows.specs.CallAnswers.{told_blocked}
use Rattle.model_machine.specs.Trial.{Given, Trial, WorkEnd, Outcome, Advance, trial_start, trial_of, trial_need, advance, advance_by, called_in_trial, gone, trial_goes_on, is_get_unique, is_sync, unless_abend, call_outcome, outcome_at, Reached, pcb_reached, reached_by}
use Rattle.model_machine.specs.Trial.Advance.{Goes, Stops}
use Rattle.model_machine.specs.Trial.Reached.{Messages}
use Rattle.model_machine.specs.Trial.WorkEnd.{Syncs, Abends}
use Rattle.model_machine.specs.Requests.{asked_before, asked_behind, requests_at, requests_by, requests_of}
use Rattle.message_run.specs.RunState.{RunState, AreStanding, IsBetweenTurns}
use Rattle.message_run.specs.CallOutcomes.{AnswersCall, AreGranted, AreBlocked, outcome_of, requests_by_run}
use Rattle.message_run.specs.WorkAhead.{IsAhead, IsCallFree, IsHeld, IsStart, TrialGoesBy, StopsSo, WaitsFor, needs_before, needs_behind}
use Rattle.message_run.proofs.Holding.{asks_keep, asks_hold}
use Rattle.message_run.proofs.Standing.{all_nowhere}
use Rattle.model_data.specs.declared.row.Row.{Row}

pub stops_at : (sync : Bool) (rest : Advance) → sync ≡ true → (if sync then Stops Syncs else rest) ≡ Stops Syncs
stops_at true rest e = refl
stops_at false rest e = cc

goes_past : (sync : Bool) (rest : Advance) → sync ≡ false → (if sync then Stops Syncs else rest) ≡ rest
goes_past true rest e = cc
goes_past false rest e = refl

abends_so : (found : Option AbendCode) (abend : AbendCode) (rest : Advance) → found ≡ Some abend → unless_abend found rest ≡ Stops (Abends abend)
abends_so found abend rest e = ap (λ o. unless_abend o rest) e

abends_not : (found : Option AbendCode) (rest : Advance) → found ≡ None → unless_abend found rest ≡ rest
abends_not found rest e = ap (λ o. unless_abend o rest) e

-- the work on the call that a script needs, unless that is a further GU
abbrev target_of : Job → CallText → Reached
target_of job call = pcb_reached job.system.databases job.pcbs call.pcb

-- behind a call more, what it asked for is asked for
asked_next : (region : ℕ) (job : Job) (rows : List (List Row)) (given : Given) (calls : ℕ) (trial : Trial) → trial_of job rows given calls ≡ Some trial
    → asked_before region job rows given (calls + 1) ≡ asked_before region job rows given calls ++ requests_of region job trial
asked_next region job rows given calls trial made =
    ap (asked_before region job rows given) (add-one calls) ∙ ap (λ t. asked_before region job rows given calls ++ asked_behind region job t) made

needs_next : (job : Job) (rows : List (List Row)) (given : Given) (calls : ℕ) (trial : Trial) → trial_of job rows given calls ≡ Some trial
    → needs_before job rows given (calls + 1) ≡ needs_before job rows given calls ++ trial_need job trial ∷ []
needs_next job rows given calls trial made =
    ap (needs_before job rows given) (add-one calls) ∙ ap (λ t. needs_before job rows given calls ++ needs_behind job t) made

module _ (job : Job) (given : Given) (region : ℕ) (databases : DatabasesState) (run : RunState) (ahead : IsAhead job given region databases run) where
  abbrev rows : List (List Row)
  rows = committed_rows databases

  -- the trial asks for what the script's call asks for
  asks_are : (call : CallText) → need_at job.lines job.transaction.statement_limit run.machine.script ≡ Call call
      → requests_of region job ahead.trial ≡ requests_by_run (target_of job call) region databases run call
  asks_are call needs =
      ap (requests_by region job ahead.trial) (ap (need_at job.lines job.transaction.statement_limit) ahead.script ∙ needs)
      ∙ ap (λ d. requests_at region (target_of job call) d call) ahead.seen

  -- the texts of one call more
  texts_next : (after : DatabasesState) (need : Need) (calls : ℕ) → after.committed ≡ databases.committed → trial_need job ahead.trial ≡ need → HasTexts need
      → calls ≡ run.calls + 1 → All HasTexts (needs_before job (committed_rows after) given calls)
  texts_next after need calls committed needs texts count =
      subst (λ (ss : List Stored). All HasTexts (needs_before job (rows_of_stores ss) given calls)) (sym committed)
      (subst (All HasTexts) (sym (ap (needs_before job (committed_rows databases) given) count ∙ needs_next job (committed_rows databases) given run.calls ahead.trial ahead.made))
      (All-push HasTexts (needs_before job (committed_rows databases) given run.calls) (trial_need job ahead.trial) ahead.texts (subst HasTexts (sym needs) texts)))

  -- the trial needs what the script needs
  need_is : (need : Need) → need_at job.lines job.transaction.statement_limit run.machine.script ≡ need → trial_need job ahead.trial ≡ need
  need_is need needs = ap (need_at job.lines job.transaction.statement_limit) ahead.script ∙ needs

  free_of : (call : CallText) → need_at job.lines job.transaction.statement_limit run.machine.script ≡ Call call
      → first_blocked (requests_by_run (target_of job call) region databases run call) databases.table ≡ None
      → first_blocked (requests_of region job ahead.trial) databases.table ≡ None
  free_of call needs free = ap (λ rs. first_blocked rs databases.table) (asks_are call needs) ∙ free

  free_so : (call : CallText) (after : DatabasesState) → need_at job.lines job.transaction.statement_limit run.machine.script ≡ Call call
      → AreGranted region (requests_by_run (target_of job call) region databases run call) databases after → IsCallFree job region databases after ahead.trial
  free_so call after needs granted = record {
    free = free_of call needs granted.free;
    asked = granted.asked ∙ ap (λ rs. after_asks region rs databases.table) (sym (asks_are call needs));
  }

  -- what was asked for before is held on
  held_on : (after : DatabasesState) (requests : List Request) → after.committed ≡ databases.committed → after.table ≡ after_asks region requests databases.table
      → All (IsHeld after.table) (asked_before region job (committed_rows after) given run.calls)
  held_on after requests committed asked =
      subst (λ (t : EnqueueTable). All (IsHeld t) (asked_before region job (committed_rows after) given run.calls)) (sym asked)
      (subst (λ (ss : List Stored). All (IsHeld (after_asks region requests databases.table)) (asked_before region job (rows_of_stores ss) given run.calls)) (sym committed)
      (All-weaker (IsHeld databases.table) (IsHeld (after_asks region requests databases.table)) (asks_keep region requests databases.table)
      (asked_before region job (committed_rows databases) given run.calls) ahead.held))

  -- and so is what the call asked for
  held_next : (after : DatabasesState) (calls : ℕ) → after.committed ≡ databases.committed → IsCallFree job region databases after ahead.trial → calls ≡ run.calls + 1
      → All (IsHeld after.table) (asked_before region job (committed_rows after) given calls)
  held_next after calls committed granted count =
      let asked = requests_of region job ahead.trial in
      let table = after_asks region asked databases.table in
      subst (λ (t : EnqueueTable). All (IsHeld t) (asked_before region job (committed_rows after) given calls)) (sym granted.asked)
      (subst (λ (ss : List Stored). All (IsHeld table) (asked_before region job (rows_of_stores ss) given calls)) (sym committed)
      (subst (All (IsHeld table)) (sym (ap (asked_before region job (committed_rows databases) given) count ∙ asked_next region job (committed_rows databases) given run.calls ahead.trial ahead.made))
      (All-append (IsHeld table) (asked_before region job (committed_rows databases) given run.calls) asked
      (All-weaker (IsHeld databases.table) (IsHeld table) (asks_keep region asked databases.table) (asked_before region job (committed_rows databases) given run.calls) ahead.held)
      (asks_hold region asked databases.table granted.free))))

  -- the trial needs what the script needs
  advance_is : (need : Need) → need_at job.lines job.transaction.statement_limit run.machine.script ≡ need → advance job rows ahead.trial ≡ advance_by job rows ahead.trial need
  advance_is need needs =
      ap (advance_by job rows ahead.trial) (ap (need_at job.lines job.transaction.statement_limit) ahead.script ∙ needs)

  -- and its call comes to what the script's call comes to
  outcome_is : (call : CallText) → call_outcome job rows ahead.trial call ≡ outcome_of job.system (target_of job call) region databases run call
  outcome_is call =
      ap (λ w. outcome_at job.system rows (target_of job call) w ahead.trial.databases call) ahead.work
      ∙ ap (λ d. outcome_at job.system rows (target_of job call) run.work d call) ahead.seen

  -- the work on, once its region has asked for something
  same_ahead : (after : DatabasesState) (requests : List Request) → after.committed ≡ databases.committed → after.regions ≡ databases.regions
      → dbds_of after ≡ dbds_of databases → after.table ≡ after_asks region requests databases.table
      → IsAhead job given region after run
  same_ahead after requests committed regions dbds asked = record {
    trial = ahead.trial;
    made = ap (λ (ss : List Stored). trial_of job (rows_of_stores ss) given run.calls) committed ∙ ahead.made;
    limit = ahead.limit;
    script = ahead.script;
    work = ahead.work;
    seen =
        ahead.seen
        ∙ ap (λ (rs : List RegionRows). record { rows = (slice_index_or rs (region - 1) no_rows).rows; positions = run.positions; changed = (slice_index_or rs (region - 1) no_rows).changed }) (sym regions);
    held = held_on after requests committed asked;
    texts = subst (λ (ss : List Stored). All HasTexts (needs_before job (rows_of_stores ss) given run.calls)) (sym committed) ahead.texts;
    dbds = dbds ∙ ahead.dbds;
    standing = ahead.standing;
  }

  module _ (call : CallText) (needs : need_at job.lines job.transaction.statement_limit run.machine.script ≡ Call call) (further : is_sync run.work call ≡ false) where
    -- the call isn't a further GU, so the trial makes it
    makes : advance job rows ahead.trial ≡ called_in_trial ahead.trial call (call_outcome job rows ahead.trial call)
    makes =
        advance_is (Call call) needs
        ∙ goes_past (is_sync ahead.trial.work call) (called_in_trial ahead.trial call (call_outcome job rows ahead.trial call)) (ap (λ w. is_sync w call) ahead.work ∙ further)

    abended : (abend : AbendCode) → (outcome_of job.system (target_of job call) region databases run call).abend ≡ Some abend → advance job rows ahead.trial ≡ Stops (Abends abend)
    abended abend found =
        makes
        ∙ abends_so (call_outcome job rows ahead.trial call).abend abend (trial_goes_on ahead.trial call (call_outcome job rows ahead.trial call)) (ap (λ o. o.abend) (outcome_is call) ∙ found)

    abbrev next : Trial
    next = record {
      answers = ahead.trial.answers ++ (call_outcome job rows ahead.trial call).answer ∷ [];
      work = (call_outcome job rows ahead.trial call).work;
      databases = (call_outcome job rows ahead.trial call).databases;
    }

    script_next : (a : List Answer) (x y : Answer) → script_after job.lines job.transaction.statement_limit script_start a ≡ run.machine.script → x ≡ y
        → script_after job.lines job.transaction.statement_limit script_start (a ++ x ∷ []) ≡ script_answered job.lines job.transaction.statement_limit run.machine.script y
    script_next a x y here same =
        script_after_append job.lines job.transaction.statement_limit script_start a x
        ∙ ap (λ s. script_answered job.lines job.transaction.statement_limit s x) here
        ∙ ap (script_answered job.lines job.transaction.statement_limit run.machine.script) same

    made_next : (calls : ℕ) (goes : Goes next (record { function = call.function; pcb = call.pcb; status = (call_outcome job rows ahead.trial call).answer.status }) ≡ advance job rows ahead.trial)
        → calls ≡ run.calls + 1 → trial_of job rows given calls ≡ Some next
    made_next calls goes count =
        ap (trial_of job rows given) count
        ∙ rw (add-one run.calls) (ap (option_and_then (λ t. gone (advance job rows t))) ahead.made ∙ ap gone (sym goes))

    pub called_next : (after : DatabasesState) (new : RunState) (status : Status) → HasTexts (Call call)
        → new.calls ≡ run.calls + 1
        → new.machine.limit ≡ run.machine.limit
        → new.machine.script ≡ script_answered job.lines job.transaction.statement_limit run.machine.script (outcome_of job.system (target_of job call) region databases run call).answer
        → new.work ≡ (outcome_of job.system (target_of job call) region databases run call).work
        → data_of region after new.positions ≡ (outcome_of job.system (target_of job call) region databases run call).databases
        → status ≡ (outcome_of job.system (target_of job call) region databases run call).answer.status
        → (outcome_of job.system (target_of job call) region databases run call).abend ≡ None
        → AreGranted region (requests_by_run (target_of job call) region databases run call) databases after
        → after.committed ≡ databases.committed → dbds_of after ≡ dbds_of databases
        → AreStanding job.system.databases job.pcbs new.positions
        → TrialGoesBy job given region databases after ahead.trial run new (record { function = call.function; pcb = call.pcb; status = status })
    called_next after new status texts calls limited script work seen told goes_on granted committed dbds standing =
        let same = outcome_is call in
        let goes : advance job rows ahead.trial ≡ Goes next (record { function = call.function; pcb = call.pcb; status = (call_outcome job rows ahead.trial call).answer.status }) =
        makes ∙ abends_not (call_outcome job rows ahead.trial call).abend (trial_goes_on ahead.trial call (call_outcome job rows ahead.trial call)) (ap (λ (o : Outcome). o.abend) same ∙ goes_on) in
        record {
          calls = calls;
          free = free_so call after needs granted;
          ahead = record {
            trial = next;
            made = ap (λ stores. trial_of job (rows_of_stores stores) given new.calls) committed ∙ made_next new.calls (sym goes) calls;
            limit = limited ∙ ahead.limit;
            script =
                script_next ahead.trial.answers (call_outcome job rows ahead.trial call).answer (outcome_of job.system (target_of job call) region databases run call).answer ahead.script
                (ap (λ (o : Outcome). o.answer) same)
                ∙ sym script;
            work = ap (λ (o : Outcome). o.work) same ∙ sym work;
            seen = ap (λ (o : Outcome). o.databases) same ∙ sym seen;
            held = held_next after new.calls committed (free_so call after needs granted) calls;
            texts = texts_next after (Call call) new.calls committed (need_is (Call call) needs) texts calls;
            dbds = dbds ∙ ahead.dbds;
            standing = standing;
          };
          goes = goes ∙ ap (λ s. Goes next (record { function = call.function; pcb = call.pcb; status = s })) (ap (λ (o : Outcome). o.answer.status) same ∙ sym told);
        }

-- the databases at the start
data_started : (count region : ℕ) (databases : DatabasesState) (positions : List Position) → IsClean region databases → positions ≡ replicate count nowhere
    → data_start count (committed_rows databases) ≡ data_of region databases positions
data_started count region databases positions clean standing =
    λ i. record { rows = (sym clean.sees) i; positions = (sym standing) i; changed = (sym clean.changed) i }

-- the work begins at the trial without a call
pub start_is : (job : Job) (given : Given) (run : RunState)
    → run.calls ≡ 0 → run.machine.limit ≡ job.transaction.statement_limit → run.machine.script ≡ script_start
    → run.work ≡ message_start job.transaction given.message given.conversation job.pcbs → run.positions ≡ replicate (length job.pcbs) nowhere
    → IsStart job given run
start_is job given run calls limit script work standing = record {
  calls = calls;
  ahead = λ region databases clean dbds. record {
    trial = trial_start job (committed_rows databases) given;
    made = ap (trial_of job (committed_rows databases) given) calls;
    limit = limit;
    script = sym script;
    work = sym work;
    seen = data_started (length job.pcbs) region databases run.positions clean standing;
    held =
        subst (λ n. All (IsHeld databases.table) (asked_before region job (committed_rows databases) given n)) (sym calls) (All-nil (IsHeld databases.table));
    texts = subst (λ n. All HasTexts (needs_before job (committed_rows databases) given n)) (sym calls) (All-nil HasTexts);
    dbds = dbds;
    standing = all_nowhere job.system.databases job.pcbs run.positions standing;
  };
}

-- a further GU asks for nothing
by_pcb : (region : ℕ) (databases : List Dbd) (pcbs : List Pcb) (d : Data) (call : CallText) (first : Bool) → first ≡ true
    → requests_at region (if first then Messages else reached_by databases (pcb_at pcbs call.pcb)) d call ≡ []
by_pcb region databases pcbs d call true e = refl
by_pcb region databases pcbs d call false e = absurd (cc)

sync_asks : (region : ℕ) (databases : List Dbd) (pcbs : List Pcb) (work : MessageWork) (d : Data) (call : CallText) → is_sync work call ≡ true
    → requests_at region (pcb_reached databases pcbs call.pcb) d call ≡ []
sync_asks region databases pcbs work d call e = by_pcb region databases pcbs d call (call.pcb == 0) (middle work.begun (call.pcb == 0) (is_get_unique call.function) e)
  where
    middle : (a b c : Bool) → a && b && c ≡ true → b ≡ true
    middle true true c h = refl
    middle true false c h = h
    middle false b c h = absurd (cc)

module _ (job : Job) (given : Given) (region : ℕ) (databases : DatabasesState) (run : RunState) (ahead : IsAhead job given region databases run) (need : Need)
    (needs : need ≡ need_at job.lines run.machine.limit run.machine.script) where
  needed : need_at job.lines job.transaction.statement_limit run.machine.script ≡ need
  needed = ap (λ n. need_at job.lines n run.machine.script) (sym ahead.limit) ∙ sym needs

  pub trial_needs : trial_need job ahead.trial ≡ need
  trial_needs = ap (need_at job.lines job.transaction.statement_limit) ahead.script ∙ needed

  still_ahead : (new : RunState) → new ≡ run → IsAhead job given region databases new
  still_ahead new same = subst (IsAhead job given region databases) (sym same) ahead

  -- the trial stops where the script needs no call
  pub stops_so : (new : RunState) (end : WorkEnd) → new ≡ run → requests_by region job ahead.trial need ≡ [] → advance_by job (committed_rows databases) ahead.trial need ≡ Stops end
      → StopsSo job given region databases databases ahead.trial run new end
  stops_so new end same nothing ends = record {
    calls = ap (λ (r : RunState). r.calls) same;
    free = ap (λ rs. first_blocked rs databases.table) (ap (requests_by region job ahead.trial) trial_needs ∙ nothing);
    ahead = still_ahead new same;
    stops = advance_is job given region databases run ahead need needed ∙ ends;
  }

  -- and at a further GU
  pub syncs : (new : RunState) (call : CallText) → new ≡ run → need ≡ Call call → is_sync run.work call ≡ true → StopsSo job given region databases databases ahead.trial run new Syncs
  syncs new call same e further =
      stops_so new Syncs same
      (ap (requests_by region job ahead.trial) e ∙ sync_asks region job.system.databases job.pcbs run.work ahead.trial.databases call further)
      (ap (advance_by job (committed_rows databases) ahead.trial) e
      ∙ stops_at (is_sync ahead.trial.work call) (called_in_trial ahead.trial call (call_outcome job (committed_rows databases) ahead.trial call)) (ap (λ w. is_sync w call) ahead.work ∙ further))

  -- and at a call that leads to an abend
  pub abends : (new : RunState) (call : CallText) (abend : AbendCode) → new ≡ run → need ≡ Call call → is_sync run.work call ≡ false
      → first_blocked (requests_by_run (target_of job call) region databases run call) databases.table ≡ None
      → (outcome_of job.system (target_of job call) region databases run call).abend ≡ Some abend
      → StopsSo job given region databases databases ahead.trial run new (Abends abend)
  abends new call abend same e further free found = record {
    calls = ap (λ (r : RunState). r.calls) same;
    free = free_of job given region databases run ahead call (needed ∙ e) free;
    ahead = still_ahead new same;
    stops = abended job given region databases run ahead call (needed ∙ e) further abend found;
  }

  module _ (after : DatabasesState) (call : CallText) (e : need ≡ Call call) where
    -- and it waits where what the call asks for is blocked
    pub waits_for : (new : RunState) (resource : Resource) (by : ℕ) → new ≡ run
        → AreBlocked region (requests_by_run (target_of job call) region databases run call) databases after resource by
        → after.committed ≡ databases.committed → after.regions ≡ databases.regions → dbds_of after ≡ dbds_of databases
        → WaitsFor job given region databases after ahead.trial run new resource by
    waits_for new resource by same blocked committed regions dbds =
        let asks = asks_are job given region databases run ahead call (needed ∙ e) in
        let asked : after.table ≡ after_asks region (requests_of region job ahead.trial) databases.table = blocked.asked ∙ ap (λ rs. after_asks region rs databases.table) (sym asks) in
        record {
          calls = ap (λ (r : RunState). r.calls) same;
          blocked = ap (λ rs. told_blocked (first_blocked rs databases.table)) asks ∙ blocked.blocked;
          asked = asked;
          ahead =
              subst (IsAhead job given region after) (sym same)
              (same_ahead job given region databases run ahead after (requests_of region job ahead.trial) committed regions dbds asked);
        }

    -- and it goes on by any other call
    pub goes_by : (machine : Running) (new : RunState) (calls : ℕ) (status : Status) → HasTexts (Call call)
        → machine.limit ≡ run.machine.limit → machine.waiting ≡ waiting_told job.lines run.machine.limit run.machine.script → IsSome machine.waiting
        → is_sync run.work call ≡ false
        → calls ≡ run.calls + 1
        → AreGranted region (requests_by_run (target_of job call) region databases run call) databases after
        → AnswersCall region (outcome_of job.system (target_of job call) region databases run call) after (record run { machine = machine }) new status
        → after.committed ≡ databases.committed → dbds_of after ≡ dbds_of databases
        → AreStanding job.system.databases job.pcbs new.positions
        → TrialGoesBy job given region databases after ahead.trial run (record new { calls = calls }) (record { function = call.function; pcb = call.pcb; status = status })
    goes_by machine new calls status texts limited told waits further count granted answers committed dbds standing =
        let answer : Answer = (outcome_of job.system (target_of job call) region databases run call).answer in
        called_next job given region databases run ahead call (needed ∙ e) further after (record new { calls = calls }) status texts
        count
        (ap (λ m. m.limit) answers.machine ∙ limited)
        (ap (λ m. m.script) answers.machine
        ∙ behind_is job.lines run.machine.limit run.machine.script machine.script machine.waiting answer told waits
        ∙ ap (λ n. script_answered job.lines n run.machine.script answer) ahead.limit)
        answers.work answers.seen answers.told answers.goes_on granted committed dbds standing

-- a script that is where it was and doesn't wait
pub same_script : (old new : Running) → new.script ≡ old.script → new.limit ≡ old.limit → new.waiting ≡ None → old.waiting ≡ None → new ≡ old
same_script old new script limit rests rested = λ i. record { script = script i; limit = limit i; waiting = (rests ∙ sym rested) i }

-- the work whose script is where it was
pub still : (run old : RunState) (new : Running) → run ≡ old → new.script ≡ run.machine.script → new.limit ≡ run.machine.limit → new.waiting ≡ None → IsBetweenTurns old
    → record run { machine = new } ≡ run
still run old new is script limit rests rested =
    ap (λ (m : Running). record run { machine = m }) (same_script run.machine new script limit rests (ap (λ (r : RunState). r.machine.waiting) is ∙ rested.0))

-- and of one whose call is taken back
pub taken_back : (run old after : RunState) (asked back : Running) → run ≡ old → after ≡ record run { machine = asked } → asked.script ≡ run.machine.script
    → asked.limit ≡ run.machine.limit → back ≡ record after.machine { waiting = None } → IsBetweenTurns old → record after { machine = back } ≡ run
taken_back run old after asked back is same script limit backs rested =
    ap (λ (r : RunState). record r { machine = back }) same
    ∙ still run old back is (ap (λ (m : Running). m.script) backs ∙ ap (λ (r : RunState). r.machine.script) same ∙ script)
    (ap (λ (m : Running). m.limit) backs ∙ ap (λ (r : RunState). r.machine.limit) same ∙ limit) (ap (λ (m : Running). m.waiting) backs) rested

-- behind a call that was answered the script waits for nothing, and has executed a statement more
pub rests_on : (lines : List ScriptLine) (old : RunState) (machine new : Running) (answer : Answer) (calls : ℕ) → IsBetweenTurns old
    → machine.waiting ≡ waiting_told lines old.machine.limit old.machine.script → IsSome machine.waiting → new ≡ answered_machine machine answer → calls ≡ old.calls + 1
    → (new.waiting ≡ None) × (calls ≤ new.script.executed)
rests_on lines old machine new answer calls rests told waits is count =
    let more : old.machine.script.executed < (script_answered lines old.machine.limit old.machine.script answer).executed =
    answered_more lines old.machine.limit old.machine.script machine.waiting answer told waits in
    let there : new.script.executed ≡ (script_answered lines old.machine.limit old.machine.script answer).executed =
    ap (λ m. m.script.executed) is ∙ ap (λ (s : ScriptState). s.executed) (behind_is lines old.machine.limit old.machine.script machine.script machine.waiting answer told waits) in
    (ap (λ m. m.waiting) is, omega (arith, rests.1, more, there, count))
