-- A script's calls, made from its start on the rows that were committed and on those that are committed now.
use Rattle.std.proofs.Common.{◌≡◌, ℕ, ◌-◌, ◌≤◌, zero, suc, ◌∷◌, ◌++◌, [], List, length, refl, sym, ◌∙◌, ap, subst, arith, Bool, true, false, cond, eqb}
use Rattle.std.specs.Prelude.{Option, Some, None, All, ◌==◌, if◌then◌else◌, slice_get, replicate}
use Rattle.std.specs.Option.{option_and_then, option_map_or}
use Rattle.std.proofs.lemmas.Bool.{false≢true, eq-eqb}
use Rattle.std.proofs.lemmas.List.Elements.{All-nil, All-cons, All-head, All-tail}
use Rattle.tm_types.specs.declared.abend.AbendCode.{AbendCode}
use Rattle.tm_types.specs.declared.dbd.Dbd.{Dbd}
use Rattle.tm_types.specs.declared.function.Function.{Function}
use Rattle.tm_types.specs.declared.function.Function.TheVariants.{GU, GN, GNP, GHU, GHN, GHNP, ISRT, REPL, DLET, PURG, CHNG, ROLB, ROLL}
use Rattle.tm_types.specs.Segment.{IsSegmentText}
use Rattle.model_data.specs.declared.row.Row.{Row}
use Rattle.model_system.specs.declared.need.CallText.{CallText}
use Rattle.model_system.specs.declared.need.Need.{Need}
use Rattle.model_system.specs.declared.need.Need.TheVariants.{Call, Ended, Abend}
use Rattle.model_system.specs.Script.{script_after, script_start}
use Rattle.script_run.specs.RunningScript.{HasTexts}
use Rattle.model_system.specs.declared.pcb.Pcb.{Pcb}
use Rattle.model_system.specs.declared.pcb.Pcb.TheVariants.{Database, Destination, Modifiable}
use Rattle.model_system.specs.Jobs.{Job}
use Rattle.model_data.specs.Conditions.{IsDbCall}
use Rattle.model_data.specs.Data.{Data, data_start, nowhere}
use Rattle.model_data.specs.Table.{EnqueueTable}
use Rattle.model_machine.specs.Trial.{Given, Reached, Trial, Outcome, advance, advance_by, call_outcome, called_in_trial, db_call, gone, trial_goes_on, is_sync, outcome_at, pcb_reached, reached_by, rolled_back, trial_need, trial_of, trial_start, unless_abend}
use Rattle.model_machine.specs.Trial.Advance.{Stops}
use Rattle.model_machine.specs.Trial.Reached.{Messages, Rows, Nothing}
use Rattle.model_machine.specs.Trial.WorkEnd.{Syncs}
use Rattle.model_machine.specs.Requests.{asked_before, asked_behind, requests_at, requests_by, requests_of}
use Rattle.system_types.specs.ValidSystem.{IsServable}
use Rattle.program_rows.specs.DatabasesState.{AreRowsOf}
use Rattle.program_rows.specs.Isolation.{AgreeOnHeld}
use Rattle.message_run.specs.WorkAhead.{IsHeld, needs_before, needs_behind}
use Rattle.message_run.specs.RunState.{IsCallBy, IsCallOf}
use Rattle.message_run.proofs.Calls.{is_call}
use Rattle.message_run.proofs.Database.{is_db_call}
use Rattle.message_run.proofs.Standing.{all_nowhere}
use Rattle.message_run.proofs.Calling.{StandOn, over, agrees, same_abend, same_after, same_answer, same_requests, still_stands}

-- ---- the start, and calls on messages
start_stands : (dbds : List Dbd) (pcbs : List Pcb) (a b : List (List Row)) (count : ℕ) → AreRowsOf dbds a → AreRowsOf dbds b → count ≡ length pcbs
    → StandOn dbds pcbs a b (data_start count a)
start_stands dbds pcbs a b count rows_a rows_b all = record {
  own = refl;
  rows = rows_a;
  rows_over = rows_b;
  standing = all_nowhere dbds pcbs (replicate count nowhere) (ap (λ n. replicate n nowhere) all);
}

rolled_over : (function : Function) (a b : List (List Row)) (d : Data) → rolled_back b function (over b d) ≡ over b (rolled_back a function d)
rolled_over GU a b d = refl
rolled_over GN a b d = refl
rolled_over GNP a b d = refl
rolled_over GHU a b d = refl
rolled_over GHN a b d = refl
rolled_over GHNP a b d = refl
rolled_over ISRT a b d = refl
rolled_over REPL a b d = refl
rolled_over DLET a b d = refl
rolled_over PURG a b d = refl
rolled_over CHNG a b d = refl
rolled_over ROLB a b d = refl
rolled_over ROLL a b d = refl

rolled_stands : (function : Function) (dbds : List Dbd) (pcbs : List Pcb) (a b : List (List Row)) (d : Data) → AreRowsOf dbds a → AreRowsOf dbds b → StandOn dbds pcbs a b d
    → StandOn dbds pcbs a b (rolled_back a function d)
rolled_stands GU dbds pcbs a b d rows_a rows_b stand = stand
rolled_stands GN dbds pcbs a b d rows_a rows_b stand = stand
rolled_stands GNP dbds pcbs a b d rows_a rows_b stand = stand
rolled_stands GHU dbds pcbs a b d rows_a rows_b stand = stand
rolled_stands GHN dbds pcbs a b d rows_a rows_b stand = stand
rolled_stands GHNP dbds pcbs a b d rows_a rows_b stand = stand
rolled_stands ISRT dbds pcbs a b d rows_a rows_b stand = stand
rolled_stands REPL dbds pcbs a b d rows_a rows_b stand = stand
rolled_stands DLET dbds pcbs a b d rows_a rows_b stand = stand
rolled_stands PURG dbds pcbs a b d rows_a rows_b stand = stand
rolled_stands CHNG dbds pcbs a b d rows_a rows_b stand = stand
rolled_stands ROLB dbds pcbs a b d rows_a rows_b stand = start_stands dbds pcbs a b (length d.positions) rows_a rows_b stand.standing.count
rolled_stands ROLL dbds pcbs a b d rows_a rows_b stand = stand

-- ---- what a call reaches
-- what holds of a call by what it reaches
abbrev ReachedSo : List Dbd → List Pcb → CallText → Reached → Type 0
ReachedSo dbds pcbs call Messages = Unit {0}
ReachedSo dbds pcbs call Nothing = Unit {0}
ReachedSo dbds pcbs call (Rows target) =
    (slice_get pcbs (call.pcb - 1) ≡ Some (Database target.number target.options))
    × (slice_get dbds (target.number - 1) ≡ Some target.dbd)
    × IsDbCall target.dbd.types (db_call target call)

reaches_so : (dbds : List Dbd) (pcbs : List Pcb) (call : CallText) → IsCallOf dbds pcbs call → IsSegmentText call.area → ReachedSo dbds pcbs call (pcb_reached dbds pcbs call.pcb)
reaches_so dbds pcbs call has text = first (call.pcb == 0) refl
  where
    by_dbd : (number options : ℕ) → slice_get pcbs (call.pcb - 1) ≡ Some (Database number options) → IsCallBy dbds call (Some (Database number options))
        → (o : Option Dbd) → slice_get dbds (number - 1) ≡ o
        → ReachedSo dbds pcbs call (option_map_or (λ dbd. Rows (record { number = number; dbd = dbd; options = options })) o Nothing)
    by_dbd number options kind h None e = tt
    by_dbd number options kind h (Some dbd) e = (kind, e, is_db_call dbds call number options dbd h e text)

    by_pcb : (p : Option Pcb) → slice_get pcbs (call.pcb - 1) ≡ p → IsCallBy dbds call p → ReachedSo dbds pcbs call (reached_by dbds p)
    by_pcb (Some (Database number options)) e h = by_dbd number options e h (slice_get dbds (number - 1)) refl
    by_pcb (Some (Destination name)) e h = tt
    by_pcb (Some Modifiable) e h = tt
    by_pcb None e h = tt

    some : eqb call.pcb 0 ≡ false → 1 ≤ call.pcb
    some e = by call.pcb refl
      where
        by : (n : ℕ) → call.pcb ≡ n → 1 ≤ call.pcb
        by zero f = absurd (false≢true (sym e ∙ eq-eqb call.pcb 0 f))
        by (suc n) f = omega (arith, f)

    first : (t : Bool) → eqb call.pcb 0 ≡ t → ReachedSo dbds pcbs call (if t then Messages else reached_by dbds (cond t None (slice_get pcbs (call.pcb - 1))))
    first true e = tt
    first false e =
        by_pcb (slice_get pcbs (call.pcb - 1)) refl
        (subst (IsCallBy dbds call) (ap (λ t. cond t None (slice_get pcbs (call.pcb - 1))) e) (has (some e)))

-- ---- one call
module _ (job : Job) (given : Given) (region : ℕ) (table : EnqueueTable) (servable : IsServable job.system.databases job.pcbs job.lines)
    (a b : List (List Row)) (rows_a : AreRowsOf job.system.databases a) (rows_b : AreRowsOf job.system.databases b) (agree : AgreeOnHeld table region a b) where
  abbrev Stand : Data → Type 0
  Stand d = StandOn job.system.databases job.pcbs a b d

  -- the same calls over the rows that are committed now
  abbrev pub moved : Trial → Trial
  moved trial = record trial { databases = over b trial.databases }

  abbrev moved_outcome : Outcome → Outcome
  moved_outcome outcome = record outcome { databases = over b outcome.databases }

  record Follows (trial : Trial) (call : CallText) (target : Reached) : Type 0 where
    outcome : outcome_at job.system b target trial.work (over b trial.databases) call ≡ moved_outcome (outcome_at job.system a target trial.work trial.databases call)
    requests : requests_at region target (over b trial.databases) call ≡ requests_at region target trial.databases call
    stand : Stand (outcome_at job.system a target trial.work trial.databases call).databases

  follows_at : (trial : Trial) (call : CallText) → Stand trial.databases → (target : Reached) → ReachedSo job.system.databases job.pcbs call target
      → All (IsHeld table) (requests_at region target trial.databases call)
      → (outcome_at job.system a target trial.work trial.databases call).abend ≡ None
      → Follows trial call target
  follows_at trial call stand Messages so held goes_on = record {
    outcome = ap (λ d. record (outcome_at job.system a Messages trial.work trial.databases call) { databases = d }) (rolled_over call.function a b trial.databases);
    requests = refl;
    stand = rolled_stands call.function job.system.databases job.pcbs a b trial.databases rows_a rows_b stand;
  }
  follows_at trial call stand Nothing so held goes_on = record { outcome = refl; requests = refl; stand = stand }
  follows_at trial call stand (Rows target) so held goes_on =
      let size : length a ≡ length b = rows_a.count ∙ sym rows_b.count in
      let same = agrees job.system.databases job.pcbs a b size rows_b.count trial.databases stand target call so.0 so.1 so.2 table region agree held in
      record {
        outcome = λ i. record {
          answer = same_answer job.system.databases job.pcbs a b size rows_b.count trial.databases stand target call so.0 so.1 so.2 same i;
          work = trial.work;
          databases = same_after job.system.databases job.pcbs a b size rows_b.count trial.databases stand target call so.0 so.1 so.2 same goes_on i;
          abend = same_abend job.system.databases job.pcbs a b size rows_b.count trial.databases stand target call so.0 so.1 so.2 same i;
        };
        requests = same_requests job.system.databases job.pcbs a b size rows_b.count trial.databases stand target call so.0 so.1 so.2 same region;
        stand = still_stands job.system.databases job.pcbs a b size rows_b.count trial.databases stand target call so.0 so.1 so.2 same goes_on;
      }

  -- ---- one step of the trial
  record OneMore (before one : Trial) (need : Need) : Type 0 where
    goes : gone (advance_by job b (moved before) need) ≡ Some (moved one)
    requests : requests_by region job (moved before) need ≡ requests_by region job before need
    stand : Stand one.databases

  one_more : (before one : Trial) (need : Need) → trial_need job before ≡ need → HasTexts need → Stand before.databases → All (IsHeld table) (requests_by region job before need)
      → gone (advance_by job a before need) ≡ Some one → OneMore before one need
  one_more before one Ended needs texts stand held goes = absurd (cc)
  one_more before one (Abend code) needs texts stand held goes = absurd (cc)
  one_more before one (Call call) needs texts stand held goes = by_sync (is_sync before.work call) refl goes
    where
      target : Reached
      target = pcb_reached job.system.databases job.pcbs call.pcb

      so : ReachedSo job.system.databases job.pcbs call (pcb_reached job.system.databases job.pcbs call.pcb)
      so =
          reaches_so job.system.databases job.pcbs call
          (is_call job.system.databases job.pcbs job.lines job.transaction.statement_limit (script_after job.lines job.transaction.statement_limit script_start before.answers) call servable needs)
          texts.0

      by_abend : is_sync before.work call ≡ false → (o : Option AbendCode) → (call_outcome job a before call).abend ≡ o
          → gone (unless_abend o (trial_goes_on before call (call_outcome job a before call))) ≡ Some one → OneMore before one (Call call)
      by_abend further (Some abend) e g = absurd (cc)
      by_abend further None e g =
          let f = follows_at before call stand (pcb_reached job.system.databases job.pcbs call.pcb) so held e in
          let next : Trial = record {
            answers = before.answers ++ (call_outcome job a before call).answer ∷ [];
            work = (call_outcome job a before call).work;
            databases = (call_outcome job a before call).databases;
          } in
          let some : Some next ≡ Some one = g in
          let same : next ≡ one = cc in
          record {
            goes =
                ap (λ t. gone (if t then Stops Syncs else called_in_trial (moved before) call (call_outcome job b (moved before) call))) further
                ∙ (ap (λ o. gone (called_in_trial (moved before) call o)) f.outcome
                ∙ (ap (λ o. gone (unless_abend o (trial_goes_on (moved before) call (moved_outcome (call_outcome job a before call))))) e
                ∙ ap (λ t. Some (moved t)) same));
            requests = f.requests;
            stand = subst (λ (t : Trial). Stand t.databases) same f.stand;
          }

      by_sync : (t : Bool) → is_sync before.work call ≡ t → gone (if t then Stops Syncs else called_in_trial before call (call_outcome job a before call)) ≡ Some one → OneMore before one (Call call)
      by_sync true e g = absurd (cc)
      by_sync false e g = by_abend e (call_outcome job a before call).abend refl g

  -- ---- all calls
  -- So many calls give on the rows committed now what they gave, ask for the same, and need the same.
  pub record GivesAgain (calls : ℕ) (one : Trial) : Type 0 where
    pub made : trial_of job b given calls ≡ Some (moved one)
    pub asked : asked_before region job b given calls ≡ asked_before region job a given calls
    pub needs : needs_before job b given calls ≡ needs_before job a given calls
    pub stand : Stand one.databases

  all_left : {A : Type 0} (P : A → Type 0) (xs ys : List A) → All P (xs ++ ys) → All P xs
  all_left P [] ys h = All-nil P
  all_left P (x ∷ xs) ys h = All-cons P x xs (All-head P x (xs ++ ys) h) (all_left P xs ys (All-tail P x (xs ++ ys) h))

  all_right : {A : Type 0} (P : A → Type 0) (xs ys : List A) → All P (xs ++ ys) → All P ys
  all_right P [] ys h = h
  all_right P (x ∷ xs) ys h = all_right P xs ys (All-tail P x (xs ++ ys) h)

  pub gives_again : (calls : ℕ) (one : Trial) → trial_of job a given calls ≡ Some one → All (IsHeld table) (asked_before region job a given calls)
      → All HasTexts (needs_before job a given calls) → GivesAgain calls one
  gives_again zero one made held texts =
      let same : trial_start job a given ≡ one = cc in
      record {
        made = ap (λ t. Some (moved t)) same;
        asked = refl;
        needs = refl;
        stand = subst (λ (t : Trial). Stand t.databases) same (start_stands job.system.databases job.pcbs a b (length job.pcbs) rows_a rows_b refl);
      }
  gives_again (suc calls) one made held texts =
      by (trial_of job a given calls) refl made held texts
      (λ before e. gives_again calls before e
      (all_left (IsHeld table) (asked_before region job a given calls) (asked_behind region job (trial_of job a given calls)) held)
      (all_left HasTexts (needs_before job a given calls) (needs_behind job (trial_of job a given calls)) texts))
    where
      by : (o : Option Trial) → trial_of job a given calls ≡ o → option_and_then (λ t. gone (advance job a t)) o ≡ Some one
          → All (IsHeld table) (asked_before region job a given calls ++ asked_behind region job o)
          → All HasTexts (needs_before job a given calls ++ needs_behind job o)
          → ((before : Trial) → trial_of job a given calls ≡ Some before → GivesAgain calls before)
          → GivesAgain (suc calls) one
      by None e g h t rec = absurd (cc)
      by (Some before) e g h t rec =
          let again = rec before e in
          let more = one_more before one (trial_need job before) refl
          (All-head HasTexts (trial_need job before) [] (all_right HasTexts (needs_before job a given calls) (trial_need job before ∷ []) t))
          again.stand
          (all_right (IsHeld table) (asked_before region job a given calls) (requests_of region job before) h)
          g in
          record {
            made = ap (option_and_then (λ t. gone (advance job b t))) again.made ∙ more.goes;
            asked =
                (λ i. again.asked i ++ asked_behind region job (again.made i))
                ∙ ((λ i. asked_before region job a given calls ++ more.requests i)
                ∙ sym (ap (λ o. asked_before region job a given calls ++ asked_behind region job o) e));
            needs =
                (λ i. again.needs i ++ needs_behind job (again.made i))
                ∙ sym (ap (λ o. needs_before job a given calls ++ needs_behind job o) e);
            stand = more.stand;
          }
