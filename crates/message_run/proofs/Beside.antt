-- The work in one region while others go on, are backed out or end.
use Rattle.std.proofs.Common.{◌≡◌, ℕ, ◌∷◌, [], List, zero, suc, refl, sym, ◌∙◌, ap, subst, Bool, true, false, eqb}
use Rattle.std.specs.Prelude.{Option, Some, None, All, ◌&&◌, not, map}
use Rattle.std.specs.Option.{option_map_or}
use Rattle.std.proofs.lemmas.Bool.{false≢true, eqb-true, ne_eqb}
use Rattle.std.proofs.lemmas.List.Elements.{All-nil, All-cons, All-append, All-head, All-tail}
use Rattle.std.proofs.lemmas.Map.Entries.{lookup-filter-keys}
use Rattle.model_data.specs.declared.row.Row.{Row}
use Rattle.model_system.specs.declared.need.CallText.{CallText}
use Rattle.model_system.specs.declared.need.Need.{Need}
use Rattle.model_system.specs.declared.need.Need.TheVariants.{Call, Ended, Abend}
use Rattle.model_data.specs.declared.need.Need.{Need as RootNeed}
use Rattle.model_data.specs.Data.{Data}
use Rattle.script_run.specs.RunningScript.{HasTexts}
use Rattle.model_system.specs.Jobs.{Job}
use Rattle.model_data.specs.declared.request.Holder.{Holder}
use Rattle.model_data.specs.declared.request.Request.{Request}
use Rattle.model_data.specs.Modes.{mode_serves}
use Rattle.model_data.specs.Table.{EnqueueTable, holds_of, is_asker}
use Rattle.model_data.specs.EnqueueRequests.{released}
use Rattle.model_machine.specs.Trial.{Given, Reached, Trial, trial_of, trial_need, pcb_reached}
use Rattle.model_machine.specs.Trial.Reached.{Messages, Rows, Nothing}
use Rattle.model_machine.specs.Requests.{asked_before, asked_behind, request_for, requests_at, requests_by}
use Rattle.system_types.specs.ValidSystem.{IsServable}
use Rattle.program_rows.specs.DatabasesState.{DatabasesState, AreRowsOf, committed_rows, dbds_of, region_at, rows_of_stores, with_records_from}
use Rattle.program_rows.specs.CallAnswers.{IsBeside}
use Rattle.message_run.specs.WorkAhead.{IsAhead, IsHeld, needs_before}
use Rattle.message_run.specs.RunState.{RunState}
use Rattle.message_run.proofs.Trials.{gives_again}

-- ---- all that a region's calls ask for it asks for itself
map_region : (region number : ℕ) (needs : List RootNeed) → All (λ (r : Request). r.region ≡ region) (map (request_for region number) needs)
map_region region number [] = All-nil (λ (r : Request). r.region ≡ region)
map_region region number (need ∷ needs) =
    All-cons (λ (r : Request). r.region ≡ region) (request_for region number need) (map (request_for region number) needs) refl (map_region region number needs)

at_region : (region : ℕ) (target : Reached) (d : Data) (call : CallText) → All (λ (r : Request). r.region ≡ region) (requests_at region target d call)
at_region region Messages d call = All-nil (λ (r : Request). r.region ≡ region)
at_region region (Rows target) d call = map_region region target.number _
at_region region Nothing d call = All-nil (λ (r : Request). r.region ≡ region)

by_region : (region : ℕ) (job : Job) (trial : Trial) (need : Need) → All (λ (r : Request). r.region ≡ region) (requests_by region job trial need)
by_region region job trial (Call call) = at_region region (pcb_reached job.system.databases job.pcbs call.pcb) trial.databases call
by_region region job trial Ended = All-nil (λ (r : Request). r.region ≡ region)
by_region region job trial (Abend code) = All-nil (λ (r : Request). r.region ≡ region)

pub asked_region : (region : ℕ) (job : Job) (rows : List (List Row)) (given : Given) (calls : ℕ) → All (λ (r : Request). r.region ≡ region) (asked_before region job rows given calls)
asked_region region job rows given zero = All-nil (λ (r : Request). r.region ≡ region)
asked_region region job rows given (suc calls) =
    All-append (λ (r : Request). r.region ≡ region) (asked_before region job rows given calls) (asked_behind region job (trial_of job rows given calls))
    (asked_region region job rows given calls) (behind (trial_of job rows given calls))
  where
    behind : (o : Option Trial) → All (λ (r : Request). r.region ≡ region) (asked_behind region job o)
    behind (Some trial) = by_region region job trial (trial_need job trial)
    behind None = All-nil (λ (r : Request). r.region ≡ region)

-- ---- what other regions hold stays
-- a region that gives up all leaves what others hold
pub released_keeps : (region : ℕ) (table : EnqueueTable) (r : Request) → (r.region ≡ region → ⊥) → IsHeld table r → IsHeld (released region table) r
released_keeps region table r other held =
    ap (λ m. option_map_or (λ mode. mode_serves mode r.mode) m false)
    (lookup-filter-keys (is_asker r) (λ h. not (eqb h.region region)) true (λ h e. passes h (right_of (holds_of r.resource h) (eqb h.region r.region) e)) table.holds)
    ∙ held
  where
    right_of : (x y : Bool) → x && y ≡ true → y ≡ true
    right_of true y e = e
    right_of false y e = absurd (false≢true e)

    passes : (h : Holder) → eqb h.region r.region ≡ true → not (eqb h.region region) ≡ true
    passes h e = ap not (ne_eqb h.region region (λ f. other (sym (eqb-true h.region r.region e) ∙ f)))

held_still : (old new : EnqueueTable) (region : ℕ) → ((r : Request) → r.region ≡ region → IsHeld old r → IsHeld new r)
    → (rs : List Request) → All (λ (r : Request). r.region ≡ region) rs → All (IsHeld old) rs → All (IsHeld new) rs
held_still old new region keeps [] own held = All-nil (IsHeld new)
held_still old new region keeps (r ∷ rs) own held =
    All-cons (IsHeld new) r rs (keeps r (All-head (λ (q : Request). q.region ≡ region) r rs own) (All-head (IsHeld old) r rs held))
    (held_still old new region keeps rs (All-tail (λ (q : Request). q.region ≡ region) r rs own) (All-tail (IsHeld old) r rs held))

module _ (job : Job) (given : Given) (other : ℕ) (old new : DatabasesState) (run : RunState) (dbds : dbds_of new ≡ dbds_of old)
    (keeps : (r : Request) → r.region ≡ other → IsHeld old.table r → IsHeld new.table r) (ahead : IsAhead job given other old run) where
  -- Where others go on or are backed out, what is committed stays, and so does what this region sees.
  pub kept : new.committed ≡ old.committed → region_at other new ≡ region_at other old → IsAhead job given other new run
  kept committed sees =
      let rows : committed_rows new ≡ committed_rows old = ap rows_of_stores committed in
      record {
        trial = ahead.trial;
        made = ap (λ rs. trial_of job rs given run.calls) rows ∙ ahead.made;
        limit = ahead.limit;
        script = ahead.script;
        work = ahead.work;
        seen = ahead.seen ∙ (λ i. record { rows = (sym sees i).rows; positions = run.positions; changed = (sym sees i).changed });
        held =
            subst (λ rs. All (IsHeld new.table) (asked_before other job rs given run.calls)) (sym rows)
            (held_still old.table new.table other keeps (asked_before other job (committed_rows old) given run.calls) (asked_region other job (committed_rows old) given run.calls) ahead.held);
        texts = subst (λ rs. All HasTexts (needs_before job rs given run.calls)) (sym rows) ahead.texts;
        dbds = dbds ∙ ahead.dbds;
        standing = ahead.standing;
      }

  -- Where another region has ended its work, the calls of this one give on what is committed now what they gave.
  pub beside : IsServable job.system.databases job.pcbs job.lines
      → AreRowsOf (dbds_of old) (committed_rows old) → AreRowsOf (dbds_of new) (committed_rows new)
      → IsBeside other old new → IsAhead job given other new run
  beside servable rows_old rows_new is =
      let rows_a = subst (λ ds. AreRowsOf ds (committed_rows old)) ahead.dbds rows_old in
      let rows_b = subst (λ ds. AreRowsOf ds (committed_rows new)) (dbds ∙ ahead.dbds) rows_new in
      let again = gives_again job given other old.table servable (committed_rows old) (committed_rows new) rows_a rows_b is.held run.calls ahead.trial ahead.made ahead.held ahead.texts in
      record {
        trial = record ahead.trial { databases = record ahead.trial.databases { rows = with_records_from ahead.trial.databases.changed ahead.trial.databases.rows (committed_rows new) } };
        made = again.made;
        limit = ahead.limit;
        script = ahead.script;
        work = ahead.work;
        seen =
            ap (λ (d : Data). record d { rows = with_records_from d.changed d.rows (committed_rows new) }) ahead.seen
            ∙ (λ i. record { rows = (sym is.sees i).rows; positions = run.positions; changed = (sym is.sees i).changed });
        held =
            subst (All (IsHeld new.table)) (sym again.asked)
            (held_still old.table new.table other keeps (asked_before other job (committed_rows old) given run.calls) (asked_region other job (committed_rows old) given run.calls) ahead.held);
        texts = subst (All HasTexts) (sym again.needs) ahead.texts;
        dbds = dbds ∙ ahead.dbds;
        standing = ahead.standing;
      }
