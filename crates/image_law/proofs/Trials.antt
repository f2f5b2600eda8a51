-- Every trial of a message keeps within what its unit may send.
use Rattle.std.proofs.Common.{◌≡◌, ℕ, zero, suc, ◌≤◌, Bool, true, false, List, [], ◌∷◌, Option, Some, None, refl, subst, arith}
use Rattle.std.specs.Prelude.{map, if◌then◌else◌}
use Rattle.std.specs.List.{list_all}
use Rattle.std.specs.Option.{option_and_then}
use Rattle.std.proofs.lemmas.List.Sums.{sum_by-cons}
use Rattle.tm_types.specs.declared.abend.AbendCode.{AbendCode}
use Rattle.model_data.specs.declared.row.Row.{Row}
use Rattle.model_system.specs.declared.need.CallText.{CallText}
use Rattle.model_system.specs.declared.need.Need.{Need}
use Rattle.model_system.specs.declared.need.Need.TheVariants.{Call, Ended, Abend}
use Rattle.model_system.specs.declared.pcb.Pcb.{Pcb}
use Rattle.model_system.specs.declared.pcb.Pcb.TheVariants.{Destination}
use Rattle.model_system.specs.Jobs.{Job}
use Rattle.model_system.specs.System.{System}
use Rattle.model_data.specs.Data.{Data}
use Rattle.model_messages.specs.MessageWork.{MessageWork, fresh_pcb}
use Rattle.model_messages.specs.MessageCalls.{message_work}
use Rattle.model_machine.specs.Trial.{Advance, Given, Outcome, Reached, Trial, advance, advance_by, call_outcome, called_in_trial, gone, trial_goes_on, is_sync, outcome_at, outputs_of, pcb_reached, trial_need, trial_of, trial_start, unless_abend}
use Rattle.model_machine.specs.Trial.Advance.{Goes, Stops}
use Rattle.model_machine.specs.Trial.WorkEnd.{Syncs}
use Rattle.model_machine.specs.Trial.Reached.{Messages, Rows, Nothing}
use Rattle.image_law.proofs.Bools.{first_of, second_of}
use Rattle.image_law.specs.SentMessages.{is_receiver, sends_well, is_well, is_sent_well, segments_built, open_segments, sent_bytes, SendsWithin}
use Rattle.image_law.proofs.Calls.{call_keeps, fresh_well, finished_bytes, finished_sent}
use Rattle.tm_types.proofs.Truths.{both}

-- what a job gives: limits within those of all codes, and PCBs that send to receivers
pub record IsJob (job : Job) : Type 0 where
  pub size : job.transaction.segment_size ≤ 2000
  pub count : job.transaction.segment_count ≤ 32
  pub pcbs : list_all (sends_well job.system) job.pcbs ≡ true

fresh_all : (system : System) (pcbs : List Pcb) → list_all (sends_well system) pcbs ≡ true → list_all (is_well system) (map fresh_pcb pcbs) ≡ true
fresh_all system [] all = refl
fresh_all system (pcb ∷ pcbs) all =
    both (is_well system (fresh_pcb pcb)) (list_all (is_well system) (map fresh_pcb pcbs)) (fresh_well system pcb (first_of (sends_well system pcb) (list_all (sends_well system) pcbs) all))
    (fresh_all system pcbs (second_of (sends_well system pcb) (list_all (sends_well system) pcbs) all))

fresh_none : (pcbs : List Pcb) → open_segments (map fresh_pcb pcbs) ≡ 0
fresh_none [] = refl
fresh_none (pcb ∷ pcbs) = omega (arith, sum_by-cons segments_built (fresh_pcb pcb) (map fresh_pcb pcbs), fresh_none pcbs)

-- What each message call keeps, and a trial begins with, every trial has.
module _ (job : Job) (rows : List (List Row)) (given : Given) (P : MessageWork → Type 0)
    (kept : (work : MessageWork) (call : CallText) → P work → P (message_work job.system work call)) (begins : P (trial_start job rows given).work) where
  outcome_keeps : (what : Reached) (work : MessageWork) (d : Data) (call : CallText) → P work → P (outcome_at job.system rows what work d call).work
  outcome_keeps Messages work d call s = kept work call s
  outcome_keeps (Rows target) work d call s = s
  outcome_keeps Nothing work d call s = s

  abbrev Goes_on : Advance → Type 0
  Goes_on (Goes trial call) = P trial.work
  Goes_on (Stops end) = Unit {0}

  called_keeps : (trial : Trial) (call : CallText) (outcome : Outcome) (abend : Option AbendCode) → P outcome.work → Goes_on (unless_abend abend (trial_goes_on trial call outcome))
  called_keeps trial call outcome None s = s
  called_keeps trial call outcome (Some code) s = tt

  advance_keeps : (need : Need) (trial : Trial) → P trial.work → Goes_on (advance_by job rows trial need)
  advance_keeps (Call call) trial s = by (is_sync trial.work call) where
    by : (b : Bool) → Goes_on (if b then Stops Syncs else called_in_trial trial call (call_outcome job rows trial call))
    by true = tt
    by false =
        let outcome = call_outcome job rows trial call in
        called_keeps trial call outcome outcome.abend (outcome_keeps (pcb_reached job.system.databases job.pcbs call.pcb) trial.work trial.databases call s)
  advance_keeps Ended trial s = tt
  advance_keeps (Abend code) trial s = tt

  gone_keeps : (advance : Advance) (trial : Trial) → Goes_on advance → gone advance ≡ Some trial → P trial.work
  gone_keeps (Goes after call) trial s e = let same : after ≡ trial = cc in subst (λ (t : Trial). P t.work) same s
  gone_keeps (Stops end) trial s e = cc

  one_more : (found : Option Trial) (trial : Trial) → ((before : Trial) → found ≡ Some before → P before.work)
      → option_and_then (λ t. gone (advance job rows t)) found ≡ Some trial → P trial.work
  one_more None trial before g = cc
  one_more (Some t) trial before g = gone_keeps (advance job rows t) trial (advance_keeps (trial_need job t) t (before t refl)) g

  pub trial_has : (calls : ℕ) (trial : Trial) → trial_of job rows given calls ≡ Some trial → P trial.work
  trial_has zero trial e = let same : trial_start job rows given ≡ trial = cc in subst (λ (t : Trial). P t.work) same begins
  trial_has (suc calls) trial e = one_more (trial_of job rows given calls) trial (λ before f. trial_has calls before f) e

module _ (job : Job) (is_job : IsJob job) (rows : List (List Row)) (given : Given) (origin : is_receiver job.system given.message.origin ≡ true) where
  start_keeps : SendsWithin job.system (trial_start job rows given).work
  start_keeps = record {
    size = is_job.size;
    count = is_job.count;
    inserted = omega arith;
    bytes = omega (arith, fresh_none (Destination given.message.origin ∷ job.pcbs));
    pcbs = fresh_all job.system (Destination given.message.origin ∷ job.pcbs) (both (is_receiver job.system given.message.origin) (list_all (sends_well job.system) job.pcbs) origin is_job.pcbs);
    ended = refl;
  }

  trial_keeps : (calls : ℕ) (trial : Trial) → trial_of job rows given calls ≡ Some trial → SendsWithin job.system trial.work
  trial_keeps calls trial e =
      trial_has job rows given (SendsWithin job.system) (λ work call s. call_keeps call.function job.system work call.pcb call.area s) start_keeps calls trial e

  -- what a trial sends has the room of a slot, and goes to terminals and to codes that take it
  pub outputs_fit : (calls : ℕ) (trial : Trial) → trial_of job rows given calls ≡ Some trial → sent_bytes (outputs_of trial) ≤ 65536
  outputs_fit calls trial e = finished_bytes job.system trial.work (trial_keeps calls trial e)

  pub outputs_go : (calls : ℕ) (trial : Trial) → trial_of job rows given calls ≡ Some trial → list_all (is_sent_well job.system) (outputs_of trial) ≡ true
  outputs_go calls trial e = finished_sent job.system trial.work (trial_keeps calls trial e)
