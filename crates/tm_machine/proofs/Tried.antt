-- What a region's work has come to is a trial's.
use Rattle.std.proofs.Common.{◌≡◌, ℕ, List, [], ◌∷◌, ◌++◌, map, refl, sym, ap, ◌∙◌, subst}
use Rattle.std.specs.Prelude.{Option, Some, None}
use Rattle.std.specs.List.{flat_map}
use Rattle.model_messages.specs.declared.conversation.Conversation.{Conversation}
use Rattle.model_messages.specs.declared.conversation.PadChange.TheVariants.{Stays}
use Rattle.io_pcb.specs.Pads.{Suits}
use Rattle.model_system.specs.declared.pcb.Pcb.{Pcb}
use Rattle.model_system.specs.declared.pcb.Pcb.TheVariants.{Destination}
use Rattle.model_messages.specs.MessageWork.{fresh_pcb, output_ended_by, ended_to, destination_of}
use Rattle.model_messages.specs.MessageCalls.{finish_work, pad_change}
use Rattle.model_system.specs.Jobs.{Job}
use Rattle.model_machine.specs.Trial.{Given, Trial, trial_of, trial_start, outputs_of, pad_of}
use Rattle.program_rows.specs.DatabasesState.{DatabasesState, region_at, rows_of_stores}
use Rattle.message_run.specs.RunState.{RunState}
use Rattle.message_run.proofs.Conversing.{same_conversation}
use Rattle.region_work.specs.RegionWork.{IsRegionUnit, SuitsUnit, calls_made, outputs_by, pad_by}

-- the trial of as many calls, with the work's outputs, and with what its region sees and has changed
pub record IsTried (job : Job) (given : Given) (region : ℕ) (databases : DatabasesState) (unit : Option RunState) : Type 0 where
  pub trial : Trial
  pub made : trial_of job (rows_of_stores databases.committed) given (calls_made unit) ≡ Some trial
  pub outputs : outputs_of trial ≡ outputs_by unit
  pub pad : pad_of trial ≡ pad_by unit
  pub fits : SuitsUnit unit (pad_by unit) → Suits given.conversation (pad_by unit)
  pub rows : trial.databases.rows ≡ (region_at region databases).rows
  pub changed : trial.databases.changed ≡ (region_at region databases).changed

-- PCBs by which nothing was done send nothing
none_ended : (pcbs : List Pcb) → flat_map output_ended_by (map fresh_pcb pcbs) ≡ []
none_ended [] = refl
none_ended (pcb ∷ pcbs) = ap (λ xs. xs ++ flat_map output_ended_by (map fresh_pcb pcbs)) (by (destination_of (fresh_pcb pcb))) ∙ none_ended pcbs
  where
    by : (to : Option (List ℕ)) → ended_to to [] ≡ []
    by (Some name) = refl
    by None = refl

stays : (c : Option Conversation) → Suits c Stays
stays (Some c) = tt
stays None = tt

pub unit_trial : (job : Job) (given : Given) (region : ℕ) (databases : DatabasesState) (unit : Option RunState) → IsRegionUnit job given region databases unit → IsTried job given region databases unit
unit_trial job given region databases None h = record {
  trial = trial_start job (rows_of_stores databases.committed) given;
  made = refl;
  outputs = none_ended (Destination given.message.origin ∷ job.pcbs);
  pad = refl;
  fits = λ suits. stays given.conversation;
  rows = sym h.sees;
  changed = sym h.changed;
}
unit_trial job given region databases (Some unit) h = record {
  trial = h.trial;
  made = h.made;
  outputs = ap (λ w. (finish_work w).ended) h.work;
  pad = ap pad_change h.work;
  fits = λ suits. subst (λ c. Suits c (pad_change unit.work)) (ap (λ w. w.conversation) (sym h.work) ∙ same_conversation job (rows_of_stores databases.committed) given unit.calls h.trial h.made) suits;
  rows = ap (λ d. d.rows) h.seen;
  changed = ap (λ d. d.changed) h.seen;
}
