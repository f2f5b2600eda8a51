-- What a call appends goes by nothing that a checkpoint changes in the machine.
use Rattle.std.proofs.Common.{◌≡◌, ℕ, List, [], ◌++◌, refl, ap}
use Rattle.std.specs.Prelude.{Option, Some, None}
use Rattle.std.specs.List.{flat_map}
use Rattle.std.specs.Option.{option_map_or}
use Rattle.tm_types.specs.declared.function.Function.{Function}
use Rattle.tm_types.specs.declared.function.Function.TheVariants.{GU, GN, GNP, GHU, GHN, GHNP, ISRT, REPL, DLET, PURG, CHNG, ROLB, ROLL}
use Rattle.model_system.specs.declared.need.CallText.{CallText}
use Rattle.model_system.specs.declared.need.Need.{Need}
use Rattle.model_system.specs.declared.need.Need.TheVariants.{Call, Ended, Abend}
use Rattle.model_system.specs.Jobs.{Job, job_of}
use Rattle.model_data.specs.Data.{Data}
use Rattle.model_machine.specs.Machine.{Slot, slot_at}
use Rattle.model_machine.specs.Trial.{Reached, Trial, pcb_reached, trial_need}
use Rattle.model_machine.specs.Trial.Reached.{Messages, Rows, Nothing}
use Rattle.model_machine.specs.WorkSoFar.{slot_trial}
use Rattle.model_machine.specs.declared.entry.ControlCall.{ControlCall}
use Rattle.model_machine.specs.declared.entry.ControlCall.TheVariants.{Input, Receive, Acknowledge, Turn, Command, Checkpoint, AskQuiet}
use Rattle.log_records.specs.declared.record.Record.{Record}
use Rattle.log_records.specs.RecordSpelling.{record_spelling}
use Rattle.program_rows.specs.DatabasesState.{DatabasesState, with_all_settled}
use Rattle.message_run.specs.MessageChanges.{message_told, need_told, next_told, reach_told}
use Rattle.tm_machine.specs.SlotChanges.{changes_told, next_call_told}
use Rattle.tm_machine.specs.Parts.{PartsState}
use Rattle.tm_machine.specs.ToldByCall.{told_records_of}
use Rattle.journal.specs.UnitNumbers.{unit_of_region}
use Rattle.logged_machine.specs.UntakenCheckpoint.{settled_parts}
use Rattle.logged_machine.specs.ToldCalls.{own_bytes}

same_map : {A B : Type 0} (f g : A → B) (none : B) → ((a : A) → f a ≡ g a) → (o : Option A) → option_map_or f o none ≡ option_map_or g o none
same_map f g none same None = refl
same_map f g none same (Some a) = same a

module _ (unit region : ℕ) (databases : DatabasesState) where
  same_message : (f : Function) → message_told unit region (with_all_settled databases) f ≡ message_told unit region databases f
  same_message GU = refl
  same_message GN = refl
  same_message GNP = refl
  same_message GHU = refl
  same_message GHN = refl
  same_message GHNP = refl
  same_message ISRT = refl
  same_message REPL = refl
  same_message DLET = refl
  same_message PURG = refl
  same_message CHNG = refl
  same_message ROLB = refl
  same_message ROLL = refl

  same_reach : (r : Reached) (d : Data) (call : CallText) → reach_told unit region (with_all_settled databases) r d call ≡ reach_told unit region databases r d call
  same_reach Messages d call = same_message call.function
  same_reach (Rows target) d call = refl
  same_reach Nothing d call = refl

  same_need : (job : Job) (trial : Trial) (need : Need) → need_told unit region (with_all_settled databases) job trial need ≡ need_told unit region databases job trial need
  same_need job trial (Call call) = same_reach (pcb_reached job.system.databases job.pcbs call.pcb) trial.databases call
  same_need job trial Ended = refl
  same_need job trial (Abend code) = refl

module _ (parts : PartsState) (unit region : ℕ) where
  same_slot : (slot : Slot) (job : Job) → next_call_told (settled_parts parts) unit region slot job ≡ next_call_told parts unit region slot job
  same_slot slot job =
      same_map (next_told unit region (with_all_settled parts.databases) job) (next_told unit region parts.databases job) [] (λ trial. same_need unit region parts.databases job trial (trial_need job trial))
      (slot_trial parts.system parts.moment.lasting slot)

  same_changes : changes_told (settled_parts parts) unit region ≡ changes_told parts unit region
  same_changes =
      same_map (λ (slot : Slot). option_map_or (next_call_told (settled_parts parts) unit region slot) (job_of parts.system slot.code) [])
      (λ (slot : Slot). option_map_or (next_call_told parts unit region slot) (job_of parts.system slot.code) []) []
      (λ slot. same_map (next_call_told (settled_parts parts) unit region slot) (next_call_told parts unit region slot) [] (same_slot slot) (job_of parts.system slot.code))
      (slot_at parts.moment region)

-- It appends the same where no slot counts as changed.
pub same_bytes : (parts : PartsState) (units : List ℕ) (call : ControlCall) → own_bytes (settled_parts parts) units call ≡ own_bytes parts units call
same_bytes parts units (Turn region) =
    ap (λ (changes : List Record). flat_map record_spelling (changes ++ told_records_of parts.system parts.moment (unit_of_region units region) (Turn region))) (same_changes parts (unit_of_region units region) region)
same_bytes parts units (Input terminal number segments) = refl
same_bytes parts units (Receive terminal) = refl
same_bytes parts units (Acknowledge terminal number) = refl
same_bytes parts units (Command command) = refl
same_bytes parts units (Checkpoint freeze) = refl
same_bytes parts units AskQuiet = refl
