-- How far the entries of a life raise what is counted of what lasts.
use Rattle.std.proofs.Common.{◌≡◌, ℕ, ◌+◌, ◌*◌, ◌≤◌, List, [], ◌∷◌, Option, Some, None, length, refl, arith}
use Rattle.std.specs.Prelude.{Result, Ok, Err}
use Rattle.std.specs.Option.{option_and_then, option_map_or}
use Rattle.tm_types.specs.declared.command.LastingCommand.{LastingCommand}
use Rattle.tm_types.specs.declared.message.Message.{Message}
use Rattle.model_data.specs.declared.request.Request.{Request}
use Rattle.model_system.specs.Jobs.{Job, job_of}
use Rattle.model_system.specs.System.{System}
use Rattle.model_machine.specs.declared.entry.Entry.{Entry}
use Rattle.model_machine.specs.declared.entry.ControlCall.{ControlCall}
use Rattle.model_machine.specs.declared.entry.ControlCall.TheVariants.{Input, Receive, Acknowledge, Turn, Command, Checkpoint, AskQuiet}
use Rattle.model_machine.specs.declared.entry.Acked.{Acked}
use Rattle.model_machine.specs.declared.entry.Acked.TheVariants.{Removed, Already as AckAlready}
use Rattle.model_machine.specs.declared.entry.AckRefused.{AckRefused}
use Rattle.model_machine.specs.declared.entry.InputRefused.{InputRefused}
use Rattle.model_machine.specs.declared.entry.Taken.{Taken}
use Rattle.model_machine.specs.declared.entry.Taken.TheVariants.{New, Already}
use Rattle.model_machine.specs.CommandAnswers.{CommandAnswer, command_answer, lasting_command, steps_by}
use Rattle.model_machine.specs.History.{after_entry, call_of, moment_after}
use Rattle.model_machine.specs.LastingSteps.{LastingStep, KeptInput, applied, kept_input}
use Rattle.model_machine.specs.Machine.{LastingState, Moment, Slot, message_at, slot_at}
use Rattle.model_machine.specs.Requests.{blocked_now}
use Rattle.model_machine.specs.MachineCalls.{AtWork, accepted_step, acknowledged_step, ack_answer, ended_step, input_answer, lasting_step, step_in_turn, turn_step, unless_blocked, work_by}
use Rattle.model_machine.specs.Trial.{Advance, Trial, advance, outputs_of, trial_of}
use Rattle.model_machine.specs.Trial.Advance.{Goes, Stops}
use Rattle.model_machine.specs.Trial.WorkEnd.{Ends, Syncs, Abends}
use Rattle.model_machine.specs.WorkSoFar.{given_now}
use Rattle.system_types.specs.ValidSystem.{IsSystem}
use Rattle.image_law.proofs.Jobs.{job_found}
use Rattle.session_law.specs.Counts.{LastsUpTo, most_raised}
use Rattle.session_law.proofs.Outputs.{few_outputs}
use Rattle.session_law.proofs.Lasting.{SendsSome, lasts_higher, step_lasts}

-- the step, if there is one, sends few outputs
abbrev FewIfAny : Option LastingStep → Type 0
FewIfAny None = Unit {0}
FewIfAny (Some step) = SendsSome step

module _ (system : System) (valid : IsSystem system) where
  -- ---- turns
  ended_few : (slot : Slot) (trial : Trial) (advance : Advance) → length (outputs_of trial) ≤ most_raised → FewIfAny (ended_step slot trial advance)
  ended_few slot trial (Goes after call) few = tt
  ended_few slot trial (Stops Ends) few = few
  ended_few slot trial (Stops Syncs) few = few
  ended_few slot trial (Stops (Abends abend)) few = tt

  trial_few : (lasting : LastingState) (slot : Slot) (job : Job) → job_of system slot.code ≡ Some job → (message : Option Message) (found : Option Trial)
      → option_and_then (λ m. trial_of job lasting.rows (given_now lasting m) slot.calls) message ≡ found
      → FewIfAny (option_and_then (λ (w : AtWork). ended_step slot w.trial w.advance) (option_and_then (λ trial. Some (work_by job lasting trial)) found))
  trial_few lasting slot job e message None f = tt
  trial_few lasting slot job e None (Some trial) f = cc
  trial_few lasting slot job e (Some m) (Some trial) f =
      ended_few slot trial (advance job lasting.rows trial) (few_outputs job (job_found system slot.code job valid e).is_job lasting.rows (given_now lasting m) slot.calls trial f)

  by_job : (lasting : LastingState) (slot : Slot) (found : Option Job) → job_of system slot.code ≡ found
      → FewIfAny (option_and_then (λ (w : AtWork). ended_step slot w.trial w.advance)
      (option_and_then (λ job. option_and_then (λ trial. Some (work_by job lasting trial)) (option_and_then (λ j. option_and_then (λ m. trial_of j lasting.rows (given_now lasting m) slot.calls) (message_at lasting.messages slot.id)) found)) found))
  by_job lasting slot None e = tt
  by_job lasting slot (Some job) e = trial_few lasting slot job e (message_at lasting.messages slot.id) (option_and_then (λ m. trial_of job lasting.rows (given_now lasting m) slot.calls) (message_at lasting.messages slot.id)) refl

  slot_few : (lasting : LastingState) (slot : Slot) → FewIfAny (turn_step system lasting slot)
  slot_few lasting slot = by_job lasting slot (job_of system slot.code) refl

  unblocked_few : (blocked : Option (Request × ℕ)) (step : Option LastingStep) → FewIfAny step → FewIfAny (unless_blocked blocked step)
  unblocked_few None step few = few
  unblocked_few (Some by) step few = tt

  turn_few : (moment : Moment) (region : ℕ) (slot : Option Slot) → FewIfAny (option_and_then (step_in_turn system moment region) slot)
  turn_few moment region None = tt
  turn_few moment region (Some slot) = unblocked_few (blocked_now system moment region slot) (turn_step system moment.lasting slot) (slot_few moment.lasting slot)

  -- ---- the other calls

  accepts_few : (terminal : List ℕ) (number : ℕ) (kept : KeptInput) (answer : Result Taken InputRefused) → FewIfAny (accepted_step terminal number kept answer)
  accepts_few terminal number kept (Ok (New id)) = tt
  accepts_few terminal number kept (Ok Already) = tt
  accepts_few terminal number kept (Err refused) = tt

  acknowledges_few : (terminal : List ℕ) (answer : Result Acked AckRefused) → FewIfAny (acknowledged_step terminal answer)
  acknowledges_few terminal (Ok Removed) = tt
  acknowledges_few terminal (Ok AckAlready) = tt
  acknowledges_few terminal (Err refused) = tt

  commands_few : (command : Option LastingCommand) (answer : CommandAnswer) → FewIfAny (steps_by command answer)
  commands_few None (Ok answer) = tt
  commands_few (Some command) (Ok answer) = tt
  commands_few command (Err refused) = tt

  call_few : (moment : Moment) (call : ControlCall) → FewIfAny (lasting_step system moment call)
  call_few moment (Input terminal number segments) = accepts_few terminal number (kept_input system moment.lasting terminal segments) (input_answer system moment terminal number segments)
  call_few moment (Receive terminal) = tt
  call_few moment (Acknowledge terminal number) = acknowledges_few terminal (ack_answer moment terminal number)
  call_few moment (Turn region) = turn_few moment region (slot_at moment region)
  call_few moment (Command command) = commands_few (lasting_command command) (command_answer system moment command)
  call_few moment (Checkpoint freeze) = tt
  call_few moment AskQuiet = tt

  -- ---- entries

  step_or_none : (step : Option LastingStep) → FewIfAny step → (high : ℕ) (lasting : LastingState) → LastsUpTo high lasting → LastsUpTo (high + most_raised) (option_map_or (λ s. applied s lasting) step lasting)
  step_or_none None few high lasting h = lasts_higher high (high + most_raised) lasting (omega arith) h
  step_or_none (Some step) few high lasting h = step_lasts step few high lasting h

  -- An entry raises no counter of what lasts by more than 32.
  pub entry_lasts : (high : ℕ) (moment : Moment) (entry : Entry) → LastsUpTo high moment.lasting → LastsUpTo (high + most_raised) (after_entry system moment entry).lasting
  entry_lasts high moment entry h = step_or_none (lasting_step system moment (call_of entry)) (call_few moment (call_of entry)) high moment.lasting h

  -- and so entries by no more than 32 each
  pub entries_last : (high : ℕ) (moment : Moment) (entries : List Entry) → LastsUpTo high moment.lasting → LastsUpTo (high + most_raised * length entries) (moment_after system moment entries).lasting
  entries_last high moment [] h = lasts_higher high (high + most_raised * 0) moment.lasting (omega arith) h
  entries_last high moment (entry ∷ entries) h =
      lasts_higher (high + most_raised + most_raised * length entries) (high + most_raised * length (entry ∷ entries)) (moment_after system (after_entry system moment entry) entries).lasting (omega arith)
      (entries_last (high + most_raised) (after_entry system moment entry) entries (entry_lasts high moment entry h))
