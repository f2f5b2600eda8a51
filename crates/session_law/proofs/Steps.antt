-- Which steps last of a call.
use Rattle.std.proofs.Common.{ℕ, List, Option, Some, None}
use Rattle.std.specs.Prelude.{Ok, Err}
use Rattle.std.specs.Option.{option_map, option_map_or, option_and_then}
use Rattle.tm_types.specs.declared.abend.AbendCode.{AbendCode}
use Rattle.tm_types.specs.declared.command.LastingCommand.{LastingCommand}
use Rattle.model_data.specs.declared.row.Row.{Row}
use Rattle.model_messages.specs.declared.conversation.PadChange.{PadChange}
use Rattle.model_data.specs.declared.request.Request.{Request}
use Rattle.model_messages.specs.declared.ended_message.EndedMessage.{EndedMessage}
use Rattle.model_system.specs.System.{System}
use Rattle.model_machine.specs.declared.command.Command.{Command}
use Rattle.model_machine.specs.declared.entry.ControlCall.TheVariants.{Turn}
use Rattle.model_machine.specs.CommandAnswers.{CommandAnswer, steps_by, lasting_command, command_answer, command_step}
use Rattle.model_machine.specs.Trial.{Trial, Advance}
use Rattle.model_machine.specs.Trial.WorkEnd.{Ends, Syncs, Abends}
use Rattle.model_machine.specs.Trial.Advance.{Goes, Stops}
use Rattle.model_machine.specs.Machine.{LastingState, Moment, Slot, slot_at}
use Rattle.model_machine.specs.LastingSteps.{LastingStep, applied}
use Rattle.model_machine.specs.LastingSteps.LastingStep.{Completes, Discards, Commands}
use Rattle.model_machine.specs.Requests.{blocked_now}
use Rattle.model_machine.specs.MachineCalls.{AtWork, slot_work, ended_step, turn_step, unless_blocked, step_in_turn, lasting_step}

-- the step, if there is one, is of this kind
abbrev pub FineBy : (LastingStep → Type 0) → Option LastingStep → Type 0
FineBy Q None = Unit {0}
FineBy Q (Some step) = Q step

-- what each step of the kind keeps, no step keeps too
pub applied_by : (P : LastingState → Type 0) (Q : LastingStep → Type 0) (lasting : LastingState) → ((step : LastingStep) → Q step → P lasting → P (applied step lasting))
    → (step : Option LastingStep) → FineBy Q step → P lasting → P (option_map_or (λ s. applied s lasting) step lasting)
applied_by P Q lasting keeps None fine h = h
applied_by P Q lasting keeps (Some step) fine h = keeps step fine h

module _ (Q : LastingStep → Type 0) (completes : (id : ℕ) (rows : List (List Row)) (outputs : List EndedMessage) (pad : PadChange) → Q (Completes id rows outputs pad)) (discards : (id : ℕ) (abend : AbendCode) → Q (Discards id abend)) where
  ended : (slot : Slot) (trial : Trial) (advance : Advance) → FineBy Q (ended_step slot trial advance)
  ended slot trial (Goes after call) = tt
  ended slot trial (Stops Ends) = completes _ _ _ _
  ended slot trial (Stops Syncs) = completes _ _ _ _
  ended slot trial (Stops (Abends abend)) = discards _ _

  worked : (slot : Slot) (work : Option AtWork) → FineBy Q (option_and_then (λ w. ended_step slot w.trial w.advance) work)
  worked slot None = tt
  worked slot (Some work) = ended slot work.trial work.advance

  unblocked : (blocked : Option (Request × ℕ)) (step : Option LastingStep) → FineBy Q step → FineBy Q (unless_blocked blocked step)
  unblocked None step fine = fine
  unblocked (Some by) step fine = tt

  in_slot : (system : System) (moment : Moment) (region : ℕ) (slot : Option Slot) → FineBy Q (option_and_then (step_in_turn system moment region) slot)
  in_slot system moment region None = tt
  in_slot system moment region (Some slot) =
      unblocked (blocked_now system moment region slot) (turn_step system moment.lasting slot) (worked slot (slot_work system moment.lasting slot))

  -- of a turn a message's end lasts, or nothing
  pub turn_fine : (system : System) (moment : Moment) (region : ℕ) → FineBy Q (lasting_step system moment (Turn region))
  turn_fine system moment region = in_slot system moment region (slot_at moment region)

commands_fine : (Q : LastingStep → Type 0) (command : Option LastingCommand) (answer : CommandAnswer) → FineBy (λ c. Q c) (option_map Commands command) → FineBy Q (steps_by command answer)
commands_fine Q command (Ok answer) fine = fine
commands_fine Q command (Err refused) fine = tt

-- of a command the one that lasts does, or nothing
pub command_fine : (Q : LastingStep → Type 0) (system : System) (moment : Moment) (command : Command) → FineBy Q (option_map Commands (lasting_command command)) → FineBy Q (command_step system moment command)
command_fine Q system moment command fine = commands_fine Q (lasting_command command) (command_answer system moment command) fine
