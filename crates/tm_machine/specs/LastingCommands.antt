-- What a command that lasts leaves of the parts, and what it tells.
use Rattle.std.specs.Prelude.{◌≡◌, ⊤, ℕ, ◌<◌, ◌≤◌, true, false, None, List, ◌++◌, length, position}
use Rattle.std.specs.List.{AllByRecursion}
use Rattle.tm_types.specs.declared.command.LastingCommand.{LastingCommand}
use Rattle.tm_types.specs.declared.command.LastingCommand.TheVariants.{StartTransaction, StopTransaction, Exit, AssignClass, AssignPriority}
use Rattle.model_messages.specs.ConversationInput.{busy_id}
use Rattle.model_system.specs.declared.code_state.CodeState.{CodeState}
use Rattle.model_system.specs.Lists.{change_at}
use Rattle.system_types.specs.Codes.{is_state_of, classed_state, ranked_state, stopped_state}
use Rattle.model_machine.specs.Machine.{LastingState, Moment, moment_with}
use Rattle.model_machine.specs.LastingSteps.{applied}
use Rattle.model_machine.specs.LastingSteps.LastingStep.{Commands}
use Rattle.log_records.specs.RecordSpelling.{IsLogRecord}
use Rattle.model_image.specs.StepRecords.{step_bytes, step_records}
use Rattle.tm_machine.specs.Parts.{PartsState}

-- a command ends no conversation of which a message is queued or worked on
abbrev pub EndsNoneBusy : LastingCommand → LastingState → Type 0
EndsNoneBusy (Exit terminal) lasting = busy_id terminal lasting.messages ≡ None
EndsNoneBusy _ lasting = ⊤

-- the states of the codes behind it
abbrev pub states_set : LastingCommand → List CodeState → List CodeState
states_set (StartTransaction code) states = change_at states (position (is_state_of code) states) (stopped_state false)
states_set (StopTransaction code) states = change_at states (position (is_state_of code) states) (stopped_state true)
states_set (AssignClass code class) states = change_at states (position (is_state_of code) states) (classed_state class)
states_set (AssignPriority code priority) states = change_at states (position (is_state_of code) states) (ranked_state priority)
states_set _ states = states

-- The step was done, and nothing else.
pub record IsCommanded (old new : PartsState) (command : LastingCommand) : Type 0 where
  pub moment : new.moment ≡ moment_with old.system (applied (Commands command) old.moment.lasting) old.moment.slots old.moment.enqueues old.moment.raised
  pub system : new.system ≡ old.system

-- Its record was appended, is one by the ranges of its fields, and fits the room.
pub record TellsCommand (moment : Moment) (room : ℕ) (command : LastingCommand) (before after : List ℕ) : Type 0 where
  pub told : after ≡ before ++ step_bytes 0 (Commands command) moment.lasting
  pub valid : AllByRecursion IsLogRecord (step_records 0 (Commands command) moment.lasting)
  pub fits : length (step_bytes 0 (Commands command) moment.lasting) ≤ room

-- it is longer than the room
abbrev pub IsLongerCommand : Moment → ℕ → LastingCommand → Type 0
IsLongerCommand moment room command = room < length (step_bytes 0 (Commands command) moment.lasting)
