-- What a command that lasts does to the tables.
use Rattle.std.proofs.Common.{◌≡◌, List, refl, ap, ◌∙◌}
use Rattle.tm_types.specs.declared.command.LastingCommand.{LastingCommand}
use Rattle.tm_types.specs.declared.command.LastingCommand.TheVariants.{StartTransaction, StopTransaction, StartTerminal, StopTerminal, DequeueFirst, DequeueAll, Exit, AssignClass, AssignPriority}
use Rattle.model_machine.specs.declared.lasting.CodeSetting.{CodeSetting}
use Rattle.model_machine.specs.LastingSteps.{applied}
use Rattle.model_machine.specs.LastingSteps.LastingStep.{Commands}
use Rattle.lasting_state.specs.DoneCommands.{AppliesCommand, command_done, command_set}
use Rattle.lasting_state.specs.Tables.{TablesState, lasting_of}

applies : (command : LastingCommand) (t : TablesState) (settings : List CodeSetting) → lasting_of (command_set command settings) (command_done command t) ≡ applied (Commands command) (lasting_of settings t)
applies (StartTransaction code) t settings = refl
applies (StopTransaction code) t settings = refl
applies (StartTerminal terminal) t settings = refl
applies (StopTerminal terminal) t settings = refl
applies (DequeueFirst terminal) t settings = refl
applies (DequeueAll terminal) t settings = refl
applies (Exit terminal) t settings = refl
applies (AssignClass code class) t settings = refl
applies (AssignPriority code priority) t settings = refl

pub applies_command : (command : LastingCommand) (old new : TablesState) → new ≡ command_done command old → AppliesCommand command old new
applies_command command old new is settings = ap (lasting_of (command_set command settings)) is ∙ applies command old settings
