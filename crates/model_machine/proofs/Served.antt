-- What a command that is served assigns may be.
use Rattle.std.specs.Prelude.{IfSome}
use Rattle.tm_types.specs.Commands.{IsAssigned}
use Rattle.model_machine.specs.declared.command.Command.{Command}
use Rattle.model_machine.specs.declared.command.Command.TheVariants.{StartTransaction, StopTransaction, StartTerminal, StopTerminal, DisplayTransaction, DisplayTerminal, DisplayActive, Checkpoint, Freeze, DequeueFirst, DequeueAll, Exit, AssignClass, AssignPriority, EmergencyRestart, NormalRestart, ColdStart}
use Rattle.model_machine.specs.CommandAnswers.{IsCommandServed, lasting_command}

pub served_assigns : (command : Command) → IsCommandServed command → IfSome (lasting_command command) IsAssigned
served_assigns (StartTransaction code) served = tt
served_assigns (StopTransaction code) served = tt
served_assigns (StartTerminal terminal) served = tt
served_assigns (StopTerminal terminal) served = tt
served_assigns (DisplayTransaction code) served = tt
served_assigns (DisplayTerminal terminal) served = tt
served_assigns DisplayActive served = tt
served_assigns (DequeueFirst terminal) served = tt
served_assigns (DequeueAll terminal) served = tt
served_assigns (Exit terminal) served = tt
served_assigns (AssignClass code class) served = served
served_assigns (AssignPriority code priority) served = served
served_assigns Checkpoint served = tt
served_assigns Freeze served = tt
served_assigns EmergencyRestart served = tt
served_assigns NormalRestart served = tt
served_assigns ColdStart served = tt
