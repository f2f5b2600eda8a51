-- What a command that lasts changes in the tables, and in the settings of the codes beside them.
use Rattle.std.specs.Prelude.{◌≡◌, ◌+◌, true, false, None, List}
use Rattle.tm_types.specs.declared.command.LastingCommand.{LastingCommand}
use Rattle.tm_types.specs.declared.command.LastingCommand.TheVariants.{StartTransaction, StopTransaction, StartTerminal, StopTerminal, DequeueFirst, DequeueAll, Exit, AssignClass, AssignPriority}
use Rattle.model_messages.specs.Outputs.{with_terminal, without_first}
use Rattle.model_system.specs.Lists.{change_at}
use Rattle.model_machine.specs.declared.lasting.CodeSetting.{CodeSetting}
use Rattle.model_machine.specs.Machine.{setting_place, terminal_place}
use Rattle.model_machine.specs.LastingSteps.{applied, with_conversing, classed_code, ranked_code, stopped_code, stopped_terminal, without_replies}
use Rattle.model_machine.specs.LastingSteps.LastingStep.{Commands}
use Rattle.lasting_state.specs.Tables.{TablesState, lasting_of}

-- in the tables, but for the count of steps
abbrev pub tables_commanded : LastingCommand → TablesState → TablesState
tables_commanded (StartTransaction code) t = t
tables_commanded (StopTransaction code) t = t
tables_commanded (StartTerminal terminal) t = record t { terminals = change_at t.terminals (terminal_place t.terminals terminal) (stopped_terminal false) }
tables_commanded (StopTerminal terminal) t = record t { terminals = change_at t.terminals (terminal_place t.terminals terminal) (stopped_terminal true) }
tables_commanded (DequeueFirst terminal) t = record t { outputs = with_terminal terminal without_first t.outputs }
tables_commanded (DequeueAll terminal) t = record t { outputs = with_terminal terminal without_replies t.outputs }
tables_commanded (Exit terminal) t = record t { conversations = with_conversing terminal None t.conversations }
tables_commanded (AssignClass code class) t = t
tables_commanded (AssignPriority code priority) t = t

-- one step more was done
abbrev pub command_done : LastingCommand → TablesState → TablesState
command_done command t = record (tables_commanded command t) { steps = t.steps + 1 }

-- in the settings
abbrev pub command_set : LastingCommand → List CodeSetting → List CodeSetting
command_set (StartTransaction code) settings = change_at settings (setting_place settings code) (stopped_code false)
command_set (StopTransaction code) settings = change_at settings (setting_place settings code) (stopped_code true)
command_set (AssignClass code class) settings = change_at settings (setting_place settings code) (classed_code class)
command_set (AssignPriority code priority) settings = change_at settings (setting_place settings code) (ranked_code priority)
command_set _ settings = settings

-- the step was done, if the settings are changed too
abbrev pub AppliesCommand : LastingCommand → TablesState → TablesState → Type 0
AppliesCommand command old new = (settings : List CodeSetting) → lasting_of (command_set command settings) new ≡ applied (Commands command) (lasting_of settings old)
