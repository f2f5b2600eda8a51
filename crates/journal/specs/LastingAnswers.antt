-- Which answers tell of a lasting step.
use Rattle.std.specs.Prelude.{Bool, true, false, Result, Ok, Err}
use Rattle.std.specs.Option.{is_some}
use Rattle.model_machine.specs.declared.command.Command.{Command}
use Rattle.model_machine.specs.declared.entry.Acked.{Acked}
use Rattle.model_machine.specs.declared.entry.Acked.TheVariants.{Removed, Already as AckAlready}
use Rattle.model_machine.specs.declared.entry.AckRefused.{AckRefused}
use Rattle.model_machine.specs.declared.entry.InputRefused.{InputRefused}
use Rattle.model_machine.specs.declared.entry.Taken.{Taken}
use Rattle.model_machine.specs.declared.entry.Taken.TheVariants.{New, Already}
use Rattle.model_machine.specs.CommandAnswers.{CommandAnswer, lasting_command}

-- an input was accepted
abbrev pub is_new : Result Taken InputRefused → Bool
is_new (Ok (New id)) = true
is_new (Ok Already) = false
is_new (Err refused) = false

-- a reply was removed
abbrev pub is_removed : Result Acked AckRefused → Bool
is_removed (Ok Removed) = true
is_removed (Ok AckAlready) = false
is_removed (Err refused) = false

-- a command was done that lasts
abbrev pub is_lasting : Command → CommandAnswer → Bool
is_lasting command (Ok answer) = is_some (lasting_command command)
is_lasting command (Err refused) = false
