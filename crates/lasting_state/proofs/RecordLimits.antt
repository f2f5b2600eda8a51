-- Outputs and pads that records have room for.
use Rattle.std.proofs.Common.{ℕ, length, arith}
use Rattle.std.specs.Prelude.{◌≤◌, ◌<◌, ◌++◌, codes, decimal}
use Rattle.std.proofs.lemmas.List.{length-append}
use Rattle.std.proofs.lemmas.Fmt.{length-decimal-le}
use Rattle.tm_types.specs.Name.{IsName}
use Rattle.tm_types.specs.Commands as command_text
use Rattle.tm_types.specs.Commands.{name_in}
use Rattle.tm_types.specs.declared.command.LastingCommand.{LastingCommand}
use Rattle.tm_types.specs.declared.command.LastingCommand.TheVariants.{StartTransaction, StopTransaction, StartTerminal, StopTerminal, DequeueFirst, DequeueAll, Exit, AssignClass, AssignPriority}
use Rattle.model_messages.specs.declared.conversation.PadChange.{PadChange}
use Rattle.model_messages.specs.declared.conversation.PadChange.TheVariants.{Stays, New, Ends}
use Rattle.log_records.specs.declared.record.Record.TheVariants.{SyncPoint}
use Rattle.log_records.specs.RecordSpelling.{IsPadChange, IsShort}
use Rattle.log_records.proofs.WithLength.{stays_short, ends_short, new_short}
use Rattle.lasting_state.specs.RecordRanges.{HasShortPad, number_in}

pub is_pad_change : (pad : PadChange) → HasShortPad pad → IsPadChange pad
is_pad_change Stays short = tt
is_pad_change (New pad) short = omega (arith, short)
is_pad_change Ends short = tt

pub is_short : (unit : ℕ) (pad : PadChange) → HasShortPad pad → IsShort (SyncPoint unit pad)
is_short unit Stays short = stays_short unit
is_short unit (New pad) short = new_short unit pad short
is_short unit Ends short = ends_short unit

-- a command's text has at most 41 bytes
pub command_short : (command : LastingCommand) → IsName (name_in command) → number_in command < 256 → length (command_text.command_spelling command) ≤ 80
command_short (StartTransaction code) named small = omega (arith, named.1)
command_short (StopTransaction code) named small = omega (arith, named.1)
command_short (StartTerminal terminal) named small = omega (arith, named.1)
command_short (StopTerminal terminal) named small = omega (arith, named.1)
command_short (DequeueFirst terminal) named small = omega (arith, named.1, length-append terminal (codes " PURGE1"))
command_short (DequeueAll terminal) named small = omega (arith, named.1, length-append terminal (codes " PURGE"))
command_short (Exit terminal) named small = omega (arith, named.1)
command_short (AssignClass code class) named small =
    omega (arith, named.1, length-append code (codes " CLASS " ++ decimal class), length-decimal-le 3 class (omega arith) (omega (arith, small)) (omega (arith, small)))
command_short (AssignPriority code priority) named small =
    omega (arith, named.1, length-append code (codes " PRIORITY " ++ decimal priority), length-decimal-le 3 priority (omega arith) (omega (arith, small)) (omega (arith, small)))

pub ruleset commands_short = (command_short)
