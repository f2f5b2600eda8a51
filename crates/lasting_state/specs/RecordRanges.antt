-- What a record has room for.
use Rattle.std.specs.Prelude.{◌≤◌, ℕ, List, length}
use Rattle.std.specs.List.{AllByRecursion}
use Rattle.tm_types.specs.declared.command.LastingCommand.{LastingCommand}
use Rattle.tm_types.specs.declared.command.LastingCommand.TheVariants.{AssignClass, AssignPriority}
use Rattle.model_messages.specs.declared.conversation.PadChange.{PadChange}
use Rattle.model_messages.specs.declared.conversation.PadChange.TheVariants.{Stays, New, Ends}
use Rattle.model_messages.specs.declared.ended_message.EndedMessage.{EndedMessage}
use Rattle.log_records.specs.RecordSpelling.{IsCount}

-- each output has 1 to 32 segments
abbrev pub HaveCounts : List EndedMessage → Type 0
HaveCounts outputs = AllByRecursion (λ output. IsCount output.segments) outputs

-- the record of a sync point with this pad has at most 65,535 bytes
abbrev pub HasShortPad : PadChange → Type 0
HasShortPad Stays = Unit {0}
HasShortPad (New pad) = length pad ≤ 65521
HasShortPad Ends = Unit {0}

-- the class or the priority that a command assigns, and 0 where it assigns none
abbrev pub number_in : LastingCommand → ℕ
number_in (AssignClass code class) = class
number_in (AssignPriority code priority) = priority
number_in _ = 0
