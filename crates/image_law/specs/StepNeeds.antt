-- What a step needs, to leave a state that breaks no rule.
use Rattle.std.specs.Prelude.{◌≡◌, ℕ, ◌==◌, nat_le, Bool, true, false, ◌&&◌, ◌||◌, if◌then◌else◌, List, IsSome, IfSome}
use Rattle.std.specs.List.{list_all, list_any}
use Rattle.std.specs.Option.{is_some, option_map_or}
use Rattle.tm_types.specs.declared.command.LastingCommand.{LastingCommand}
use Rattle.tm_types.specs.declared.command.LastingCommand.TheVariants.{Exit}
use Rattle.tm_types.specs.declared.message.Message.{Message}
use Rattle.tm_types.specs.Commands.{IsAssigned}
use Rattle.model_messages.specs.declared.conversation.PadChange.{PadChange}
use Rattle.model_messages.specs.declared.conversation.PadChange.TheVariants.{Stays, New, Ends}
use Rattle.model_messages.specs.Terminals as conversations
use Rattle.model_messages.specs.ConversationInput.{is_conversing}
use Rattle.model_messages.specs.declared.replies.TerminalReplies.{TerminalReplies}
use Rattle.model_messages.specs.declared.ended_message.EndedMessage.{EndedMessage}
use Rattle.model_system.specs.declared.code.Code.{Code}
use Rattle.model_system.specs.Codes.{code_at}
use Rattle.model_system.specs.System.{System}
use Rattle.model_machine.specs.declared.entry.ControlCall.{ControlCall}
use Rattle.model_machine.specs.declared.entry.ControlCall.TheVariants.{Command}
use Rattle.model_machine.specs.CommandAnswers.{lasting_command}
use Rattle.model_machine.specs.Machine.{LastingState, output_at}
use Rattle.model_machine.specs.LastingSteps.{with_conversation_text}
use Rattle.model_image.specs.States.{is_system_terminal, is_system_code, is_conversation}

-- a pad of the system has room for its code and more, or a code has none
abbrev pub has_room : Code → Bool
has_room code = (code.transaction.scratch_pad == 0) || nat_le 14 code.transaction.scratch_pad

abbrev pub HasPads : System → Type 0
HasPads system = list_all has_room system.codes ≡ true

-- a code to which messages may be switched: it is none of conversations
abbrev pub takes_switched : System → List ℕ → Bool
takes_switched system name =
    is_system_code system name && option_map_or (λ code. code.transaction.scratch_pad == 0) (code_at system.codes name) true

-- an output goes to a terminal that is known, or to such a code
abbrev pub has_receiver : System → List TerminalReplies → EndedMessage → Bool
has_receiver system outputs output =
    if is_some (output_at outputs output.to) then is_system_terminal system output.to else takes_switched system output.to

-- A pad changes with a message of its conversation, and a new one is one of that conversation.
abbrev pub PadFits : System → PadChange → Message → LastingState → Type 0
PadFits system Stays message lasting = Unit {0}
PadFits system (New text) message lasting =
    (message.conversation ≡ true)
    × (option_map_or (λ c. is_conversation system (with_conversation_text text c)) (conversations.conversation_at message.origin lasting.conversations) true ≡ true)
PadFits system Ends message lasting = message.conversation ≡ true

-- a terminal has a place for a conversation, and no message of the one that it has waits
pub record IsConversationFree (terminal : List ℕ) (lasting : LastingState) : Type 0 where
  pub place : IsSome (conversations.conversation_terminal terminal lasting.conversations)
  pub none : IsSome (conversations.conversation_at terminal lasting.conversations) → list_any (is_conversing terminal) lasting.messages ≡ false

-- a command ends no conversation of which a message waits
abbrev pub EndsNoneWaiting : LastingCommand → LastingState → Type 0
EndsNoneWaiting (Exit terminal) lasting = list_any (is_conversing terminal) lasting.messages ≡ false
EndsNoneWaiting _ lasting = Unit {0}

-- what a call assigns may be
abbrev pub AssignsInRange : ControlCall → Type 0
AssignsInRange (Command command) = IfSome (lasting_command command) IsAssigned
AssignsInRange _ = Unit {0}
