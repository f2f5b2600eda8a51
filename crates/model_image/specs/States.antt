-- The rules that what lasts keeps, by their numbers in an image.
use Rattle.std.specs.Prelude.{ℕ, ◌+◌, Bool, true, not, ◌&&◌, ◌||◌, nat_lt, nat_le, ◌==◌, List, [], ◌∷◌, length, take, drop, false, if◌then◌else◌}
use Rattle.std.specs.Option.{is_some, option_map_or}
use Rattle.std.specs.List.{list_all, list_any}
use Rattle.std.specs.Str.{bytes_eq}
use Rattle.tm_types.specs.declared.message.Message.{Message}
use Rattle.tm_types.specs.declared.message.Reply.{Reply}
use Rattle.model_messages.specs.declared.conversation.Conversation.{Conversation}
use Rattle.model_messages.specs.declared.conversation.TerminalConversation.{TerminalConversation}
use Rattle.model_messages.specs.Pads.{code_field}
use Rattle.model_messages.specs.Terminals.{conversation_at}
use Rattle.model_messages.specs.ConversationInput.{is_conversing}
use Rattle.model_system.specs.System.{System}
use Rattle.model_system.specs.Codes.{code_at}
use Rattle.model_messages.specs.Room.{messages_bytes}
use Rattle.model_messages.specs.Outputs.{outputs_bytes}
use Rattle.model_machine.specs.declared.lasting.CodeSetting.{CodeSetting}
use Rattle.model_machine.specs.Machine.{LastingState}

-- a terminal of the system, and a code
abbrev pub is_system_terminal : System → List ℕ → Bool
is_system_terminal system name = list_any (λ terminal. bytes_eq terminal name) system.terminals

abbrev pub is_system_code : System → List ℕ → Bool
is_system_code system name = is_some (code_at system.codes name)

-- a number that may be counted on
abbrev pub is_small : ℕ → Bool
is_small n = nat_lt n 2000000000000000000

-- a number that is the next one: from 1
abbrev pub is_next : ℕ → Bool
is_next n = not (n == 0) && is_small n

-- 12: each number is in its range
abbrev pub is_setting : CodeSetting → Bool
is_setting code = nat_le 1 code.class && nat_le code.class 255 && nat_le code.priority 14

-- A conversation is of a code that has them. Its pad begins with the code, padded with blanks to 8 bytes, and has a
-- work area of printable bytes behind, of the length of the code's pad, less 14.
abbrev pub is_printable_byte : ℕ → Bool
is_printable_byte byte = nat_le 32 byte && nat_le byte 126

abbrev pub is_pad_of : ℕ → Conversation → Bool
is_pad_of size c =
    not (size == 0) && (length c.pad + 6 == size) && bytes_eq (take 8 c.pad) (code_field c.code) && list_all is_printable_byte (drop 8 c.pad)

abbrev pub is_conversation : System → Conversation → Bool
is_conversation system c = option_map_or (λ code. is_pad_of code.transaction.scratch_pad c) (code_at system.codes c.code) false

abbrev pub has_right_pad : System → TerminalConversation → Bool
has_right_pad system t = option_map_or (is_conversation system) t.conversation true

abbrev pub wrong_values : System → LastingState → Bool
wrong_values system lasting =
    not (is_next lasting.next_id && is_small lasting.steps && list_all (λ terminal. is_small terminal.last) lasting.terminals && list_all (λ terminal. is_next terminal.next) lasting.outputs && list_all is_setting lasting.codes && list_all (has_right_pad system) lasting.conversations)

-- 13: ids ascend, below the next one
abbrev pub ascend_below : ℕ → List Message → Bool
ascend_below next [] = true
ascend_below next (message ∷ []) = nat_lt message.id next
ascend_below next (message ∷ later ∷ messages) = nat_lt message.id later.id && ascend_below next (later ∷ messages)

abbrev pub wrong_ids : LastingState → Bool
wrong_ids lasting = not (ascend_below lasting.next_id lasting.messages)

-- 14: each message comes from a terminal and goes to a code. One that belongs to a conversation goes to the code of
-- its origin's, and no lower one of that origin belongs to it; one that belongs to none goes to a code without them.
abbrev pub is_of_conversation : LastingState → Message → Bool
is_of_conversation lasting message =
    option_map_or (λ c. bytes_eq c.code message.code) (conversation_at message.origin lasting.conversations) false

abbrev pub has_no_pad : System → Message → Bool
has_no_pad system message = option_map_or (λ code. code.transaction.scratch_pad == 0) (code_at system.codes message.code) true

abbrev pub is_message_known : System → LastingState → Message → Bool
is_message_known system lasting message =
    is_system_terminal system message.origin && is_system_code system message.code
    && (if message.conversation then is_of_conversation lasting message else has_no_pad system message)

abbrev pub are_alone : List Message → Bool
are_alone [] = true
are_alone (message ∷ messages) =
    not (message.conversation && list_any (is_conversing message.origin) messages) && are_alone messages

abbrev pub unknown_messages : System → LastingState → Bool
unknown_messages system lasting = not (list_all (is_message_known system lasting) lasting.messages && are_alone lasting.messages)

-- 15: a terminal's replies have numbers from 1 on that follow one another up to its next one
abbrev pub run_up_to : ℕ → List Reply → Bool
run_up_to next [] = true
run_up_to next (reply ∷ replies) = not (reply.number == 0) && (reply.number + length (reply ∷ replies) == next) && run_up_to next replies

abbrev pub wrong_replies : LastingState → Bool
wrong_replies lasting = not (list_all (λ terminal. run_up_to terminal.next terminal.replies) lasting.outputs)

-- 16: the messages and replies have room
abbrev pub over_full : System → LastingState → Bool
over_full system lasting = nat_lt system.qbytes (messages_bytes lasting.messages + outputs_bytes lasting.outputs)

-- any of these
abbrev pub breaks_a_rule : System → LastingState → Bool
breaks_a_rule system lasting =
    wrong_values system lasting || wrong_ids lasting || unknown_messages system lasting || wrong_replies lasting || over_full system lasting
