-- What a terminal's conversation answers.
use Rattle.std.specs.Prelude.{◌≡◌, ℕ, nat_lt, if◌then◌else◌, length, List, Option, None, Some, Result, Ok, Err}
use Rattle.model_messages.specs.declared.conversation.Conversation.{Conversation}
use Rattle.model_messages.specs.Pads.{ends_conversation, is_pad, with_pad}
use Rattle.conversation.specs.declared.conversations.Busy.{Busy}
use Rattle.conversation.specs.declared.pads.PadRefused.{PadRefused}
use Rattle.conversation.specs.declared.pads.PadRefused.TheVariants.{BadSpa, Memory}

-- Without a conversation there is no code. Where a message of the conversation isn't done, the input is
-- refused with its id; else it goes to the conversation's code.
abbrev pub conversation_answer : Option Conversation → (busy : Option ℕ) → Result (Option (List ℕ)) Busy
conversation_answer None busy = Ok None
conversation_answer (Some c) (Some id) = Err (record { id = id })
conversation_answer (Some c) None = Ok (Some c.code)

-- what is wrong with a text that is given back as a conversation's pad: 1, it is shorter than 8 bytes; 2, it begins
-- neither with the conversation's code nor with blanks in its place
abbrev pub update_fault : List ℕ → List ℕ → Option ℕ
update_fault code text = if nat_lt (length text) 8 then Some 1 else (if is_pad code text then None else Some 2)

-- Blanks in the place of the code end the conversation; any other text becomes its pad, whose length stays.
abbrev pub updated : List ℕ → Conversation → Option Conversation
updated text c = if ends_conversation text then None else Some (with_pad text c)

-- A text is refused with what is wrong with it. Want of memory comes only for a text with which nothing is.
abbrev pub RefusesPad : Option ℕ → PadRefused → Type 0
RefusesPad fault (BadSpa rule) = fault ≡ Some rule
RefusesPad fault Memory = fault ≡ None
