-- Scratch pads.
use Rattle.std.specs.Prelude.{ℕ, ◌-◌, nat_lt, Bool, true, false, if◌then◌else◌, List, ◌++◌, Option, None, Some, length, take, replicate}
use Rattle.std.specs.Str.{bytes_eq}
use Rattle.model_messages.specs.declared.conversation.Conversation.{Conversation}
use Rattle.model_messages.specs.declared.conversation.PadChange.{PadChange}
use Rattle.model_messages.specs.declared.conversation.PadChange.TheVariants.{Stays, New, Ends}

-- bytes with blanks behind up to this length, or cut to it
abbrev pub fitted_pad : ℕ → List ℕ → List ℕ
fitted_pad n bytes = take n bytes ++ replicate (n - length bytes) 32

-- the code as a pad begins with it: padded with blanks to 8 bytes
abbrev pub code_field : List ℕ → List ℕ
code_field code = fitted_pad 8 code

-- a conversation as it begins: the pad is the code, and a work area of so many blanks
abbrev pub begun : List ℕ → ℕ → Conversation
begun code work = record { code = code; pad = code_field code ++ replicate work 32 }

-- the conversation with this text as its pad, whose length stays
abbrev pub with_pad : List ℕ → Conversation → Conversation
with_pad text c = record c { pad = fitted_pad (length c.pad) text }

-- what is wrong with a text as a pad of a conversation of the code: 1, it is shorter than 8 bytes; 2, its
-- code is another one
abbrev pub pad_fault : List ℕ → List ℕ → Option ℕ
pad_fault code text =
    if nat_lt (length text) 8 then Some 1
    else (if bytes_eq (take 8 text) (code_field code) then None
    else Some 2)

-- a text that has blanks in the place of the code ends the conversation
abbrev pub ends_conversation : List ℕ → Bool
ends_conversation text = bytes_eq (take 8 text) (replicate 8 32)

-- A program may give this text back as the pad: it has 8 bytes or more, and the conversation's code or blanks in
-- front.
abbrev pub is_pad : List ℕ → List ℕ → Bool
is_pad code text = if nat_lt (length text) 8 then false else (if ends_conversation text then true else bytes_eq (take 8 text) (code_field code))

-- What the text that was given back does: the conversation ends, or the text is its pad; without one the pad stays.
abbrev pub pad_change_by : Option (List ℕ) → PadChange
pad_change_by None = Stays
pad_change_by (Some text) = if ends_conversation text then Ends else New text
