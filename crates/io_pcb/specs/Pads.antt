-- The scratch pad of the conversation of a message.
use Rattle.std.specs.Prelude.{◌≡◌, ℕ, ◌+◌, ◌≤◌, ⊤, Bool, true, false, ◌&&◌, List, Option, Some, None, length}
use Rattle.std.specs.Option.{option_map}
use Rattle.tm_types.specs.Segment.{IsSegmentText}
use Rattle.model_messages.specs.declared.conversation.Conversation.{Conversation}
use Rattle.model_messages.specs.declared.conversation.PadChange.{PadChange}
use Rattle.model_messages.specs.declared.conversation.PadChange.TheVariants.{Stays, New, Ends}
use Rattle.model_messages.specs.Pads.{is_pad, pad_fault}
use Rattle.model_messages.specs.MessageWork.{MessageWork}
use Rattle.model_messages.specs.MessageCalls.{gives_back, is_wrong_pad}
use Rattle.io_pcb.specs.declared.pad.LentPad.{LentPad}
use Rattle.io_pcb.specs.declared.pad.LentPad.TheVariants.{Stays as LentStays, New as LentNew, Ends as LentEnds}

-- The pad has at least the 8 bytes of the code, and a segment can hold it.
pub record IsPadText (pad : List ℕ) : Type 0 where
  pub code : 8 ≤ length pad
  pub held : IsSegmentText pad

-- the conversation of a message of this code: a message without a pad belongs to none
abbrev pub conversation_with : List ℕ → List ℕ → Conversation
conversation_with code pad = record { code = code; pad = pad }

abbrev pub conversation_by : List ℕ → Option (List ℕ) → Option Conversation
conversation_by code pad = option_map (conversation_with code) pad

-- What is kept of a conversation's pad: the pad, and the text that was given back, which is as long as the pad, has
-- the conversation's code or blanks in front, and fits a segment.
pub record IsPadBack (code pad text : List ℕ) : Type 0 where
  pub size : length text ≡ length pad
  pub good : is_pad code text ≡ true
  pub held : IsSegmentText text

abbrev pub ArePadsKept : List ℕ → Option (List ℕ) → Option (List ℕ) → Type 0
ArePadsKept code None None = ⊤
ArePadsKept code None (Some text) = ⊥
ArePadsKept code (Some pad) None = IsPadText pad
ArePadsKept code (Some pad) (Some text) = IsPadText pad × IsPadBack code pad text

-- the place of the text that is given next, by the one of the next segment: before the first text it is 0, and the pad
-- has place 0
abbrev pub place_by : Bool → Option (List ℕ) → ℕ → ℕ
place_by false pad next = 0
place_by true None next = next
place_by true (Some pad) next = next + 1

-- the text would be given back as the pad, and is none
abbrev pub gives_wrong : MessageWork → ℕ → List ℕ → Bool
gives_wrong work pcb text = gives_back work pcb && is_wrong_pad work.conversation text

-- what becomes of the pad, as it is lent
abbrev pub lent_pad : LentPad → PadChange
lent_pad LentStays = Stays
lent_pad (LentNew text) = New text.now
lent_pad LentEnds = Ends

-- A new pad is as long as the one before, has the conversation's code in front, and a segment can hold it.
pub record IsNewPad (conversation : Conversation) (text : List ℕ) : Type 0 where
  pub size : length text ≡ length conversation.pad
  pub good : pad_fault conversation.code text ≡ None
  pub held : IsSegmentText text

-- Only the pad of a conversation changes.
abbrev pub Suits : Option Conversation → PadChange → Type 0
Suits conversation Stays = ⊤
Suits (Some c) (New text) = IsNewPad c text
Suits (Some c) Ends = ⊤
Suits None (New text) = ⊥
Suits None Ends = ⊥
