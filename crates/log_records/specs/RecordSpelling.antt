-- Log records, and the one spelling of each.
use Rattle.std.specs.Prelude.{◌≡◌, ℕ, ◌+◌, ◌^◌, ◌<◌, ◌≤◌, Bool, true, false, List, [], ◌∷◌, ◌++◌, length, Option, Some, None}
use Rattle.std.specs.List.{flat_map, AllByRecursion}
use Rattle.std.specs.Int.{w16, w64, to_be_bytes}
use Rattle.tm_types.specs.Name.{IsName}
use Rattle.tm_types.specs.Segment.{IsSegmentText}
use Rattle.log_records.specs.declared.record.Record.{Record}
use Rattle.log_records.specs.declared.record.Record.TheVariants.{Input, Command, Reply, Discarded, Completed, Acknowledged, SyncPoint, Checkpoint, Terminal, Code, Change}
use Rattle.model_messages.specs.declared.conversation.PadChange.{PadChange}
use Rattle.model_messages.specs.declared.conversation.PadChange.TheVariants.{Stays, New, Ends}
use Rattle.model_messages.specs.declared.conversation.Conversation.{Conversation}

-- the bytes of a field, and then those of the next ones
infixr 20 ◌▹◌
abbrev pub ◌▹◌ : List ℕ → List ℕ → List ℕ
a ▹ b = a ++ b

-- ---- Fields

-- numbers of one, two and eight bytes, the highest byte first
abbrev pub number1 : ℕ → List ℕ
number1 n = n ∷ []

unfoldable pub number2 : ℕ → List ℕ
number2 n = to_be_bytes w16 n

unfoldable pub number8 : ℕ → List ℕ
number8 n = to_be_bytes w64 n

abbrev pub flag : Bool → List ℕ
flag false = 0 ∷ []
flag true = 1 ∷ []

-- the length in one byte, and the bytes
abbrev pub name : List ℕ → List ℕ
name bytes = length bytes ∷ bytes

-- the length in two bytes, and the bytes
abbrev pub text : List ℕ → List ℕ
text bytes = number2 (length bytes) ++ bytes

-- the count in one byte, and the texts
abbrev pub segs : List (List ℕ) → List ℕ
segs segments = length segments ∷ flat_map text segments

-- 0 where the pad stays, 1 for a new one, 2 where it ends; and a text, which is the new pad or empty
abbrev pub spelled_pad_change : PadChange → List ℕ
spelled_pad_change Stays = 0 ∷ text []
spelled_pad_change (New pad) = 1 ∷ text pad
spelled_pad_change Ends = 2 ∷ text []

-- a flag, the code where it is 1, and a text, which is the pad or empty
abbrev pub conversation_field : Option Conversation → List ℕ
conversation_field None = 0 ∷ text []
conversation_field (Some c) = 1 ∷ (name c.code ▹ text c.pad)

-- ---- Records

-- the code, for some codes a kind, and the fields
abbrev pub record_content : Record → List ℕ
record_content (Input unit id origin code number conversation segments) =
    0x01 ∷ (number8 unit ▹ number8 id ▹ name origin ▹ name code ▹ number8 number ▹ flag conversation ▹ segs segments)
record_content (Command words) = 0x02 ∷ text words
record_content (Reply unit terminal number segments) = 0x03 ∷ (number8 unit ▹ name terminal ▹ number8 number ▹ segs segments)
record_content (Discarded unit id abend number) = 0x07 ∷ (number8 unit ▹ number8 id ▹ number2 abend.number ▹ number8 number)
record_content (Completed unit id) = 0x36 ∷ 0 ∷ (number8 unit ▹ number8 id)
record_content (Acknowledged terminal number) = 0x36 ∷ 1 ∷ (name terminal ▹ number8 number)
record_content (SyncPoint unit pad) = 0x37 ∷ (number8 unit ▹ spelled_pad_change pad)
record_content (Checkpoint checkpoint next_id next_unit lasting_steps) =
    0x40 ∷ 0 ∷ (number8 checkpoint ▹ number8 next_id ▹ number8 next_unit ▹ number8 lasting_steps)
record_content (Terminal terminal last_input next_output stopped conversation) =
    0x40 ∷ 1 ∷ (name terminal ▹ number8 last_input ▹ number8 next_output ▹ flag stopped ▹ conversation_field conversation)
record_content (Code code stopped class priority) = 0x40 ∷ 2 ∷ (name code ▹ flag stopped ▹ number1 class ▹ number1 priority)
record_content (Change unit database slot before after) =
    0x50 ∷ (number8 unit ▹ number1 database ▹ number2 slot ▹ text before ▹ text after)

-- the length of the whole record, and its content
abbrev pub record_length : Record → ℕ
record_length r = 2 + length (record_content r)

abbrev pub record_spelling : Record → List ℕ
record_spelling r = number2 (record_length r) ++ record_content r

-- ---- Ranges

abbrev pub IsByte : ℕ → Type 0
IsByte n = n < 2 ^ 8

abbrev pub IsNumber : ℕ → Type 0
IsNumber n = n < 2 ^ 64

-- 1 to 32 texts of segments
abbrev pub AreSegments : List (List ℕ) → Type 0
AreSegments segments = (1 ≤ length segments) × (length segments ≤ 32) × AllByRecursion IsSegmentText segments

abbrev pub IsAbend : ℕ → Type 0
IsAbend number = (1 ≤ number) × (number ≤ 4095)

-- a text whose length is a number of two bytes
abbrev pub IsText : List ℕ → Type 0
IsText bytes = length bytes < 2 ^ 16

abbrev pub IsPadChange : PadChange → Type 0
IsPadChange Stays = Unit {0}
IsPadChange (New pad) = IsText pad
IsPadChange Ends = Unit {0}

abbrev pub IsConversationSpelled : Option Conversation → Type 0
IsConversationSpelled None = Unit {0}
IsConversationSpelled (Some c) = IsName c.code × IsText c.pad

-- each field is in its range
abbrev pub AreInRange : Record → Type 0
AreInRange (Input unit id origin code number conversation segments) =
    IsNumber unit × (IsNumber id × (IsName origin × (IsName code × (IsNumber number × (Unit {0} × AreSegments segments)))))
AreInRange (Command words) = length words ≤ 80
AreInRange (Reply unit terminal number segments) = IsNumber unit × (IsName terminal × (IsNumber number × AreSegments segments))
AreInRange (Discarded unit id abend number) = IsNumber unit × (IsNumber id × (IsAbend abend.number × IsNumber number))
AreInRange (Completed unit id) = IsNumber unit × IsNumber id
AreInRange (Acknowledged terminal number) = IsName terminal × IsNumber number
AreInRange (SyncPoint unit pad) = IsNumber unit × IsPadChange pad
AreInRange (Checkpoint checkpoint next_id next_unit lasting_steps) =
    IsNumber checkpoint × (IsNumber next_id × (IsNumber next_unit × IsNumber lasting_steps))
AreInRange (Terminal terminal last_input next_output stopped conversation) =
    IsName terminal × (IsNumber last_input × (IsNumber next_output × (Unit {0} × IsConversationSpelled conversation)))
AreInRange (Code code stopped class priority) = IsName code × (Unit {0} × (IsByte class × IsByte priority))
AreInRange (Change unit database slot before after) =
    IsNumber unit × (IsByte database × ((slot < 2 ^ 16) × ((length before ≤ 32000) × (length after ≤ 32000))))

-- each field is in its range, and the length is a number of two bytes
pub record IsLogRecord (r : Record) : Type 0 where
  pub fields : AreInRange r
  pub short : record_length r < 2 ^ 16

-- The bytes are the spelling of the record.
pub record SpellsLogRecord (bytes : List ℕ) (r : Record) : Type 0 where
  pub is_record : IsLogRecord r
  pub same : bytes ≡ record_spelling r

-- ---- What the types of the fields leave open

abbrev pub IsCount : List (List ℕ) → Type 0
IsCount segments = (1 ≤ length segments) × (length segments ≤ 32)

abbrev pub IsShortPad : Option Conversation → Type 0
IsShortPad None = Unit {0}
IsShortPad (Some c) = IsText c.pad

-- a pad that any terminal's record has room for
abbrev pub HasRoomForPad : Option Conversation → Type 0
HasRoomForPad None = Unit {0}
HasRoomForPad (Some c) = length c.pad ≤ 65000

-- A name is a name and the text of a segment is one by its type; these are the other ranges.
abbrev pub KeepsLimits : Record → Type 0
KeepsLimits (Input unit id origin code number conversation segments) = IsCount segments
KeepsLimits (Command words) = length words ≤ 80
KeepsLimits (Reply unit terminal number segments) = IsCount segments
KeepsLimits (Discarded unit id abend number) = IsAbend abend.number
KeepsLimits (Completed unit id) = Unit {0}
KeepsLimits (Acknowledged terminal number) = Unit {0}
KeepsLimits (SyncPoint unit pad) = IsPadChange pad
KeepsLimits (Checkpoint checkpoint next_id next_unit lasting_steps) = Unit {0}
KeepsLimits (Terminal terminal last_input next_output stopped conversation) = IsShortPad conversation
KeepsLimits (Code code stopped class priority) = Unit {0}
KeepsLimits (Change unit database slot before after) = (length before ≤ 32000) × (length after ≤ 32000)

-- Only a pad can make a record so long that its length isn't a number of two bytes.
abbrev pub IsShort : Record → Type 0
IsShort (SyncPoint unit pad) = record_length (SyncPoint unit pad) < 2 ^ 16
IsShort (Terminal terminal last_input next_output stopped conversation) =
    record_length (Terminal terminal last_input next_output stopped conversation) < 2 ^ 16
IsShort _ = Unit {0}

pub record IsEncodable (r : Record) : Type 0 where
  pub limits : KeepsLimits r
  pub short : IsShort r
