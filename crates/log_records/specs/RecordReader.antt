-- Reading records from left to right, up to the first fault.
--
-- A fault is the rule that is broken, and how many bytes there are from its place on. Rule 1: the
-- bytes end before the record does. Rule 2: an unknown code or kind. Rule 3: a number or a byte is
-- out of its range. Rule 4: the length of a record whose fields are all there is another.
use Rattle.std.specs.Prelude.{◌≡◌, ℕ, zero, suc, ◌+◌, ◌-◌, ◌==◌, nat_lt, nat_le, not, Bool, true, false, ◌&&◌, if◌then◌else◌, List, [], ◌∷◌, length, take, drop, position, Option, Some, None, Result, Ok, Err}
use Rattle.std.specs.Int.{Width, w16, w64, byte_len, from_be_bytes}
use Rattle.tm_types.specs.Name.{is_name_byte}
use Rattle.tm_types.specs.Segment.{is_printable}
use Rattle.log_records.specs.declared.fault.ReadFault.{ReadFault}
use Rattle.log_records.specs.declared.fault.ReadFault.TheVariants as faults
use Rattle.log_records.specs.declared.record.Record.{Record}
use Rattle.log_records.specs.declared.record.Record.TheVariants.{Input, Command, Reply, Discarded, Completed, Acknowledged, SyncPoint, Checkpoint, Terminal, Code, Change}
use Rattle.model_messages.specs.declared.conversation.PadChange.{PadChange}
use Rattle.model_messages.specs.declared.conversation.PadChange.TheVariants.{Stays, New, Ends}
use Rattle.model_messages.specs.declared.conversation.Conversation.{Conversation}

abbrev pub RecordFault : Type 0
RecordFault = ℕ × ℕ

infixl 10 ◌>>=◌
abbrev pub ◌>>=◌ : {A B : Type 0} → Result A RecordFault → (A → Result B RecordFault) → Result B RecordFault
(Ok x) >>= f = f x
(Err e) >>= f = Err e

-- a value and the bytes after it, or the first fault
abbrev pub Reader : Type 0 → Type 0
Reader A = List ℕ → Result (A × List ℕ) RecordFault

-- What a function returned, seen by view, is what reading gives, unless memory ran out.
abbrev pub ReadingFails : {Y : Type 0} → ReadFault → Result Y RecordFault → Type 0
ReadingFails faults.Memory read = Unit {0}
ReadingFails (faults.Broken rule left) read = read ≡ Err (rule, left)

abbrev pub GivesRead : {X Y : Type 0} → (X → Y) → Result X ReadFault → Result Y RecordFault → Type 0
GivesRead view (Ok x) read = read ≡ Ok (view x)
GivesRead view (Err e) read = ReadingFails e read

-- one field, and then others
infixr 20 ◌&◌
abbrev pub ◌&◌ : {A B : Type 0} → Reader A → Reader B → Reader (A × B)
(a & b) bytes = a bytes >>= λ x. b x.1 >>= λ y. Ok ((x.0, y.0), y.1)

-- a record of these fields
abbrev pub read_made : {A B : Type 0} → (A → B) → Reader A → Reader B
read_made make a bytes = a bytes >>= λ x. Ok (make x.0, x.1)

-- ---- Fields

abbrev pub ends_early : {A : Type 0} → Result A RecordFault
ends_early = Err (1, 0)

-- out of range at the first of these bytes
abbrev pub out_of_range : {A : Type 0} → List ℕ → Result A RecordFault
out_of_range bytes = Err (3, length bytes)

unfoldable pub read_byte : Reader ℕ
read_byte [] = ends_early
read_byte (b ∷ rest) = Ok (b, rest)

unfoldable pub read_number : Width → Reader ℕ
read_number w bytes = if nat_lt (length bytes) (byte_len w) then ends_early else Ok (from_be_bytes w (take (byte_len w) bytes), drop (byte_len w) bytes)

unfoldable pub flag_at : Reader Bool
flag_at [] = ends_early
flag_at (zero ∷ rest) = Ok (false, rest)
flag_at (suc zero ∷ rest) = Ok (true, rest)
flag_at (suc (suc b) ∷ rest) = out_of_range (suc (suc b) ∷ rest)

-- as many bytes as a length says
unfoldable pub read_bytes : ℕ → Reader (List ℕ)
read_bytes n bytes = if nat_lt (length bytes) n then ends_early else Ok (take n bytes, drop n bytes)

-- Of these bytes, the first one that isn't of the kind is out of range.
abbrev pub unless_wrong : Option ℕ → ℕ → Reader (List ℕ)
unless_wrong (Some i) n bytes = Err (3, length bytes - i)
unless_wrong None n bytes = read_bytes n bytes

unfoldable pub bytes_of_kind_at : (ℕ → Bool) → ℕ → Reader (List ℕ)
bytes_of_kind_at p n bytes = unless_wrong (position (λ b. not (p b)) (take n bytes)) n bytes

-- a number that is in this range
unfoldable pub number_within_at : ℕ → ℕ → Width → Reader ℕ
number_within_at low high w bytes = read_number w bytes >>= λ n. if nat_le low n.0 && nat_le n.0 high then Ok n else out_of_range bytes

unfoldable pub byte_within_at : ℕ → ℕ → Reader ℕ
byte_within_at low high bytes = read_byte bytes >>= λ n. if nat_le low n.0 && nat_le n.0 high then Ok n else out_of_range bytes

unfoldable pub name_at : Reader (List ℕ)
name_at bytes = byte_within_at 1 8 bytes >>= λ n. bytes_of_kind_at is_name_byte n.0 n.1

-- a text of at most so many bytes
unfoldable pub text_at : ℕ → Reader (List ℕ)
text_at limit bytes = number_within_at 0 limit w16 bytes >>= λ n. read_bytes n.0 n.1

unfoldable pub segment_at : Reader (List ℕ)
segment_at bytes = number_within_at 0 1996 w16 bytes >>= λ n. bytes_of_kind_at is_printable n.0 n.1

unfoldable pub read_segments : ℕ → Reader (List (List ℕ))
read_segments zero bytes = Ok ([], bytes)
read_segments (suc n) bytes = segment_at bytes >>= λ first. read_segments n first.1 >>= λ others. Ok (first.0 ∷ others.0, others.1)

unfoldable pub segs_at : Reader (List (List ℕ))
segs_at bytes = byte_within_at 1 32 bytes >>= λ n. read_segments n.0 n.1

-- no text: its length is 0
unfoldable pub pad_of_kind_at : ℕ → Reader PadChange
pad_of_kind_at zero = read_made (λ _. Stays) (text_at 0)
pad_of_kind_at (suc zero) = read_made (λ pad. New pad) (text_at 65535)
pad_of_kind_at (suc (suc b)) = read_made (λ _. Ends) (text_at 0)

unfoldable pub pad_change_at : Reader PadChange
pad_change_at bytes = byte_within_at 0 2 bytes >>= λ kind. pad_of_kind_at kind.0 kind.1

unfoldable pub conversation_where_at : Bool → Reader (Option Conversation)
conversation_where_at false = read_made (λ _. None) (text_at 0)
conversation_where_at true = read_made (λ c. Some (record { code = c.0; pad = c.1 })) (name_at & text_at 65535)

unfoldable pub read_conversation : Reader (Option Conversation)
read_conversation bytes = flag_at bytes >>= λ there. conversation_where_at there.0 there.1

-- ---- The fields of each record

unfoldable pub input_at : Reader Record
input_at = read_made (λ v. Input v.0 v.1.0 v.1.1.0 v.1.1.1.0 v.1.1.1.1.0 v.1.1.1.1.1.0 v.1.1.1.1.1.1)
    (read_number w64 & read_number w64 & name_at & name_at & read_number w64 & flag_at & segs_at)

unfoldable pub command_at : Reader Record
command_at = read_made (λ words. Command words) (text_at 80)

unfoldable pub read_reply : Reader Record
read_reply = read_made (λ v. Reply v.0 v.1.0 v.1.1.0 v.1.1.1) (read_number w64 & name_at & read_number w64 & segs_at)

unfoldable pub discarded_at : Reader Record
discarded_at = read_made (λ v. Discarded v.0 v.1.0 (record { number = v.1.1.0 }) v.1.1.1)
    (read_number w64 & read_number w64 & number_within_at 1 4095 w16 & read_number w64)

unfoldable pub completed_at : Reader Record
completed_at = read_made (λ v. Completed v.0 v.1) (read_number w64 & read_number w64)

unfoldable pub acknowledged_at : Reader Record
acknowledged_at = read_made (λ v. Acknowledged v.0 v.1) (name_at & read_number w64)

unfoldable pub sync_point_at : Reader Record
sync_point_at = read_made (λ v. SyncPoint v.0 v.1) (read_number w64 & pad_change_at)

unfoldable pub checkpoint_at : Reader Record
checkpoint_at = read_made (λ v. Checkpoint v.0 v.1.0 v.1.1.0 v.1.1.1) (read_number w64 & read_number w64 & read_number w64 & read_number w64)

unfoldable pub read_terminal : Reader Record
read_terminal = read_made (λ v. Terminal v.0 v.1.0 v.1.1.0 v.1.1.1.0 v.1.1.1.1) (name_at & read_number w64 & read_number w64 & flag_at & read_conversation)

unfoldable pub read_code : Reader Record
read_code = read_made (λ v. Code v.0 v.1.0 v.1.1.0 v.1.1.1) (name_at & flag_at & read_byte & read_byte)

unfoldable pub read_change : Reader Record
read_change = read_made (λ v. Change v.0 v.1.0 v.1.1.0 v.1.1.1.0 v.1.1.1.1) (read_number w64 & read_byte & read_number w16 & text_at 32000 & text_at 32000)

-- ---- Records

-- unknown at the byte before these
abbrev pub unknown : {A : Type 0} → List ℕ → Result A RecordFault
unknown rest = Err (2, suc (length rest))

unfoldable pub answered_of_kind_at : ℕ → Reader Record
answered_of_kind_at kind rest = if kind == 0 then completed_at rest else if kind == 1 then acknowledged_at rest else unknown rest

unfoldable pub answered_at : Reader Record
answered_at bytes = read_byte bytes >>= λ kind. answered_of_kind_at kind.0 kind.1

unfoldable pub snapshot_of_kind_at : ℕ → Reader Record
snapshot_of_kind_at kind rest =
    if kind == 0 then checkpoint_at rest
    else if kind == 1 then read_terminal rest
    else if kind == 2 then read_code rest
    else unknown rest

unfoldable pub snapshot_at : Reader Record
snapshot_at bytes = read_byte bytes >>= λ kind. snapshot_of_kind_at kind.0 kind.1

unfoldable pub content_of_code_at : ℕ → Reader Record
content_of_code_at code rest =
    if code == 0x01 then input_at rest
    else if code == 0x02 then command_at rest
    else if code == 0x03 then read_reply rest
    else if code == 0x07 then discarded_at rest
    else if code == 0x36 then answered_at rest
    else if code == 0x37 then sync_point_at rest
    else if code == 0x40 then snapshot_at rest
    else if code == 0x50 then read_change rest
    else unknown rest

unfoldable pub content_at : Reader Record
content_at bytes = read_byte bytes >>= λ code. content_of_code_at code.0 code.1

-- A record at the front of the bytes, and its length. A length that disagrees with the fields is told where these end, behind all of them.
unfoldable pub record_at : List ℕ → Result (Record × ℕ) RecordFault
record_at bytes = read_number w16 bytes >>= λ named. content_at named.1 >>= λ found.
    if named.0 + length found.1 == length bytes then Ok (found.0, named.0) else Err (4, length found.1)
