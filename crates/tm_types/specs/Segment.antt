-- Segments, and the bytes that a message or a reply counts.
use Rattle.std.specs.Prelude.{ℕ, ◌+◌, ◌≤◌, nat_le, Bool, ◌&&◌, List, length, IsTrue, sum_by}
use Rattle.std.specs.List.{list_all}

-- a printable byte, from 32 to 126
abbrev pub is_printable : ℕ → Bool
is_printable b = nat_le 32 b && nat_le b 126

-- bytes that are all printable
abbrev pub are_printable : List ℕ → Bool
are_printable bytes = list_all is_printable bytes

-- the text of a segment has at most 1,996 bytes, each of them printable
abbrev pub IsSegmentText : List ℕ → Type 0
IsSegmentText text = (length text ≤ 1996) × IsTrue (list_all is_printable text)

-- LL, the length that a segment counts: 4 more than its text
abbrev pub segment_length : List ℕ → ℕ
segment_length text = 4 + length text

-- the bytes that a message or a reply with these segments counts: 48 plus the LLs
abbrev pub counted_bytes : List (List ℕ) → ℕ
counted_bytes segments = 48 + sum_by segment_length segments
