-- How bytes are cut into lines.
use Rattle.std.specs.Prelude.{◌≡◌, ℕ, ◌+◌, ◌<◌, ◌≤◌, ◌==◌, ◌&&◌, Bool, true, false, nat_le, if◌then◌else◌, List, [], ◌∷◌, ◌++◌, length, drop, map, Option, Some, None}
use Rattle.std.specs.List.{position_or_len, list_all}
use Rattle.std.specs.Io.KnownBytes.{prepend_known}

-- ---- the first line

-- how many bytes stand before the first LF, or in all where there is none
abbrev pub line_size : List ℕ → ℕ
line_size bytes = position_or_len (λ b. b == 10) bytes

-- these bytes begin with an LF
abbrev pub begins_with_lf : List ℕ → Bool
begins_with_lf [] = false
begins_with_lf (b ∷ bytes) = b == 10

-- The text of the first line: the bytes before the first LF or CR LF, or all where there is neither. A CR that no LF follows
-- is a byte of the text.
unfoldable pub line_text : List ℕ → List ℕ
line_text [] = []
line_text (b ∷ bytes) = if b == 10 then [] else (if begins_with_lf bytes && b == 13 then [] else b ∷ line_text bytes)

-- the bytes behind the first LF, or none
abbrev pub behind_line : List ℕ → List ℕ
behind_line bytes = drop (line_size bytes + 1) bytes

-- a line of 4,097 bytes or more before its LF is too long, a CR being counted
abbrev pub IsLineTooLong : List ℕ → Type 0
IsLineTooLong bytes = 4096 < line_size bytes

-- ---- all lines

-- a line as it is cut: its text as it is served, and how many bytes stand before its LF, a CR being counted
pub record CutLine : Type 0 where
  pub text : List ℕ
  pub size : ℕ

-- these lines with one more byte in front, which is no part of the text where it is the CR before an LF
abbrev pub with_byte : Bool → ℕ → List CutLine → List CutLine
with_byte dropped b [] = record { text = b ∷ []; size = 1 } ∷ []
with_byte dropped b (line ∷ lines) = record { text = if dropped then [] else b ∷ line.text; size = line.size + 1 } ∷ lines

-- The bytes cut at LF. An LF ends a line, and any other byte stands in front of the lines behind it.
unfoldable pub cut_lines : List ℕ → List CutLine
cut_lines [] = []
cut_lines (b ∷ bytes) = if b == 10 then record { text = []; size = 0 } ∷ cut_lines bytes else with_byte (begins_with_lf bytes && b == 13) b (cut_lines bytes)

-- the texts of all lines
abbrev pub lines_of : List ℕ → List (List ℕ)
lines_of bytes = map (λ (line : CutLine). line.text) (cut_lines bytes)

-- ---- one call of the reader

-- the bytes that lie before the reader: those that it holds, and behind them those that the source has left, where it tells them
abbrev pub unread : List ℕ → Option (List ℕ) → Option (List ℕ)
unread held left = prepend_known held left

-- A line is served from the bytes that lie before the reader, and others lie before it then: the first line, which isn't too
-- long, and the bytes behind it. So all lines are that line and then those of the bytes behind it.
pub record ServesLine (before text after : List ℕ) : Type 0 where
  pub some : 0 < length before
  pub short : line_size before ≤ 4096
  pub line : text ≡ line_text before
  pub rest : after ≡ behind_line before
  pub lines : cut_lines before ≡ record { text = text; size = line_size before } ∷ cut_lines after

-- what a call serves: a line, or none where no bytes are left
abbrev pub ServesNextLine : List ℕ → Option (List ℕ) → List ℕ → Type 0
ServesNextLine before None after = (before ≡ []) × (after ≡ [])
ServesNextLine before (Some text) after = ServesLine before text after

-- the same of bytes that may be told; what isn't told stays untold
abbrev pub ServesTold : Option (List ℕ) → Option (List ℕ) → Option (List ℕ) → Type 0
ServesTold None line after = after ≡ None
ServesTold (Some before) line None = ⊥
ServesTold (Some before) line (Some after) = ServesNextLine before line after

-- ---- a run of calls

-- a line that isn't too long
abbrev pub is_short_line : CutLine → Bool
is_short_line line = nat_le line.size 4096

-- these lines were served from the bytes, none of them too long, and the lines of the other bytes come behind them
pub record HasServed (bytes : List ℕ) (lines : List CutLine) (rest : List ℕ) : Type 0 where
  pub short : list_all is_short_line lines ≡ true
  pub cut : cut_lines bytes ≡ lines ++ cut_lines rest
