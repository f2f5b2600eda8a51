-- The reply that was shown last.
use Rattle.std.specs.Prelude.{ℕ, ◌==◌, if◌then◌else◌, List, [], ◌∷◌, Option, Some, None, codes}
use Rattle.std.specs.Str.{bytes_eq}
use Rattle.tm_types.specs.Words.{first_word, operands}

-- The lines of what was printed, each ended by an LF. What stands behind the last LF is no line.
abbrev pub with_line_front : ℕ → List (List ℕ) → List (List ℕ)
with_line_front byte [] = []
with_line_front byte (line ∷ lines) = (byte ∷ line) ∷ lines

unfoldable pub printed_lines : List ℕ → List (List ℕ)
printed_lines [] = []
printed_lines (byte ∷ bytes) = if byte == 10 then [] ∷ printed_lines bytes else with_line_front byte (printed_lines bytes)

-- A line `OUT terminal number text` shows the first segment of a reply, which is its text.
abbrev pub shown_on : List ℕ → Option (List ℕ)
shown_on line = if bytes_eq (first_word line) (codes "OUT") then Some (operands (operands (operands line))) else None

-- the later one, where there is one
abbrev pub later : Option (List ℕ) → Option (List ℕ) → Option (List ℕ)
later first None = first
later first (Some text) = Some text

-- the text of the reply that is shown last on these lines, if one is
abbrev pub last_shown : List (List ℕ) → Option (List ℕ)
last_shown [] = None
last_shown (line ∷ lines) = later (shown_on line) (last_shown lines)

abbrev pub last_reply : List ℕ → Option (List ℕ)
last_reply printed = last_shown (printed_lines printed)
