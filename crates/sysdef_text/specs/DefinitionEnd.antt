-- Where a definition ends, and how its lines are read one after another.
use Rattle.std.specs.Prelude.{ℕ, ◌+◌, ◌-◌, ◌≡◌, ◌≤◌, nat_lt, Bool, true, false, not, ◌&&◌, ◌||◌, if◌then◌else◌, List, [], ◌∷◌, ◌++◌, length, codes}
use Rattle.std.specs.Str.{bytes_eq}
use Rattle.text_rows.specs.Operands.{macro_name}
use Rattle.script_text.specs.Scripts.{is_script_last}
use Rattle.sysdef_text.specs.MacroPlaces.{is_program_word}

-- whether the lines behind this one are those of a program
abbrev pub stays_inside : Bool → List ℕ → Bool
stays_inside true line = not (is_script_last line)
stays_inside false line = is_program_word line

-- the macro END; a line of a program is none
abbrev pub is_end_line : Bool → List ℕ → Bool
is_end_line inside line = not inside && bytes_eq (macro_name line) (codes "END")

-- A definition ends with the macro END, or with the line for which there is no room; a line counts
-- with its LF.
unfoldable pub ends_definition : Bool → ℕ → List ℕ → Bool
ends_definition inside room line = is_end_line inside line || nat_lt room (length line + 1)

-- the lines of a definition, of which there is room for so many bytes
abbrev pub definition_from : Bool → ℕ → List (List ℕ) → List (List ℕ)
definition_from inside room [] = []
definition_from inside room (line ∷ lines) =
    line ∷ (if ends_definition inside room line then [] else definition_from (stays_inside inside line) (room - (length line + 1)) lines)

-- the lines behind them
abbrev pub behind_from : Bool → ℕ → List (List ℕ) → List (List ℕ)
behind_from inside room [] = []
behind_from inside room (line ∷ lines) =
    if ends_definition inside room line then lines else behind_from (stays_inside inside line) (room - (length line + 1)) lines

-- A definition has 262,144 bytes at most.
abbrev pub definition_lines : List (List ℕ) → List (List ℕ)
definition_lines lines = definition_from false 262144 lines

abbrev pub lines_behind : List (List ℕ) → List (List ℕ)
lines_behind lines = behind_from false 262144 lines

-- The lines that have come, whether those behind them are a program's, for how many bytes there is
-- room, and whether the definition has ended.
pub record Reading : Type 0 where
  pub lines : List (List ℕ)
  pub inside : Bool
  pub room : ℕ
  pub ended : Bool

abbrev pub no_lines : Reading
no_lines = record { lines = []; inside = false; room = 262144; ended = false }

-- with one line more
abbrev pub with_read_line : List ℕ → Reading → Reading
with_read_line line reading = record {
  lines = reading.lines ++ line ∷ [];
  inside = stays_inside reading.inside line;
  room = reading.room - (length line + 1);
  ended = ends_definition reading.inside reading.room line;
}

-- as long as the definition hasn't ended there is room for each line
pub record IsReading (reading : Reading) : Type 0 where
  pub few : length reading.lines ≤ 262145
  pub room_left : reading.ended ≡ false → length reading.lines + reading.room ≤ 262144
