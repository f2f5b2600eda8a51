-- A message format within a definition.
use Rattle.std.specs.Prelude.{ℕ, suc, Bool, List, [], ◌∷◌, Result, Ok, Err, codes, if◌then◌else◌}
use Rattle.std.specs.Str.{bytes_eq}
use Rattle.text_rows.specs.Lines.{is_passed_over}
use Rattle.text_rows.specs.LowestRule.{also}
use Rattle.text_rows.specs.Operands.{macro_name, macro_operands}
use Rattle.text_rows.specs.Refusals.{at_line}
use Rattle.model_system.specs.FormatLines.{FormatLines}
use Rattle.mfs_text.specs.Formats.{read_format}
use Rattle.mfs_text.specs.Lines.{or_lower}
use Rattle.sysdef_rows.specs.declared.kinds.Kind.{Kind}
use Rattle.sysdef_rows.specs.Kinds.{kind_of, macro_keys_known}
use Rattle.sysdef_rows.specs.Rows.{macro_row, read_format_name, program_name}
use Rattle.sysdef_text.specs.MacroPlaces.{is_format_word, is_program_word, within_definition}
use Rattle.sysdef_text.specs.Programs.{and_further, lowest_rule}

-- A macro of a definition that stands in a format is out of its place: rule 10, unless its operands
-- break a lower one.
abbrev pub foreign_by : Result Kind ℕ → List (List ℕ) → Result (Unit {0}) ℕ
foreign_by (Ok kind) ops = Err (or_lower (macro_keys_known kind ops) (or_lower (macro_row kind ops) 10))
foreign_by (Err rule) ops = Ok tt

unfoldable pub foreign : List ℕ → Result (Unit {0}) ℕ
foreign line =
    if is_program_word line then Err (or_lower (program_name line) 10)
    else (if is_format_word line then Err (or_lower (read_format_name (macro_operands line)) 10)
    else foreign_by (kind_of (macro_name line)) (macro_operands line))

-- What is judged of a line apart from the rules of formats: such a macro, and where the text ends.
unfoldable pub line_apart : Bool → List ℕ → List (List ℕ) → Result (Unit {0}) ℕ
line_apart over line behind = if is_passed_over line then within_definition over behind else also (foreign line) (within_definition over behind)

abbrev pub is_format_end : List ℕ → Bool
is_format_end line = bytes_eq (macro_name line) (codes "FMTEND")

-- the first line that is broken so, up to FMTEND
abbrev pub format_apart : Bool → ℕ → List (List ℕ) → Result (Unit {0}) (ℕ × ℕ)
format_apart over number [] = Ok tt
format_apart over number (line ∷ lines) = and_further (at_line number (line_apart over line lines)) (if is_format_end line then Ok tt else format_apart over (suc number) lines)

-- The format that stands in the lines from this number on. Its rules have the same numbers in a
-- definition.
unfoldable pub format_block : Bool → ℕ → List (List ℕ) → Result FormatLines (ℕ × ℕ)
format_block over number lines = lowest_rule (read_format number lines) (format_apart over number lines)
