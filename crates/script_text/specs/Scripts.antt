-- The lines of a program, up to its ENDPROG.
use Rattle.std.specs.Prelude.{ℕ, suc, Bool, List, [], ◌∷◌, nat_lt, codes, Option, Some, None, Result, Ok, Err, if◌then◌else◌}
use Rattle.std.specs.Str.{bytes_eq}
use Rattle.text_rows.specs.declared.pieces.Place.TheVariants.{WordStart}
use Rattle.text_rows.specs.LowestRule.{also}
use Rattle.text_rows.specs.Lines.{is_passed_over, printable_line}
use Rattle.text_rows.specs.Pieces.{pieces}
use Rattle.text_rows.specs.Refusals.{at_line, then_lines}
use Rattle.model_system.specs.declared.program.ScriptLine.{ScriptLine}
use Rattle.model_system.specs.declared.statement.Statement.{Statement}
use Rattle.script_text.specs.Statements.{label_in, has_label_word, statement_of, nothing_behind}

-- A line is words that blanks part; a literal in quotes is one word.
abbrev pub script_words : List ℕ → List (List ℕ)
script_words line = pieces WordStart line

abbrev pub begins_with : List ℕ → List (List ℕ) → Bool
begins_with name [] = bytes_eq [] name
begins_with name (word ∷ operands) = bytes_eq word name

abbrev pub behind_first : List (List ℕ) → List (List ℕ)
behind_first [] = []
behind_first (word ∷ operands) = operands

-- the line that ends the program, whatever stands behind its word
unfoldable pub is_script_last : List ℕ → Bool
is_script_last line = begins_with (codes "ENDPROG") (script_words line)

unfoldable pub program_end_line : List ℕ → Result (Unit {0}) ℕ
program_end_line line = also (nothing_behind (behind_first (script_words line))) (printable_line line)

abbrev pub label_here : ℕ → Option (List ℕ) → List ℕ → Option ℕ
label_here place (Some label) name = if bytes_eq label name then Some place else None
label_here place None name = None

abbrev pub first_or : Option ℕ → Option ℕ → Option ℕ
first_or (Some place) others = Some place
first_or None others = others

-- The first place of a label among the lines up to ENDPROG, the first of them having this place.
-- Lines that are passed over have none.
abbrev pub label_in_lines : ℕ → List (List ℕ) → List ℕ → Option ℕ
label_in_lines place [] name = None
label_in_lines place (line ∷ lines) name =
    if is_passed_over line then label_in_lines place lines name
    else (if is_script_last line then None
    else first_or (label_here place (label_in (script_words line)) name) (label_in_lines (suc place) lines name))

-- Rule 8: a statement has at most 499 before it.
unfoldable pub room_for : ℕ → Result (Unit {0}) ℕ
room_for before = if nat_lt before 500 then Ok tt else Err 8

abbrev pub room_before : ℕ → List ℕ → Result (Unit {0}) ℕ
room_before before line = if has_label_word (script_words line) then Ok tt else room_for before

-- What a line reads as, or the lowest rule that it breaks. Labels stand at these places, this is the
-- line's own, and it has so many statements before it.
unfoldable pub statement_line : (List ℕ → Option ℕ) → ℕ → ℕ → List ℕ → Result Statement ℕ
statement_line places here before line = also (also (statement_of places here (script_words line)) (printable_line line)) (room_before before line)

abbrev pub numbered_statement : ℕ → Result Statement (ℕ × ℕ) → Result ScriptLine (ℕ × ℕ)
numbered_statement number (Ok statement) = Ok (record { number = number; statement = statement })
numbered_statement number (Err fault) = Err fault

abbrev pub nothing_more : Result (Unit {0}) (ℕ × ℕ) → Result (List ScriptLine) (ℕ × ℕ)
nothing_more (Ok _) = Ok []
nothing_more (Err fault) = Err fault

-- how many statements stand before the line behind this one
abbrev pub statements_before : ℕ → List ℕ → ℕ
statements_before before line = if has_label_word (script_words line) then before else suc before

-- The lines of a program from the one of this number on, with so many lines and statements before
-- them. Rule 9: they end by ENDPROG; where they don't, it is missing one past the last.
abbrev pub script : (List ℕ → Option ℕ) → ℕ → ℕ → ℕ → List (List ℕ) → Result (List ScriptLine) (ℕ × ℕ)
script places number here before [] = Err (number, 9)
script places number here before (line ∷ lines) =
    if is_passed_over line then script places (suc number) here before lines
    else (if is_script_last line then nothing_more (at_line number (program_end_line line))
    else then_lines (numbered_statement number (at_line number (statement_line places here before line))) (script places (suc number) (suc here) (statements_before before line) lines))

-- the program that these lines spell, the first of them having this number
unfoldable pub program_of : ℕ → List (List ℕ) → Result (List ScriptLine) (ℕ × ℕ)
program_of first lines = script (label_in_lines 0 lines) first 0 0 lines
