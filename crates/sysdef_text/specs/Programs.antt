-- A program within a definition.
use Rattle.std.specs.Prelude.{ℕ, suc, ◌+◌, ◌==◌, nat_lt, min, Bool, List, [], ◌∷◌, Result, Ok, Err, if◌then◌else◌}
use Rattle.text_rows.specs.Lines.{is_passed_over, printable_line}
use Rattle.text_rows.specs.LowestRule.{also}
use Rattle.text_rows.specs.Refusals.{at_line}
use Rattle.model_system.specs.declared.program.ScriptLine.{ScriptLine}
use Rattle.script_text.specs.Scripts.{is_script_last, program_of}
use Rattle.sysdef_text.specs.MacroPlaces.{within_definition}

-- A rule of scripts is 20 more in a definition. A byte that isn't printable has one number in
-- both, and where ENDPROG is missing END is missing too, which is the lower rule.
abbrev pub lifted_rule : ℕ → ℕ
lifted_rule rule = if rule == 11 then 11 else (if rule == 9 then 13 else 20 + rule)

abbrev pub lifted : {A : Type 0} → Result A (ℕ × ℕ) → Result A (ℕ × ℕ)
lifted (Ok value) = Ok value
lifted (Err (line, rule)) = Err (line, lifted_rule rule)

-- What is judged of a line apart from its script: its bytes, and where the text ends.
unfoldable pub line_bytes : Bool → List ℕ → List (List ℕ) → Result (Unit {0}) ℕ
line_bytes over line behind = if is_passed_over line then within_definition over behind else also (printable_line line) (within_definition over behind)

-- the first line that is broken so, up to ENDPROG
abbrev pub and_further : Result (Unit {0}) (ℕ × ℕ) → Result (Unit {0}) (ℕ × ℕ) → Result (Unit {0}) (ℕ × ℕ)
and_further (Ok _) more = more
and_further (Err fault) more = Err fault

abbrev pub program_bytes : Bool → ℕ → List (List ℕ) → Result (Unit {0}) (ℕ × ℕ)
program_bytes over number [] = Ok tt
program_bytes over number (line ∷ lines) = and_further (at_line number (line_bytes over line lines)) (if is_script_last line then Ok tt else program_bytes over (suc number) lines)

-- of two lines that break a rule the lower, of two rules of one line the lower
abbrev pub lower : ℕ × ℕ → ℕ × ℕ → ℕ × ℕ
lower (line, rule) (other, another) = if nat_lt line other then (line, rule) else (if nat_lt other line then (other, another) else (line, min rule another))

abbrev pub lowest_rule : {A : Type 0} → Result A (ℕ × ℕ) → Result (Unit {0}) (ℕ × ℕ) → Result A (ℕ × ℕ)
lowest_rule (Ok value) (Ok _) = Ok value
lowest_rule (Ok value) (Err fault) = Err fault
lowest_rule (Err fault) (Ok _) = Err fault
lowest_rule (Err fault) (Err other) = Err (lower fault other)

-- the program that stands in the lines from this number on
unfoldable pub program_block : Bool → ℕ → List (List ℕ) → Result (List ScriptLine) (ℕ × ℕ)
program_block over number lines = lowest_rule (lifted (program_of number lines)) (program_bytes over number lines)
