-- What a reader of lines answers.
use Rattle.std.specs.Prelude.{ℕ, ◌≡◌, List, ◌∷◌, ◌++◌, Result, Ok, Err}
use Rattle.text_rows.specs.declared.refused.LineRefused.{LineRefused}
use Rattle.text_rows.specs.declared.refused.LineRefused.TheVariants.{BadLine, Memory}

-- The answer is the value that the text spells, or the line and the rule that it breaks first,
-- unless memory ran out.
abbrev pub AnswersLines : {X : Type 0} → Result X LineRefused → Result X (ℕ × ℕ) → Type 0
AnswersLines (Ok value) read = read ≡ Ok value
AnswersLines (Err (BadLine line rule)) read = read ≡ Err (line, rule)
AnswersLines (Err Memory) read = Unit {0}

-- the rule is broken in this line
abbrev pub at_line : {A : Type 0} → ℕ → Result A ℕ → Result A (ℕ × ℕ)
at_line line (Ok value) = Ok value
at_line line (Err rule) = Err (line, rule)

-- Of two lines that break a rule the lower is named: what is read of the first line, before what
-- is read of the lines behind it.
abbrev pub then_lines : {A : Type 0} → Result A (ℕ × ℕ) → Result (List A) (ℕ × ℕ) → Result (List A) (ℕ × ℕ)
then_lines (Ok value) (Ok values) = Ok (value ∷ values)
then_lines (Ok value) (Err fault) = Err fault
then_lines (Err fault) rest = Err fault

-- values, and behind them those that are still to be read
abbrev pub values_behind : {A : Type 0} → List A → Result (List A) (ℕ × ℕ) → Result (List A) (ℕ × ℕ)
values_behind values (Ok more) = Ok (values ++ more)
values_behind values (Err fault) = Err fault
