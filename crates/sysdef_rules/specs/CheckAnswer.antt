-- What the check of a definition answers.
use Rattle.std.specs.Prelude.{ℕ, ◌≡◌, Result, Ok, Err}
use Rattle.sysdef_rules.specs.declared.refused.CrossRefused.{CrossRefused}
use Rattle.sysdef_rules.specs.declared.refused.CrossRefused.TheVariants.{BadCross, Memory}

-- The answer is the system, or the rule that is broken first, unless memory ran out.
abbrev pub AnswersCheck : {X : Type 0} → Result X CrossRefused → Result X (ℕ × ℕ) → Type 0
AnswersCheck (Ok value) read = read ≡ Ok value
AnswersCheck (Err (BadCross line rule)) read = read ≡ Err (line, rule)
AnswersCheck (Err Memory) read = Unit {0}
