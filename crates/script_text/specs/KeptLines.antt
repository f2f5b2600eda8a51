-- Lines that were read so far.
use Rattle.std.specs.Prelude.{◌≡◌, ◌≤◌, ℕ, true, Option, Some, List, length, slice_get}
use Rattle.model_system.specs.Programs.{is_statement, statement_count, label_place}
use Rattle.model_system.specs.declared.program.ScriptLine.{ScriptLine}
use Rattle.script_text.specs.GoodStatement.{IsPlaced}
use Rattle.script_text.specs.Scripts.{first_or, label_in_lines}

-- Each line is allowed and stands where the labels say so, so many of them are statements, and their
-- labels with those of the lines that are left are all labels.
pub record AreLinesKept (places : List ℕ → Option ℕ) (items : List ScriptLine) (statements : ℕ) (left all : List (List ℕ)) : Type 0 where
  pub lines : (place : ℕ) (line : ScriptLine) → slice_get items place ≡ Some line → (is_statement line.statement ≡ true) × IsPlaced places place line.statement
  pub count : statement_count items ≡ statements
  pub few : statements ≤ 500
  pub labels : (name : List ℕ) → first_or (label_place name items) (label_in_lines (length items) left name) ≡ label_in_lines 0 all name
