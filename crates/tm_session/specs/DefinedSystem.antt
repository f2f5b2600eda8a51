-- The system that a definition defines.
use Rattle.std.specs.Prelude.{ℕ, List, [], ◌∷◌, ◌++◌, Result, Ok, Err}
use Rattle.std.specs.List.{flat_map}
use Rattle.model_system.specs.System.{System}
use Rattle.system_types.specs.declared.definition.MacroLine.{MacroLine}
use Rattle.sysdef_check.specs.Systems.{checked}
use Rattle.sysdef_text.specs.Definitions.{definition_in}
use Rattle.tm_session.specs.declared.outcome.Ended.{Ended}
use Rattle.tm_session.specs.declared.outcome.Ended.TheVariants.{BadLine, BadCross}

-- The system that the lines of a definition define, or the rule that they break: one of a line
-- first, and then one that the macros keep among each other.
abbrev pub by_cross : Result System (ℕ × ℕ) → Result System Ended
by_cross (Ok system) = Ok system
by_cross (Err (line, rule)) = Err (BadCross line rule)

abbrev pub by_lines : Result (List MacroLine) (ℕ × ℕ) → Result System Ended
by_lines (Ok macros) = by_cross (checked macros)
by_lines (Err (line, rule)) = Err (BadLine line rule)

unfoldable pub judged_definition : List (List ℕ) → Result System Ended
judged_definition lines = by_lines (definition_in lines)

-- The text of a definition: its lines, each ended by LF.
abbrev pub ended_line : List ℕ → List ℕ
ended_line line = line ++ 10 ∷ []

abbrev pub text_of_definition : List (List ℕ) → List ℕ
text_of_definition lines = flat_map ended_line lines
