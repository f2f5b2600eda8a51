-- The definition, as it is read before a session.
use Rattle.std.specs.Prelude.{◌≡◌, ℕ, ◌<◌, ◌⊎◌, Bool, Option, Some, None, IfSome, Result, Ok, Err, List, [], ◌++◌, length}
use Rattle.model_system.specs.System.{System}
use Rattle.tm_edge.specs.Lines.{CutLine, HasServed, IsLineTooLong, lines_of}
use Rattle.tm_session.specs.declared.outcome.Ended.{Ended}
use Rattle.tm_session.specs.declared.outcome.Ended.TheVariants.{BadLine, BadCross, Read, Memory, Limit}
use Rattle.sysdef_text.specs.DefinitionEnd.{definition_lines, lines_behind, definition_from, behind_from}
use Rattle.tm_session.specs.Outcome.{texts_of_lines}

-- These are the lines of the definition. The lines behind them, however many, are the session's; or the
-- source ended with them, within the definition.
pub record ReadsLines (bytes : List ℕ) (texts : List (List ℕ)) (rest : List ℕ) : Type 0 where
  pub cut : List CutLine
  pub lines : texts_of_lines cut ≡ texts
  pub served : HasServed bytes cut rest
  pub definition : definition_lines (lines_of bytes) ≡ texts
  pub session : ((more : List (List ℕ)) → lines_behind (texts ++ more) ≡ more) ⊎ ((rest ≡ []) × (lines_behind texts ≡ []))

abbrev pub ReadsDefinition : Option (List ℕ) → List (List ℕ) → Option (List ℕ) → Type 0
ReadsDefinition (Some bytes) texts (Some rest) = ReadsLines bytes texts rest
ReadsDefinition (Some bytes) texts None = ⊥
ReadsDefinition None texts told = told ≡ None

-- A line of the definition is too long.
pub record IsCutShort (bytes : List ℕ) : Type 0 where
  pub cut : List CutLine
  pub rest : List ℕ
  pub served : HasServed bytes cut rest
  pub within : length cut < length (definition_lines (lines_of bytes))
  pub long : IsLineTooLong rest

-- how a run ends before its definition is read
abbrev pub StopsBefore : Ended → Option (List ℕ) → Type 0
StopsBefore Read told = Unit {0}
StopsBefore Memory told = Unit {0}
StopsBefore (Limit n) told = (n ≡ 4097) × IfSome told IsCutShort
StopsBefore _ told = ⊥

-- the definition was judged, unless memory was wanting
abbrev pub IsDefinitionJudged : Result System Ended → Result System Ended → Type 0
IsDefinitionJudged judged (Ok system) = judged ≡ Ok system
IsDefinitionJudged judged (Err (BadLine line rule)) = judged ≡ Err (BadLine line rule)
IsDefinitionJudged judged (Err (BadCross line rule)) = judged ≡ Err (BadCross line rule)
IsDefinitionJudged judged (Err Memory) = Unit {0}
IsDefinitionJudged judged (Err _) = ⊥

-- the lines so far, and those that are still to come
pub record ReadsSome (bytes : List ℕ) (texts : List (List ℕ)) (rest : List ℕ) (inside : Bool) (room : ℕ) : Type 0 where
  pub cut : List CutLine
  pub lines : texts_of_lines cut ≡ texts
  pub served : HasServed bytes cut rest
  pub definition : definition_lines (lines_of bytes) ≡ texts ++ definition_from inside room (lines_of rest)
  pub session : (more : List (List ℕ)) → lines_behind (texts ++ more) ≡ behind_from inside room more

abbrev pub DefinitionSoFar : Option (List ℕ) → List (List ℕ) → Option (List ℕ) → Bool → ℕ → Type 0
DefinitionSoFar (Some bytes) texts (Some rest) inside room = ReadsSome bytes texts rest inside room
DefinitionSoFar (Some bytes) texts None inside room = ⊥
DefinitionSoFar None texts told inside room = told ≡ None
