-- What a session read of its source.
use Rattle.std.specs.Prelude.{◌≡◌, ℕ, ◌≤◌, Option, Some, None, List, ◌++◌, length}
use Rattle.model_session.specs.Blocks.{Block}
use Rattle.tm_edge.specs.Lines.{CutLine, HasServed}
use Rattle.tm_session.specs.declared.outcome.Ended.{Ended}
use Rattle.tm_session.specs.Outcome.{ending_of, texts_of_lines, AreSettled, IsAtLimit}
use Rattle.sysdef_text.specs.DefinitionEnd.{lines_behind}

-- The source's lines were read one after another, at most a million and none of them too long. Behind
-- them come the bytes that were taken from the source and are held, and then those that it has left.
pub record HasRead (bytes left : List ℕ) (blocks others : List Block) (ended : Ended) : Type 0 where
  pub cut : List CutLine
  pub held : List ℕ
  pub served : HasServed bytes cut (held ++ left)
  pub few : length cut ≤ 1000000
  pub settled : AreSettled (ending_of ended) (lines_behind (texts_of_lines cut)) (held ++ left) blocks others
  pub limit : IsAtLimit ended (length cut) (held ++ left)

-- the same, where the source tells its bytes
abbrev pub HasReadTold : Option (List ℕ) → Option (List ℕ) → List Block → List Block → Ended → Type 0
HasReadTold (Some bytes) (Some left) blocks others ended = HasRead bytes left blocks others ended
HasReadTold (Some bytes) None blocks others ended = ⊥
HasReadTold None left blocks others ended = left ≡ None
