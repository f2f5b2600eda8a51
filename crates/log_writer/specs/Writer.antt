-- The writer of a log area.
use Rattle.std.specs.Prelude.{ℕ, List}

-- its area, the sequence of the area's first sector, its epoch, how many sectors it wrote, and what was appended since
pub record Writer : Type 0 where
  pub first : ℕ
  pub count : ℕ
  pub sequence : ℕ
  pub epoch : ℕ
  pub place : ℕ
  pub appended : List ℕ
