-- One write of a disk in memory.
use Rattle.std.specs.Prelude.{ℕ, List}
use Rattle.tm_disk.specs.declared.record.Before.{Before}

-- the sector to which it went, what it put there, and what came before it
pub record Written : Type 0 where
  pub at : ℕ
  pub content : List ℕ
  pub before : Before
