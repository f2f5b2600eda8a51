-- Regions that have a weight.
use Rattle.std.specs.Prelude.{ℕ, ◌≤◌, List, length}

-- there is a weight for the region; the first is that of region 1
pub record IsWeighed (weights : List ℕ) (region : ℕ) : Type 0 where
  pub first : 1 ≤ region
  pub last : region ≤ length weights
