-- A source and a sink in memory, and the calls at which they fail.
use Rattle.std.specs.Prelude.{ℕ, ◌+◌, ◌^◌, ◌<◌, List, Contains}

-- a source in memory: the bytes that are left, the calls made, the faults, and the calls that are to fail
pub record Feed : Type 0 where
  pub left : List ℕ
  pub calls : ℕ
  pub faults : ℕ
  pub fail_at : List ℕ

-- a sink in memory: the bytes written, how many more it takes, the calls made, the faults, and the calls that are to fail
pub record Store : Type 0 where
  pub written : List ℕ
  pub room : ℕ
  pub calls : ℕ
  pub faults : ℕ
  pub fail_at : List ℕ

-- The next call is listed as one that fails. Calls are counted up to the last value of 64 bits, which no list passes.
abbrev pub EdgeFails : ℕ → List ℕ → Type 0
EdgeFails calls fail_at = (calls + 1 < 2 ^ 64) × Contains fail_at (calls + 1)
