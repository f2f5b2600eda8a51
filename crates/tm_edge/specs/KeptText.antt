-- What a sink keeps.
use Rattle.std.specs.Prelude.{ℕ, List}

-- what was written, and how often writing has failed
pub record KeptText : Type 0 where
  pub text : List ℕ
  pub faults : ℕ
