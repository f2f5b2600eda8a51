-- What is to be printed.
use Rattle.std.specs.Prelude.{ℕ, List}

-- the text so far, and how many bytes may be added to it without asking for memory
pub record PrintedText : Type 0 where
  pub text : List ℕ
  pub room : ℕ
