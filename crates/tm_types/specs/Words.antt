-- Words, which one blank parts.
use Rattle.std.specs.Prelude.{ℕ, ◌==◌, List}
use Rattle.std.specs.List.{before_first, after_first}

-- what stands before the first blank of a text, or all of it where there is none
abbrev pub first_word : List ℕ → List ℕ
first_word text = before_first (λ b. b == 32) text

-- what stands behind the first blank of a text, or nothing where there is none
abbrev pub operands : List ℕ → List ℕ
operands text = after_first (λ b. b == 32) text
