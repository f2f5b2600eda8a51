-- The lowest rule that is broken.
use Rattle.std.specs.Prelude.{ℕ, Result, Ok, Err, min}

-- both values, or the lowest rule that one of them breaks
unfoldable pub both : {A B : Type 0} → Result A ℕ → Result B ℕ → Result (A × B) ℕ
both (Ok a) (Ok b) = Ok (a, b)
both (Ok a) (Err rule) = Err rule
both (Err rule) (Ok b) = Err rule
both (Err rule) (Err other) = Err (min rule other)

-- the value, or the lowest rule that it or something besides breaks
unfoldable pub also : {A B : Type 0} → Result A ℕ → Result B ℕ → Result A ℕ
also (Ok a) (Ok b) = Ok a
also (Ok a) (Err rule) = Err rule
also (Err rule) (Ok b) = Err rule
also (Err rule) (Err other) = Err (min rule other)
