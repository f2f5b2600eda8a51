-- Words that are read one after another.
use Rattle.std.specs.Prelude.{ℕ, List, [], ◌∷◌, ◌++◌, Result, Ok, Err, min}

-- values, and one more behind them, or the lowest rule that is broken
abbrev pub and_last : {A : Type 0} → Result (List A) ℕ → Result A ℕ → Result (List A) ℕ
and_last (Ok values) (Ok value) = Ok (values ++ value ∷ [])
and_last (Ok values) (Err rule) = Err rule
and_last (Err rule) (Ok value) = Err rule
and_last (Err rule) (Err other) = Err (min rule other)

-- values, and those that are still to be read
abbrev pub and_more : {A : Type 0} → Result (List A) ℕ → Result (List A) ℕ → Result (List A) ℕ
and_more (Ok values) (Ok more) = Ok (values ++ more)
and_more (Ok values) (Err rule) = Err rule
and_more (Err rule) (Ok more) = Err rule
and_more (Err rule) (Err other) = Err (min rule other)
