-- What the edit of an input answers.
use Rattle.std.specs.Prelude.{ℕ, ◌≡◌, List, Result, Ok, Err}
use Rattle.mfs_edit.specs.declared.refused.EditRefused.{EditRefused}
use Rattle.mfs_edit.specs.declared.refused.EditRefused.TheVariants.{UnknownField, Memory}

-- The answer is the segments, or the name that is no field, unless memory ran out.
abbrev pub AnswersInput : Result (List (List ℕ)) EditRefused → Result (List (List ℕ)) (List ℕ) → Type 0
AnswersInput (Ok segments) entered = entered ≡ Ok segments
AnswersInput (Err (UnknownField name)) entered = entered ≡ Err name
AnswersInput (Err Memory) entered = Unit {0}
