-- Rules with their numbers, and the first that is broken.
use Rattle.std.specs.Prelude.{ℕ, Bool, List, [], ◌∷◌, if◌then◌else◌, Option, Some, None, Result, Ok, Err}

-- the first rule of a list that is broken
abbrev pub first_broken : List (ℕ × Bool) → Option ℕ
first_broken [] = None
first_broken (rule ∷ rules) = if rule.1 then Some rule.0 else first_broken rules

-- a value, unless a rule is broken
abbrev pub unless_rule_broken : {A : Type 0} → Option ℕ → A → Result A ℕ
unless_rule_broken None value = Ok value
unless_rule_broken (Some rule) value = Err rule
