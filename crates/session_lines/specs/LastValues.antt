-- The last values, and the names whose values are kept.
use Rattle.std.specs.Prelude.{◌≡◌, ℕ, Bool, true, ◌||◌, Result, Ok, Err, nat_lt, List, length, map}
use Rattle.std.specs.List.{list_any}
use Rattle.std.specs.Str.{bytes_eq}
use Rattle.model_system.specs.declared.fields.FieldValue.{FieldValue}

-- names with texts, as values
abbrev pub last_value_of : List ℕ × List ℕ → FieldValue
last_value_of entry = record { name = entry.0; text = entry.1 }

abbrev pub values_of : List (List ℕ × List ℕ) → List FieldValue
values_of entries = map last_value_of entries

-- Whether a value for a name is kept beside others: there is one for the name already, or room for one more name.
abbrev pub is_kept : List ℕ → List FieldValue → Bool
is_kept name values = list_any (λ value. bytes_eq value.name name) values || nat_lt (length values) 1921

-- a field line breaks no rule, and its value is kept
abbrev pub IsForKept : Result FieldValue ℕ → List FieldValue → Type 0
IsForKept (Ok value) values = is_kept value.name values ≡ true
IsForKept (Err rule) values = ⊥
