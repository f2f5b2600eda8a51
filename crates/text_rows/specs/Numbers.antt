-- Numbers.
use Rattle.std.specs.Prelude.{ℕ, nat_le, Bool, ◌&&◌, List, length, Result, Ok, Err, if◌then◌else◌}
use Rattle.std.specs.List.{list_all}
pub use Rattle.tm_types.specs.Digits.{number_of}

abbrev pub is_digit : ℕ → Bool
is_digit byte = nat_le 48 byte && nat_le byte 57

-- a number is 1 to 20 digits
abbrev pub is_number : List ℕ → Bool
is_number text = nat_le 1 (length text) && nat_le (length text) 20 && list_all is_digit text

-- The number that the text spells: rule 5 where it spells none, rule 6 where it is out of range.
unfoldable pub number_between : ℕ → ℕ → List ℕ → Result ℕ ℕ
number_between low high text = if is_number text then (if nat_le low (number_of text) && nat_le (number_of text) high then Ok (number_of text) else Err 6) else Err 5
