-- Numbers and names as they are read. Numbers are printed as std's `decimal` says, without zeros at
-- their front.
use Rattle.std.specs.Prelude.{ℕ, nat_le, Bool, ◌&&◌, if◌then◌else◌, Option, Some, None, Result, Ok, Err, List, length}
use Rattle.std.specs.List.{list_all}
use Rattle.std.specs.Char.{is_ascii_digit}
use Rattle.std.specs.Str.Parse.{digits_value}
use Rattle.text_rows.specs.Names.{is_name}

-- a number is written with 1 to 20 decimal digits, zeros at its front being allowed
abbrev pub is_padded_number : List ℕ → Bool
is_padded_number text = nat_le 1 (length text) && nat_le (length text) 20 && list_all is_ascii_digit text

-- the number that a text writes, where it writes one from low to high
abbrev pub number_in : ℕ → ℕ → List ℕ → Option ℕ
number_in low high text =
    if is_padded_number text && nat_le low (digits_value 10 text) && nat_le (digits_value 10 text) high
    then Some (digits_value 10 text) else None

-- the number of an operand, and the name; rule 3 where it is no number, and rule 4 where it is no name
abbrev pub number_or : Option ℕ → Result ℕ ℕ
number_or (Some number) = Ok number
number_or None = Err 3

unfoldable pub number_operand : ℕ → ℕ → List ℕ → Result ℕ ℕ
number_operand low high text = number_or (number_in low high text)

unfoldable pub name_operand : List ℕ → Result (List ℕ) ℕ
name_operand text = if is_name text then Ok text else Err 4
