-- Sums and differences of texts of digits.
use Rattle.std.specs.Prelude.{ℕ, ◌+◌, ◌-◌, nat_lt, nat_le, Bool, ◌&&◌, if◌then◌else◌, Option, Some, None, List, length}
use Rattle.std.specs.List.{list_all}
use Rattle.std.specs.Char.{is_ascii_digit}
use Rattle.std.specs.Str.Parse.{digits_value}
use Rattle.std.specs.Fmt.{decimal}

-- a text that can be counted with: 1 to 18 digits
abbrev pub is_amount : List ℕ → Bool
is_amount text = nat_le 1 (length text) && nat_le (length text) 18 && list_all is_ascii_digit text

abbrev pub amount : List ℕ → ℕ
amount text = digits_value 10 text

-- the sum, without leading zeros; none where a text has none, or the sum has more than 18 digits
unfoldable pub sum_text : List ℕ → List ℕ → Option (List ℕ)
sum_text x y =
    if is_amount x && is_amount y && nat_lt (amount x + amount y) 1000000000000000000 then Some (decimal (amount x + amount y)) else None

-- the difference, without leading zeros; none where a text has none, or the second is greater
unfoldable pub difference_text : List ℕ → List ℕ → Option (List ℕ)
difference_text x y =
    if is_amount x && is_amount y && nat_le (amount y) (amount x) then Some (decimal (amount x - amount y)) else None
