-- Decimal digits.
use Rattle.std.specs.Prelude.{ℕ, ◌+◌, ◌-◌, ◌*◌, ◌/◌, ◌%◌, nat_le, ◌&&◌, if◌then◌else◌, Option, Some, None, List, [], ◌∷◌, decimal}
use Rattle.std.specs.Str.{bytes_eq}

-- the last decimal digit of a number
abbrev pub digit : ℕ → ℕ
digit n = 48 + n % 10

-- the last four decimal digits of a number: all of them where it is below 10,000
abbrev pub four_digits : ℕ → List ℕ
four_digits n = digit (n / 1000) ∷ digit (n / 100) ∷ digit (n / 10) ∷ digit n ∷ []

-- what digits say behind those that said n
abbrev pub number_after : ℕ → List ℕ → ℕ
number_after n [] = n
number_after n (digit ∷ digits) = number_after (10 * n + (digit - 48)) digits

unfoldable pub number_of : List ℕ → ℕ
number_of digits = number_after 0 digits

-- the number from low to high that the text spells, with no zero before its digits
unfoldable pub spelled_number : ℕ → ℕ → List ℕ → Option ℕ
spelled_number low high text =
    if nat_le low (number_of text) && nat_le (number_of text) high && bytes_eq (decimal (number_of text)) text then Some (number_of text) else None
