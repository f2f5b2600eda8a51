-- Names of the system.
use Rattle.std.specs.Prelude.{ℕ, ◌≤◌, ◌==◌, nat_le, Bool, ◌&&◌, ◌||◌, List, [], ◌∷◌, length, IsTrue}
use Rattle.std.specs.List.{list_all}

-- a byte that a name may have: A to Z, 0 to 9, $, # or @
abbrev pub is_name_byte : ℕ → Bool
is_name_byte b = (nat_le 65 b && nat_le b 90) || (nat_le 48 b && nat_le b 57) || (b == 36) || (b == 35) || (b == 64)

-- a name has 1 to 8 bytes, each of them a byte that a name may have
abbrev pub IsName : List ℕ → Type 0
IsName bytes = (1 ≤ length bytes) × (length bytes ≤ 8) × IsTrue (list_all is_name_byte bytes)

-- the same as a test
abbrev pub is_name : List ℕ → Bool
is_name bytes = nat_le 1 (length bytes) && nat_le (length bytes) 8 && list_all is_name_byte bytes

-- what stands behind a short name in its eight bytes
abbrev pub name_padding : List ℕ
name_padding = 0 ∷ 0 ∷ 0 ∷ 0 ∷ 0 ∷ 0 ∷ 0 ∷ 0 ∷ []
