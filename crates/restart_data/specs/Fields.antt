-- What stands at a place of a sector.
use Rattle.std.specs.Prelude.{ℕ, Bool, List, take, drop, ◌==◌, slice_index_or}
use Rattle.std.specs.List.{list_all}
use Rattle.std.specs.Int.{w16, w32, w64, from_be_bytes}

-- so many bytes from a place on
abbrev pub bytes_at : ℕ → ℕ → List ℕ → List ℕ
bytes_at at count sector = take count (drop at sector)

abbrev pub byte_at : ℕ → List ℕ → ℕ
byte_at at sector = slice_index_or sector at 0

-- numbers of two, four and eight bytes, the highest byte first
unfoldable pub number2_at : ℕ → List ℕ → ℕ
number2_at at sector = from_be_bytes w16 (bytes_at at 2 sector)

unfoldable pub number4_at : ℕ → List ℕ → ℕ
number4_at at sector = from_be_bytes w32 (bytes_at at 4 sector)

unfoldable pub number8_at : ℕ → List ℕ → ℕ
number8_at at sector = from_be_bytes w64 (bytes_at at 8 sector)

-- all of the bytes are zero
unfoldable pub are_zeros : List ℕ → Bool
are_zeros bytes = list_all (λ byte. byte == 0) bytes
