-- The eight bytes and the length of a name follow from its bytes.
use Rattle.std.proofs.Common.{◌≡◌, ℕ, ◌≤◌, List, ◌++◌, length, take, drop, sym, arith, length-take-le}
use Rattle.tm_types.specs.Name.{name_padding}

pub padded_name : (n : ℕ) (bytes : List ℕ) → length bytes ≡ 8 → n ≤ 8 → bytes ≡ take n bytes ++ drop n name_padding →
    (length (take n bytes) ≡ n) × (take n bytes ++ drop (length (take n bytes)) name_padding ≡ bytes)
padded_name n bytes whole short padded =
    let same : length (take n bytes) ≡ n = length-take-le n bytes (omega arith) in
    (same, rw same (sym padded))
