-- Keys of segments.
use Rattle.std.specs.Prelude.{ℕ, zero, suc, ◌+◌, ◌*◌, ◌≤◌, List, [], ◌∷◌, length, slice_index}

-- a key has 1 to 32 bytes
abbrev pub IsKey : List ℕ → Type 0
IsKey bytes = (1 ≤ length bytes) × (length bytes ≤ 32)

-- what stands behind a short key in its 32 bytes
abbrev pub key_padding : List ℕ
key_padding =
    0 ∷ 0 ∷ 0 ∷ 0 ∷ 0 ∷ 0 ∷ 0 ∷ 0 ∷ 0 ∷ 0 ∷ 0 ∷ 0 ∷ 0 ∷ 0 ∷ 0 ∷ 0
    ∷ 0 ∷ 0 ∷ 0 ∷ 0 ∷ 0 ∷ 0 ∷ 0 ∷ 0 ∷ 0 ∷ 0 ∷ 0 ∷ 0 ∷ 0 ∷ 0 ∷ 0 ∷ 0 ∷ []

-- the number that so many bytes spell behind a number, from a place and a further step on, the first counting most
abbrev pub spelled : List ℕ → ℕ → ℕ → ℕ → ℕ → ℕ
spelled bytes at step number zero = number
spelled bytes at step number (suc count) = spelled bytes at (suc step) (number * 256 + slice_index bytes (at + step)) count
