-- How far a text goes on alike.
use Rattle.std.specs.Prelude.{ℕ, suc, ◌==◌, if◌then◌else◌, List, [], ◌∷◌}

-- how many blanks a text begins with
abbrev pub blanks_before : List ℕ → ℕ
blanks_before [] = 0
blanks_before (byte ∷ bytes) = if byte == 32 then suc (blanks_before bytes) else 0

-- how many bytes other than the blank a text begins with
abbrev pub word_length : List ℕ → ℕ
word_length [] = 0
word_length (byte ∷ bytes) = if byte == 32 then 0 else suc (word_length bytes)
