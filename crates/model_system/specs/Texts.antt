-- What a script does with texts.
use Rattle.std.specs.Prelude.{ℕ, ◌-◌, ◌==◌, Bool, true, false, not, if◌then◌else◌, List, [], ◌∷◌, ◌++◌, length, take, drop, replicate, filter, slice_index_or}
use Rattle.std.specs.Str.{bytes_eq}
use Rattle.std.specs.declared.cmp.Ordering.{Ordering}
use Rattle.std.specs.declared.cmp.Ordering.TheVariants.{Less}
use Rattle.std.specs.Ordering.{nat_cmp}
use Rattle.std.specs.Cmp.Lexicographic.{slice_cmp}
use Rattle.model_system.specs.declared.statement.Comparison.{Comparison}
use Rattle.model_system.specs.declared.statement.Comparison.TheVariants.{Equal, NotEqual, LessThan}

-- the byte before the first piece
abbrev pub with_front_byte : ℕ → List (List ℕ) → List (List ℕ)
with_front_byte byte [] = (byte ∷ []) ∷ []
with_front_byte byte (piece ∷ pieces) = (byte ∷ piece) ∷ pieces

-- a text cut at each blank: one piece more than there are blanks, and some may be empty
abbrev pub blank_pieces : List ℕ → List (List ℕ)
blank_pieces [] = [] ∷ []
blank_pieces (byte ∷ bytes) = if byte == 32 then [] ∷ blank_pieces bytes else with_front_byte byte (blank_pieces bytes)

abbrev pub is_filled : List ℕ → Bool
is_filled [] = false
is_filled (byte ∷ bytes) = true

-- the words of a text: the longest runs of bytes other than the blank
abbrev pub words : List ℕ → List (List ℕ)
words text = filter is_filled (blank_pieces text)

-- the word with this number, counted from 1; empty where there is none
abbrev pub word : List ℕ → ℕ → List ℕ
word text number = slice_index_or (words text) (number - 1) []

-- so many bytes from a place on, which is counted from 1; fewer where the text ends
abbrev pub cut : List ℕ → ℕ → ℕ → List ℕ
cut text start count = take count (drop (start - 1) text)

-- zeros before the text, up to so many bytes; a longer text stays
abbrev pub zero_padded : List ℕ → ℕ → List ℕ
zero_padded text width = replicate (width - length text) 48 ++ text

abbrev pub is_less : Ordering → Bool
is_less Less = true
is_less _ = false

-- texts are compared by their bytes, the first that differ deciding, and a front is below the whole
abbrev pub comparison_holds : Comparison → List ℕ → List ℕ → Bool
comparison_holds Equal left right = bytes_eq left right
comparison_holds NotEqual left right = not (bytes_eq left right)
comparison_holds LessThan left right = is_less (slice_cmp nat_cmp left right)
