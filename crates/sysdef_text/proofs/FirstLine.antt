-- The first line of a text, and the lines behind it.
use Rattle.std.proofs.Common.{ℕ, suc, ◌≡◌, ◌+◌, ◌≤◌, ◌==◌, Bool, true, false, List, [], ◌∷◌, length, take, drop, cond, nat_lt, Some, None, refl, ap, ◌∙◌, arith, add-one, not}
use Rattle.std.specs.List.{slice_split, onto_first, position_or_len}
use Rattle.std.specs.Option.{option_map}
use Rattle.std.specs.Str.Lines.{lines_of_parts, strip_carriage_return}
use Rattle.std.proofs.lemmas.Bool.{ltb-true, ltb-false}
use Rattle.std.proofs.lemmas.List.Splits.{slice_split_first}
use Rattle.text_rows.specs.Lines.{split_at}
use Rattle.sysdef_text.specs.Definitions.{text_lines}

abbrev is_break : ℕ → Bool
is_break byte = byte == 10

onto_parts : (part : List ℕ) (byte : ℕ) (parts : List (List ℕ)) → lines_of_parts (part ∷ onto_first byte parts) ≡ strip_carriage_return part ∷ lines_of_parts (onto_first byte parts)
onto_parts part byte [] = refl
onto_parts part byte (first ∷ parts) = refl

-- a part with others behind it is a line
part_first : (part text : List ℕ) → lines_of_parts (part ∷ slice_split is_break text) ≡ strip_carriage_return part ∷ lines_of_parts (slice_split is_break text)
part_first part [] = refl
part_first part (byte ∷ bytes) = elim (is_break byte) as (λ b. lines_of_parts (part ∷ cond b ([] ∷ slice_split is_break bytes) (onto_first byte (slice_split is_break bytes))) ≡ strip_carriage_return part ∷ lines_of_parts (cond b ([] ∷ slice_split is_break bytes) (onto_first byte (slice_split is_break bytes)))) [ true ↦ refl | false ↦ onto_parts part byte (slice_split is_break bytes) ]

abbrev cut : List ℕ → ℕ → List ℕ × List ℕ
cut text n = (take n text, drop (suc n) text)

-- what stands before the first LF is the first part
first_part : (text before behind : List ℕ) (t : Bool) → nat_lt (position_or_len is_break text) (length text) ≡ t → Some (before, behind) ≡ option_map (cut text) (cond t (Some (position_or_len is_break text)) None) → slice_split is_break text ≡ before ∷ slice_split is_break behind
first_part text before behind true h e =
    let same : (before, behind) ≡ cut text (position_or_len is_break text) = cc in
    rw (ap (λ p. p.0) same, ap (λ p. p.1) same) (rw (add-one (position_or_len is_break text)) at (slice_split_first is_break text 0 (ltb-true (position_or_len is_break text) (length text) h)))
first_part text before behind false h e = cc

pub first_line : (text before behind : List ℕ) → Some (before, behind) ≡ split_at 10 text → text_lines text ≡ strip_carriage_return before ∷ text_lines behind
unfolding text_lines
first_line text before behind e =
    ap lines_of_parts (first_part text before behind (nat_lt (position_or_len is_break text) (length text)) refl e) ∙ part_first before behind

-- where there is no LF the text is the one part
whole_by : (b : Bool) (byte n : ℕ) (bytes : List ℕ) (here behind : List (List ℕ)) → (length bytes ≤ n → behind ≡ bytes ∷ []) → suc (length bytes) ≤ cond (not b) (1 + n) 0 → cond b ([] ∷ here) (onto_first byte behind) ≡ (byte ∷ bytes) ∷ []
whole_by true byte n bytes here behind below h = absurd (omega (arith, h))
whole_by false byte n bytes here behind below h = ap (onto_first byte) (below (omega (arith, h)))

whole : (text : List ℕ) → length text ≤ position_or_len is_break text → slice_split is_break text ≡ text ∷ []
whole [] h = refl
whole (byte ∷ bytes) h = whole_by (is_break byte) byte (position_or_len is_break bytes) bytes (slice_split is_break bytes) (slice_split is_break bytes) (λ k. whole bytes k) h

only_part : (text : List ℕ) (t : Bool) → nat_lt (position_or_len is_break text) (length text) ≡ t → None ≡ option_map (cut text) (cond t (Some (position_or_len is_break text)) None) → slice_split is_break text ≡ text ∷ []
only_part text true h e = cc
only_part text false h e = whole text (ltb-false (position_or_len is_break text) (length text) h)

pub last_line : (text : List ℕ) → None ≡ split_at 10 text → text_lines text ≡ cond (length text == 0) [] (text ∷ [])
unfolding text_lines
last_line text e = ap lines_of_parts (only_part text (nat_lt (position_or_len is_break text) (length text)) refl e)
