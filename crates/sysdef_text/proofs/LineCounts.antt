-- How many lines a text has.
use Rattle.std.proofs.Common.{ℕ, zero, suc, ◌≡◌, ◌+◌, ◌≤◌, ◌==◌, Bool, true, false, List, [], ◌∷◌, length, take, drop, count_by, cond, refl, arith}
use Rattle.std.specs.List.{slice_split}
use Rattle.std.specs.Str.Lines.{lines_of_parts}
use Rattle.std.proofs.lemmas.List.{drop-take, length-take}
use Rattle.std.proofs.lemmas.List.Splits.{length-slice_split}
use Rattle.std.proofs.lemmas.List.Sums.{count_by-le-length, sum_by-cons, sum_by-take-drop}
use Rattle.sysdef_text.specs.Definitions.{text_lines, through_line, kept}

-- there are no more lines than parts
lines_le_parts : (parts : List (List ℕ)) → length (lines_of_parts parts) ≤ length parts
lines_le_parts [] = omega arith
lines_le_parts (x ∷ []) = elim (length x == 0) as (λ b. length (cond b [] (x ∷ [])) ≤ suc zero) [ true ↦ omega arith | false ↦ omega arith ]
lines_le_parts (x ∷ y ∷ more) = omega (arith, lines_le_parts (y ∷ more))

pub lines_le_breaks : (text : List ℕ) → length (text_lines text) ≤ count_by (λ b. b == 10) text + 1
unfolding text_lines
lines_le_breaks text = omega (arith, lines_le_parts (slice_split (λ b. b == 10) text), length-slice_split (λ b. b == 10) text)

abbrev breaks : List ℕ → ℕ
breaks text = count_by (λ b. b == 10) text

-- a byte more
breaks_more : (byte : ℕ) (bytes : List ℕ) → breaks (byte ∷ bytes) ≡ cond (byte == 10) 1 0 + breaks bytes
breaks_more byte bytes = sum_by-cons (λ x. cond (x == 10) 1 0) byte bytes

-- up to the end of a line there is one LF
one_by : (b : Bool) (byte : ℕ) (bytes : List ℕ) → (byte == 10) ≡ b → breaks (take (through_line bytes) bytes) ≤ 1 → breaks (take (cond b 1 (suc (through_line bytes))) (byte ∷ bytes)) ≤ 1
one_by true byte bytes e h = rw (breaks_more byte [], e) (omega arith)
one_by false byte bytes e h = rw (breaks_more byte (take (through_line bytes) bytes), e) (omega (arith, h))

one_break : (text : List ℕ) → breaks (take (through_line text) text) ≤ 1
one_break [] = omega arith
one_break (byte ∷ bytes) = one_by (byte == 10) byte bytes refl (one_break bytes)

-- the text that is kept has one LF at most behind its first bytes
few_breaks : (limit more : ℕ) (text : List ℕ) → breaks (take more (drop limit text)) ≤ 1 → breaks (take (limit + more) text) ≤ limit + 1
few_breaks limit more text h =
    let split = sum_by-take-drop (λ x. cond (x == 10) 1 0) (take (limit + more) text) limit in
    let rest : breaks (drop limit (take (limit + more) text)) ≤ 1 = rw drop-take h in
    omega (arith, split, rest, count_by-le-length (λ b. b == 10) (take limit (take (limit + more) text)), length-take limit (take (limit + more) text))

pub kept_breaks : (text : List ℕ) → count_by (λ b. b == 10) (kept text) ≤ 262144 + 1
unfolding kept
kept_breaks text = few_breaks 262144 (through_line (drop 262144 text)) text (one_break (drop 262144 text))
