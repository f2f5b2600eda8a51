-- A segment without its first word.
use Rattle.std.proofs.Common.{◌≡◌, ℕ, zero, suc, ◌+◌, ◌≤◌, true, List, [], ◌∷◌, ◌++◌, length, drop, refl, sym, ap, subst, ◌∙◌, arith, append_assoc}
use Rattle.std.specs.Prelude.{◌==◌, if◌then◌else◌, Some}
use Rattle.std.specs.List.{position_or_len, list_all, slice_get}
use Rattle.std.proofs.lemmas.List.{append-nil, drop_all, drop_more}
use Rattle.std.proofs.lemmas.Option.{slice_get_within, get_or_from_slice_get}
use Rattle.std.proofs.lemmas.Bool.{and_parts, ne_eqb}
use Rattle.tm_types.specs.Segment.{IsSegmentText, is_printable}
use Rattle.tm_types.specs.Words.{operands}
use Rattle.model_machine.specs.LastingSteps.{without_word}
use Rattle.lasting_state.specs.KeptInputs.{kept_at}

drop_prints : (n : ℕ) (text : List ℕ) → list_all is_printable text ≡ true → list_all is_printable (drop n text) ≡ true
drop_prints zero text h = h
drop_prints (suc n) [] h = refl
drop_prints (suc n) (b ∷ text) h = drop_prints n text (and_parts (is_printable b) (list_all is_printable text) h).1

drop_short : (n : ℕ) (text : List ℕ) → length (drop n text) ≤ length text
drop_short zero text = omega arith
drop_short (suc n) [] = omega arith
drop_short (suc n) (b ∷ text) = let rest = drop_short n text in omega (arith, rest)

pub operands_text : (text : List ℕ) → IsSegmentText text → IsSegmentText (operands text)
operands_text text h =
    let n = position_or_len (λ b. b == 32) text + 1 in
    (omega (arith, drop_short n text, h.0), drop_prints n text h.1)

-- the segments kept so far, and those to come
abbrev pub joined : List (List ℕ) → List (List ℕ) → List (List ℕ)
joined [] rest = without_word rest
joined (k ∷ kept) rest = k ∷ (kept ++ rest)

joined_more : (kept : List (List ℕ)) (s : List ℕ) (rest whole : List (List ℕ)) → joined kept (s ∷ rest) ≡ whole → joined (kept ++ kept_at (length kept) s ∷ []) rest ≡ whole
joined_more [] s rest whole h = h
joined_more (k ∷ kept) s rest whole h =
    ap (λ b. k ∷ (kept ++ (if b then operands s else s) ∷ [] ++ rest)) (ne_eqb (length (k ∷ kept)) 0 (λ e. absurd (omega (arith, e))))
    ∙ ap (λ xs. k ∷ xs) (append_assoc kept (s ∷ []) rest) ∙ h

joined_all : (kept whole : List (List ℕ)) → joined kept [] ≡ whole → kept ≡ whole
joined_all [] whole h = h
joined_all (k ∷ kept) whole h = ap (λ xs. k ∷ xs) (sym (append-nil kept)) ∙ h

-- one segment more, at its place
pub joined_next : (kept segments whole : List (List ℕ)) (place : ℕ) (s : List ℕ) → slice_get segments place ≡ Some s → joined kept (drop place segments) ≡ whole
    → joined (kept ++ kept_at (length kept) s ∷ []) (drop (place + 1) segments) ≡ whole
joined_next kept segments whole place s at h =
    let inside = slice_get_within segments place s at in
    let first : drop place segments ≡ s ∷ drop (place + 1) segments =
    drop_more segments place s inside ∙ ap (λ (t : List ℕ). t ∷ drop (place + 1) segments) (get_or_from_slice_get segments place s s at) in
    joined_more kept s (drop (place + 1) segments) whole (subst (λ (rest : List (List ℕ)). joined kept rest ≡ whole) first h)

pub joined_end : (kept segments whole : List (List ℕ)) (place : ℕ) → length segments ≤ place → joined kept (drop place segments) ≡ whole → kept ≡ whole
joined_end kept segments whole place past h =
    joined_all kept whole (subst (λ (rest : List (List ℕ)). joined kept rest ≡ whole) (drop_all place segments past) h)
