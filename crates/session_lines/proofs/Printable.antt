-- What stands behind blanks of a printable text is printable.
use Rattle.std.proofs.Common.{◌≡◌, ℕ, zero, suc, ◌<◌, Bool, true, false, ◌&&◌, List, [], ◌∷◌, length, get_or, drop, ap, ◌∙◌, refl, arith}
use Rattle.std.specs.List.{list_all}
use Rattle.tm_types.specs.Words.{operands}
use Rattle.tm_types.specs.Segment.{is_printable, are_printable}

pub both_of : (a b : Bool) → (a && b) ≡ true → (a ≡ true) × (b ≡ true)
both_of true true e = (refl, refl)
both_of true false e = cc
both_of false b e = cc

pub all_drop : (p : ℕ → Bool) (n : ℕ) (xs : List ℕ) → list_all p xs ≡ true → list_all p (drop n xs) ≡ true
all_drop p zero xs all = all
all_drop p (suc n) [] all = all
all_drop p (suc n) (x ∷ xs) all = all_drop p n xs (both_of _ _ all).1

pub printable_operands : (text : List ℕ) → are_printable text ≡ true → are_printable (operands text) ≡ true
printable_operands text all = all_drop is_printable _ text all

-- each of the lines that are still to come is printable
pub text_at : (lines : List (List ℕ)) (i : ℕ) (line : List ℕ) → list_all are_printable (drop i lines) ≡ true → i < length lines → line ≡ get_or lines i line → are_printable line ≡ true
text_at [] i line all inside at = absurd (omega arith)
text_at (first ∷ lines) zero line all inside at = ap are_printable at ∙ (both_of _ _ all).0
text_at (first ∷ lines) (suc i) line all inside at = text_at lines i line all (omega arith) at
