-- Where no byte is found that isn't printable, each byte is.
use Rattle.std.proofs.Common.{◌≡◌, ℕ, ◌≤◌, Bool, true, false, not, List, [], ◌∷◌, length, refl, arith}
use Rattle.std.specs.List.{list_all, prefix_len, position}
use Rattle.std.specs.Prelude.{Some, None, cond, nat_lt}
use Rattle.std.proofs.lemmas.Bool.Decides.{nat_tests}
use Rattle.tm_types.specs.Segment.{is_printable}

pub one_more : (p : ℕ → Bool) (x : ℕ) (xs : List ℕ) (b : Bool) → p x ≡ b → length (x ∷ xs) ≤ prefix_len (λ x. not (not (p x))) (x ∷ xs) →
    (length xs ≤ prefix_len (λ x. not (not (p x))) xs → list_all p xs ≡ true) → list_all p (x ∷ xs) ≡ true
one_more p x xs true e h rest = let more = rw e at h in rw e (rest (omega arith))
one_more p x xs false e h rest = let none = rw e at h in absurd (omega arith)

pub all_from_prefix : (p : ℕ → Bool) (xs : List ℕ) → length xs ≤ prefix_len (λ x. not (not (p x))) xs → list_all p xs ≡ true
all_from_prefix p [] h = refl
all_from_prefix p (x ∷ xs) h = one_more p x xs (p x) refl h (all_from_prefix p xs)

pub none_from_cond : (b : Bool) (n : ℕ) → cond b (Some n) None ≡ None → b ≡ false
none_from_cond true n h = cc
none_from_cond false n h = refl

pub printable_from_position : (xs : List ℕ) → position (λ b. not (is_printable b)) xs ≡ None → list_all is_printable xs ≡ true
printable_from_position xs none =
    let past : nat_lt (prefix_len (λ b. not (not (is_printable b))) xs) (length xs) ≡ false = none_from_cond _ _ none in
    all_from_prefix is_printable xs (grind (arith, nat_tests))
