-- Texts that are made of texts of segments are texts of segments.
use Rattle.std.proofs.Common.{◌≡◌, ℕ, zero, suc, ◌+◌, ◌<◌, ◌≤◌, ◌^◌, Bool, true, List, [], ◌∷◌, ◌++◌, length, take, drop, replicate, refl, ap, ◌∙◌, arith, length-append, length-drop}
use Rattle.std.specs.Prelude.{get_or}
use Rattle.std.specs.List.{list_all}
use Rattle.std.specs.Char.{is_ascii_digit}
use Rattle.std.specs.Fmt.{decimal}
use Rattle.std.specs.Str.Parse.{digits_value}
use Rattle.std.proofs.Common.{rules}
use Rattle.std.proofs.lemmas.Bool.Decides.{nat_tests}
use Rattle.std.proofs.lemmas.List.{length-take, length-replicate}
use Rattle.std.proofs.lemmas.List.Folds.{list_all-append}
use Rattle.std.proofs.lemmas.Fmt.{digits_decimal, length-decimal-le}
use Rattle.std.proofs.lemmas.Str.Parse.{numerals_by_value, IsNumeralModel}
use Rattle.tm_types.specs.Segment.{is_printable, IsSegmentText}
use Rattle.tm_types.specs.Status.{status_text}
use Rattle.tm_types.specs.declared.status.Status.{Status}
use Rattle.tm_types.specs.declared.status.Status.TheVariants.{Blank, QC, QD, A2, A3, A6, A7, QH, GE, GB, GP, GA, GK, II, DJ, DA, AM}
use Rattle.tm_types.proofs.Truths.{both_true, parts_true, take_all_pass}

drop_all_pass : (p : ℕ → Bool) (n : ℕ) (xs : List ℕ) → list_all p xs ≡ true → list_all p (drop n xs) ≡ true
drop_all_pass p zero xs e = e
drop_all_pass p (suc n) [] e = refl
drop_all_pass p (suc n) (x ∷ xs) e = drop_all_pass p n xs (parts_true (p x) (list_all p xs) e).1

-- a part of a text
pub take_text : (n : ℕ) (xs : List ℕ) → IsSegmentText xs → IsSegmentText (take n xs)
take_text n xs h = (omega (arith, length-take n xs, h.0), take_all_pass is_printable n xs h.1)

pub drop_text : (n : ℕ) (xs : List ℕ) → IsSegmentText xs → IsSegmentText (drop n xs)
drop_text n xs h = (omega (arith, length-drop n xs, h.0), drop_all_pass is_printable n xs h.1)

pub ruleset part_steps = (take_text, drop_text)

zeros_pass : (n : ℕ) → list_all is_printable (replicate n 48) ≡ true
zeros_pass zero = refl
zeros_pass (suc n) = zeros_pass n

-- zeros before a text
pub padded_text : (n : ℕ) (xs : List ℕ) → n + length xs ≤ 1996 → list_all is_printable xs ≡ true → IsSegmentText (replicate n 48 ++ xs)
padded_text n xs short e = (
  omega (arith, length-append (replicate n 48) xs, length-replicate {A = ℕ} n 48),
  list_all-append is_printable (replicate n 48) xs ∙ both_true (list_all is_printable (replicate n 48)) (list_all is_printable xs) (zeros_pass n) e,
)

-- more that is joined and cut
pub joined_text : (xs ys : List ℕ) → IsSegmentText xs → list_all is_printable ys ≡ true → IsSegmentText (take 1996 (xs ++ ys))
joined_text xs ys h e = (
  omega (arith, length-take 1996 (xs ++ ys)),
  take_all_pass is_printable 1996 (xs ++ ys) (list_all-append is_printable xs ys ∙ both_true (list_all is_printable xs) (list_all is_printable ys) h.1 e),
)

pub status_printable : (status : Status) → list_all is_printable (status_text status) ≡ true
status_printable Blank = refl
status_printable QC = refl
status_printable QD = refl
status_printable A2 = refl
status_printable A3 = refl
status_printable A6 = refl
status_printable A7 = refl
status_printable QH = refl
status_printable GE = refl
status_printable GB = refl
status_printable GP = refl
status_printable GA = refl
status_printable GK = refl
status_printable II = refl
status_printable DJ = refl
status_printable DA = refl
status_printable AM = refl

own : IsNumeralModel (λ ds. list_all is_ascii_digit ds ≡ true) (digits_value 10)
own = numerals_by_value (λ ds. list_all is_ascii_digit ds ≡ true) (search rules)

digit_printable : (c : ℕ) → is_ascii_digit c ≡ true → is_printable c ≡ true
digit_printable c e = grind (arith, nat_tests)

digits_printable : (ds : List ℕ) → list_all is_ascii_digit ds ≡ true → list_all is_printable ds ≡ true
digits_printable [] e = refl
digits_printable (d ∷ ds) e =
    let parts = parts_true (is_ascii_digit d) (list_all is_ascii_digit ds) e in
    both_true (is_printable d) (list_all is_printable ds) (digit_printable d parts.0) (digits_printable ds parts.1)

-- a number's digits
pub decimal_text : (n : ℕ) → n < 10 ^ 18 → IsSegmentText (decimal n)
decimal_text n small =
    let short : length (decimal n) ≤ 18 = length-decimal-le 18 n (omega arith) small (omega arith) in
    (omega (arith, short), digits_printable (decimal n) (digits_decimal own n (omega arith)))

pub plain_at : {A : Type 0} → (p : A → Bool) (xs : List A) (i : ℕ) (x : A) → list_all p xs ≡ true → i < length xs → x ≡ get_or xs i x → p x ≡ true
plain_at p [] i x e h at = absurd (omega (arith, h))
plain_at p (y ∷ ys) zero x e h at = ap p at ∙ (parts_true (p y) (list_all p ys) e).0
plain_at p (y ∷ ys) (suc i) x e h at = plain_at p ys i x (parts_true (p y) (list_all p ys) e).1 (omega (arith, h)) at
