-- Variables are texts of segments.
use Rattle.std.proofs.Common.{◌≡◌, ℕ, zero, suc, ◌<◌, List, [], ◌∷◌, replicate, length, refl, sym, ap, ◌∙◌, subst, lit≤, arith}
use Rattle.std.specs.Prelude.{get_or, Option, Some, None, slice_get, slice_index_or, slice_set}
use Rattle.tm_types.specs.Segment.{IsSegmentText}
use Rattle.script_run.specs.RunningScript.{AreTexts, texts_before}

empty_at : (n x : ℕ) → slice_index_or {A = List ℕ} (replicate n []) x [] ≡ []
empty_at zero x = refl
empty_at (suc n) zero = refl
empty_at (suc n) (suc x) = empty_at n x

no_bytes : IsSegmentText []
no_bytes = (lit≤ tt, refl)

-- empty variables are texts
pub empty_texts : (n : ℕ) → AreTexts (replicate n [])
empty_texts n = record { each = λ x. subst IsSegmentText (sym (empty_at n x)) no_bytes }

set_at : (variables : List (List ℕ)) (place : ℕ) (text : List ℕ) → IsSegmentText text → ((x : ℕ) → IsSegmentText (slice_index_or variables x [])) → (x : ℕ) → IsSegmentText (slice_index_or (slice_set variables place text) x [])
set_at [] place text here each x = no_bytes
set_at (v ∷ variables) zero text here each zero = here
set_at (v ∷ variables) zero text here each (suc x) = each (suc x)
set_at (v ∷ variables) (suc place) text here each zero = each zero
set_at (v ∷ variables) (suc place) text here each (suc x) = set_at variables place text here (λ y. each (suc y)) x

-- a variable that becomes a text
pub set_texts : (variables : List (List ℕ)) (place : ℕ) (text : List ℕ) → IsSegmentText text → AreTexts variables → AreTexts (slice_set variables place text)
set_texts variables place text here texts = record { each = set_at variables place text here texts.each }

-- where nothing is kept the variables are as before
pub none_kept : (n : ℕ) (variables : List (List ℕ)) → texts_before (replicate n None) variables ≡ variables
none_kept zero variables = refl
none_kept (suc n) [] = refl
none_kept (suc n) (variable ∷ variables) = ap (λ vs. variable ∷ vs) (none_kept n variables)

pub start_stands : (variables : List (List ℕ)) (kept : List (Option (List ℕ))) (n : ℕ) → variables ≡ replicate n [] → kept ≡ replicate n None → n ≡ 26
    → (length variables ≡ 26) × (length kept ≡ 26) × AreTexts variables × AreTexts (texts_before kept variables)
start_stands variables kept n v k e =
    let all : variables ≡ replicate 26 [] = v ∙ ap (λ m. replicate m []) e in
    let none : kept ≡ replicate 26 None = k ∙ ap (λ m. replicate m None) e in
    let texts : AreTexts variables = subst AreTexts (sym all) (empty_texts 26) in (
      ap length all,
      ap length none,
      texts,
      subst AreTexts (sym (ap (λ k. texts_before k variables) none ∙ none_kept 26 variables)) texts,
    )

-- what stands at a place
pub found : {A : Type 0} → (xs : List A) (i : ℕ) (x y : A) → i < length xs → x ≡ get_or xs i x → x ≡ y → slice_get xs i ≡ Some y
found [] i x y h at e = absurd (omega (arith, h))
found {A} (z ∷ xs) zero x y h at e = ap (λ (a : A). Some a) (sym at ∙ e)
found (z ∷ xs) (suc i) x y h at e = found xs i x y (omega (arith, h)) at e

-- a variable that is set, where what it was is kept already
pub set_again : (kept : List (Option (List ℕ))) (variables : List (List ℕ)) (x : ℕ) (old text : List ℕ) → slice_get kept x ≡ Some (Some old)
    → texts_before kept (slice_set variables x text) ≡ texts_before kept variables
set_again [] variables x old text e = cc
set_again (k ∷ kept) [] zero old text e = refl
set_again (Some k ∷ kept) (v ∷ variables) zero old text e = refl
set_again (None ∷ kept) (v ∷ variables) zero old text e = cc
set_again (k ∷ kept) [] (suc x) old text e = refl
set_again (Some k ∷ kept) (v ∷ variables) (suc x) old text e = ap (λ vs. k ∷ vs) (set_again kept variables x old text e)
set_again (None ∷ kept) (v ∷ variables) (suc x) old text e = ap (λ vs. v ∷ vs) (set_again kept variables x old text e)

-- where what it was isn't kept yet, and is then
pub set_first : (kept : List (Option (List ℕ))) (variables : List (List ℕ)) (x : ℕ) (old text : List ℕ) → slice_get kept x ≡ Some None → slice_get variables x ≡ Some old
    → texts_before (slice_set kept x (Some old)) (slice_set variables x text) ≡ texts_before kept variables
set_first [] variables x old text e h = cc
set_first (k ∷ kept) [] x old text e h = cc
set_first (Some k ∷ kept) (v ∷ variables) zero old text e h = cc
set_first (None ∷ kept) (v ∷ variables) zero old text e h = let same : old ≡ v = cc in ap (λ t. t ∷ texts_before kept variables) same
set_first (Some k ∷ kept) (v ∷ variables) (suc x) old text e h = ap (λ vs. k ∷ vs) (set_first kept variables x old text e h)
set_first (None ∷ kept) (v ∷ variables) (suc x) old text e h = ap (λ vs. v ∷ vs) (set_first kept variables x old text e h)

-- a variable that becomes what it was
pub one_back : (kept : List (Option (List ℕ))) (variables : List (List ℕ)) (x : ℕ) (text : List ℕ) → slice_get kept x ≡ Some (Some text) → x < length variables
    → texts_before (slice_set kept x None) (slice_set variables x text) ≡ texts_before kept variables
one_back [] variables x text e h = cc
one_back (k ∷ kept) [] x text e h = absurd (omega (arith, h))
one_back (Some k ∷ kept) (v ∷ variables) zero text e h = let same : text ≡ k = cc in ap (λ t. t ∷ texts_before kept variables) same
one_back (None ∷ kept) (v ∷ variables) zero text e h = cc
one_back (Some k ∷ kept) (v ∷ variables) (suc x) text e h = ap (λ vs. k ∷ vs) (one_back kept variables x text e (omega (arith, h)))
one_back (None ∷ kept) (v ∷ variables) (suc x) text e h = ap (λ vs. v ∷ vs) (one_back kept variables x text e (omega (arith, h)))

-- and one that is what it was
pub none_back : (kept : List (Option (List ℕ))) (variables : List (List ℕ)) (x : ℕ) → slice_get kept x ≡ Some None → texts_before (slice_set kept x None) variables ≡ texts_before kept variables
none_back [] variables x e = cc
none_back (k ∷ kept) [] zero e = refl
none_back (Some k ∷ kept) (v ∷ variables) zero e = cc
none_back (None ∷ kept) (v ∷ variables) zero e = refl
none_back (k ∷ kept) [] (suc x) e = refl
none_back (Some k ∷ kept) (v ∷ variables) (suc x) e = ap (λ vs. k ∷ vs) (none_back kept variables x e)
none_back (None ∷ kept) (v ∷ variables) (suc x) e = ap (λ vs. v ∷ vs) (none_back kept variables x e)
