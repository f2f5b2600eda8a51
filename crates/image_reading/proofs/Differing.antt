-- The first difference of two texts, from a place on.
use Rattle.std.proofs.Common.{◌≡◌, ℕ, zero, suc, ◌+◌, ◌<◌, ◌≤◌, Bool, true, false, List, [], ◌∷◌, length, drop, get_or, refl, sym, ◌∙◌, ap, arith, Some, None, min, ⊎_elim, take}
use Rattle.std.proofs.lemmas.List.{length-take-le}
use Rattle.std.specs.Prelude.{Option, if◌then◌else◌, ◌==◌}
use Rattle.std.specs.Option.{option_map}
use Rattle.std.proofs.lemmas.Bool.{eq-eqb, ne_eqb, cases_order}
use Rattle.model_image.specs.Text.{first_difference}

-- so many places later
abbrev pub moved : ℕ → Option ℕ → Option ℕ
moved n found = option_map (λ k. n + k) found

pub moved_none : (o : Option ℕ) → o ≡ moved 0 o
moved_none None = refl
moved_none (Some k) = ap (λ (n : ℕ). Some n) (omega arith)

moved_one : (n : ℕ) (o : Option ℕ) → moved n (option_map (λ k. suc k) o) ≡ moved (n + 1) o
moved_one n None = refl
moved_one n (Some k) = ap (λ (x : ℕ). Some x) (omega arith)

drop_suc : (xs : List ℕ) (i : ℕ) → i < length xs → drop i xs ≡ get_or xs i 0 ∷ drop (suc i) xs
drop_suc [] i lt = absurd (omega (arith, lt))
drop_suc (x ∷ xs) zero lt = refl
drop_suc (x ∷ xs) (suc i) lt = drop_suc xs i (omega (arith, lt))

drop_here : (xs : List ℕ) (i : ℕ) → i < length xs → drop i xs ≡ get_or xs i 0 ∷ drop (i + 1) xs
drop_here xs i lt = let next : suc i ≡ i + 1 = omega arith in drop_suc xs i lt ∙ ap (λ k. get_or xs i 0 ∷ drop k xs) next

pub same_step : (xs ys : List ℕ) (i : ℕ) → i < length xs → i < length ys → get_or xs i 0 ≡ get_or ys i 0 → moved i (first_difference (drop i xs) (drop i ys)) ≡ moved (i + 1) (first_difference (drop (i + 1) xs) (drop (i + 1) ys))
same_step xs ys i lt other same =
    ap (λ (l : List ℕ). moved i (first_difference l (drop i ys))) (drop_here xs i lt)
    ∙ ap (λ (l : List ℕ). moved i (first_difference (get_or xs i 0 ∷ drop (i + 1) xs) l)) (drop_here ys i other)
    ∙ ap (λ (b : Bool). moved i (if b then option_map (λ n. suc n) (first_difference (drop (i + 1) xs) (drop (i + 1) ys)) else Some 0)) (eq-eqb (get_or xs i 0) (get_or ys i 0) same)
    ∙ moved_one i (first_difference (drop (i + 1) xs) (drop (i + 1) ys))

pub other_step : (xs ys : List ℕ) (i : ℕ) → i < length xs → i < length ys → (get_or xs i 0 ≡ get_or ys i 0 → ⊥) → moved i (first_difference (drop i xs) (drop i ys)) ≡ Some i
other_step xs ys i lt other apart =
    ap (λ (l : List ℕ). moved i (first_difference l (drop i ys))) (drop_here xs i lt)
    ∙ ap (λ (l : List ℕ). moved i (first_difference (get_or xs i 0 ∷ drop (i + 1) xs) l)) (drop_here ys i other)
    ∙ ap (λ (b : Bool). moved i (if b then option_map (λ n. suc n) (first_difference (drop (i + 1) xs) (drop (i + 1) ys)) else Some 0)) (ne_eqb (get_or xs i 0) (get_or ys i 0) apart)
    ∙ ap (λ (n : ℕ). Some n) (omega arith)

drop_past : (xs : List ℕ) (i : ℕ) → length xs ≤ i → drop i xs ≡ []
drop_past [] zero le = refl
drop_past [] (suc i) le = refl
drop_past (x ∷ xs) zero le = absurd (omega (arith, le))
drop_past (x ∷ xs) (suc i) le = drop_past xs i (omega (arith, le))

pub both_end : (xs ys : List ℕ) (i : ℕ) → length xs ≤ i → length ys ≤ i → moved i (first_difference (drop i xs) (drop i ys)) ≡ None
both_end xs ys i le other =
    ap (λ (l : List ℕ). moved i (first_difference l (drop i ys))) (drop_past xs i le) ∙ ap (λ (l : List ℕ). moved i (first_difference [] l)) (drop_past ys i other)

pub one_ends : (xs ys : List ℕ) (i : ℕ) → (length xs ≤ i) × (i < length ys) → moved i (first_difference (drop i xs) (drop i ys)) ≡ Some i
one_ends xs ys i w =
    ap (λ (l : List ℕ). moved i (first_difference l (drop i ys))) (drop_past xs i w.0) ∙ ap (λ (l : List ℕ). moved i (first_difference [] l)) (drop_here ys i w.1) ∙ ap (λ (n : ℕ). Some n) (omega arith)

pub other_ends : (xs ys : List ℕ) (i : ℕ) → (i < length xs) × (length ys ≤ i) → moved i (first_difference (drop i xs) (drop i ys)) ≡ Some i
other_ends xs ys i w =
    ap (λ (l : List ℕ). moved i (first_difference l (drop i ys))) (drop_here xs i w.0) ∙ ap (λ (l : List ℕ). moved i (first_difference (get_or xs i 0 ∷ drop (i + 1) xs) l)) (drop_past ys i w.1) ∙ ap (λ (n : ℕ). Some n) (omega arith)

-- texts that don't differ have one length
length_by : (b : Bool) (xs ys : List ℕ) → (first_difference xs ys ≡ None → length xs ≡ length ys) → (if b then option_map (λ n. suc n) (first_difference xs ys) else Some 0) ≡ None → suc (length xs) ≡ suc (length ys)
length_by true xs ys same e = ap (λ n. suc n) (same (no_more (first_difference xs ys) e)) where
  no_more : (o : Option ℕ) → option_map (λ n. suc n) o ≡ None → o ≡ None
  no_more None e = refl
  no_more (Some n) e = cc
length_by false xs ys same e = cc

pub same_length : (xs ys : List ℕ) → first_difference xs ys ≡ None → length xs ≡ length ys
same_length [] [] e = refl
same_length [] (y ∷ ys) e = cc
same_length (x ∷ xs) [] e = cc
same_length (x ∷ xs) (y ∷ ys) e = length_by (x == y) xs ys (same_length xs ys) e

-- where one of them ends
pub ends : (xs ys : List ℕ) (i both : ℕ) (whole : Option ℕ) → i ≡ both → both ≡ min (length xs) (length ys) → (length xs ≡ length ys → ⊥) → whole ≡ moved i (first_difference (drop i xs) (drop i ys)) → Some both ≡ whole
ends xs ys i both whole at is apart so_far =
    ap (λ (n : ℕ). Some n) (sym at)
    ∙ sym (so_far ∙ ⊎_elim
    (λ same. absurd (apart same))
    (λ other. ⊎_elim (λ (lt : length xs < length ys). one_ends xs ys i (omega (arith, at, is, lt), omega (arith, at, is, lt))) (λ (gt : length ys < length xs). other_ends xs ys i (omega (arith, at, is, gt), omega (arith, at, is, gt))) other)
    (cases_order (length xs) (length ys)))

pub whole_length : (text xs : List ℕ) (size : ℕ) (found : Option ℕ) → found ≡ first_difference text (take size xs) → found ≡ None → size ≤ length xs → length text ≡ size
whole_length text xs size found is none le = same_length text (take size xs) (sym is ∙ none) ∙ length-take-le size xs le
