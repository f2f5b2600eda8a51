-- Filters that keep all, none, or what another filter keeps.
use Rattle.std.proofs.Common.{◌≡◌, ◌∷◌, [], List, refl, sym, ◌∙◌, ap, Bool, true, false, cond, Some}
use Rattle.std.specs.List.{AllByRecursion, filter, slice_get, find}
use Rattle.std.proofs.lemmas.Bool.{false≢true}

module _ {A : Type 0} where
  pub filter_all : (test : A → Bool) (xs : List A) → AllByRecursion (λ x. test x ≡ true) xs → filter test xs ≡ xs
  filter_all test [] h = refl
  filter_all test (x ∷ xs) h =
      ap (λ b. cond b (x ∷ filter test xs) (filter test xs)) h.0 ∙ (λ i. x ∷ filter_all test xs h.1 i)

  pub filter_none : (test : A → Bool) (xs : List A) → AllByRecursion (λ x. test x ≡ false) xs → filter test xs ≡ []
  filter_none test [] h = refl
  filter_none test (x ∷ xs) h =
      ap (λ b. cond b (x ∷ filter test xs) (filter test xs)) h.0 ∙ filter_none test xs h.1

  -- a filter behind one that keeps all that it keeps
  pub filter_within : (p q : A → Bool) → ((x : A) → p x ≡ true → q x ≡ true) → (xs : List A) → filter p (filter q xs) ≡ filter p xs
  filter_within p q sub [] = refl
  filter_within p q sub (x ∷ xs) = by (q x) refl (p x) refl (filter_within p q sub xs)
    where
      by : (b : Bool) → q x ≡ b → (c : Bool) → p x ≡ c → filter p (filter q xs) ≡ filter p xs
          → filter p (cond (q x) (x ∷ filter q xs) (filter q xs)) ≡ cond (p x) (x ∷ filter p xs) (filter p xs)
      by true e c f rec =
          ap (λ b. filter p (cond b (x ∷ filter q xs) (filter q xs))) e ∙ ap (λ ys. cond (p x) (x ∷ ys) ys) rec
      by false e true f rec = absurd (false≢true (sym e ∙ sub x f))
      by false e false f rec =
          ap (λ b. filter p (cond b (x ∷ filter q xs) (filter q xs))) e
          ∙ (rec ∙ sym (ap (λ b. cond b (x ∷ filter p xs) (filter p xs)) f))

  -- a filter behind one that keeps nothing of what it keeps
  pub filter_apart : (p q : A → Bool) → ((x : A) → q x ≡ true → p x ≡ false) → (xs : List A) → filter p (filter q xs) ≡ []
  filter_apart p q apart [] = refl
  filter_apart p q apart (x ∷ xs) = by (q x) refl (filter_apart p q apart xs)
    where
      by : (b : Bool) → q x ≡ b → filter p (filter q xs) ≡ [] → filter p (cond (q x) (x ∷ filter q xs) (filter q xs)) ≡ []
      by true e rec =
          ap (λ b. filter p (cond b (x ∷ filter q xs) (filter q xs))) e
          ∙ (ap (λ b. cond b (x ∷ filter p (filter q xs)) (filter p (filter q xs))) (apart x e) ∙ rec)
      by false e rec = ap (λ b. filter p (cond b (x ∷ filter q xs) (filter q xs))) e ∙ rec

  -- what a filter keeps passes it
  pub filter_passes : (test : A → Bool) (xs : List A) → AllByRecursion (λ x. test x ≡ true) (filter test xs)
  filter_passes test [] = tt
  filter_passes test (x ∷ xs) = by (test x) refl (filter_passes test xs)
    where
      by : (b : Bool) → test x ≡ b → AllByRecursion (λ y. test y ≡ true) (filter test xs)
          → AllByRecursion (λ y. test y ≡ true) (cond b (x ∷ filter test xs) (filter test xs))
      by true e rec = (e, rec)
      by false e rec = rec

  -- the first that passes is the first of those that pass
  pub find_first : (test : A → Bool) (xs : List A) → find test xs ≡ slice_get (filter test xs) 0
  find_first test [] = refl
  find_first test (x ∷ xs) =
      elim (test x) as (λ b. cond b (Some x) (find test xs) ≡ slice_get (cond b (x ∷ filter test xs) (filter test xs)) 0) [
        | true ↦ refl
        | false ↦ find_first test xs
      ]
