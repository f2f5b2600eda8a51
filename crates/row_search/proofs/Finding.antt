-- The first element of a list that passes a test.
use Rattle.std.proofs.Common.{◌≡◌, ◌∷◌, ◌++◌, [], List, refl, sym, subst, ◌∙◌, ap, Bool, true, false, cond, None, Some}
use Rattle.std.specs.List.{AllByRecursion, filter, find}
use Rattle.std.proofs.lemmas.Bool.{false≢true}
use Rattle.std.proofs.lemmas.Option.{same_Some, none-some}

module _ {A : Type 0} where
  -- it is the first of those that another test keeps, where that keeps all that pass
  pub find_within : (p q : A → Bool) (xs : List A) → AllByRecursion (λ x. p x ≡ true → q x ≡ true) xs → find p (filter q xs) ≡ find p xs
  find_within p q [] sub = refl
  find_within p q (x ∷ xs) sub = by (q x) refl (p x) refl (find_within p q xs sub.1)
    where
      by : (b : Bool) → q x ≡ b → (c : Bool) → p x ≡ c → find p (filter q xs) ≡ find p xs
          → find p (cond (q x) (x ∷ filter q xs) (filter q xs)) ≡ cond (p x) (Some x) (find p xs)
      by true e c f rec = ap (λ b. find p (cond b (x ∷ filter q xs) (filter q xs))) e ∙ ap (λ o. cond (p x) (Some x) o) rec
      by false e true f rec = absurd (false≢true (sym e ∙ sub.0 f))
      by false e false f rec =
          ap (λ b. find p (cond b (x ∷ filter q xs) (filter q xs))) e ∙ (rec ∙ sym (ap (λ b. cond b (Some x) (find p xs)) f))

  -- of two lists, it is that of the first if there is one, else that of the second
  pub find_front : (p : A → Bool) (xs ys : List A) (x : A) → find p xs ≡ Some x → find p (xs ++ ys) ≡ Some x
  find_front p [] ys x e = absurd (none-some x e)
  find_front p (z ∷ xs) ys x e = by (p z) refl e (find_front p xs ys x)
    where
      by : (b : Bool) → p z ≡ b → cond b (Some z) (find p xs) ≡ Some x → (find p xs ≡ Some x → find p (xs ++ ys) ≡ Some x)
          → cond b (Some z) (find p (xs ++ ys)) ≡ Some x
      by true q h rec = h
      by false q h rec = rec h

  pub find_back : (p : A → Bool) (xs ys : List A) → find p xs ≡ None → find p (xs ++ ys) ≡ find p ys
  find_back p [] ys e = refl
  find_back p (z ∷ xs) ys e = by (p z) refl e (find_back p xs ys)
    where
      by : (b : Bool) → p z ≡ b → cond b (Some z) (find p xs) ≡ None → (find p xs ≡ None → find p (xs ++ ys) ≡ find p ys)
          → cond b (Some z) (find p (xs ++ ys)) ≡ find p ys
      by true q h rec = let clash : Some z ≡ None = h in absurd (cc)
      by false q h rec = rec h

  -- what holds of all elements holds of it
  pub find_has : (P : A → Type 0) (p : A → Bool) (xs : List A) (x : A) → AllByRecursion P xs → find p xs ≡ Some x → P x
  find_has P p [] x all e = absurd (none-some x e)
  find_has P p (z ∷ xs) x all e = by (p z) e (find_has P p xs x all.1)
    where
      by : (b : Bool) → cond b (Some z) (find p xs) ≡ Some x → (find p xs ≡ Some x → P x) → P x
      by true h rec = let same : z ≡ x = same_Some z x h in subst_at same
        where
          subst_at : z ≡ x → P x
          subst_at s = subst P s all.0
      by false h rec = rec h

  -- it passes
  pub find_passes : (p : A → Bool) (xs : List A) (x : A) → find p xs ≡ Some x → p x ≡ true
  find_passes p [] x e = absurd (none-some x e)
  find_passes p (z ∷ xs) x e = by (p z) refl e (find_passes p xs x)
    where
      by : (b : Bool) → p z ≡ b → cond b (Some z) (find p xs) ≡ Some x → (find p xs ≡ Some x → p x ≡ true) → p x ≡ true
      by true q h rec = ap p (sym (same_Some z x h)) ∙ q
      by false q h rec = rec h

  -- where there is none, none passes
  pub find_none : (p : A → Bool) (xs : List A) → find p xs ≡ None → AllByRecursion (λ x. p x ≡ false) xs
  find_none p [] e = tt
  find_none p (z ∷ xs) e = by (p z) refl e (find_none p xs)
    where
      by : (b : Bool) → p z ≡ b → cond b (Some z) (find p xs) ≡ None → (find p xs ≡ None → AllByRecursion (λ x. p x ≡ false) xs)
          → (p z ≡ false) × AllByRecursion (λ x. p x ≡ false) xs
      by true q h rec = let clash : Some z ≡ None = h in absurd (cc)
      by false q h rec = (q, rec h)

  -- it is the first of those that pass
  pub find_head : (p : A → Bool) (xs : List A) (x : A) → find p xs ≡ Some x → (rest : List A) × (filter p xs ≡ x ∷ rest)
  find_head p [] x e = absurd (none-some x e)
  find_head p (z ∷ xs) x e = by (p z) e (find_head p xs x)
    where
      by : (b : Bool) → cond b (Some z) (find p xs) ≡ Some x → (find p xs ≡ Some x → (rest : List A) × (filter p xs ≡ x ∷ rest))
          → (rest : List A) × (cond b (z ∷ filter p xs) (filter p xs) ≡ x ∷ rest)
      by true h rec = (filter p xs, λ i. same_Some z x h i ∷ filter p xs)
      by false h rec = rec h

  -- a filter behind one that keeps less
  pub filter_twice : (p q : A → Bool) → ((x : A) → q x ≡ true → p x ≡ true) → (xs : List A) → filter p (filter q xs) ≡ filter q xs
  filter_twice p q sub [] = refl
  filter_twice p q sub (x ∷ xs) = by (q x) refl (filter_twice p q sub xs)
    where
      by : (b : Bool) → q x ≡ b → filter p (filter q xs) ≡ filter q xs
          → filter p (cond b (x ∷ filter q xs) (filter q xs)) ≡ cond b (x ∷ filter q xs) (filter q xs)
      by true e rec = ap (λ b. cond b (x ∷ filter p (filter q xs)) (filter p (filter q xs))) (sub x e) ∙ (λ i. x ∷ rec i)
      by false e rec = rec
