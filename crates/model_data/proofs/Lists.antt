-- What holds of each element of a list, and lists in order, joined and cut.
use Rattle.std.proofs.Common.{◌≡◌, ◌++◌, ◌∷◌, [], List, Bool, true, false, cond}
use Rattle.std.specs.List.{AllByRecursion, filter}
use Rattle.std.specs.List.Sorted.{IsStrictlySortedBy}
use Rattle.std.specs.declared.cmp.Ordering.{Ordering}
use Rattle.std.specs.declared.cmp.Ordering.TheVariants.{Less}
use Rattle.std.specs.Cmp.{IsTotalOrder}

module _ {A : Type 0} where
  pub all_front : (P : A → Type 0) (xs ys : List A) → AllByRecursion P (xs ++ ys) → AllByRecursion P xs
  all_front P [] ys h = tt
  all_front P (x ∷ xs) ys h = (h.0, all_front P xs ys h.1)

  pub all_back : (P : A → Type 0) (xs ys : List A) → AllByRecursion P (xs ++ ys) → AllByRecursion P ys
  all_back P [] ys h = h
  all_back P (x ∷ xs) ys h = all_back P xs ys h.1

  pub all_append : (P : A → Type 0) (xs ys : List A) → AllByRecursion P xs → AllByRecursion P ys → AllByRecursion P (xs ++ ys)
  all_append P [] ys h g = g
  all_append P (x ∷ xs) ys h g = (h.0, all_append P xs ys h.1 g)

  pub all_then : (P Q : A → Type 0) (xs : List A) → ((x : A) → P x → Q x) → AllByRecursion P xs → AllByRecursion Q xs
  all_then P Q [] f h = tt
  all_then P Q (x ∷ xs) f h = (f x h.0, all_then P Q xs f h.1)

  -- two facts of each element give a third
  pub all_both : (P Q R : A → Type 0) (xs : List A) → ((x : A) → P x → Q x → R x) → AllByRecursion P xs → AllByRecursion Q xs → AllByRecursion R xs
  all_both P Q R [] f h g = tt
  all_both P Q R (x ∷ xs) f h g = (f x h.0 g.0, all_both P Q R xs f h.1 g.1)

  pub all_filter : (P : A → Type 0) (test : A → Bool) (xs : List A) → AllByRecursion P xs → AllByRecursion P (filter test xs)
  all_filter P test [] h = tt
  all_filter P test (x ∷ xs) h =
      elim (test x) as (λ b. AllByRecursion P (cond b (x ∷ filter test xs) (filter test xs))) [
        | true ↦ (h.0, all_filter P test xs h.1)
        | false ↦ all_filter P test xs h.1
      ]

  module _ (R : A → A → Ordering) where
    pub sorted_front : (xs ys : List A) → IsStrictlySortedBy R (xs ++ ys) → IsStrictlySortedBy R xs
    unfolding IsStrictlySortedBy
    sorted_front [] ys h = tt
    sorted_front (x ∷ xs) ys h = (all_front (λ y. R x y ≡ Less) xs ys h.0, sorted_front xs ys h.1)

    pub sorted_back : (xs ys : List A) → IsStrictlySortedBy R (xs ++ ys) → IsStrictlySortedBy R ys
    unfolding IsStrictlySortedBy
    sorted_back [] ys h = h
    sorted_back (x ∷ xs) ys h = sorted_back xs ys h.1

    -- each element of the front is before each of the back
    pub sorted_across : (xs ys : List A) → IsStrictlySortedBy R (xs ++ ys) → AllByRecursion (λ x. AllByRecursion (λ y. R x y ≡ Less) ys) xs
    unfolding IsStrictlySortedBy
    sorted_across [] ys h = tt
    sorted_across (x ∷ xs) ys h = (all_back (λ y. R x y ≡ Less) xs ys h.0, sorted_across xs ys h.1)

    pub sorted_append : (xs ys : List A) → IsStrictlySortedBy R xs → IsStrictlySortedBy R ys
        → AllByRecursion (λ x. AllByRecursion (λ y. R x y ≡ Less) ys) xs → IsStrictlySortedBy R (xs ++ ys)
    unfolding IsStrictlySortedBy
    sorted_append [] ys h g across = g
    sorted_append (x ∷ xs) ys h g across =
        (all_append (λ y. R x y ≡ Less) xs ys h.0 across.0, sorted_append xs ys h.1 g across.1)

    pub sorted_filter : (test : A → Bool) (xs : List A) → IsStrictlySortedBy R xs → IsStrictlySortedBy R (filter test xs)
    unfolding IsStrictlySortedBy
    sorted_filter test [] h = tt
    sorted_filter test (x ∷ xs) h =
        elim (test x) as (λ b. IsStrictlySortedBy R (cond b (x ∷ filter test xs) (filter test xs))) [
          | true ↦ (all_filter (λ y. R x y ≡ Less) test xs h.0, sorted_filter test xs h.1)
          | false ↦ sorted_filter test xs h.1
        ]

    pub sorted_single : (x : A) → IsStrictlySortedBy R (x ∷ [])
    unfolding IsStrictlySortedBy
    sorted_single x = (tt, tt)

    -- one more after the last, which is before it, is after all
    pub sorted_push : IsTotalOrder R → (xs : List A) (l r : A) → IsStrictlySortedBy R (xs ++ l ∷ []) → R l r ≡ Less
        → IsStrictlySortedBy R ((xs ++ l ∷ []) ++ r ∷ [])
    sorted_push o xs l r h e =
        sorted_append (xs ++ l ∷ []) (r ∷ []) h (sorted_single r)
        (all_append (λ x. AllByRecursion (λ y. R x y ≡ Less) (r ∷ [])) xs (l ∷ [])
        (all_then (λ x. AllByRecursion (λ y. R x y ≡ Less) (l ∷ [])) (λ x. AllByRecursion (λ y. R x y ≡ Less) (r ∷ [])) xs
        (λ x f. (o.trans x l r f.0 e, tt)) (sorted_across xs (l ∷ []) h)) ((e, tt), tt))
