-- The numbers of changed slots, and what one more leaves.
use Rattle.std.proofs.Common.{◌≡◌, ℕ, ◌+◌, ◌-◌, ◌≤◌, ◌<◌, ◌∷◌, [], List, length, refl, sym, ◌∙◌, ap, subst, Bool, true, false, cond, None, Some, arith, suc, ltb, eqb}
use Rattle.std.specs.List.{AllByRecursion, slice_get, insert, remove}
use Rattle.std.specs.List.Sorted.{IsStrictlySortedBy}
use Rattle.std.specs.Ordering.{nat_cmp}
use Rattle.std.specs.Cmp.{nat_cmp_is}
use Rattle.std.specs.declared.cmp.Ordering.TheVariants.{Less}
use Rattle.std.proofs.lemmas.Bool.{ltb-true, ltb-false, eqb-false, eq-eqb, ne_eqb}
use Rattle.std.proofs.lemmas.Cmp.{ranked}
use Rattle.seg_store.specs.ChangedSlots.{with_number, AreChanged}
use Rattle.seg_store.specs.OneSlot.{without_number}
use Rattle.seg_store.specs.Store.{count_below}

-- a number that stands at its place is there already
pub number_there : (n : ℕ) (xs : List ℕ) → slice_get xs (count_below n xs) ≡ Some n → with_number n xs ≡ xs
number_there n [] e = let clash : None ≡ Some n = e in absurd (cc)
number_there n (x ∷ xs) e = by (ltb x n) refl (number_there n xs)
  where
    goes : Bool → List ℕ
    goes b = cond b (x ∷ with_number n xs) (cond (eqb x n) (x ∷ xs) (n ∷ x ∷ xs))

    by : (b : Bool) → ltb x n ≡ b → (slice_get xs (count_below n xs) ≡ Some n → with_number n xs ≡ xs) → goes (ltb x n) ≡ x ∷ xs
    by true q rec =
        let more : 1 + count_below n xs ≡ suc (count_below n xs) = omega arith in
        let at : slice_get (x ∷ xs) (cond (ltb x n) (1 + count_below n xs) 0) ≡ Some n = e in
        ap goes q ∙ ap (λ ys. x ∷ ys) (rec (sym (ap (λ b. slice_get (x ∷ xs) (cond b (1 + count_below n xs) 0)) q ∙ ap (slice_get (x ∷ xs)) more) ∙ at))
    by false q rec =
        let at : slice_get (x ∷ xs) (cond (ltb x n) (1 + count_below n xs) 0) ≡ Some n = e in
        let same : Some x ≡ Some n = sym (ap (λ b. slice_get (x ∷ xs) (cond b (1 + count_below n xs) 0)) q) ∙ at in
        let one : x ≡ n = cc in
        ap goes q ∙ ap (λ b. cond b (x ∷ xs) (n ∷ x ∷ xs)) (eq-eqb x n one)

-- another one goes in at its place
pub number_new : (n : ℕ) (xs : List ℕ) → (slice_get xs (count_below n xs) ≡ Some n → ⊥) → insert xs (count_below n xs) n ≡ with_number n xs
number_new n [] h = refl
number_new n (x ∷ xs) h = by (ltb x n) refl (number_new n xs)
  where
    goes : Bool → List ℕ
    goes b = cond b (x ∷ with_number n xs) (cond (eqb x n) (x ∷ xs) (n ∷ x ∷ xs))

    place : Bool → ℕ
    place b = cond b (1 + count_below n xs) 0

    by : (b : Bool) → ltb x n ≡ b → ((slice_get xs (count_below n xs) ≡ Some n → ⊥) → insert xs (count_below n xs) n ≡ with_number n xs)
        → insert (x ∷ xs) (place (ltb x n)) n ≡ goes (ltb x n)
    by true q rec =
        let more : 1 + count_below n xs ≡ suc (count_below n xs) = omega arith in
        ap (λ b. insert (x ∷ xs) (place b) n) q
        ∙ (ap (λ p. insert (x ∷ xs) p n) more
        ∙ (ap (λ ys. x ∷ ys) (rec (λ e. h (ap (λ b. slice_get (x ∷ xs) (place b)) q ∙ (ap (slice_get (x ∷ xs)) more ∙ e))))
        ∙ sym (ap goes q)))
    by false q rec =
        ap (λ b. insert (x ∷ xs) (place b) n) q
        ∙ (sym (ap (λ b. cond b (x ∷ xs) (n ∷ x ∷ xs)) (ne_eqb x n (λ e. h (ap (λ b. slice_get (x ∷ xs) (place b)) q ∙ ap Some e))))
        ∙ sym (ap goes q))

-- all that holds of a number and of the others holds of them together
number_all : (P : ℕ → Type 0) (n : ℕ) (xs : List ℕ) → P n → AllByRecursion P xs → AllByRecursion P (with_number n xs)
number_all P n [] p h = (p, tt)
number_all P n (x ∷ xs) p h =
    elim (ltb x n) as (λ b. AllByRecursion P (cond b (x ∷ with_number n xs) (cond (eqb x n) (x ∷ xs) (n ∷ x ∷ xs)))) [
      | true ↦ (h.0, number_all P n xs p h.1)
      | false ↦ elim (eqb x n) as (λ b. AllByRecursion P (cond b (x ∷ xs) (n ∷ x ∷ xs))) [
        | true ↦ h
        | false ↦ (p, h)
      ]
    ]

less_then : (n m : ℕ) (xs : List ℕ) → n < m → AllByRecursion (λ x. nat_cmp m x ≡ Less) xs → AllByRecursion (λ x. nat_cmp n x ≡ Less) xs
less_then n m [] lt h = tt
less_then n m (x ∷ xs) lt h =
    let up : m < x = ranked m x Less (sym h.0) in
    (sym (nat_cmp_is n x Less (omega (arith, lt, up))), less_then n m xs lt h.1)

number_sorted : (n : ℕ) (xs : List ℕ) → IsStrictlySortedBy nat_cmp xs → IsStrictlySortedBy nat_cmp (with_number n xs)
unfolding IsStrictlySortedBy
number_sorted n [] s = (tt, tt)
number_sorted n (x ∷ xs) s = by (ltb x n) refl (number_sorted n xs s.1)
  where
    goes : Bool → List ℕ
    goes b = cond b (x ∷ with_number n xs) (cond (eqb x n) (x ∷ xs) (n ∷ x ∷ xs))

    last : (b : Bool) → eqb x n ≡ b → ltb x n ≡ false → IsStrictlySortedBy nat_cmp (cond b (x ∷ xs) (n ∷ x ∷ xs))
    last true e f = s
    last false e f =
        let lt : n < x = omega (arith, ltb-false x n f, eqb-false x n e) in
        ((sym (nat_cmp_is n x Less lt), less_then n x xs lt s.0), s)

    by : (b : Bool) → ltb x n ≡ b → IsStrictlySortedBy nat_cmp (with_number n xs) → IsStrictlySortedBy nat_cmp (goes (ltb x n))
    by true q rec =
        subst (λ b. IsStrictlySortedBy nat_cmp (goes b)) (sym q)
        (number_all (λ y. nat_cmp x y ≡ Less) n xs (sym (nat_cmp_is x n Less (ltb-true x n q))) s.0, rec)
    by false q rec = subst (λ b. IsStrictlySortedBy nat_cmp (goes b)) (sym q) (last (eqb x n) refl q)

rising_few : (m n : ℕ) (xs : List ℕ) → IsStrictlySortedBy nat_cmp xs → AllByRecursion (λ x. m ≤ x) xs → AllByRecursion (λ x. x < n) xs → length xs ≤ n - m
unfolding IsStrictlySortedBy
rising_few m n [] s low high = omega arith
rising_few m n (x ∷ xs) s low high =
    omega (arith, rising_few (suc x) n xs s.1 (above xs s.0) high.1, low.0, high.0)
  where
    above : (ys : List ℕ) → AllByRecursion (λ y. nat_cmp x y ≡ Less) ys → AllByRecursion (λ y. suc x ≤ y) ys
    above [] h = tt
    above (y ∷ ys) h = let up : x < y = ranked x y Less (sym h.0) in (omega (arith, up), above ys h.1)

all_from : (xs : List ℕ) → AllByRecursion (λ x. 0 ≤ x) xs
all_from [] = tt
all_from (x ∷ xs) = (omega arith, all_from xs)

pub changed_few : (roots : ℕ) (changed : List ℕ) → AreChanged roots changed → length changed ≤ roots
changed_few roots changed h = omega (arith, rising_few 0 roots changed h.ascending (all_from changed) h.within)

module _ (roots : ℕ) (changed : List ℕ) (slot : ℕ) (h : AreChanged roots changed) (lt : slot < roots) where
  pub changed_more : (changed' : List ℕ) → changed' ≡ with_number slot changed → AreChanged roots changed'
  changed_more changed' e =
      subst (λ xs. AreChanged roots xs) (sym e) (record {
        ascending = number_sorted slot changed h.ascending;
        within = number_all (λ x. x < roots) slot changed lt h.within;
      })

  pub changed_room : (room : ℕ) → roots ≤ room → length (with_number slot changed) ≤ room
  changed_room room enough = omega (arith, changed_few roots (with_number slot changed) (changed_more (with_number slot changed) refl), enough)

pub changed_none : (roots : ℕ) (changed : List ℕ) → changed ≡ [] → AreChanged roots changed
unfolding IsStrictlySortedBy
changed_none roots changed e = subst (λ xs. AreChanged roots xs) (sym e) (record { ascending = tt; within = tt })

-- ---- without a number

later_stay : (n : ℕ) (xs : List ℕ) → AllByRecursion (λ x. nat_cmp n x ≡ Less) xs → without_number n xs ≡ xs
later_stay n [] h = refl
later_stay n (x ∷ xs) h =
    let up : n < x = ranked n x Less (sym h.0) in
    ap (λ b. cond b (without_number n xs) (x ∷ without_number n xs)) (ne_eqb x n (λ e. omega (arith, up, e)))
    ∙ ap (λ ys. x ∷ ys) (later_stay n xs h.1)

-- a number that stands at its place is taken out there
pub number_out : (n : ℕ) (xs : List ℕ) → IsStrictlySortedBy nat_cmp xs → slice_get xs (count_below n xs) ≡ Some n → remove xs (count_below n xs) ≡ without_number n xs
unfolding IsStrictlySortedBy
number_out n [] s e = let clash : None ≡ Some n = e in absurd (cc)
number_out n (x ∷ xs) s e = by (ltb x n) refl (number_out n xs s.1)
  where
    goes : Bool → List ℕ
    goes b = cond b (without_number n xs) (x ∷ without_number n xs)

    place : Bool → ℕ
    place b = cond b (1 + count_below n xs) 0

    by : (b : Bool) → ltb x n ≡ b → (slice_get xs (count_below n xs) ≡ Some n → remove xs (count_below n xs) ≡ without_number n xs)
        → remove (x ∷ xs) (place (ltb x n)) ≡ goes (eqb x n)
    by true q rec =
        let more : 1 + count_below n xs ≡ suc (count_below n xs) = omega arith in
        let at : slice_get (x ∷ xs) (place (ltb x n)) ≡ Some n = e in
        let lt : x < n = ltb-true x n q in
        ap (λ b. remove (x ∷ xs) (place b)) q
        ∙ (ap (λ p. remove (x ∷ xs) p) more
        ∙ (ap (λ ys. x ∷ ys) (rec (sym (ap (λ b. slice_get (x ∷ xs) (place b)) q ∙ ap (slice_get (x ∷ xs)) more) ∙ at))
        ∙ sym (ap goes (ne_eqb x n (λ same. omega (arith, lt, same))))))
    by false q rec =
        let at : slice_get (x ∷ xs) (place (ltb x n)) ≡ Some n = e in
        let same : Some x ≡ Some n = sym (ap (λ b. slice_get (x ∷ xs) (place b)) q) ∙ at in
        let one : x ≡ n = cc in
        ap (λ b. remove (x ∷ xs) (place b)) q
        ∙ sym (ap goes (eq-eqb x n one) ∙ later_stay n xs (subst (λ m. AllByRecursion (λ y. nat_cmp m y ≡ Less) xs) one s.0))

-- and where it doesn't, it isn't there
pub number_absent : (n : ℕ) (xs : List ℕ) → IsStrictlySortedBy nat_cmp xs → (slice_get xs (count_below n xs) ≡ Some n → ⊥) → without_number n xs ≡ xs
unfolding IsStrictlySortedBy
number_absent n [] s h = refl
number_absent n (x ∷ xs) s h = by (ltb x n) refl (number_absent n xs s.1)
  where
    goes : Bool → List ℕ
    goes b = cond b (without_number n xs) (x ∷ without_number n xs)

    place : Bool → ℕ
    place b = cond b (1 + count_below n xs) 0

    by : (b : Bool) → ltb x n ≡ b → ((slice_get xs (count_below n xs) ≡ Some n → ⊥) → without_number n xs ≡ xs) → goes (eqb x n) ≡ x ∷ xs
    by true q rec =
        let more : 1 + count_below n xs ≡ suc (count_below n xs) = omega arith in
        let lt : x < n = ltb-true x n q in
        ap goes (ne_eqb x n (λ same. omega (arith, lt, same)))
        ∙ ap (λ ys. x ∷ ys) (rec (λ e. h (ap (λ b. slice_get (x ∷ xs) (place b)) q ∙ (ap (slice_get (x ∷ xs)) more ∙ e))))
    by false q rec =
        let other : x ≡ n → ⊥ = λ e. h (ap (λ b. slice_get (x ∷ xs) (place b)) q ∙ ap Some e) in
        let lt : n < x = omega (arith, ltb-false x n q, eqb-false x n (ne_eqb x n other)) in
        ap goes (ne_eqb x n other) ∙ ap (λ ys. x ∷ ys) (later_stay n xs (less_then n x xs lt s.0))

without_all : (P : ℕ → Type 0) (n : ℕ) (xs : List ℕ) → AllByRecursion P xs → AllByRecursion P (without_number n xs)
without_all P n [] h = tt
without_all P n (x ∷ xs) h =
    elim (eqb x n) as (λ b. AllByRecursion P (cond b (without_number n xs) (x ∷ without_number n xs))) [
      | true ↦ without_all P n xs h.1
      | false ↦ (h.0, without_all P n xs h.1)
    ]

without_sorted : (n : ℕ) (xs : List ℕ) → IsStrictlySortedBy nat_cmp xs → IsStrictlySortedBy nat_cmp (without_number n xs)
unfolding IsStrictlySortedBy
without_sorted n [] s = s
without_sorted n (x ∷ xs) s =
    elim (eqb x n) as (λ b. IsStrictlySortedBy nat_cmp (cond b (without_number n xs) (x ∷ without_number n xs))) [
      | true ↦ without_sorted n xs s.1
      | false ↦ (without_all (λ y. nat_cmp x y ≡ Less) n xs s.0, without_sorted n xs s.1)
    ]

pub changed_without : (roots : ℕ) (changed : List ℕ) (slot : ℕ) (changed' : List ℕ) → AreChanged roots changed → changed' ≡ without_number slot changed → AreChanged roots changed'
changed_without roots changed slot changed' h e =
    subst (λ xs. AreChanged roots xs) (sym e) (record {
      ascending = without_sorted slot changed h.ascending;
      within = without_all (λ x. x < roots) slot changed h.within;
    })

-- the lowest is taken out, and one fewer is left
pub lowest_out : (roots n : ℕ) (xs : List ℕ) → AreChanged roots (n ∷ xs) → without_number n (n ∷ xs) ≡ xs
unfolding IsStrictlySortedBy
lowest_out roots n xs h = ap (λ b. cond b (without_number n xs) (n ∷ without_number n xs)) (eq-eqb n n refl) ∙ later_stay n xs (h.ascending.0)
