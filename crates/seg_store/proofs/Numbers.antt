-- The numbers of the free slots, and what a change of one slot leaves of them.
use Rattle.std.proofs.Common.{◌≡◌, ℕ, ◌+◌, ◌≤◌, ◌<◌, ◌++◌, ◌∷◌, [], List, length, refl, sym, ◌∙◌, ap, subst, true, false, cond, Option, None, Some, arith, suc, zero, get_or, set, ltb, ⊎_elim}
use Rattle.std.specs.List.{AllByRecursion, slice_get, insert, remove}
use Rattle.std.specs.List.Sorted.{IsStrictlySortedBy}
use Rattle.std.specs.Option.{option_map}
use Rattle.std.specs.Ordering.{nat_cmp}
use Rattle.std.specs.Cmp.{nat_cmp_is}
use Rattle.std.specs.declared.cmp.Ordering.TheVariants.{Less}
use Rattle.std.proofs.lemmas.Bool.{lt-ltb, le-ltb, cases_lt}
use Rattle.std.proofs.lemmas.Map.Keys.{below_from_sorted}
use Rattle.model_data.specs.declared.row.Row.{Row}
use Rattle.seg_store.specs.Slots.{is_slot_free, lowest_free, free_slots}
use Rattle.seg_store.specs.Store.{free_numbers, count_below}

pub numbers_front : (xs : List ℕ) (n m : ℕ) → IsStrictlySortedBy nat_cmp xs → m < length xs → ((d : ℕ) → get_or xs m d < n) → (k d : ℕ) → k < m + 1 → get_or xs k d < n
numbers_front xs n m s within less k d h =
    ⊎_elim (λ lt. omega (arith, below_from_sorted xs k m d s lt within, less d))
    (λ ge. let same : k ≡ m = omega arith in subst (λ j. get_or xs j d < n) (sym same) (less d)) (cases_lt k m)

pub numbers_back : (xs : List ℕ) (n m : ℕ) → IsStrictlySortedBy nat_cmp xs → m < length xs → ((d : ℕ) → n ≤ get_or xs m d) → (k d : ℕ) → m ≤ k → k < length xs → n ≤ get_or xs k d
numbers_back xs n m s within more k d le lt =
    ⊎_elim (λ before. omega (arith, below_from_sorted xs m k d s before lt, more d))
    (λ ge. let same : k ≡ m = omega arith in subst (λ j. n ≤ get_or xs j d) (sym same) (more d)) (cases_lt m k)

pub below_within : (n : ℕ) (xs : List ℕ) → count_below n xs ≤ length xs
below_within n [] = omega arith
below_within n (x ∷ xs) =
    elim (ltb x n) as (λ b. cond b (1 + count_below n xs) 0 ≤ suc (length xs)) [
      | true ↦ omega (arith, below_within n xs)
      | false ↦ omega arith
    ]

-- a number that is lower than all
abbrev pub AreFrom : ℕ → List ℕ → Type 0
AreFrom n xs = AllByRecursion (λ x. n ≤ x) xs

from_less : (n m : ℕ) (xs : List ℕ) → n ≤ m → AreFrom m xs → AreFrom n xs
from_less n m [] le h = tt
from_less n m (x ∷ xs) le h = (omega (arith, h.0), from_less n m xs le h.1)

numbers_from : (n : ℕ) (slots : List (List Row)) → AreFrom n (free_numbers n slots)
numbers_from n [] = tt
numbers_from n ([] ∷ slots) = (omega arith, from_less n (suc n) (free_numbers (suc n) slots) (omega arith) (numbers_from (suc n) slots))
numbers_from n ((row ∷ image) ∷ slots) = from_less n (suc n) (free_numbers (suc n) slots) (omega arith) (numbers_from (suc n) slots)

none_below : (n m : ℕ) (xs : List ℕ) → n ≤ m → AreFrom m xs → count_below n xs ≡ 0
none_below n m [] le h = refl
none_below n m (x ∷ xs) le h = ap (λ b. cond b (1 + count_below n xs) 0) (le-ltb x n (omega (arith, h.0)))

one_below : (n x : ℕ) (xs : List ℕ) → x < n → count_below n (x ∷ xs) ≡ suc (count_below n xs)
one_below n x xs lt =
    let more : 1 + count_below n xs ≡ suc (count_below n xs) = omega arith in
    ap (λ b. cond b (1 + count_below n xs) 0) (lt-ltb x n lt) ∙ more

less_all : (n : ℕ) (xs : List ℕ) → AreFrom (suc n) xs → AllByRecursion (λ x. nat_cmp n x ≡ Less) xs
less_all n [] h = tt
less_all n (x ∷ xs) h = (sym (nat_cmp_is n x Less (omega (arith, h.0))), less_all n xs h.1)

pub numbers_sorted : (n : ℕ) (slots : List (List Row)) → IsStrictlySortedBy nat_cmp (free_numbers n slots)
unfolding IsStrictlySortedBy
numbers_sorted n [] = tt
numbers_sorted n ([] ∷ slots) = (less_all n (free_numbers (suc n) slots) (numbers_from (suc n) slots), numbers_sorted (suc n) slots)
numbers_sorted n ((row ∷ image) ∷ slots) = numbers_sorted (suc n) slots

-- the first number is that of the lowest free slot
pub numbers_first : (n : ℕ) (slots : List (List Row)) → slice_get (free_numbers n slots) 0 ≡ option_map (λ i. n + i) (lowest_free slots)
numbers_first n [] = refl
numbers_first n ([] ∷ slots) = let e : n ≡ n + 0 = omega arith in ap Some e
numbers_first n ((row ∷ image) ∷ slots) = numbers_first (suc n) slots ∙ shift (lowest_free slots)
  where
    shift : (o : Option ℕ) → option_map (λ i. suc n + i) o ≡ option_map (λ i. n + i) (option_map (λ i. suc i) o)
    shift None = refl
    shift (Some i) = let e : suc n + i ≡ n + suc i = omega arith in ap Some e

pub lowest_first : (slots : List (List Row)) → slice_get (free_numbers 0 slots) 0 ≡ lowest_free slots
lowest_first slots = numbers_first 0 slots ∙ same (lowest_free slots)
  where
    same : (o : Option ℕ) → option_map (λ i. 0 + i) o ≡ o
    same None = refl
    same (Some i) = let e : 0 + i ≡ i = omega arith in ap Some e

-- how many free slots there are
numbers_few : (n : ℕ) (slots : List (List Row)) → length (free_numbers n slots) ≤ length slots
numbers_few n [] = omega arith
numbers_few n ([] ∷ slots) = omega (arith, numbers_few (suc n) slots)
numbers_few n ((row ∷ image) ∷ slots) = omega (arith, numbers_few (suc n) slots)

pub numbers_fewer : (n : ℕ) (slots : List (List Row)) (i : ℕ) (old : List Row) → slice_get slots i ≡ Some old → is_slot_free old ≡ false → length (free_numbers n slots) < length slots
numbers_fewer n [] i old g t = let clash : None ≡ Some old = g in absurd (cc)
numbers_fewer n ([] ∷ slots) zero old g t =
    let same : Some [] ≡ Some old = g in let parts : [] ≡ old = cc in
    let clash : true ≡ false = ap is_slot_free parts ∙ t in absurd (cc)
numbers_fewer n ([] ∷ slots) (suc i) old g t = omega (arith, numbers_fewer (suc n) slots i old g t)
numbers_fewer n ((row ∷ image) ∷ slots) i old g t = omega (arith, numbers_few (suc n) slots)

-- a free slot has its number among them
pub number_there : (n : ℕ) (slots : List (List Row)) (i m : ℕ) → m ≡ n + i → slice_get slots i ≡ Some [] → count_below m (free_numbers n slots) < length (free_numbers n slots)
number_there n [] i m e g = let clash : None ≡ Some [] = g in absurd (cc)
number_there n ([] ∷ slots) zero m e g = omega (arith, none_below m n (n ∷ free_numbers (suc n) slots) (omega arith) (numbers_from n ([] ∷ slots)))
number_there n ([] ∷ slots) (suc i) m e g =
    omega (arith, one_below m n (free_numbers (suc n) slots) (omega arith), number_there (suc n) slots i m (omega arith) g)
number_there n ((row ∷ image) ∷ slots) zero m e g =
    let same : Some (row ∷ image) ≡ Some [] = g in let clash : row ∷ image ≡ [] = cc in absurd (cc)
number_there n ((row ∷ image) ∷ slots) (suc i) m e g = number_there (suc n) slots i m (omega arith) g

-- a slot that is filled
pub numbers_filled : (n : ℕ) (slots : List (List Row)) (i m : ℕ) (image : List Row) → m ≡ n + i → slice_get slots i ≡ Some [] → is_slot_free image ≡ false
    → free_numbers n (set slots i image) ≡ remove (free_numbers n slots) (count_below m (free_numbers n slots))
numbers_filled n [] i m image e g t = let clash : None ≡ Some [] = g in absurd (cc)
numbers_filled n ([] ∷ slots) zero m [] e g t = let clash : true ≡ false = t in absurd (cc)
numbers_filled n ([] ∷ slots) zero m (r ∷ rows) e g t =
    sym (ap (remove (n ∷ free_numbers (suc n) slots)) (none_below m n (n ∷ free_numbers (suc n) slots) (omega arith) (numbers_from n ([] ∷ slots))))
numbers_filled n ([] ∷ slots) (suc i) m image e g t =
    ap (λ xs. n ∷ xs) (numbers_filled (suc n) slots i m image (omega arith) g t)
    ∙ sym (ap (remove (n ∷ free_numbers (suc n) slots)) (one_below m n (free_numbers (suc n) slots) (omega arith)))
numbers_filled n ((row ∷ rows) ∷ slots) zero m image e g t =
    let same : Some (row ∷ rows) ≡ Some [] = g in let clash : row ∷ rows ≡ [] = cc in absurd (cc)
numbers_filled n ((row ∷ rows) ∷ slots) (suc i) m image e g t = numbers_filled (suc n) slots i m image (omega arith) g t

-- a slot that is freed
pub numbers_freed : (n : ℕ) (slots : List (List Row)) (i m : ℕ) (old : List Row) → m ≡ n + i → slice_get slots i ≡ Some old → is_slot_free old ≡ false
    → free_numbers n (set slots i []) ≡ insert (free_numbers n slots) (count_below m (free_numbers n slots)) m
numbers_freed n [] i m old e g t = let clash : None ≡ Some old = g in absurd (cc)
numbers_freed n ([] ∷ slots) zero m old e g t =
    let same : Some [] ≡ Some old = g in let parts : [] ≡ old = cc in
    let clash : true ≡ false = ap is_slot_free parts ∙ t in absurd (cc)
numbers_freed n ([] ∷ slots) (suc i) m old e g t =
    ap (λ xs. n ∷ xs) (numbers_freed (suc n) slots i m old (omega arith) g t)
    ∙ sym (ap (λ p. insert (n ∷ free_numbers (suc n) slots) p m) (one_below m n (free_numbers (suc n) slots) (omega arith)))
numbers_freed n ((row ∷ rows) ∷ slots) zero m old e g t =
    let same : n ≡ m = omega arith in
    ap (λ k. k ∷ free_numbers (suc n) slots) same
    ∙ sym (ap (λ p. insert (free_numbers (suc n) slots) p m) (none_below m (suc n) (free_numbers (suc n) slots) (omega arith) (numbers_from (suc n) slots)))
numbers_freed n ((row ∷ rows) ∷ slots) (suc i) m old e g t = numbers_freed (suc n) slots i m old (omega arith) g t

-- a slot that stays taken
pub numbers_kept : (n : ℕ) (slots : List (List Row)) (i : ℕ) (old image : List Row) → slice_get slots i ≡ Some old → is_slot_free old ≡ false → is_slot_free image ≡ false
    → free_numbers n (set slots i image) ≡ free_numbers n slots
numbers_kept n [] i old image g t u = refl
numbers_kept n ([] ∷ slots) zero old image g t u =
    let same : Some [] ≡ Some old = g in let parts : [] ≡ old = cc in
    let clash : true ≡ false = ap is_slot_free parts ∙ t in absurd (cc)
numbers_kept n ((row ∷ rows) ∷ slots) zero old [] g t u = let clash : true ≡ false = u in absurd (cc)
numbers_kept n ((row ∷ rows) ∷ slots) zero old (r ∷ image) g t u = refl
numbers_kept n ([] ∷ slots) (suc i) old image g t u = ap (λ xs. n ∷ xs) (numbers_kept (suc n) slots i old image g t u)
numbers_kept n ((row ∷ rows) ∷ slots) (suc i) old image g t u = numbers_kept (suc n) slots i old image g t u

-- one more free slot
pub numbers_more : (n k : ℕ) → free_numbers n (free_slots (suc k)) ≡ free_numbers n (free_slots k) ++ (n + k) ∷ []
numbers_more n zero = let e : n ≡ n + 0 = omega arith in ap (λ x. x ∷ []) e
numbers_more n (suc k) =
    let e : suc n + k ≡ n + suc k = omega arith in
    ap (λ xs. n ∷ xs) (numbers_more (suc n) k) ∙ ap (λ x. n ∷ (free_numbers (suc n) (free_slots k) ++ x ∷ [])) e
