-- The items of one number, and how often a number stands.
use Rattle.std.proofs.Common.{◌≡◌, ◌≢◌, ℕ, zero, suc, ◌+◌, Bool, true, false, cond, List, [], ◌∷◌, ◌++◌, refl, sym, ap, ◌∙◌, ⊎_elim, arith, eq-eqb, ne_eqb, append-nil}
use Rattle.std.proofs.lemmas.Bool.Decides.{eqb_tells}
use Rattle.std.specs.Prelude.{◌==◌}
use Rattle.std.specs.List.{All}
use Rattle.pool_pass.specs.Book.{items_of, under, tagged, times}

module _ {X : Type 0} (P : X → Type 0) where
  pub All-first : (x : X) (xs : List X) → All P (x ∷ xs) → P x
  All-first x xs all = all 0 x (omega arith)

  pub All-rest : (x : X) (xs : List X) → All P (x ∷ xs) → All P xs
  All-rest x xs all k d below = all (suc k) d (omega arith)

  pub All-both : (x : X) (xs : List X) → P x → All P xs → All P (x ∷ xs)
  All-both x xs first rest zero d below = first
  All-both x xs first rest (suc k) d below = rest k d (omega arith)

  pub All-none : All P []
  All-none k d below = absurd (omega arith)

module _ {I : Type 0} where
  pub under-append : (number : ℕ) (book more : List (ℕ × I)) → under number (book ++ more) ≡ under number book ++ under number more
  under-append number [] more = refl
  under-append number (entry ∷ book) more = cases (entry.0 == number) (under-append number book more)
    where
      cases : (b : Bool) → under number (book ++ more) ≡ under number book ++ under number more
          → cond b (entry.1 ∷ under number (book ++ more)) (under number (book ++ more)) ≡ cond b (entry.1 ∷ under number book) (under number book) ++ under number more
      cases true rest = ap (λ items. entry.1 ∷ items) rest
      cases false rest = rest

  pub under-tagged : (number : ℕ) (items : List I) → under number (tagged number items) ≡ items
  under-tagged number [] = refl
  under-tagged number (item ∷ items) = ap (λ b. cond b (item ∷ under number (tagged number items)) (under number (tagged number items))) (eq-eqb number number refl) ∙ ap (λ xs. item ∷ xs) (under-tagged number items)

  pub under-other : (number other : ℕ) (items : List I) → other ≢ number → under number (tagged other items) ≡ []
  under-other number other [] apart = refl
  under-other number other (item ∷ items) apart = ap (λ b. cond b (item ∷ under number (tagged other items)) (under number (tagged other items))) (ne_eqb other number apart) ∙ under-other number other items apart

  -- what is added under another number
  pub under_added : (number other : ℕ) (book : List (ℕ × I)) (items : List I) → other ≢ number → under number (book ++ tagged other items) ≡ under number book
  under_added number other book items apart = under-append number book (tagged other items) ∙ ap (λ xs. under number book ++ xs) (under-other number other items apart) ∙ append-nil (under number book)

  -- and under the same
  pub under_own : (number : ℕ) (book : List (ℕ × I)) (items : List I) → under number (book ++ tagged number items) ≡ under number book ++ items
  under_own number book items = under-append number book (tagged number items) ∙ ap (λ xs. under number book ++ xs) (under-tagged number items)

  pub items-tagged : (number : ℕ) (items : List I) → items_of (tagged number items) ≡ items
  items-tagged number [] = refl
  items-tagged number (item ∷ items) = ap (λ xs. item ∷ xs) (items-tagged number items)

  pub items-append : (book more : List (ℕ × I)) → items_of (book ++ more) ≡ items_of book ++ items_of more
  items-append [] more = refl
  items-append (entry ∷ book) more = ap (λ xs. entry.1 ∷ xs) (items-append book more)

  pub times-append : (number : ℕ) (kept more : List (ℕ × List I)) → times number (kept ++ more) ≡ times number kept + times number more
  times-append number [] more = omega arith
  times-append number (entry ∷ kept) more = let rest = times-append number kept more in omega arith

  pub times_here : (number : ℕ) (list : List I) (kept : List (ℕ × List I)) → times number ((number, list) ∷ kept) ≡ suc (times number kept)
  times_here number list kept = let here : cond {A = ℕ} (number == number) 1 0 ≡ 1 = ap (λ b. cond b 1 0) (eq-eqb number number refl) in omega arith

  pub times_else : (number other : ℕ) (list : List I) (kept : List (ℕ × List I)) → other ≢ number → times number ((other, list) ∷ kept) ≡ times number kept
  times_else number other list kept apart = let here : cond {A = ℕ} (other == number) 1 0 ≡ 0 = ap (λ b. cond b 1 0) (ne_eqb other number apart) in omega arith

  -- the lists of other numbers stay
  pub lists_stay : (number : ℕ) (items : List I) (book : List (ℕ × I)) (kept : List (ℕ × List I)) → times number kept ≡ 0 → All (λ entry. entry.1 ≡ under entry.0 book) kept → All (λ entry. entry.1 ≡ under entry.0 (book ++ tagged number items)) kept
  lists_stay number items book [] none all = All-none (λ entry. entry.1 ≡ under entry.0 (book ++ tagged number items))
  lists_stay number items book (entry ∷ kept) none all = ⊎_elim
      (λ (is : ((entry.0 == number) ≡ true) × (entry.0 ≡ number)). let one : cond {A = ℕ} (entry.0 == number) 1 0 ≡ 1 = ap (λ b. cond b 1 0) is.0 in absurd (omega arith))
      (λ (not : ((entry.0 == number) ≡ false) × (entry.0 ≢ number)). All-both (λ e. e.1 ≡ under e.0 (book ++ tagged number items)) entry kept
      (All-first (λ e. e.1 ≡ under e.0 book) entry kept all ∙ sym (under_added entry.0 number book items (λ e. not.1 (sym e))))
      (lists_stay number items book kept (omega arith) (All-rest (λ e. e.1 ≡ under e.0 book) entry kept all)))
      (eqb_tells entry.0 number)
