-- One element more.
use Rattle.std.proofs.Common.{◌≡◌, ℕ, zero, suc, ◌+◌, List, [], ◌∷◌, ◌++◌, length, refl, ◌∙◌, ap, subst, sym, arith, Some}
use Rattle.std.specs.Prelude.{slice_get}
use Rattle.image_records.specs.declared.slots.NamedSlot.{NamedSlot}
use Rattle.image_reading.specs.NamedBytes.{of_database, AreNamedBytes}

-- an element of a list with one more is one before, or the last
at_last : {X : Type 0} (P : ℕ → X → Type 0) (xs : List X) (x : X) → ((i : ℕ) (y : X) → slice_get xs i ≡ Some y → P i y) → P (length xs) x → (i : ℕ) (y : X) → slice_get (xs ++ x ∷ []) i ≡ Some y → P i y
at_last P [] x each last zero y found = let same : x ≡ y = cc in subst (P 0) same last
at_last P [] x each last (suc i) y found = absurd cc
at_last P (z ∷ xs) x each last zero y found = each 0 y found
at_last P (z ∷ xs) x each last (suc i) y found = at_last (λ k v. P (suc k) v) xs x (λ k v e. each (suc k) v e) (subst (λ n. P n x) (omega arith) last) i y found

pub named_more : (count : ℕ) (named : List NamedSlot) (given : List (List (ℕ × List ℕ))) (slots : List (ℕ × List ℕ)) → AreNamedBytes count named given → slots ≡ of_database (count + 1) named → AreNamedBytes (count + 1) named (given ++ slots ∷ [])
named_more count named given slots are is = record {
  count_is = omega (arith, are.count_is, more given);
  each = at_last (λ place (l : List (ℕ × List ℕ)). l ≡ of_database (place + 1) named) given slots are.each (is ∙ ap (λ n. of_database (n + 1) named) (sym are.count_is));
} where
  more : (xs : List (List (ℕ × List ℕ))) → length (xs ++ slots ∷ []) ≡ length xs + 1
  more [] = refl
  more (x ∷ xs) = omega (arith, more xs)
