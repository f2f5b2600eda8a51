-- Ids as keys.
use Rattle.std.proofs.Common.{◌≡◌, ℕ, ◌∷◌, List, sym, ◌∙◌, ap, arith, true, eqb, ⊎_elim}
use Rattle.std.specs.List.{AllByRecursion}
use Rattle.std.specs.List.Sorted.{IsStrictlySortedBy}
use Rattle.std.specs.Ordering.{nat_cmp, is_eq}
use Rattle.std.specs.declared.cmp.Ordering.TheVariants.{Less}
use Rattle.std.specs.BTreeMap.{is_at}
use Rattle.std.specs.Map.{keys_of}
use Rattle.std.proofs.lemmas.Bool.{eq-eqb, ne_eqb, eqb-true, cases_order}
use Rattle.tm_types.proofs.Ordered.{less_from, equal_from, greater_from}

-- the test of a look-up is equality
pub at_key : (id k : ℕ) → is_at (nat_cmp id) k ≡ eqb k id
at_key id k =
    ⊎_elim (λ e. ap is_eq (equal_from id k e) ∙ sym (eq-eqb k id (sym e)))
    (⊎_elim (λ h. ap is_eq (less_from id k h) ∙ sym (ne_eqb k id (λ e. absurd (omega arith))))
    (λ h. ap is_eq (greater_from id k h) ∙ sym (ne_eqb k id (λ e. absurd (omega arith)))))
    (cases_order id k)

pub key_is : (id k : ℕ) → is_at (nat_cmp id) k ≡ true → k ≡ id
key_is id k h = eqb-true k id (sym (at_key id k) ∙ h)

-- the keys of the other entries are above the first one
pub first_below : {X : Type 0} (e : ℕ × X) (es : List (ℕ × X)) → IsStrictlySortedBy nat_cmp (keys_of (e ∷ es)) → AllByRecursion (λ k. nat_cmp e.0 k ≡ Less) (keys_of es)
unfolding IsStrictlySortedBy
first_below e es h = h.0

pub others_ascend : {X : Type 0} (e : ℕ × X) (es : List (ℕ × X)) → IsStrictlySortedBy nat_cmp (keys_of (e ∷ es)) → IsStrictlySortedBy nat_cmp (keys_of es)
unfolding IsStrictlySortedBy
others_ascend e es h = h.1
