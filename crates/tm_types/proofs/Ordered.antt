-- What an order says, and what tests of equality say.
use Rattle.std.proofs.Common.{◌&&◌, ◌<◌, ◌∙◌, ◌≡◌, Bool, List, None, Option, Some, ap, arith, cond, eqb, false, refl, sym, true, ℕ, ⊎_elim}
use Rattle.std.proofs.lemmas.Bool.{cases_order, eq-eqb, le-ltb, lt-ltb, ne_eqb}
use Rattle.std.proofs.lemmas.Cmp.{eq_by_cmp_equiv, nat_cmp_total}
use Rattle.std.proofs.lemmas.Map.Lookups.{exact_bytes}
use Rattle.std.specs.Cmp.Lexicographic.{pointwise, slice_cmp, texts_ties}
use Rattle.std.specs.Option.{option_cmp, option_eq}
use Rattle.std.specs.Ordering.{is_eq, nat_cmp, ordering_then}
use Rattle.std.specs.declared.cmp.Ordering.TheVariants.{Equal, Greater, Less}
use Rattle.std.specs.declared.cmp.Ordering.{Ordering}

pub less_from : (a b : ℕ) → a < b → nat_cmp a b ≡ Less
less_from a b h = ap (λ t. cond t Less (cond (eqb a b) Equal Greater)) (lt-ltb a b h)

pub then_ties : (o p : Ordering) → is_eq (ordering_then o p) ≡ is_eq o && is_eq p
then_ties Less p = refl
then_ties Equal p = refl
then_ties Greater p = refl

pub equal_from : (a b : ℕ) → a ≡ b → nat_cmp a b ≡ Equal
equal_from a b h =
    ap (λ t. cond t Less (cond (eqb a b) Equal Greater)) (le-ltb a b (omega arith))
    ∙ ap (λ t. cond t Equal Greater) (eq-eqb a b h)

pub greater_from : (a b : ℕ) → b < a → nat_cmp a b ≡ Greater
greater_from a b h =
    ap (λ t. cond t Less (cond (eqb a b) Equal Greater)) (le-ltb a b (omega arith))
    ∙ ap (λ t. cond t Equal Greater) (ne_eqb a b (λ e. absurd (omega arith)))

pub nat_ties : (a b : ℕ) → is_eq (nat_cmp a b) ≡ eqb a b
nat_ties a b =
    ⊎_elim (λ e. ap is_eq (equal_from a b e) ∙ sym (eq-eqb a b e))
    (⊎_elim (λ h. ap is_eq (less_from a b h) ∙ sym (ne_eqb a b (λ e. absurd (omega arith))))
    (λ h. ap is_eq (greater_from a b h) ∙ sym (ne_eqb a b (λ e. absurd (omega arith)))))
    (cases_order a b)

pub root_ties : (a b : Option (List ℕ)) → is_eq (option_cmp (slice_cmp nat_cmp) a b) ≡ option_eq (pointwise eqb) a b
root_ties None None = refl
root_ties None (Some b) = refl
root_ties (Some a) None = refl
root_ties (Some a) (Some b) = sym (texts_ties a b)

pub eqb_back : (a b : ℕ) → eqb a b ≡ eqb b a
eqb_back a b = sym (nat_ties a b) ∙ ((eq_by_cmp_equiv nat_cmp_total).symm a b ∙ nat_ties b a)

pub is_equal : (o : Ordering) → is_eq o ≡ true → o ≡ Equal
is_equal Less h = absurd (cc)
is_equal Equal h = refl
is_equal Greater h = absurd (cc)

pub both_true : (a b : Bool) → a && b ≡ true → (a ≡ true) × (b ≡ true)
both_true true b h = (refl, h)
both_true false b h = absurd (cc)

pub root_exact : (a b : Option (List ℕ)) → option_cmp (slice_cmp nat_cmp) a b ≡ Equal → a ≡ b
root_exact None None h = refl
root_exact None (Some b) h = absurd (cc)
root_exact (Some a) None h = absurd (cc)
root_exact (Some a) (Some b) h = ap (λ (x : List ℕ). Some x) (exact_bytes a b h)
