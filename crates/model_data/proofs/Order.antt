-- Hierarchic order is a total order; what lies between a path and its children begins with it.
use Rattle.std.proofs.Common.{◌≡◌, ◌≢◌, ℕ, ◌++◌, ◌∷◌, [], List, refl, sym, ◌∙◌, ap, subst}
use Rattle.std.specs.declared.cmp.Ordering.{Ordering}
use Rattle.std.specs.declared.cmp.Ordering.TheVariants.{Less, Equal, Greater}
use Rattle.std.specs.Ordering.{ordering_then, ordering_reverse}
use Rattle.std.specs.Cmp.{IsTotalOrder}
use Rattle.std.proofs.lemmas.Cmp.{tied_itself}
use Rattle.model_data.specs.Path.{pair_cmp, path_cmp}
pub use Rattle.model_data.specs.PathOrder.{key_total, pair_total, path_total, exact_pair, exact_path}

-- an order's answers are three
pub less_greater : {P : Type 0} → Less ≡ Greater → P
less_greater e = absurd (cc)

pub less_equal : {P : Type 0} → Less ≡ Equal → P
less_equal e = absurd (cc)

pub equal_greater : {P : Type 0} → Equal ≡ Greater → P
equal_greater e = absurd (cc)

-- what is before isn't after
pub turned_less : {A : Type 0} {R : A → A → Ordering} → IsTotalOrder R → (x y : A) → R x y ≡ Less → R y x ≡ Greater
turned_less o x y e = o.antisymm y x ∙ ap ordering_reverse e

pub turned_greater : {A : Type 0} {R : A → A → Ordering} → IsTotalOrder R → (x y : A) → R x y ≡ Greater → R y x ≡ Less
turned_greater o x y e = o.antisymm y x ∙ ap ordering_reverse e

-- nothing is before itself
pub not_less_itself : {A P : Type 0} {R : A → A → Ordering} → IsTotalOrder R → (x : A) → R x x ≡ Less → P
not_less_itself o x e = less_equal (sym e ∙ tied_itself o x)

-- a path is before what goes on from it
pub prefix_less : (a : List (ℕ × List ℕ)) (p : ℕ × List ℕ) (more : List (ℕ × List ℕ)) → path_cmp a (a ++ p ∷ more) ≡ Less
prefix_less [] p more = refl
prefix_less (x ∷ a) p more =
    ap (λ o. ordering_then o (path_cmp a (a ++ p ∷ more))) (tied_itself pair_total x) ∙ prefix_less a p more

-- what isn't before a path, and is before a child of it, begins with it
pub between : (a l : List (ℕ × List ℕ)) (p : ℕ × List ℕ) → path_cmp a l ≢ Greater → path_cmp l (a ++ p ∷ []) ≡ Less
    → (rest : List (ℕ × List ℕ)) × (l ≡ a ++ rest)
between [] l p from upto = (l, refl)
between (x ∷ a) [] p from upto = absurd (from refl)
between (x ∷ a) (y ∷ l) p from upto = by (between a l p) (pair_cmp x y) refl
  where
    by : (path_cmp a l ≢ Greater → path_cmp l (a ++ p ∷ []) ≡ Less → (rest : List (ℕ × List ℕ)) × (l ≡ a ++ rest))
        → (o : Ordering) → pair_cmp x y ≡ o → (rest : List (ℕ × List ℕ)) × (y ∷ l ≡ x ∷ (a ++ rest))
    by under Less e =
        less_greater (sym upto ∙ ap (λ o. ordering_then o (path_cmp l (a ++ p ∷ []))) (turned_less pair_total x y e))
    by under Greater e = absurd (from (ap (λ o. ordering_then o (path_cmp a l)) e))
    by under Equal e =
        let same : x ≡ y = exact_pair x y e in
        let found =
        under (λ g. from (ap (λ o. ordering_then o (path_cmp a l)) e ∙ g))
        (sym (ap (λ o. ordering_then o (path_cmp l (a ++ p ∷ []))) (pair_total.antisymm y x ∙ ap ordering_reverse e)) ∙ upto) in
        (found.0, λ i. sym same i ∷ found.1 i)

-- nothing that goes on from a path is before it
pub not_before_prefix : {P : Type 0} (a more : List (ℕ × List ℕ)) → path_cmp (a ++ more) a ≡ Less → P
not_before_prefix a [] e = not_less_itself path_total a (subst (λ b. path_cmp b a ≡ Less) (append_nil a) e)
  where
    append_nil : (b : List (ℕ × List ℕ)) → b ++ [] ≡ b
    append_nil [] = refl
    append_nil (x ∷ b) = λ i. x ∷ append_nil b i
not_before_prefix a (p ∷ more) e = less_greater (sym e ∙ turned_less path_total a (a ++ p ∷ more) (prefix_less a p more))
