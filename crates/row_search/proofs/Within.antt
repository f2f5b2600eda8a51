-- Paths that go on from a path.
use Rattle.std.proofs.Common.{◌≡◌, ℕ, ◌≤◌, ◌++◌, ◌∷◌, [], List, length, refl, sym, ◌∙◌, ap, Bool, true, false, ◌&&◌, arith}
use Rattle.std.specs.Prelude.{nat_eq}
use Rattle.std.specs.Ordering.{is_eq}
use Rattle.std.specs.Cmp.Lexicographic.{pointwise, same_text, texts_ties}
use Rattle.std.proofs.lemmas.Bool.{false≢true, eqb-true, eq-eqb}
use Rattle.std.proofs.lemmas.Cmp.{tied_itself}
use Rattle.model_data.specs.Path.{root_of}
use Rattle.model_data.proofs.Order.{key_total}
use Rattle.model_data.specs.Search.{pair_eq, is_within}

pub both_true : (a b : Bool) → (a && b) ≡ true → (a ≡ true) × (b ≡ true)
both_true true b e = (refl, e)
both_true false b e = absurd (false≢true e)

-- pairs that are equal by the test are one
pub pair_same : (p q : ℕ × List ℕ) → pair_eq p q ≡ true → p ≡ q
pair_same p q e =
    let parts = both_true (nat_eq p.0 q.0) (pointwise nat_eq p.1 q.1) e in
    let number : p.0 ≡ q.0 = eqb-true p.0 q.0 parts.0 in
    let key : p.1 ≡ q.1 = same_text p.1 q.1 (sym parts.1) in
    λ i. (number i, key i)

pub pair_itself : (p : ℕ × List ℕ) → pair_eq p p ≡ true
pair_itself p =
    ap (λ b. b && pointwise nat_eq p.1 p.1) (eq-eqb p.0 p.0 refl) ∙ (texts_ties p.1 p.1 ∙ ap is_eq (tied_itself key_total p.1))

-- a path within another goes on from it
pub within_parts : (above path : List (ℕ × List ℕ)) → is_within above path ≡ true → (rest : List (ℕ × List ℕ)) × (path ≡ above ++ rest)
within_parts [] path e = (path, refl)
within_parts (p ∷ above) [] e = absurd (false≢true e)
within_parts (p ∷ above) (q ∷ path) e =
    let parts = both_true (pair_eq p q) (is_within above path) e in
    let rest = within_parts above path parts.1 in
    (rest.0, λ i. sym (pair_same p q parts.0) i ∷ rest.1 i)

pub within_append : (above rest : List (ℕ × List ℕ)) → is_within above (above ++ rest) ≡ true
within_append [] rest = refl
within_append (p ∷ above) rest = ap (λ b. b && is_within above (above ++ rest)) (pair_itself p) ∙ within_append above rest

-- and has its root
pub within_root : (above path : List (ℕ × List ℕ)) → 1 ≤ length above → is_within above path ≡ true → root_of above ≡ root_of path
within_root [] path some e = absurd (omega arith)
within_root (p ∷ above) path some e = let parts = within_parts (p ∷ above) path e in ap root_of (sym parts.1)
