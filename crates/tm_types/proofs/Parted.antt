-- Parts of lists.
use Rattle.std.proofs.Common.{◌+◌, ◌-◌, ◌∷◌, ◌≡◌, List, Some, [], add-one, ap, arith, drop, length, suc, take, zero, ℕ}
use Rattle.std.proofs.lemmas.Option.{none-some, same_Some}
use Rattle.std.specs.List.{suffix_len}
use Rattle.std.specs.Prelude.{◌==◌, slice_get}

pub drop_more : {X : Type 0} (xs : List X) (i : ℕ) (x : X) → slice_get xs i ≡ Some x → drop i xs ≡ x ∷ drop (i + 1) xs
drop_more {X} xs i x is = rw add-one (go xs i x is) where
  go : (ys : List X) (k : ℕ) (y : X) → slice_get ys k ≡ Some y → drop k ys ≡ y ∷ drop (suc k) ys
  go [] k y e = absurd (none-some y e)
  go (z ∷ ys) zero y e = ap (λ (w : X). w ∷ ys) (same_Some z y e)
  go (z ∷ ys) (suc k) y e = go ys k y e

pub trimmed_at : (text : List ℕ) (stop : ℕ) → stop + suffix_len (λ byte. byte == 32) text ≡ length text
    → take stop text ≡ take (length text - suffix_len (λ byte. byte == 32) text) text
trimmed_at text stop e =
    let at : stop ≡ length text - suffix_len (λ byte. byte == 32) text = omega (arith, e) in
    ap (λ n. take n text) at
