-- Truth values, and options that come of them.
use Rattle.std.proofs.Common.{◌&&◌, ◌∷◌, ◌≡◌, Bool, List, [], false, not, refl, suc, take, true, zero, ℕ}
use Rattle.std.specs.List.{list_all}
use Rattle.std.specs.Option.{option_or}
use Rattle.std.specs.Prelude.{None, Option, Some, cond, is_some}

pub both : (a b : Bool) → a ≡ true → b ≡ true → a && b ≡ true
both true true x y = refl
both true false x y = y
both false b x y = x

pub some_if : (b : Bool) (n i : ℕ) → cond b (Some n) None ≡ Some i → b ≡ true
some_if true n i e = refl
some_if false n i e = cc

pub not_so : (b : Bool) → not b ≡ true → b ≡ false
not_so true e = cc
not_so false e = refl

pub apart : true ≡ false → ⊥
apart e = cc

pub both_true : (a b : Bool) → a ≡ true → b ≡ true → (a && b) ≡ true
both_true true b e f = f
both_true false b e f = cc

pub parts_true : (a b : Bool) → (a && b) ≡ true → (a ≡ true) × (b ≡ true)
parts_true true b e = (refl, e)
parts_true false b e = cc

pub neither : (a b : Option ℕ) → option_or a b ≡ None → (a ≡ None) × (b ≡ None)
neither None b h = (refl, h)
neither (Some n) b h = cc

pub take_all_pass : (p : ℕ → Bool) (n : ℕ) (xs : List ℕ) → list_all p xs ≡ true → list_all p (take n xs) ≡ true
take_all_pass p zero xs e = refl
take_all_pass p (suc n) [] e = refl
take_all_pass p (suc n) (x ∷ xs) e = let parts = parts_true (p x) (list_all p xs) e in both_true (p x) (list_all p (take n xs)) parts.0 (take_all_pass p n xs parts.1)

pub none_is : (found : Option ℕ) → is_some found ≡ false → found ≡ None
none_is (Some place) e = cc
none_is None e = refl
