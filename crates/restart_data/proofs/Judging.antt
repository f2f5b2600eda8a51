-- Rules that are kept.
use Rattle.std.proofs.Common.{◌≡◌, ℕ, Bool, true, false, not, ◌||◌, List, refl, ap, None, Ok}
use Rattle.std.specs.Prelude.{Option}
use Rattle.std.specs.Str.{bytes_eq}
use Rattle.std.proofs.lemmas.Slice.Eq.{bytes_eq-Decides}
use Rattle.restart_data.specs.Rules.{unless_rule_broken}

pub not_broken : (b : Bool) → b ≡ true → not b ≡ false
not_broken b is = ap not is

pub neither : (a b : Bool) → a ≡ false → b ≡ false → a || b ≡ false
neither false false x y = refl
neither false true x y = y
neither true b x y = x

pub same_bytes : (xs ys : List ℕ) → xs ≡ ys → not (bytes_eq xs ys) ≡ false
same_bytes xs ys e = not_broken (bytes_eq xs ys) ((bytes_eq-Decides xs ys).1 e)

pub unbroken : {A : Type 0} (first : Option ℕ) (value : A) → first ≡ None → unless_rule_broken first value ≡ Ok value
unbroken {A} first value e = ap (λ (o : Option ℕ). unless_rule_broken {A = A} o value) e
