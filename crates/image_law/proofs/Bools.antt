-- Truth values.
use Rattle.std.proofs.Common.{◌≡◌, Bool, true, false, not, ◌&&◌, ◌||◌, List, ℕ, refl, sym}
use Rattle.std.specs.Str.{bytes_eq}
use Rattle.std.proofs.lemmas.Slice.Eq.{bytes_eq-Decides}

pub first_of : (a b : Bool) → a && b ≡ true → a ≡ true
first_of true b x = refl
first_of false b x = x

pub second_of : (a b : Bool) → a && b ≡ true → b ≡ true
second_of true b x = x
second_of false b x = cc

pub neither_first : (a b : Bool) → a || b ≡ false → a ≡ false
neither_first true b x = x
neither_first false b x = refl

pub neither_second : (a b : Bool) → a || b ≡ false → b ≡ false
neither_second true b x = cc
neither_second false b x = x

pub not_false : (a : Bool) → not a ≡ false → a ≡ true
not_false true x = refl
not_false false x = cc

pub not_true : (a : Bool) → not a ≡ true → a ≡ false
not_true true x = cc
not_true false x = refl

pub not_of_false : (a : Bool) → a ≡ false → not a ≡ true
not_of_false true x = cc
not_of_false false x = refl

pub other_false : (a b : Bool) → a ≡ true → a && b ≡ false → b ≡ false
other_false true b is x = x
other_false false b is x = cc

-- two tests that are false alike are one
pub alike : (a b : Bool) → (a ≡ false → b ≡ false) → (b ≡ false → a ≡ false) → a ≡ b
alike true true x y = refl
alike true false x y = y refl
alike false true x y = sym (x refl)
alike false false x y = refl

pub same_bytes : (xs ys : List ℕ) → bytes_eq xs ys ≡ true → xs ≡ ys
same_bytes xs ys is = (bytes_eq-Decides xs ys).0 is

pub bytes_same : (xs : List ℕ) → bytes_eq xs xs ≡ true
bytes_same xs = (bytes_eq-Decides xs xs).1 refl
