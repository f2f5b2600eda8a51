-- Two tests together.
use Rattle.std.proofs.Common.{◌≡◌, Bool, true, false, refl, sym, ◌&&◌, ◌||◌}
use Rattle.std.proofs.lemmas.Bool.{false≢true}

pub left_of : (a b : Bool) → (a && b) ≡ true → a ≡ true
left_of true b e = refl
left_of false b e = absurd (false≢true e)

pub right_of : (a b : Bool) → (a && b) ≡ true → b ≡ true
right_of true b e = e
right_of false b e = absurd (false≢true e)

pub no_right : (b : Bool) → (b && false) ≡ false
no_right true = refl
no_right false = refl

pub or_left : (a b : Bool) → (a || b) ≡ false → a ≡ false
or_left true b e = e
or_left false b e = refl

pub or_right : (a b : Bool) → (a || b) ≡ false → b ≡ false
or_right true b e = absurd (false≢true (sym e))
or_right false b e = e

pub or_true : (b : Bool) → (b || true) ≡ true
or_true true = refl
or_true false = refl
