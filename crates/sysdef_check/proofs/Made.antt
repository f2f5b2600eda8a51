-- Lists that macros make, item by item.
use Rattle.std.proofs.Common.{ℕ, zero, suc, ◌≡◌, ◌≤◌, ◌||◌, Bool, true, false, List, [], ◌∷◌, length, slice_get, Option, Some, None, IfSome, All, refl, arith}
use Rattle.std.specs.Option.{option_map}
use Rattle.std.proofs.lemmas.List.Elements.{All-cons}
use Rattle.sysdef_check.specs.Systems.{value_and_then}

-- no value is in an empty list
pub none_holds : {A : Type 0} (P : A → Type 0) → All P []
none_holds P k d below = absurd (omega (arith, below))

-- what holds of a value, if there is one, and of the others, holds of all
pub made_holds : {A : Type 0} (P : A → Type 0) (value : Option A) (values : List A) → IfSome value P → All P values → All P (value_and_then value values)
made_holds P (Some value) values h rest = All-cons P value values h rest
made_holds P None values h rest = rest

-- of two tests none passes
pub either_false : (a b : Bool) → (a || b) ≡ false → (a ≡ false) × (b ≡ false)
either_false true b h = cc
either_false false b h = (refl, h)

-- where nothing stands at a place there are no more than so many
pub short_list : {A B : Type 0} (f : A → B) (xs : List A) (n : ℕ) → option_map f (slice_get xs n) ≡ None → length xs ≤ n
short_list f [] n h = omega arith
short_list f (x ∷ xs) zero h = cc
short_list f (x ∷ xs) (suc n) h = omega (arith, short_list f xs n h)
