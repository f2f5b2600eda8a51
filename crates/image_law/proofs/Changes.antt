-- Lists of which one element changes, tested and summed.
use Rattle.std.proofs.Common.{◌≡◌, ℕ, zero, suc, ◌+◌, ◌≤◌, Bool, true, List, [], ◌∷◌, ◌++◌, Option, Some, None, refl, ap, arith}
use Rattle.std.specs.Prelude.{slice_get, slice_set, sum_by, map}
use Rattle.std.specs.List.{list_all}
use Rattle.std.specs.Option.{option_map_or}
use Rattle.std.proofs.lemmas.List.Sums.{sum_by-cons}
use Rattle.model_system.specs.Lists.{change_at}
pub use Rattle.image_law.proofs.Lists.{passes_at, all_set, all_changed}
use Rattle.image_law.proofs.Bools.{first_of, second_of}
use Rattle.tm_types.proofs.Truths.{both}

pub sum_set : {X : Type 0} (f : X → ℕ) (xs : List X) (place : ℕ) (x y : X) → slice_get xs place ≡ Some x → sum_by f (slice_set xs place y) + f x ≡ sum_by f xs + f y
sum_set f [] place x y e = cc
sum_set f (z ∷ xs) zero x y e =
    let same : z ≡ x = cc in
    omega (arith, sum_by-cons f y xs, sum_by-cons f z xs, ap f same)
sum_set f (z ∷ xs) (suc place) x y e = omega (arith, sum_by-cons f z (slice_set xs place y), sum_by-cons f z xs, sum_set f xs place x y e)

-- a change that leaves what is summed
pub sum_same : {X : Type 0} (f : X → ℕ) (xs : List X) (place : ℕ) (change : X → X) → ((x : X) → f (change x) ≡ f x) → sum_by f (change_at xs (Some place) change) ≡ sum_by f xs
sum_same {X} f xs place change same = by (slice_get xs place) refl where
  by : (found : Option X) → slice_get xs place ≡ found → sum_by f (option_map_or (λ x. slice_set xs place (change x)) found xs) ≡ sum_by f xs
  by None e = refl
  by (Some x) e = omega (arith, sum_set f xs place x (change x) e, same x)

-- one that adds one
pub sum_more : {X : Type 0} (f : X → ℕ) (xs : List X) (place : ℕ) (change : X → X) → ((x : X) → f (change x) ≡ f x + 1) → sum_by f (change_at xs (Some place) change) ≤ sum_by f xs + 1
sum_more {X} f xs place change more = by (slice_get xs place) refl where
  by : (found : Option X) → slice_get xs place ≡ found → sum_by f (option_map_or (λ x. slice_set xs place (change x)) found xs) ≤ sum_by f xs + 1
  by None e = omega arith
  by (Some x) e = omega (arith, sum_set f xs place x (change x) e, more x)

pub sum_mapped_zero : {X : Type 0} (f : X → ℕ) (change : X → X) (xs : List X) → ((x : X) → f (change x) ≡ 0) → sum_by f (map change xs) ≡ 0
sum_mapped_zero f change [] none = refl
sum_mapped_zero f change (x ∷ xs) none = omega (arith, sum_by-cons f (change x) (map change xs), none x, sum_mapped_zero f change xs none)

pub all_mapped : {X : Type 0} (p : X → Bool) (change : X → X) (xs : List X) → list_all p xs ≡ true → ((x : X) → p x ≡ true → p (change x) ≡ true) → list_all p (map change xs) ≡ true
all_mapped p change [] all each = refl
all_mapped p change (x ∷ xs) all each =
    both (p (change x)) (list_all p (map change xs)) (each x (first_of (p x) (list_all p xs) all)) (all_mapped p change xs (second_of (p x) (list_all p xs) all) each)

pub all_both : {X : Type 0} (p : X → Bool) (xs ys : List X) → list_all p xs ≡ true → list_all p ys ≡ true → list_all p (xs ++ ys) ≡ true
all_both p [] ys all more = more
all_both p (x ∷ xs) ys all more = both (p x) (list_all p (xs ++ ys)) (first_of (p x) (list_all p xs) all) (all_both p xs ys (second_of (p x) (list_all p xs) all) more)
