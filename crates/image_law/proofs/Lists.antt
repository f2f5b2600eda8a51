-- Tests of all elements and of one, over lists that change.
use Rattle.std.proofs.Common.{◌≡◌, ℕ, zero, suc, Bool, true, false, ◌||◌, List, [], ◌∷◌, ◌++◌, refl, sym, ◌∙◌, ap, Option, None, Some}
use Rattle.std.specs.Prelude.{if◌then◌else◌, filter, find, slice_get, slice_set}
use Rattle.std.specs.List.{list_all, list_any}
use Rattle.std.specs.Option.{option_map_or}
use Rattle.model_system.specs.Lists.{change_at}
use Rattle.image_law.proofs.Bools.{first_of, second_of, neither_first, neither_second}
use Rattle.tm_types.proofs.Truths.{both}

pub all_more : {X : Type 0} (p : X → Bool) (xs : List X) (x : X) → list_all p xs ≡ true → p x ≡ true → list_all p (xs ++ x ∷ []) ≡ true
all_more p [] x all is = both (p x) true is refl
all_more p (y ∷ xs) x all is =
    both (p y) (list_all p (xs ++ x ∷ [])) (first_of (p y) (list_all p xs) all) (all_more p xs x (second_of (p y) (list_all p xs) all) is)

pub all_imply : {X : Type 0} (p q : X → Bool) (xs : List X) → ((x : X) → p x ≡ true → q x ≡ true) → list_all p xs ≡ true → list_all q xs ≡ true
all_imply p q [] each all = refl
all_imply p q (x ∷ xs) each all =
    both (q x) (list_all q xs) (each x (first_of (p x) (list_all p xs) all)) (all_imply p q xs each (second_of (p x) (list_all p xs) all))

pub all_filter : {X : Type 0} (p keeps : X → Bool) (xs : List X) → list_all p xs ≡ true → list_all p (filter keeps xs) ≡ true
all_filter p keeps [] all = refl
all_filter p keeps (x ∷ xs) all = by_keeps (keeps x) (all_filter p keeps xs (second_of (p x) (list_all p xs) all)) where
  by_keeps : (b : Bool) → list_all p (filter keeps xs) ≡ true → list_all p (if b then x ∷ filter keeps xs else filter keeps xs) ≡ true
  by_keeps true rest = both (p x) (list_all p (filter keeps xs)) (first_of (p x) (list_all p xs) all) rest
  by_keeps false rest = rest

pub none_filter : {X : Type 0} (p keeps : X → Bool) (xs : List X) → list_any p xs ≡ false → list_any p (filter keeps xs) ≡ false
none_filter p keeps [] none = refl
none_filter p keeps (x ∷ xs) none = by_keeps (keeps x) (none_filter p keeps xs (neither_second (p x) (list_any p xs) none)) where
  by_keeps : (b : Bool) → list_any p (filter keeps xs) ≡ false → list_any p (if b then x ∷ filter keeps xs else filter keeps xs) ≡ false
  by_keeps true rest = rw (neither_first (p x) (list_any p xs) none) rest
  by_keeps false rest = rest

-- what is found passes each test that all pass
pub found_passes : {X : Type 0} (p test : X → Bool) (xs : List X) (x : X) → list_all p xs ≡ true → find test xs ≡ Some x → p x ≡ true
found_passes p test [] x all found = cc
found_passes p test (y ∷ xs) x all found =
    by_test (test y) (found_passes p test xs x (second_of (p y) (list_all p xs) all)) found where
      by_test : (b : Bool) → (find test xs ≡ Some x → p x ≡ true) → (if b then Some y else find test xs) ≡ Some x → p x ≡ true
      by_test true later is = let e : y ≡ x = cc in ap p (sym e) ∙ first_of (p y) (list_all p xs) all
      by_test false later is = later is

-- what is found is one that passes
pub found_is_one : {X : Type 0} (p test : X → Bool) (xs : List X) (x : X) → find test xs ≡ Some x → p x ≡ true → list_any p xs ≡ true
found_is_one p test [] x found is = cc
found_is_one p test (y ∷ xs) x found is = by_test (test y) found (λ later. found_is_one p test xs x later is) where
  by_test : (b : Bool) → (if b then Some y else find test xs) ≡ Some x → (find test xs ≡ Some x → list_any p xs ≡ true) → p y || list_any p xs ≡ true
  by_test true found later = let e : y ≡ x = cc in rw (ap p e ∙ is) refl
  by_test false found later = rw (later found) (or_true (p y)) where
    or_true : (b : Bool) → b || true ≡ true
    or_true true = refl
    or_true false = refl

-- the element at a place passes a test that all pass
pub passes_at : {X : Type 0} (p : X → Bool) (xs : List X) (place : ℕ) (x : X) → list_all p xs ≡ true → slice_get xs place ≡ Some x → p x ≡ true
passes_at p [] place x all e = cc
passes_at p (y ∷ xs) zero x all e = let same : y ≡ x = cc in ap p (sym same) ∙ first_of (p y) (list_all p xs) all
passes_at p (y ∷ xs) (suc place) x all e = passes_at p xs place x (second_of (p y) (list_all p xs) all) e

pub all_set : {X : Type 0} (p : X → Bool) (xs : List X) (place : ℕ) (x : X) → list_all p xs ≡ true → p x ≡ true → list_all p (slice_set xs place x) ≡ true
all_set p [] place x all is = refl
all_set p (y ∷ xs) zero x all is = both (p x) (list_all p xs) is (second_of (p y) (list_all p xs) all)
all_set p (y ∷ xs) (suc place) x all is =
    both (p y) (list_all p (slice_set xs place x)) (first_of (p y) (list_all p xs) all) (all_set p xs place x (second_of (p y) (list_all p xs) all) is)

pub all_changed : {X : Type 0} (p : X → Bool) (xs : List X) (place : ℕ) (change : X → X) → list_all p xs ≡ true → ((x : X) → p x ≡ true → p (change x) ≡ true)
    → list_all p (change_at xs (Some place) change) ≡ true
all_changed {X} p xs place change all each = by (slice_get xs place) refl where
  by : (found : Option X) → slice_get xs place ≡ found → list_all p (option_map_or (λ x. slice_set xs place (change x)) found xs) ≡ true
  by None e = all
  by (Some x) e = all_set p xs place (change x) all (each x (passes_at p xs place x all e))
