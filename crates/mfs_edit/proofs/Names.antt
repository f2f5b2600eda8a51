-- A list is searched backwards.
use Rattle.std.proofs.Common.{◌≡◌, Bool, true, false, cond, List, [], ◌∷◌, ◌++◌, reverse, refl, ap, ◌∙◌}
use Rattle.std.specs.Prelude.{Option, Some, find, is_some, ◌||◌}
use Rattle.std.specs.List.{list_any}
use Rattle.std.proofs.lemmas.List.{reverse-append}

module _ {A : Type 0} (p : A → Bool) where
  some_by : (b : Bool) (x : A) (found : Option A) → is_some (cond b (Some x) found) ≡ (b || is_some found)
  some_by true x found = refl
  some_by false x found = refl

  some_any : (xs : List A) → is_some (find p xs) ≡ list_any p xs
  some_any [] = refl
  some_any (x ∷ xs) = some_by (p x) x (find p xs) ∙ ap (λ b. p x || b) (some_any xs)

  or_assoc : (a b c : Bool) → (a || (b || c)) ≡ ((a || b) || c)
  or_assoc true b c = refl
  or_assoc false b c = refl

  or_false : (b : Bool) → (b || false) ≡ b
  or_false true = refl
  or_false false = refl

  or_swap : (a b : Bool) → (a || b) ≡ (b || a)
  or_swap true true = refl
  or_swap true false = refl
  or_swap false true = refl
  or_swap false false = refl

  any_append : (xs ys : List A) → list_any p (xs ++ ys) ≡ (list_any p xs || list_any p ys)
  any_append [] ys = refl
  any_append (x ∷ xs) ys = ap (λ b. p x || b) (any_append xs ys) ∙ or_assoc (p x) (list_any p xs) (list_any p ys)

  any_reverse : (xs : List A) → list_any p (reverse xs) ≡ list_any p xs
  any_reverse [] = refl
  any_reverse (x ∷ xs) =
      ap (list_any p) (reverse-append (x ∷ []) xs) ∙ any_append (reverse xs) (x ∷ [])
      ∙ ap (λ b. b || (p x || false)) (any_reverse xs) ∙ ap (λ b. list_any p xs || b) (or_false (p x)) ∙ or_swap (list_any p xs) (p x)

  pub found_backwards : (xs : List A) → is_some (find p (reverse xs)) ≡ list_any p xs
  found_backwards xs = some_any (reverse xs) ∙ any_reverse xs
