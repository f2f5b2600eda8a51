-- The first place of a list at which a test holds.
use Rattle.std.proofs.Common.{◌+◌, ◌∙◌, ◌∷◌, ◌≡◌, Bool, List, None, Some, ap, arith, cond, false, length, nat_lt, suc, true, ℕ}
use Rattle.std.proofs.lemmas.Bool.Decides.{nat_tests}
use Rattle.std.specs.List.{position_or_len}
use Rattle.std.specs.Option.{option_map}
use Rattle.std.specs.Prelude.{position}

pub less_more : (k n : ℕ) → nat_lt (1 + k) (suc n) ≡ nat_lt k n
less_more k n = grind (arith, nat_tests)

pub zero_less : (n : ℕ) → nat_lt 0 (suc n) ≡ true
zero_less n = grind (arith, nat_tests)

pub found : (a b : Bool) (k : ℕ) → a ≡ b → cond a (Some (1 + k)) None ≡ option_map (λ n. suc n) (cond b (Some k) None)
found a true k is = ap (λ (t : Bool). cond t (Some (1 + k)) None) is ∙ ap (λ (n : ℕ). Some n) (omega arith)
found a false k is = ap (λ (t : Bool). cond t (Some (1 + k)) None) is

pub position_more : {X : Type 0} (p : X → Bool) (x : X) (xs : List X) (b : Bool) → p x ≡ b → position p (x ∷ xs) ≡ cond b (Some 0) (option_map (λ n. suc n) (position p xs))
position_more {X} p x xs true h = rw (h) (ap (λ (t : Bool). cond t (Some 0) None) (zero_less (length xs)))
position_more {X} p x xs false h =
    rw (h) (found (nat_lt (1 + position_or_len p xs) (suc (length xs))) (nat_lt (position_or_len p xs) (length xs)) (position_or_len p xs) (less_more (position_or_len p xs) (length xs)))
