-- Where no counter is spent, each stands below its limit.
use Rattle.std.proofs.Common.{◌≡◌, ℕ, ◌<◌, Bool, true, false, List, [], ◌∷◌, refl, Some, None, nat_le}
use Rattle.std.specs.Prelude.{find, if◌then◌else◌}
use Rattle.std.specs.Option.{option_map}
use Rattle.std.specs.List.{AllByRecursion}
use Rattle.std.proofs.lemmas.Bool.{leb-false}
use Rattle.model_machine.specs.declared.counts.Counter.{Counter}
use Rattle.openings.specs.OpenedImage.{first_spent}

by_test : (x : Counter × ℕ) (rest : List (Counter × ℕ)) (b : Bool) → option_map (λ (c : Counter × ℕ). c.0) (if b then Some x else find (λ (c : Counter × ℕ). nat_le 1000000000000000000 c.1) rest) ≡ None → (b ≡ false) × (first_spent rest ≡ None)
by_test x rest true e = absurd cc
by_test x rest false e = (refl, e)

pub all_below : (counts : List (Counter × ℕ)) → first_spent counts ≡ None → AllByRecursion (λ (c : Counter × ℕ). c.1 < 1000000000000000000) counts
all_below [] e = tt
all_below (x ∷ rest) e =
    let both = by_test x rest (nat_le 1000000000000000000 x.1) e in
    (leb-false 1000000000000000000 x.1 both.0, all_below rest both.1)
