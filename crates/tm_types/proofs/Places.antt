-- Where the first element that passes a test stands.
use Rattle.std.proofs.Common.{◌≡◌, ℕ, Bool, true, false, not, List, length, refl, sym, arith}
use Rattle.std.specs.List.{position, position_or_len}
use Rattle.std.specs.Prelude.{Some, None, cond, nat_lt}
use Rattle.std.proofs.lemmas.Bool.Decides.{nat_tests}
use Rattle.std.proofs.lemmas.List.Sums.{prefix_len-le-length}

some_of : (b : Bool) (n i : ℕ) → cond b (Some n) None ≡ Some i → n ≡ i
some_of true n i e = cc
some_of false n i e = cc

none_if : (b : Bool) (n : ℕ) → cond b (Some n) None ≡ None → b ≡ false
none_if true n e = cc
none_if false n e = refl

pub found_place : (p : ℕ → Bool) (xs : List ℕ) (i : ℕ) → position p xs ≡ Some i → i ≡ position_or_len p xs
found_place p xs i e = sym (some_of _ _ i e)

pub no_place : (p : ℕ → Bool) (xs : List ℕ) → position p xs ≡ None → length xs ≡ position_or_len p xs
no_place p xs e =
    let past : nat_lt (position_or_len p xs) (length xs) ≡ false = none_if _ _ e in
    let most = prefix_len-le-length (λ x. not (p x)) xs in
    grind (arith, nat_tests)

pub ruleset first_places = (found_place, no_place)
