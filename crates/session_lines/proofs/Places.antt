-- Where a byte is found that is not printable, not all are.
use Rattle.std.proofs.Common.{◌≡◌, ℕ, ◌<◌, Bool, true, false, not, List, length, arith}
use Rattle.std.specs.List.{list_all, position, position_or_len}
use Rattle.std.specs.Prelude.{Some, nat_lt}
use Rattle.std.proofs.lemmas.Bool.Decides.{nat_tests}
use Rattle.std.proofs.lemmas.List.Sums.{passes_at_first}
use Rattle.std.proofs.lemmas.List.Folds.{list_all_at}
use Rattle.tm_types.proofs.Truths.{some_if, not_so}

-- where a byte doesn't pass, not all pass
pub unprintable : (p : ℕ → Bool) (xs : List ℕ) (i : ℕ) → position (λ b. not (p b)) xs ≡ Some i → list_all p xs ≡ true → true ≡ false
unprintable p xs i e all =
    let inside : nat_lt (position_or_len (λ b. not (p b)) xs) (length xs) ≡ true = some_if _ _ i e in
    let below : position_or_len (λ b. not (p b)) xs < length xs = grind (arith, nat_tests) in
    let fails = not_so _ (passes_at_first (λ b. not (p b)) xs 0 below) in
    let none = list_all_at p xs _ 0 below fails in
    cc
