-- The room that is left in a segment.
use Rattle.std.proofs.Common.{ℕ, ◌≡◌, ◌+◌, ◌-◌, ◌<◌, ◌≤◌, true, nat_lt, arith}
use Rattle.std.proofs.lemmas.Bool.Decides.{nat_tests}

pub full : (room bytes rest : ℕ) → room < bytes → nat_lt room (bytes + rest) ≡ true
full room bytes rest h = grind (arith, nat_tests)

pub less : (room bytes rest : ℕ) → bytes ≤ room → nat_lt (room - bytes) rest ≡ nat_lt room (bytes + rest)
less room bytes rest h = grind (arith, nat_tests)

pub ruleset one_more = (full, less)
