-- A count that is raised once.
use Rattle.std.proofs.Common.{◌≡◌, ◌⊎◌, ℕ, ◌+◌, ◌≤◌, arith}
use Rattle.std.proofs.lemmas.Bool.Decides.{nat_tests}
use Rattle.tm_disk.specs.Count.{raised}

pub raised_by_one : (n : ℕ) → (raised n ≡ n + 1) ⊎ (18446744073709551615 ≤ raised n)
raised_by_one n = grind (arith, nat_tests)
