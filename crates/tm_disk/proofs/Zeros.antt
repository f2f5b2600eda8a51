-- Zeros as bytes.
use Rattle.std.proofs.Common.{◌-◌, ◌≡◌, ◌≤◌, drop, length, refl, take, ℕ}
use Rattle.std.proofs.lemmas.List.{drop-replicate, length-replicate, take-replicate}
use Rattle.tm_disk.specs.Sector.{blank, zeros}

pub length-zeros : (n : ℕ) → length (zeros n) ≡ n
unfolding zeros
length-zeros n = length-replicate n 0

pub drop-zeros : (m n : ℕ) → drop m (zeros n) ≡ zeros (n - m)
unfolding zeros
drop-zeros m n = drop-replicate m n 0

pub blank_is : blank ≡ zeros 4096
unfolding blank
blank_is = refl

pub take-zeros : (m n : ℕ) → m ≤ n → take m (zeros n) ≡ zeros m
unfolding zeros
take-zeros m n le = take-replicate m n 0 le
