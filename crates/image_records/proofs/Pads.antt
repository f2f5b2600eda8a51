-- What stands behind the code of a pad.
use Rattle.std.proofs.Common.{◌≡◌, ◌⊎◌, ℕ, ◌≤◌, ◌<◌, List, length, drop, min, inl, inr, sym, ◌∙◌, ap, arith}
use Rattle.std.proofs.lemmas.Bool.{cases_lt}
use Rattle.std.proofs.Math.Seq.{drop-length}
use Rattle.std.proofs.Math.ListN.{drop_of_length-le}

-- the bytes behind so many, where there may be fewer
pub back_is : (n : ℕ) (bytes : List ℕ) → drop (min (length bytes) n) bytes ≡ drop n bytes
back_is n bytes = by_length (cases_lt (length bytes) n) where
  by_length : (length bytes < n) ⊎ (n ≤ length bytes) → drop (min (length bytes) n) bytes ≡ drop n bytes
  by_length (inl few) =
      let size : min (length bytes) n ≡ length bytes = omega (arith, few) in
      ap (λ k. drop k bytes) size ∙ drop-length bytes ∙ sym (drop_of_length-le bytes (omega (arith, few)))
  by_length (inr many) = let size : min (length bytes) n ≡ n = omega (arith, many) in ap (λ k. drop k bytes) size
