-- Numbers up to a cap.
use Rattle.std.proofs.Common.{ℕ, suc, ◌≡◌, ◌+◌, ◌-◌, ◌*◌, ◌<◌, min, List, [], ◌∷◌, length, get_or, drop, arith, add-one, drop-cons}
use Rattle.tm_types.specs.Digits.{number_after}

-- two numbers that are the same up to a cap stay so when digits follow
pub same_capped : (cap : ℕ) (digits : List ℕ) (m n : ℕ) → min m cap ≡ min n cap → min (number_after m digits) cap ≡ min (number_after n digits) cap
same_capped cap [] m n e = e
same_capped cap (digit ∷ digits) m n e = same_capped cap digits (10 * m + (digit - 48)) (10 * n + (digit - 48)) (omega (arith, e))

-- one digit more, with the cap applied
pub capped_more : (cap index n : ℕ) (digits : List ℕ) → index < length digits → min (number_after (min (10 * n + (get_or digits index 0 - 48)) cap) (drop (index + 1) digits)) cap ≡ min (number_after n (drop index digits)) cap
capped_more cap index n digits h =
    rw (drop-cons digits index 0, add-one) (same_capped cap (drop (suc index) digits) (min (10 * n + (get_or digits index 0 - 48)) cap) (10 * n + (get_or digits index 0 - 48)) (omega arith))
