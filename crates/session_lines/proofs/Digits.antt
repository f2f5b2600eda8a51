-- Digits as they are read, one after another.
use Rattle.std.proofs.Common.{ℕ, ◌^◌, ◌≤◌, arith}
use Rattle.std.proofs.Math.Nat.{pow-le-pow_right}
use Rattle.tm_types.proofs.DigitSteps.{digit_at, value_more}

pub power_below : (i : ℕ) → i ≤ 20 → 10 ^ i ≤ 10 ^ 20
power_below i short = pow-le-pow_right (omega arith) short

pub ruleset digit_steps = (digit_at, value_more, power_below)
