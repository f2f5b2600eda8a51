-- Digits as they are read, one after another.
use Rattle.std.proofs.Common.{◌≡◌, ℕ, ◌^◌, ◌≤◌, Bool, true, false, List, length, arith}
use Rattle.std.specs.List.{list_all}
use Rattle.std.specs.Prelude.{nat_le, ◌&&◌}
use Rattle.model_system.specs.Arithmetic.{is_amount}
use Rattle.std.specs.Char.{is_ascii_digit}
use Rattle.std.proofs.lemmas.Bool.Decides.{nat_tests}
use Rattle.std.proofs.Math.Nat.{pow-le-pow_right}
use Rattle.tm_types.proofs.DigitSteps.{digit_at, value_more}

pub power_below : (i : ℕ) → i ≤ 18 → 10 ^ i ≤ 10 ^ 18
power_below i short = pow-le-pow_right (omega arith) short

pub amount_digits : (text : List ℕ) → is_amount text ≡ true → list_all is_ascii_digit text ≡ true
amount_digits text e = by (nat_le 1 (length text) && nat_le (length text) 18) (list_all is_ascii_digit text) e
  where
    by : (a b : Bool) → (a && b) ≡ true → b ≡ true
    by true b e = e
    by false b e = cc

pub amount_short : (text : List ℕ) → is_amount text ≡ true → length text ≤ 18
amount_short text e = grind (arith, nat_tests)

pub ruleset digit_steps = (digit_at, value_more, power_below, amount_digits, amount_short)
