use Rattle.std.proofs.Common.{◌≡◌, ◌≤◌, drop, min}
use Rattle.tm_types.specs.Digits.{number_after}
use Rattle.tm_types.proofs.digits.capped_number.Given as goal

abbrev pub invariant-loop-digit : goal.invariant-loop-digit
invariant-loop-digit l =
    (l.number ≤ 1000000000) × (min (number_after l.number (drop l.digit-index l.digits)) 1000000000 ≡ min (number_after 0 l.digits) 1000000000)
