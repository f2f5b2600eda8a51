use Rattle.std.proofs.Common.{arith}
use Rattle.tm_types.proofs.DigitSteps.{digit_at, value_more, next_below}
use Rattle.script_run.proofs.Digits.{amount_digits}
use Rattle.script_run.proofs.arithmetic.amount.Goals as goal

pub loop-digit-preserved : goal.loop-digit-preserved
loop-digit-preserved c =
    let i = c.loop-digit.digit-index in
    let all = amount_digits c.args.text.now c.requires in
    let more = value_more c.args.text.now i all c.loop-digit-test.true in
    let digit = digit_at c.args.text.now i all c.loop-digit-test.true in
    record {
      value = cc;
      below = next_below i c.loop-digit.value c.from.result c.loop-digit.invariant.below (omega arith);
    }
