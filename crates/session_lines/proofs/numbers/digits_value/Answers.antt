use Rattle.std.proofs.Common.{arith}
use Rattle.tm_types.proofs.DigitSteps.{digit_at, value_more, next_below}
use Rattle.session_lines.proofs.numbers.digits_value.Goals as goal

pub loop-digit-preserved : goal.loop-digit-preserved
loop-digit-preserved c =
    let i = c.loop-digit.digit-index in
    let more = value_more c.args.text.now i c.requires.digits c.loop-digit-test.true in
    let digit = digit_at c.args.text.now i c.requires.digits c.loop-digit-test.true in
    record {
      value = cc;
      below = next_below i c.loop-digit.value c.from.result c.loop-digit.invariant.below (omega arith);
    }
