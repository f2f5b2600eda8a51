use Rattle.std.proofs.Common.{arith}
use Rattle.model_image.specs.Text.{first_difference}
use Rattle.image_reading.proofs.Differing.{ends}
use Rattle.image_reading.proofs.text.first_difference.Goals as goal

pub returns-clause-value : goal.returns-clause-value
returns-clause-value c =
    ends c.args.text.now c.args.other.now c.loop-place.place c.min-both.result (first_difference c.args.text.now c.args.other.now)
    (omega (arith, c.loop-place-test.false, c.loop-place.auto.place-end)) (omega (arith, c.min-both.ensures)) (λ e. c.if-text-other.false e) c.loop-place.invariant
