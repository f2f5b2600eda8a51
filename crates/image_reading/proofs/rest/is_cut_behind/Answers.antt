use Rattle.std.proofs.Common.{◌+◌, ◌*◌, refl, arith}
use Rattle.image_reading.proofs.CutOff.{decided, decided_not}
use Rattle.image_reading.proofs.rest.is_cut_behind.Goals as goal

pub returns-then-size-tail : goal.returns-then-size-tail
returns-then-size-tail c = decided_not c.args.high c.args.low c.args.tail.now (256 * c.args.high + c.args.low) refl c.if-size-tail.true

pub returns : goal.returns
returns c =
    decided c.args.high c.args.low c.args.tail.now (256 * c.args.high + c.args.low) (λ i. omega (arith, c.type_inv.tail i)) (omega (arith, c.ranges.high.fits)) (omega (arith, c.ranges.low.fits)) refl (omega (arith, c.if-size-tail.false)) c.is_front_of_any.result c.is_front_of_any.ensures
