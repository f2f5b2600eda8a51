use Rattle.std.proofs.Common.{arith}
use Rattle.std.proofs.lemmas.List.{length-take}
use Rattle.image_reading.proofs.text.difference_in.Goals as goal

pub overflow_add-result : goal.overflow_add-result
overflow_add-result c = omega (arith, c.in-Some.ensures.within, length-take c.min.result c.bytes.result.now, c.min.ensures, c.ranges.start.fits)
