use Rattle.std.proofs.Common.{arith}
use Rattle.image_reading.proofs.reading.cut_log.Goals as goal

pub returns-clause-bytes : goal.returns-clause-bytes
returns-clause-bytes c i = omega (arith, c.type_inv.bytes i)
