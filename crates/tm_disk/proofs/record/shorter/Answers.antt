use Rattle.std.proofs.Common.{arith}
use Rattle.tm_disk.proofs.Padding.{sector_of-shorter}
use Rattle.tm_disk.proofs.record.shorter.Goals as goal

pub returns-clause-zeros : goal.returns-clause-zeros
returns-clause-zeros c =
    sector_of-shorter c.args.bytes.now c.args.len c.args.step (omega (arith, c.if-len-step.false)) c.requires.within c.requires.size c.requires.zeros (c.has_any.ensures c.if-has_any.false)
