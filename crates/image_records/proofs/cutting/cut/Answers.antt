use Rattle.image_records.proofs.Cuts.{cut_ends}
use Rattle.image_records.proofs.cutting.cut.Goals as goal

pub returns-clause-records : goal.returns-clause-records
returns-clause-records c = (cut_ends c.args.bytes.now c.loop-length.records.items c.loop-length.length c.loop-length.invariant c.loop-length-test.false).0

pub returns-clause-rest : goal.returns-clause-rest
returns-clause-rest c = (cut_ends c.args.bytes.now c.loop-length.records.items c.loop-length.length c.loop-length.invariant c.loop-length-test.false).1
