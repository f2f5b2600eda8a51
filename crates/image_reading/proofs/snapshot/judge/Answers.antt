use Rattle.std.proofs.Common.{arith}
use Rattle.image_reading.proofs.Told.{told_of}
use Rattle.image_reading.proofs.snapshot.judge.Goals as goal

pub returns-clause-told : goal.returns-clause-told
returns-clause-told c = told_of c.args.system.now c.args.bytes.now c.read_records.result (λ i. omega (arith, c.type_inv.bytes i)) c.read_records.ensures
