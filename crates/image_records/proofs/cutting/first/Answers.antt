use Rattle.std.proofs.Common.{◌≡◌, ℕ, ◌-◌, length, Err, arith}
use Rattle.log_records.specs.RecordReader.{record_at}
use Rattle.image_records.proofs.Cuts.{begins, begins_none}
use Rattle.image_records.proofs.cutting.first.Goals as goal

pub returns-in-Ok : goal.returns-in-Ok
returns-in-Ok c = begins c.args.bytes.now (c.in-Ok.record, c.in-Ok.size) (λ i. omega (arith, c.type_inv.bytes i)) c.in-Ok.ensures.found

pub returns-in-Err-Bad : goal.returns-in-Err-Bad
returns-in-Err-Bad c =
    let fault : (left : ℕ) × (record_at c.args.bytes.now ≡ Err (c.in-Err-Bad._rule, left)) × (c.in-Err-Bad._place ≡ length c.args.bytes.now - left) = rw c.in-Err-Bad.field-0-is at c.in-Err-Bad.ensures.fault in
    begins_none c.args.bytes.now (c.in-Err-Bad._rule, fault.0) fault.1
