use Rattle.std.proofs.Common.{arith}
use Rattle.log_records.proofs.Laws.{record_takes, is_only, is_none, encodable}
use Rattle.log_records.proofs.decoding.decode.Goals as goal

pub returns-in-Ok-clause-found : goal.returns-in-Ok-clause-found
returns-in-Ok-clause-found c = record_takes c.args.bytes.now (c.in-Ok.record, c.in-Ok.length) (λ i. omega (arith, c.type_inv.bytes i)) c.in-Ok.ensures

pub returns-in-Ok-clause-only : goal.returns-in-Ok-clause-only
returns-in-Ok-clause-only c = is_only c.args.bytes.now (c.in-Ok.record, c.in-Ok.length) c.in-Ok.ensures

pub returns-in-Err-Broken-clause-only : goal.returns-in-Err-Broken-clause-only
returns-in-Err-Broken-clause-only c = is_none c.args.bytes.now (c.in-Err-Broken.rule, c.in-Err-Broken.left) (rw c.in-Err-Broken.field-0-is at c.in-Err-Broken.ensures)

pub returns-in-Ok-clause-encodable : goal.returns-in-Ok-clause-encodable
returns-in-Ok-clause-encodable c =
    let spelled = record_takes c.args.bytes.now (c.in-Ok.record, c.in-Ok.length) (λ i. omega (arith, c.type_inv.bytes i)) c.in-Ok.ensures in
    encodable c.in-Ok.record spelled.1.is_record
