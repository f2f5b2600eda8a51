use Rattle.log_records.specs.declared.record.Record.{Record}
use Rattle.log_records.specs.declared.record.Record.TheVariants.{Checkpoint}
use Rattle.std.proofs.Common.{arith}
use Rattle.std.proofs.lemmas.Result.{on_ok_weaker}
use Rattle.log_records.proofs.Lengths.{is_record}
use Rattle.log_records.proofs.WithLength.{short_from, on_same}
use Rattle.log_records.proofs.appending.append_checkpoint.Goals as goal

pub end_record-requires-clause-short : goal.end_record-requires-clause-short
end_record-requires-clause-short c =
    let r : Record = Checkpoint c.args.checkpoint c.args.next_id c.args.next_unit c.args.lasting_steps in
    short_from c.put_checkpoint-written.result c.args.out.now.items c.extend_from_slice.new.self.items c.put_checkpoint-written.new.out.items r c.len-start.result c.in_ok-extend_from_slice.ensures.items (omega arith) c.put_checkpoint-written.ensures.ok (on_ok_weaker c.put_checkpoint-written.result (λ h. is_record r h tt) c.put_checkpoint-written.ensures.valid)

pub returns-clause-valid : goal.returns-clause-valid
returns-clause-valid c =
    let r : Record = Checkpoint c.args.checkpoint c.args.next_id c.args.next_unit c.args.lasting_steps in
    on_same _ c.end_record.result c.put_checkpoint-written.result c.end_record.ensures.same (on_ok_weaker c.put_checkpoint-written.result (λ h. is_record r h tt) c.put_checkpoint-written.ensures.valid)
