use Rattle.log_records.specs.declared.record.Record.{Record}
use Rattle.log_records.specs.declared.record.Record.TheVariants.{Command}
use Rattle.std.proofs.Common.{arith}
use Rattle.std.proofs.lemmas.Result.{on_ok_weaker}
use Rattle.log_records.proofs.Lengths.{is_record}
use Rattle.log_records.proofs.WithLength.{short_from, on_same}
use Rattle.log_records.proofs.appending.append_command.Goals as goal

pub end_record-requires-clause-short : goal.end_record-requires-clause-short
end_record-requires-clause-short c =
    let r : Record = Command c.args.text.now in
    short_from c.put_command-written.result c.args.out.now.items c.extend_from_slice.new.self.items c.put_command-written.new.out.items r c.len-start.result c.in_ok-extend_from_slice.ensures.items (omega arith) c.put_command-written.ensures.ok (on_ok_weaker c.put_command-written.result (λ h. is_record r h tt) c.put_command-written.ensures.valid)

pub returns-clause-valid : goal.returns-clause-valid
returns-clause-valid c =
    let r : Record = Command c.args.text.now in
    on_same _ c.end_record.result c.put_command-written.result c.end_record.ensures.same (on_ok_weaker c.put_command-written.result (λ h. is_record r h tt) c.put_command-written.ensures.valid)
