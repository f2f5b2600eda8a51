use Rattle.log_records.specs.declared.record.Record.{Record}
use Rattle.log_records.specs.declared.record.Record.TheVariants.{Change}
use Rattle.std.proofs.Common.{arith}
use Rattle.model_data.specs.Record.{rows_spelling as rows_spelling}
use Rattle.std.proofs.lemmas.Result.{on_ok_weaker}
use Rattle.log_records.proofs.Lengths.{is_record}
use Rattle.log_records.proofs.WithLength.{short_from, on_same}
use Rattle.log_records.proofs.appending.append_change.Goals as goal

pub end_record-requires-clause-short : goal.end_record-requires-clause-short
end_record-requires-clause-short c =
    let r : Record = Change c.args.unit c.args.database c.args.slot (rows_spelling c.args.before.now) (rows_spelling c.args.after.now) in
    short_from c.put_row_change-written.result c.args.out.now.items c.extend_from_slice.new.self.items c.put_row_change-written.new.out.items r c.len-start.result c.in_ok-extend_from_slice.ensures.items (omega arith) c.put_row_change-written.ensures.ok (on_ok_weaker c.put_row_change-written.result (λ h. is_record r h tt) c.put_row_change-written.ensures.valid)

pub returns-clause-valid : goal.returns-clause-valid
returns-clause-valid c =
    let r : Record = Change c.args.unit c.args.database c.args.slot (rows_spelling c.args.before.now) (rows_spelling c.args.after.now) in
    on_same _ c.end_record.result c.put_row_change-written.result c.end_record.ensures.same (on_ok_weaker c.put_row_change-written.result (λ h. is_record r h tt) c.put_row_change-written.ensures.valid)
