use Rattle.log_records.proofs.Kept.{both, failed, more}
use Rattle.log_records.proofs.Rows.{rows_more}
use Rattle.log_records.proofs.images.put_rows.Goals as goal

pub loop-row-preserved : goal.loop-row-preserved
loop-row-preserved c = record {
  written = rows_more c.args.rows.now c.loop-row.row-index c.row-item.result c.loop-row.out.items c.put_row.new.out.items _ c.loop-row-test.true c.row-item.is c.loop-row.invariant.written c.in_ok-put_row.ensures.ok;
  kept = more _ c.args.out.now.items c.loop-row.out.items c.put_row.new.out.items c.loop-row.invariant.kept c.in_ok-put_row.ensures.ok;
}

pub returns-in_err-put_row-clause-kept : goal.returns-in_err-put_row-clause-kept
returns-in_err-put_row-clause-kept c =
    failed c.from_residual.result (both c.args.out.now.items c.loop-row.out.items c.put_row.new.out.items c.loop-row.invariant.kept c.in_err-put_row.ensures.kept)
