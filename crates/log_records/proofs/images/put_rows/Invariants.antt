use Rattle.std.proofs.Common.{◌≡◌, ◌++◌, drop}
use Rattle.model_data.specs.Record.{rows_spelling}
use Rattle.log_records.proofs.Kept.{Keeps}
use Rattle.log_records.proofs.images.put_rows.Given as goal

-- the rows so far, and those to come; and what stood there before
abbrev pub invariant-loop-row : goal.invariant-loop-row
invariant-loop-row l = record {
  written : l.out.items ++ rows_spelling (drop l.row-index l.rows) ≡ l.fn.out.items ++ rows_spelling l.rows;
  kept : Keeps l.fn.out.items l.out.items;
}
