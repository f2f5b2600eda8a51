use Rattle.std.proofs.Common.{◌≡◌, ◌++◌, drop}
use Rattle.model_data.specs.Record.{rows_spelling}
use Rattle.seg_rows.proofs.encode.rows_as_bytes.Given as goal

abbrev pub invariant-loop-row : goal.invariant-loop-row
invariant-loop-row l = l.bytes ++ rows_spelling (drop l.row-index l.rows) ≡ rows_spelling l.rows
