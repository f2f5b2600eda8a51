use Rattle.std.proofs.Common.{◌≡◌, ◌+◌, drop, length}
use Rattle.model_data.specs.Record.{rows_spelling}
use Rattle.log_records.proofs.images.image_length.Given as goal

abbrev pub invariant-loop-row : goal.invariant-loop-row
invariant-loop-row l = l.length + length (rows_spelling (drop l.row-index l.rows)) ≡ length (rows_spelling l.rows)
