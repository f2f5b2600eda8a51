use Rattle.std.proofs.Common.{◌≡◌, ◌+◌, drop, length}
use Rattle.model_data.specs.Record.{rows_spelling}
use Rattle.seg_rows.proofs.image.rows_fit.Given as goal

-- what is left of the rows fits into the room that is left where the rows fit into the limit
abbrev pub invariant-loop-row : goal.invariant-loop-row
invariant-loop-row l = length (rows_spelling l.rows) + l.room ≡ length (rows_spelling (drop l.row-index l.rows)) + l.limit
