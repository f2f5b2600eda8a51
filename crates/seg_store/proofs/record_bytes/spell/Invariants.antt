use Rattle.std.proofs.Common.{◌≡◌, take}
use Rattle.model_data.specs.Record.{rows_spelling}
use Rattle.seg_store.proofs.record_bytes.spell.Given as goal

abbrev pub invariant-loop-row : goal.invariant-loop-row
invariant-loop-row l = l.spelled ≡ rows_spelling (take l.row-index l.rows)
