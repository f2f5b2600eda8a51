use Rattle.std.proofs.Common.{◌≡◌, drop}
use Rattle.model_data.specs.Search.{is_row_there}
use Rattle.model_data.specs.ChangeCalls.{insert_path}
use Rattle.dli_calls.proofs.inserting.has_asked.Given as goal

abbrev pub invariant-loop-row : goal.invariant-loop-row
invariant-loop-row l =
    is_row_there (insert_path l.types l.ssas l.area) (drop l.row-index l.rows) ≡ is_row_there (insert_path l.types l.ssas l.area) l.rows
