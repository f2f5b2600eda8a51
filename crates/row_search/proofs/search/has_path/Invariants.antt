use Rattle.std.proofs.Common.{◌≡◌, drop}
use Rattle.model_data.specs.Search.{is_row_there}
use Rattle.row_search.proofs.search.has_path.Given as goal

abbrev pub invariant-loop-row : goal.invariant-loop-row
invariant-loop-row l =
    is_row_there l.path (drop l.row-index l.rows) ≡ is_row_there l.path l.rows
