-- How a search goes from record to record.
use Rattle.std.specs.Prelude.{ℕ, suc, not, List, [], Option, None, Some, length, filter}
use Rattle.std.specs.Ordering.{is_gt}
use Rattle.model_data.specs.declared.row.Row.{Row}
use Rattle.model_data.specs.Path.{key_cmp, root_of}
use Rattle.model_data.specs.Rows.{rows_after}

-- the rows of the records from this root on
abbrev pub rows_from_root : Option (List ℕ) → List Row → List Row
rows_from_root None rows = []
rows_from_root (Some root) rows = filter (λ row. not (is_gt (key_cmp root (root_of row.path)))) rows

-- how far a search has to go at most: the rows after the record at which it stands
abbrev pub roots_left : Option (List ℕ) → List Row → ℕ
roots_left None rows = 0
roots_left (Some root) rows = suc (length (rows_after root rows))
