use Rattle.std.proofs.Common.{◌≡◌, ◌++◌, drop, filter}
use Rattle.std.specs.Ordering.{is_lt}
use Rattle.model_data.specs.Path.{path_cmp}
use Rattle.dli_calls.proofs.edit.push_after.Given as goal

abbrev pub invariant-loop-row : goal.invariant-loop-row
invariant-loop-row l =
    l.image ++ filter (λ row. is_lt (path_cmp l.path row.path)) (drop l.row-index l.rows)
    ≡ l.initial.image ++ filter (λ row. is_lt (path_cmp l.path row.path)) l.rows
