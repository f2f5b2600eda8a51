use Rattle.std.proofs.Common.{◌≡◌, ◌++◌, drop}
use Rattle.model_data.specs.ChangeCalls.{without_path}
use Rattle.dli_calls.proofs.edit.without.Given as goal

abbrev pub invariant-loop-row : goal.invariant-loop-row
invariant-loop-row l =
    l.image ++ without_path l.path (drop l.row-index l.rows) ≡ without_path l.path l.rows
