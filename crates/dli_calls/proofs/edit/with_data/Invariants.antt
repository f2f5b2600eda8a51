use Rattle.std.proofs.Common.{◌≡◌, ◌++◌, drop}
use Rattle.model_data.specs.ChangeCalls.{with_data}
use Rattle.dli_calls.proofs.edit.with_data.Given as goal

abbrev pub invariant-loop-row : goal.invariant-loop-row
invariant-loop-row l =
    l.image ++ with_data l.path l.bytes (drop l.row-index l.rows) ≡ with_data l.path l.bytes l.rows
