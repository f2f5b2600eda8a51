use Rattle.std.proofs.Common.{◌≡◌, ◌++◌, drop}
use Rattle.model_data.specs.ChangeCalls.{insert_path}
use Rattle.dli_calls.proofs.inserting.insert_path.Given as goal

abbrev pub invariant-loop-ssa : goal.invariant-loop-ssa
invariant-loop-ssa l = l.path ++ insert_path l.types (drop l.ssa-index l.ssas) l.area ≡ insert_path l.types l.ssas l.area
