use Rattle.std.proofs.Common.{◌≡◌, drop}
use Rattle.std.specs.Cmp.Lexicographic.{pointwise}
use Rattle.model_data.specs.Search.{pair_eq}
use Rattle.model_data.specs.ChangeCalls.{insert_path}
use Rattle.dli_calls.proofs.inserting.are_asked_pairs.Given as goal

abbrev pub invariant-loop-i : goal.invariant-loop-i
invariant-loop-i l =
    pointwise pair_eq (insert_path l.types (drop l.i l.ssas) l.area) (drop l.i l.path) ≡ pointwise pair_eq (insert_path l.types l.ssas l.area) l.path
