use Rattle.std.proofs.Common.{◌≡◌, ◌∷◌, ◌++◌, drop}
use Rattle.region_work.specs.WorkEnds.{destinations}
use Rattle.region_work.proofs.close.names_moved.Given as goal

-- the names so far, and those of the outputs to come
abbrev pub invariant-loop-place : goal.invariant-loop-place
invariant-loop-place l = l.names.items ++ destinations (drop l.place l.outputs.items) ≡ l.code ∷ destinations l.outputs.items
