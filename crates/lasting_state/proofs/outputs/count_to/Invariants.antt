use Rattle.std.proofs.Common.{◌≡◌, take}
use Rattle.std.specs.Prelude.{count_by}
use Rattle.lasting_state.specs.OutputRecords.{goes_to}
use Rattle.lasting_state.proofs.outputs.count_to.Given as goal

abbrev pub invariant-loop-earlier : goal.invariant-loop-earlier
invariant-loop-earlier l = l.count ≡ count_by (goes_to l.name) (take l.earlier l.outputs.items)
