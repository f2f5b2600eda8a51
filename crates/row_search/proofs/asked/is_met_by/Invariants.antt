use Rattle.std.proofs.Common.{◌≡◌, drop, Some}
use Rattle.row_search.specs.AskedArguments.{is_met}
use Rattle.row_search.proofs.asked.is_met_by.Given as goal

abbrev pub invariant-loop-pair : goal.invariant-loop-pair
invariant-loop-pair l =
    is_met (Some l.asked) (drop l.pair-index l.pairs) ≡ is_met (Some l.asked) l.pairs
