use Rattle.std.proofs.Common.{◌≡◌, drop}
use Rattle.std.specs.List.{list_all}
use Rattle.row_search.specs.AskedArguments.{is_met}
use Rattle.row_search.proofs.asked.all_met.Given as goal

abbrev pub invariant-loop-one : goal.invariant-loop-one
invariant-loop-one l =
    list_all (λ a. is_met a l.path) (drop l.one-index l.asked) ≡ list_all (λ a. is_met a l.path) l.asked
