use Rattle.std.proofs.Common.{◌≡◌, drop}
use Rattle.model_data.specs.Search.{meets_ssa}
use Rattle.std.specs.List.{list_all}
use Rattle.row_search.proofs.asked.meets_all.Given as goal

abbrev pub invariant-loop-ssa : goal.invariant-loop-ssa
invariant-loop-ssa l =
    list_all (λ s. meets_ssa l.types s l.path) (drop l.ssa-index l.ssas) ≡ list_all (λ s. meets_ssa l.types s l.path) l.ssas
