use Rattle.std.proofs.Common.{◌≡◌, drop}
use Rattle.model_data.specs.Search.{first_after}
use Rattle.std.specs.Option.{option_copied}
use Rattle.row_search.proofs.search.first_after.Given as goal

abbrev pub invariant-loop-row : goal.invariant-loop-row
invariant-loop-row l =
    first_after l.asked.dbd.types l.asked.ssas (option_copied l.place) (drop l.row-index l.rows) ≡ first_after l.asked.dbd.types l.asked.ssas (option_copied l.place) l.rows
