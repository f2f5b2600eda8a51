use Rattle.std.proofs.Common.{◌≡◌, drop}
use Rattle.model_data.specs.Search.{first_below}
use Rattle.std.specs.Option.{option_copied}
use Rattle.row_search.proofs.search.first_below.Given as goal

abbrev pub invariant-loop-row : goal.invariant-loop-row
invariant-loop-row l =
    first_below l.asked.dbd.types l.asked.ssas (option_copied l.place) l.parent (drop l.row-index l.rows) ≡ first_below l.asked.dbd.types l.asked.ssas (option_copied l.place) l.parent l.rows
