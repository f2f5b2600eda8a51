-- The text of a workload: its definition, and its session.
use Rattle.std.specs.Prelude.{ℕ, List, ◌++◌, codes}
use Rattle.workload.specs.Definition.{workload_definition}
use Rattle.workload.specs.Draws.{seeded}
use Rattle.workload.specs.Session.{openings, transfers}

-- 100 accounts are opened; then money is moved `count` times, as it is drawn; last T2 asks for the sum
unfoldable pub workload_text : ℕ → ℕ → List ℕ
workload_text seed count =
    workload_definition ++ openings 100 ++ transfers (seeded seed) count
    ++ codes "IN T2 1 SUM\nQUIET 1000000\nRECV T2\n"
