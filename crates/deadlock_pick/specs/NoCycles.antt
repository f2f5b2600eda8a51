-- Tables in which no regions wait for one another in a ring.
use Rattle.std.specs.Prelude.{ℕ}
use Rattle.model_data.specs.Table.{EnqueueTable}
use Rattle.model_data.specs.Cycle.{IsTableRegion, HasNoCycle}

-- no cycle goes through any region
abbrev pub HasNoCycles : EnqueueTable → Type 0
HasNoCycles table = (region : ℕ) → IsTableRegion table region → HasNoCycle table region
