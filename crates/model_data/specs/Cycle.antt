-- Rings of regions that wait for one another, and how they are broken.
use Rattle.std.specs.Prelude.{◌≡◌, ℕ, ◌-◌, ◌==◌, ◌≤◌, nat_lt, nat_eq, false, ◌&&◌, ◌||◌, if◌then◌else◌, List, [], ◌∷◌, All, IsTrue, fold, slice_index}
use Rattle.std.specs.List.{IsDistinct}
use Rattle.std.specs.Ordering.{nat_cmp, is_gt}
use Rattle.std.specs.Cmp.Lexicographic.{slice_cmp}
use Rattle.model_data.specs.declared.victim.Victim.{Victim}
use Rattle.model_data.specs.Table.{EnqueueTable, waits_for}
use Rattle.model_data.specs.EnqueueRequests.{released}

-- a region of the table: they are numbered from 1
abbrev pub IsTableRegion : EnqueueTable → ℕ → Type 0
IsTableRegion table region = (1 ≤ region) × (region ≤ table.regions)

-- each region waits for the next, and the last one for the end
abbrev pub WaitsAlong : EnqueueTable → ℕ → List ℕ → ℕ → Type 0
WaitsAlong table region [] end = IsTrue (waits_for region end table)
WaitsAlong table region (next ∷ regions) end = IsTrue (waits_for region next table) × WaitsAlong table next regions end

-- a ring: distinct regions, each waiting for the next and the last one for the first
pub record IsRing (table : EnqueueTable) (first : ℕ) (others : List ℕ) : Type 0 where
  pub regions : All (IsTableRegion table) others
  pub distinct : IsDistinct nat_eq (first ∷ others)
  pub waits : WaitsAlong table first others first

-- a cycle through a region: a ring that begins with it
abbrev pub IsCycle : EnqueueTable → ℕ → List ℕ → Type 0
IsCycle table region [] = ⊥
IsCycle table region (first ∷ others) = (first ≡ region) × IsRing table first others

-- the least of the cycles through a region, compared number by number
pub record IsLeastCycle (table : EnqueueTable) (region : ℕ) (cycle : List ℕ) : Type 0 where
  pub stands : IsCycle table region cycle
  pub least : (other : List ℕ) → IsCycle table region other → is_gt (slice_cmp nat_cmp cycle other) ≡ false

-- no cycle goes through the region
abbrev pub HasNoCycle : EnqueueTable → ℕ → Type 0
HasNoCycle table region = (cycle : List ℕ) → IsCycle table region cycle → ⊥

-- how many records a region's unit has changed; the first weight is that of region 1
abbrev pub changed_count_of : List ℕ → ℕ → ℕ
changed_count_of weights region = slice_index weights (region - 1)

-- the one of two regions that gives way: that with fewer changes, on a tie the higher
abbrev pub gives_way : List ℕ → ℕ → ℕ → ℕ
gives_way weights a b =
    if nat_lt (changed_count_of weights a) (changed_count_of weights b) || ((changed_count_of weights a == changed_count_of weights b) && nat_lt b a) then a
    else b

-- the one of all these regions that gives way
abbrev pub victim_of : List ℕ → List ℕ → ℕ
victim_of weights [] = 0
victim_of weights (region ∷ regions) = fold (gives_way weights) region regions

-- What a turn does where its region's wait closes cycles: of the least one the victim gives all
-- back, and so on until no cycle goes through the region.
abbrev pub Breaks : List ℕ → ℕ → EnqueueTable → List Victim → Type 0
Breaks weights region table [] = HasNoCycle table region
Breaks weights region table (v ∷ victims) =
    IsLeastCycle table region v.cycle × (v.region ≡ victim_of weights v.cycle) × Breaks weights region (released v.region table) victims

-- what the victims leave
abbrev pub after_victims : List Victim → EnqueueTable → EnqueueTable
after_victims [] table = table
after_victims (v ∷ victims) table = after_victims victims (released v.region table)
