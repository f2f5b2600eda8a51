-- The search for a ring: ways that may end in one.
use Rattle.std.specs.Prelude.{◌≡◌, ℕ, nat_eq, false, List, [], ◌∷◌, ◌++◌, All, IsTrue}
use Rattle.std.specs.List.{IsDistinct}
use Rattle.std.specs.Ordering.{nat_cmp, is_gt}
use Rattle.std.specs.Cmp.Lexicographic.{slice_cmp}
use Rattle.model_data.specs.Table.{EnqueueTable, waits_for}
use Rattle.model_data.specs.Cycle.{IsTableRegion, IsCycle}

-- each region waits for the next, up to the last one
abbrev pub WaitsTo : EnqueueTable → ℕ → List ℕ → ℕ → Type 0
WaitsTo table region [] last = region ≡ last
WaitsTo table region (next ∷ regions) last = IsTrue (waits_for region next table) × WaitsTo table next regions last

-- a way from a region to the last one: distinct regions of the table, each waiting for the next
pub record IsWayOf (table : EnqueueTable) (region : ℕ) (way : List ℕ) (last : ℕ) : Type 0 where
  pub others : List ℕ
  pub whole : way ≡ region ∷ others
  pub regions : All (IsTableRegion table) way
  pub distinct : IsDistinct nat_eq way
  pub waits : WaitsTo table region others last

-- a list begins with a way
pub record BeginsWith (way : List ℕ) (list : List ℕ) : Type 0 where
  pub rest : List ℕ
  pub whole : list ≡ way ++ rest

-- the least of the cycles through the region that begin with a way
pub record IsLeastOf (table : EnqueueTable) (region : ℕ) (way : List ℕ) (cycle : List ℕ) : Type 0 where
  pub stands : IsCycle table region cycle
  pub begins : BeginsWith way cycle
  pub least : (other : List ℕ) → IsCycle table region other → BeginsWith way other → is_gt (slice_cmp nat_cmp cycle other) ≡ false

-- no cycle through the region begins with this way
abbrev pub HasNoneOf : EnqueueTable → ℕ → List ℕ → Type 0
HasNoneOf table region way = (cycle : List ℕ) → IsCycle table region cycle → BeginsWith way cycle → ⊥
