-- What is always so of an enqueue table.
use Rattle.std.specs.Prelude.{◌≡◌, ℕ, ◌==◌, true, false, ◌&&◌, List, ◌++◌, Option, Some, map, nat_eq}
use Rattle.std.specs.List.{AllByRecursion, IsDistinct}
use Rattle.std.specs.List.Sorted.{IsStrictlySortedBy}
use Rattle.std.specs.Map.{lookup, keys_of}
use Rattle.std.specs.Option.{IfSome}
use Rattle.tm_types.specs.declared.resource.Resource.{Resource}
use Rattle.tm_types.specs.declared.resource.Mode.{Mode}
use Rattle.tm_types.specs.declared.resource.Mode.TheVariants.{Exclusive}
use Rattle.model_data.specs.declared.request.Holder.{Holder}
use Rattle.model_data.specs.declared.request.Request.{Request}
use Rattle.model_data.specs.Modes.{same_resource, holder_cmp}
use Rattle.model_data.specs.Table.{EnqueueTable, holds_of, is_upgrade, wait_of}
use Rattle.model_data.specs.Cycle.{IsTableRegion}

-- the mode in which a region holds a resource
abbrev pub held_mode : ℕ → Resource → List (Holder × Mode) → Option Mode
held_mode region resource holds = lookup (λ holder. holds_of resource holder && (holder.region == region)) holds

-- the regions that wait, once for each wait
abbrev pub waiting_regions : EnqueueTable → List ℕ
waiting_regions table = map (λ waiter. waiter.region) (table.upgrades ++ table.waits)

-- a region of the table that waits for a stronger mode of what it holds
pub record Upgrades (table : EnqueueTable) (waiter : Request) : Type 0 where
  pub region : IsTableRegion table waiter.region
  pub has : is_upgrade waiter table.holds ≡ true

-- a region of the table that waits for what it doesn't hold
pub record RegionWaits (table : EnqueueTable) (waiter : Request) : Type 0 where
  pub region : IsTableRegion table waiter.region
  pub hasnt : is_upgrade waiter table.holds ≡ false

-- Holders stand in their order, each once. Who holds a resource alone has no other beside it. All are
-- regions of the table. Those among the upgrades hold what they wait for, the other waiters don't, and
-- no region waits twice.
pub record IsTableKept (table : EnqueueTable) : Type 0 where
  pub ascending : IsStrictlySortedBy holder_cmp (keys_of table.holds)
  pub alone : (resource : Resource) (a b : ℕ) (mode : Mode)
      → held_mode a resource table.holds ≡ Some Exclusive → held_mode b resource table.holds ≡ Some mode → a ≡ b
  pub holders : AllByRecursion (λ holder. IsTableRegion table holder.region) (keys_of table.holds)
  pub upgrading : AllByRecursion (Upgrades table) table.upgrades
  pub waiting : AllByRecursion (RegionWaits table) table.waits
  pub once : IsDistinct nat_eq (waiting_regions table)

-- the region waits for this resource or for none
abbrev pub WaitsForNothingElse : Request → EnqueueTable → Type 0
WaitsForNothingElse request table =
    IfSome (wait_of request.region table) (λ waiter. same_resource waiter.resource request.resource ≡ true)
