-- The enqueue table: who holds what, who waits for what, and who blocks whom.
use Rattle.std.specs.Prelude.{ℕ, ◌==◌, Bool, false, not, ◌&&◌, if◌then◌else◌, List, [], ◌∷◌, ◌++◌, Option, map, filter, find, slice_get}
use Rattle.std.specs.List.{list_any}
use Rattle.std.specs.Map.{lookup}
use Rattle.std.specs.Option.{option_map_or, option_and_then, is_some}
use Rattle.tm_types.specs.declared.resource.Resource.{Resource}
use Rattle.tm_types.specs.declared.resource.Mode.{Mode}
use Rattle.model_data.specs.declared.request.Holder.{Holder}
use Rattle.model_data.specs.declared.request.Request.{Request}
use Rattle.model_data.specs.Modes.{same_resource, excludes, mode_serves}

-- The holders with their modes stand in their order. Of those who wait, the upgrades, who hold the
-- resource already in a weaker mode, stand before all others. Each queue is in the order of time.
pub record EnqueueTable : Type 0 where
  pub regions : ℕ
  pub holds : List (Holder × Mode)
  pub upgrades : List Request
  pub waits : List Request

-- a table in which nobody holds anything or waits
abbrev pub empty_table : ℕ → EnqueueTable
empty_table regions = record { regions = regions; holds = []; upgrades = []; waits = [] }

abbrev pub holds_of : Resource → Holder → Bool
holds_of resource holder = same_resource holder.resource resource

-- the region that asks, as holder of the resource that it asks for
abbrev pub is_asker : Request → Holder → Bool
is_asker request holder = holds_of request.resource holder && (holder.region == request.region)

-- the mode in which the region holds the resource that it asks for
abbrev pub mode_held : Request → List (Holder × Mode) → Option Mode
mode_held request holds = lookup (is_asker request) holds

-- it holds the resource in the same or a stronger mode
abbrev pub is_request_served : Request → List (Holder × Mode) → Bool
is_request_served request holds = option_map_or (λ mode. mode_serves mode request.mode) (mode_held request holds) false

-- it holds the resource, so that what it waits for is a stronger mode
abbrev pub is_upgrade : Request → List (Holder × Mode) → Bool
is_upgrade request holds = is_some (mode_held request holds)

-- another region holds the resource in a mode that can't go together with the request
abbrev pub is_against : Request → Holder × Mode → Bool
is_against request hold =
    holds_of request.resource hold.0 && (not (hold.0.region == request.region) && excludes hold.1 request.mode)

-- those holders, in the order of their numbers
abbrev pub holders_against : Request → List (Holder × Mode) → List ℕ
holders_against request holds = map (λ hold. hold.0.region) (filter (is_against request) holds)

-- the region waits for this resource
abbrev pub is_own : Request → Request → Bool
is_own request waiter = same_resource waiter.resource request.resource && (waiter.region == request.region)

-- the waiters for the resource that stand before the region, or all of them where it doesn't wait
abbrev pub ahead : Request → List Request → List ℕ
ahead request [] = []
ahead request (waiter ∷ waiters) =
    if is_own request waiter then []
    else if same_resource waiter.resource request.resource then waiter.region ∷ ahead request waiters
    else ahead request waiters

-- An upgrade stands behind the upgrades alone, any other request behind all upgrades too.
abbrev pub waiters_ahead : Request → EnqueueTable → List ℕ
waiters_ahead request table =
    ahead request table.upgrades ++ (if is_upgrade request table.holds then [] else ahead request table.waits)

-- The regions that block a request: the holders that it can't go together with, in the order of
-- their numbers, and then the earlier waiters, in the order of the queue. What is served already
-- is blocked by none.
abbrev pub blockers : Request → EnqueueTable → List ℕ
blockers request table =
    if is_request_served request table.holds then []
    else holders_against request table.holds ++ waiters_ahead request table

-- by whom it is blocked: the lowest such holder, or else the earliest waiter
abbrev pub blocked_by : Request → EnqueueTable → Option ℕ
blocked_by request table = slice_get (blockers request table) 0

-- the lowest region that holds the resource
abbrev pub lowest_holder : Resource → EnqueueTable → Option ℕ
lowest_holder resource table = slice_get (map (λ hold. hold.0.region) (filter (λ hold. holds_of resource hold.0) table.holds)) 0

-- what the region waits for
abbrev pub wait_of : ℕ → EnqueueTable → Option Request
wait_of region table = find (λ waiter. waiter.region == region) (table.upgrades ++ table.waits)

-- the region that blocks what this one waits for
abbrev pub waits_by : ℕ → EnqueueTable → Option ℕ
waits_by region table = option_and_then (λ request. blocked_by request table) (wait_of region table)

-- the first region waits for the second: that blocks what it waits for
abbrev pub waits_for : ℕ → ℕ → EnqueueTable → Bool
waits_for region other table =
    option_map_or (λ request. list_any (λ blocker. blocker == other) (blockers request table)) (wait_of region table) false
