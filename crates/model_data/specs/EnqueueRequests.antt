-- What requests and releases make of the enqueue table.
use Rattle.std.specs.Prelude.{ℕ, ◌==◌, not, if◌then◌else◌, ◌&&◌, List, [], ◌∷◌, Option, None, Some, filter}
use Rattle.std.specs.BTreeMap.{insert_entry}
use Rattle.std.specs.Option.{option_map_or}
use Rattle.tm_types.specs.declared.resource.Mode.{Mode}
use Rattle.model_data.specs.declared.request.Asked.{Asked}
use Rattle.model_data.specs.declared.request.Asked.TheVariants.{Granted, Waits}
use Rattle.model_data.specs.declared.request.Holder.{Holder}
use Rattle.model_data.specs.declared.request.Request.{Request}
use Rattle.model_data.specs.Modes.{stronger, holder_cmp}
use Rattle.model_data.specs.Table.{EnqueueTable, mode_held, is_upgrade, is_own, blocked_by}

abbrev pub asker : Request → Holder
asker request = record { resource = request.resource; region = request.region }

-- the mode asked for, or the one held where that is stronger
abbrev pub granted_mode : Request → List (Holder × Mode) → Mode
granted_mode request holds = option_map_or (λ mode. stronger mode request.mode) (mode_held request holds) request.mode

-- the region holds the resource too, in its place among the holders
abbrev pub with_hold : Request → List (Holder × Mode) → List (Holder × Mode)
with_hold request holds = insert_entry holder_cmp holds (asker request) (granted_mode request holds)

-- a queue in which the region no longer waits for this resource
abbrev pub without_wait : Request → List Request → List Request
without_wait request waiters = filter (λ waiter. not (is_own request waiter)) waiters

-- a queue in which the region waits for this resource: in the place that it has, or else at the end
abbrev pub placed_request : Request → List Request → List Request
placed_request request [] = request ∷ []
placed_request request (waiter ∷ waiters) =
    if is_own request waiter then request ∷ waiters else waiter ∷ placed_request request waiters

-- the region gets what it asks for, and no longer waits for it
abbrev pub granted : Request → EnqueueTable → EnqueueTable
granted request table = record table {
  holds = with_hold request table.holds;
  upgrades = without_wait request table.upgrades;
  waits = without_wait request table.waits;
}

-- the region waits for what it asks for
abbrev pub with_waiter : Request → EnqueueTable → EnqueueTable
with_waiter request table =
    if is_upgrade request table.holds
    then record table { upgrades = placed_request request table.upgrades }
    else record table { waits = placed_request request table.waits }

-- the answer to a request
abbrev pub answer_to : Option ℕ → Asked
answer_to None = Granted
answer_to (Some by) = Waits by

-- what the answer leaves
abbrev pub left_by_request : Asked → Request → EnqueueTable → EnqueueTable
left_by_request Granted request table = granted request table
left_by_request (Waits by) request table = with_waiter request table

-- one request
abbrev pub after_ask : Request → EnqueueTable → EnqueueTable
after_ask request table = left_by_request (answer_to (blocked_by request table)) request table

-- nothing of the region is held or waited for
abbrev pub released : ℕ → EnqueueTable → EnqueueTable
released region table = record table {
  holds = filter (λ hold. not (hold.0.region == region)) table.holds;
  upgrades = filter (λ waiter. not (waiter.region == region)) table.upgrades;
  waits = filter (λ waiter. not (waiter.region == region)) table.waits;
}

-- the region waits for this resource at most
abbrev pub waits_only_for : Request → EnqueueTable → EnqueueTable
waits_only_for request table = record table {
  upgrades = filter (λ waiter. not ((waiter.region == request.region) && not (is_own request waiter))) table.upgrades;
  waits = filter (λ waiter. not ((waiter.region == request.region) && not (is_own request waiter))) table.waits;
}

-- the region waits for nothing
abbrev pub waits_for_nothing : ℕ → EnqueueTable → EnqueueTable
waits_for_nothing region table = record table {
  upgrades = filter (λ waiter. not (waiter.region == region)) table.upgrades;
  waits = filter (λ waiter. not (waiter.region == region)) table.waits;
}

-- The requests of one call, in their order: what isn't blocked is granted, up to the first that is
-- blocked. For that one alone the region then waits, and where none is blocked, for nothing.
abbrev pub after_asks : ℕ → List Request → EnqueueTable → EnqueueTable
after_asks region [] table = waits_for_nothing region table
after_asks region (request ∷ requests) table =
    option_map_or (λ by. with_waiter request (waits_only_for request table)) (blocked_by request table)
    (after_asks region requests (granted request table))

-- the first request of a call that is blocked, with the region that blocks it
abbrev pub first_blocked : List Request → EnqueueTable → Option (Request × ℕ)
first_blocked [] table = None
first_blocked (request ∷ requests) table =
    option_map_or (λ by. Some (request, by)) (blocked_by request table) (first_blocked requests (granted request table))
