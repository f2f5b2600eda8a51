-- Several requests of one region.
use Rattle.std.specs.Prelude.{◌≡◌, ℕ, true, List, [], ◌∷◌, None}
use Rattle.std.specs.List.{AllByRecursion}
use Rattle.tm_types.specs.declared.resource.Mode.{Mode}
use Rattle.model_data.specs.declared.request.Holder.{Holder}
use Rattle.model_data.specs.declared.request.Request.{Request}
use Rattle.model_data.specs.Table.{EnqueueTable, blocked_by, is_request_served}
use Rattle.model_data.specs.EnqueueRequests.{with_hold, without_wait, granted}
use Rattle.pi_enqueue.specs.declared.table.Blocked.{Blocked}

-- none of these requests is blocked
abbrev pub AreRequestsFree : List Request → EnqueueTable → Type 0
AreRequestsFree requests table = AllByRecursion (λ request. blocked_by request table ≡ None) requests

-- all that is asked for is held already, in the same or a stronger mode
abbrev pub AreRequestsServed : List Request → List (Holder × Mode) → Type 0
AreRequestsServed requests holds = AllByRecursion (λ request. is_request_served request holds ≡ true) requests

-- the region gets all that it asks for
abbrev pub granted_all : List Request → EnqueueTable → EnqueueTable
granted_all [] table = table
granted_all (request ∷ requests) table = granted_all requests (granted request table)

-- the holders then
abbrev pub with_holds : List Request → List (Holder × Mode) → List (Holder × Mode)
with_holds [] holds = holds
with_holds (request ∷ requests) holds = with_holds requests (with_hold request holds)

-- a queue in which the region waits for none of this any longer
abbrev pub without_waits : List Request → List Request → List Request
without_waits [] waiters = waiters
without_waits (request ∷ requests) waiters = without_waits requests (without_wait request waiters)

-- a blocked request as it is told
abbrev pub blocked_told : Request × ℕ → Blocked
blocked_told b = record { resource = b.0.resource; by = b.1 }
