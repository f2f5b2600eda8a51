use Rattle.std.proofs.Common.{◌≡◌, ◌≤◌, drop}
use Rattle.std.specs.Vec.{vec_len, vec_capacity}
use Rattle.pi_enqueue.specs.Grants.{without_waits}
use Rattle.pi_enqueue.proofs.queue.end_each.Given as goal

abbrev pub invariant-loop-request : goal.invariant-loop-request
invariant-loop-request l = record {
  ahead : without_waits (drop l.request-index l.requests) l.waiters.items ≡ without_waits l.requests l.fn.waiters.items;
  room : vec_capacity l.waiters ≡ vec_capacity l.fn.waiters;
  bound : vec_len l.waiters ≤ vec_len l.fn.waiters;
}
