use Rattle.std.proofs.Common.{◌≡◌, drop, ◌==◌}
use Rattle.std.specs.List.{list_any}
use Rattle.model_data.specs.Table.{ahead}
use Rattle.pi_enqueue.proofs.queue.is_ahead.Given as goal

abbrev pub invariant-loop-waiter : goal.invariant-loop-waiter
invariant-loop-waiter l =
    list_any (λ blocker. blocker == l.region) (ahead l.request (drop l.waiter-index l.waiters)) ≡ list_any (λ blocker. blocker == l.region) (ahead l.request l.waiters)
