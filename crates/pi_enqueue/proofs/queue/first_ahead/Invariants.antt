use Rattle.std.proofs.Common.{◌≡◌, drop}
use Rattle.std.specs.Prelude.{slice_get}
use Rattle.model_data.specs.Table.{ahead}
use Rattle.pi_enqueue.proofs.queue.first_ahead.Given as goal

abbrev pub invariant-loop-waiter : goal.invariant-loop-waiter
invariant-loop-waiter l = slice_get (ahead l.request (drop l.waiter-index l.waiters)) 0 ≡ slice_get (ahead l.request l.waiters) 0
