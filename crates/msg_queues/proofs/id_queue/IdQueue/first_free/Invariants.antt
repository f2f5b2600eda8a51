use Rattle.std.proofs.Common.{◌≡◌}
use Rattle.msg_queues.specs.Places.{first_open}
use Rattle.msg_queues.proofs.id_queue.IdQueue.first_free.Given as goal

-- what is left has the first one
abbrev pub invariant-loop-id : goal.invariant-loop-id
invariant-loop-id l = first_open l.id-iterator ≡ first_open l.self
