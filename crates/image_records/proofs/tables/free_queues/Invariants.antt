use Rattle.std.specs.Vec.Iter.{into_iter_items}
use Rattle.image_records.proofs.Filled.{IsFilled}
use Rattle.image_records.proofs.tables.free_queues.Given as goal

abbrev pub invariant-loop-message : goal.invariant-loop-message
invariant-loop-message l = IsFilled l.limit l.fn.messages.items (into_iter_items l.message-iterator) l.queues
