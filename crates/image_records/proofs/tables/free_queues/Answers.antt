use Rattle.std.specs.Vec.Iter.{into_iter_items}
use Rattle.image_records.proofs.Filled.{filled_next}
use Rattle.image_records.proofs.tables.free_queues.Goals as goal

pub add-requires-clause-above : goal.add-requires-clause-above
add-requires-clause-above c =
    filled_next c.args.limit c.args.next_id c.args.messages.items (into_iter_items c.loop-message.message-iterator) _ c.in-Some.message c.loop-message.queues c.loop-message.invariant c.in-Some.ensures.steps.0
    c.requires.ascending
