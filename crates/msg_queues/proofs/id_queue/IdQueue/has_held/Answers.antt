use Rattle.std.proofs.Common.{ap, ◌∙◌, ltb}
use Rattle.msg_queues.specs.Places.{unheld_count}
use Rattle.msg_queues.proofs.Places.{held_where_fewer}
use Rattle.msg_queues.proofs.id_queue.IdQueue.has_held.Goals as goal

pub returns : goal.returns
returns c =
    let ids = c.self.inside.ids.entries in
    rw (← c.self.view_is) (ap (λ n. ltb n c.len.result) c.self.invariant.counted ∙ (ap (λ n. ltb (unheld_count ids) n) c.len.ensures.len ∙ held_where_fewer ids))
