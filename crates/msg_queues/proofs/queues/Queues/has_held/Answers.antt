use Rattle.std.proofs.Common.{ap, ◌∙◌}
use Rattle.std.specs.Map.{values_of}
use Rattle.msg_queues.specs.Places.{any_held_id}
use Rattle.msg_queues.proofs.Indexed.{held_is}
use Rattle.msg_queues.proofs.queues.Queues.has_held.Goals as goal

pub returns : goal.returns
returns c =
    rw (← c.self.view_is) (c.has_held.ensures ∙ (ap any_held_id (c.self.invariant.indexed c.args.code.now) ∙ held_is c.args.code.now (values_of c.self.inside.messages.entries)))
