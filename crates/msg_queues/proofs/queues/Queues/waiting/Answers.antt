use Rattle.std.proofs.Common.{ap, ◌∙◌}
use Rattle.std.specs.Map.{values_of}
use Rattle.msg_queues.specs.Places.{unheld_count}
use Rattle.msg_queues.proofs.Indexed.{count_is}
use Rattle.msg_queues.proofs.queues.Queues.waiting.Goals as goal

pub returns : goal.returns
returns c =
    rw (← c.self.view_is) (c.free_count.ensures ∙ (ap unheld_count (c.self.invariant.indexed c.args.code.now) ∙ count_is c.args.code.now (values_of c.self.inside.messages.entries)))
