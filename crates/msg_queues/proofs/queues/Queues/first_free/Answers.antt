use Rattle.std.proofs.Common.{ap, ◌∙◌}
use Rattle.std.specs.Map.{values_of}
use Rattle.msg_queues.specs.Places.{first_open}
use Rattle.msg_queues.proofs.ById.{in_order}
use Rattle.msg_queues.proofs.Indexed.{first_is}
use Rattle.msg_queues.proofs.queues.Queues.first_free.Goals as goal

pub returns-clause-value : goal.returns-clause-value
returns-clause-value c =
    rw (← c.self.view_is) (c.first_free.ensures ∙ (ap first_open (c.self.invariant.indexed c.args.code.now) ∙ first_is c.args.code.now (values_of c.self.inside.messages.entries)))

pub returns-clause-ordered : goal.returns-clause-ordered
returns-clause-ordered c = rw (← c.self.view_is) (in_order c.self.inside.messages.entries c.self.invariant.keyed)
