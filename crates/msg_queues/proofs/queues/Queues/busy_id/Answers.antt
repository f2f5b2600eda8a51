use Rattle.std.proofs.Common.{ap, ◌∙◌}
use Rattle.std.specs.Map.{values_of}
use Rattle.msg_queues.specs.Places.{first_open}
use Rattle.msg_queues.proofs.Indexed.{first_conversing}
use Rattle.msg_queues.proofs.queues.Queues.busy_id.Goals as goal

pub returns : goal.returns
returns c =
    rw (← c.self.view_is) (c.first_free.ensures ∙ (ap first_open (c.self.invariant.conversing c.args.terminal.now) ∙ first_conversing c.args.terminal.now (values_of c.self.inside.messages.entries)))
