use Rattle.std.proofs.Common.{◌∙◌, ap, nat_lt}
use Rattle.std.specs.Map.{values_of}
use Rattle.msg_queues.proofs.Free.{any_is}
use Rattle.msg_queues.proofs.queues.Queues.has_free.Goals as goal

pub returns : goal.returns
returns c = rw (← c.self.view_is) (ap (nat_lt 0) c.self.invariant.free ∙ any_is (values_of c.self.inside.messages.entries))
