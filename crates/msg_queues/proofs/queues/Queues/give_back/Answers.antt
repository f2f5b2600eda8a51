use Rattle.std.proofs.Common.{◌≡◌, ◌+◌, None, ap, arith}
use Rattle.std.specs.Map.{values_of}
use Rattle.model_messages.specs.Queue.{with_holder}
use Rattle.msg_queues.specs.FreeMessages.{free_total}
use Rattle.msg_queues.proofs.ById.{in_order}
use Rattle.msg_queues.proofs.Free.{one_more, total_few}
use Rattle.msg_queues.proofs.Indexed.{kept_held}
use Rattle.msg_queues.proofs.queues.Queues.give_back.Goals as goal

pub overflow_add-self : goal.overflow_add-self
overflow_add-self c =
    omega (arith, total_few (values_of c.self.inside.messages.entries), c.self.invariant.free, c.self.invariant.counted, c.self.invariant.small)

pub invariant_of-self : goal.invariant_of-self
invariant_of-self c =
    let es = c.self.inside.messages.entries in
    let more : free_total (with_holder c.args.id None (values_of es)) ≡ free_total (values_of es) + 1 = one_more c.args.id es c.self.invariant.keyed (rw (← c.self.view_is) at c.requires) in
    kept_held es c.set_holder.new.messages.entries c.self.inside.content c.self.inside.free c.self.inside.by_code.entries c.set_held.new.by_name.entries c.self.inside.by_terminal.entries c.self.inside.by_terminal.entries c.self.invariant
    c.args.id None c.in-Some.code c.set_holder.ensures.value c.set_holder.ensures.keyed c.in-Some.ensures.code c.set_held.ensures
    _ (omega (arith, more, c.self.invariant.free, ap free_total c.set_holder.ensures.value))

pub returns-clause-ordered : goal.returns-clause-ordered
returns-clause-ordered c = rw (← c.self.view_is) (in_order c.self.inside.messages.entries c.self.invariant.keyed)
