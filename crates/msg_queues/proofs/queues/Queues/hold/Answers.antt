use Rattle.std.proofs.Common.{◌≡◌, ◌+◌, Some, ap, arith}
use Rattle.std.specs.Map.{values_of}
use Rattle.model_messages.specs.Queue.{with_holder}
use Rattle.msg_queues.specs.FreeMessages.{free_total}
use Rattle.msg_queues.proofs.Free.{one_less}
use Rattle.msg_queues.proofs.Indexed.{kept_held}
use Rattle.msg_queues.proofs.queues.Queues.hold.Goals as goal

pub overflow_sub-self : goal.overflow_sub-self
overflow_sub-self c =
    omega (arith, one_less c.args.id c.self.inside.messages.entries c.self.invariant.keyed c.args.region (rw (← c.self.view_is) at c.requires), c.self.invariant.free)

pub invariant_of-self : goal.invariant_of-self
invariant_of-self c =
    let es = c.self.inside.messages.entries in
    let less : free_total (with_holder c.args.id (Some c.args.region) (values_of es)) + 1 ≡ free_total (values_of es) =
    one_less c.args.id es c.self.invariant.keyed c.args.region (rw (← c.self.view_is) at c.requires) in
    kept_held es c.set_holder.new.messages.entries c.self.inside.content c.self.inside.free c.self.inside.by_code.entries c.set_held.new.by_name.entries c.self.inside.by_terminal.entries c.self.inside.by_terminal.entries c.self.invariant
    c.args.id (Some c.args.region) c.in-Some.code c.set_holder.ensures.value c.set_holder.ensures.keyed c.in-Some.ensures.code c.set_held.ensures
    _ (omega (arith, less, c.self.invariant.free, ap free_total c.set_holder.ensures.value))
