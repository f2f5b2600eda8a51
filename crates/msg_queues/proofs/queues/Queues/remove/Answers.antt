use Rattle.std.proofs.Common.{◌≡◌, ◌+◌, sym, ap, arith}
use Rattle.std.specs.Map.{values_of}
use Rattle.std.specs.Option.{option_map}
use Rattle.model_messages.specs.Queue.{without_id_queued}
use Rattle.msg_queues.specs.FreeMessages.{free_total, free_weight}
use Rattle.msg_queues.proofs.Free.{total_removed}
use Rattle.msg_queues.proofs.Indexed.{kept_removed}
use Rattle.msg_queues.proofs.queues.Queues.remove.Goals as goal

pub overflow_sub-self : goal.overflow_sub-self
overflow_sub-self c =
    let es = c.self.inside.messages.entries in
    let less : free_total (without_id_queued c.args.id (values_of es)) + free_weight c.in-Some.queued.holder ≡ free_total (values_of es) =
    total_removed c.args.id c.in-Some.queued es c.self.invariant.keyed.each c.self.invariant.keyed.ascending (sym c.in-Some.ensures.queued) in
    omega (arith, less, c.free_weight.ensures, c.self.invariant.free)

pub invariant_of-self : goal.invariant_of-self
invariant_of-self c =
    let es = c.self.inside.messages.entries in
    let less : free_total (without_id_queued c.args.id (values_of es)) + free_weight c.in-Some.queued.holder ≡ free_total (values_of es) =
    total_removed c.args.id c.in-Some.queued es c.self.invariant.keyed.each c.self.invariant.keyed.ascending (sym c.in-Some.ensures.queued) in
    kept_removed es c.remove.new.messages.entries c.self.inside.content c.self.inside.free c.self.inside.by_code.entries c.take.new.by_code.entries c.self.inside.by_terminal.entries c.take.new.by_terminal.entries
    c.self.invariant c.args.id c.counted_bytes.result c.in-Some.queued.message (ap (option_map (λ q. q.message)) c.in-Some.ensures.queued) c.remove.ensures.value c.remove.ensures.keyed c.take.ensures.code c.take.ensures.terminal
    c.in-Some.ensures.bytes c.counted_bytes.ensures
    _ (omega (arith, less, c.free_weight.ensures, c.self.invariant.free, ap free_total c.remove.ensures.value))
