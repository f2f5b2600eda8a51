use Rattle.std.proofs.Common.{◌<◌, ◌^◌, ap, ◌∙◌, arith}
use Rattle.std.proofs.lemmas.Grind.{common_steps}
use Rattle.model_messages.specs.Outputs.{with_terminal, with_reply, replies_at, next_of}
use Rattle.out_queues.proofs.Counted.{kept_added, there_by}
use Rattle.out_queues.proofs.outputs.Outputs.add.Goals as goal

pub invariant_of-self : goal.invariant_of-self
invariant_of-self c =
    kept_added c.args.terminal.now c.args.segments c.self.inside.terminals.items c.add.new.terminals _ c.self.inside.content c.counted_bytes-bytes.result c.self.inside.highest _ c.in-Ok.number c.self.invariant
    (there_by (replies_at c.args.terminal.now c.self.inside.terminals.items) (λ t. t.next < 2 ^ 62) (rw c.self.view_is c.requires.number))
    (c.in-Ok.ensures.ok ∙ ap (with_terminal c.args.terminal.now (with_reply c.args.segments)) c.deref_mut.ensures.value) c.counted_bytes-bytes.ensures
    (omega (arith, c.self.invariant.counted, rw (← c.self.view_is) at c.requires.fits, c.counted_bytes-bytes.ensures)) (grind (arith, common_steps))
    (c.in-Ok.ensures.number ∙ ap (next_of c.args.terminal.now) c.deref_mut.ensures.value) (omega arith) (omega arith)
