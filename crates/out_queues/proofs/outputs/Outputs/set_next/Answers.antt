use Rattle.std.proofs.Common.{ap, ◌∙◌, arith}
use Rattle.std.proofs.lemmas.Grind.{common_steps}
use Rattle.model_messages.specs.Outputs.{with_terminal, with_next}
use Rattle.out_queues.proofs.Counted.{kept_next}
use Rattle.out_queues.proofs.outputs.Outputs.set_next.Goals as goal

pub invariant_of-self : goal.invariant_of-self
invariant_of-self c =
    kept_next c.args.terminal.now c.args.number c.self.inside.terminals.items c.set_next.new.terminals _ c.self.inside.content c.self.inside.highest _ c.self.invariant (rw c.self.view_is c.requires.none_kept)
    (c.set_next.ensures ∙ ap (with_terminal c.args.terminal.now (with_next c.args.number)) c.deref_mut.ensures.value) (grind (arith, common_steps)) (omega arith) (omega arith)
