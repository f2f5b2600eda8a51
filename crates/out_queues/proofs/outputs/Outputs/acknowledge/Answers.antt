use Rattle.std.proofs.Common.{ap, ◌∙◌, arith}
use Rattle.std.proofs.lemmas.Grind.{common_steps}
use Rattle.model_messages.specs.Outputs.{with_terminal, without_first}
use Rattle.out_queues.proofs.Counted.{kept_removed}
use Rattle.out_queues.proofs.outputs.Outputs.acknowledge.Goals as goal

pub invariant_of-self : goal.invariant_of-self
invariant_of-self c =
    kept_removed c.args.terminal.now c.self.inside.terminals.items c.remove_first-bytes.new.terminals _ c.self.inside.content c.remove_first-bytes.result c.self.inside.highest c.self.invariant
    (c.remove_first-bytes.ensures.value ∙ ap (with_terminal c.args.terminal.now without_first) c.deref_mut.ensures.value)
    (grind (arith, common_steps)) (grind (arith, common_steps))
