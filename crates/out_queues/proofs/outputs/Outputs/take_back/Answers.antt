use Rattle.std.proofs.Common.{◌≤◌, ap, sym, subst, ◌∙◌, arith}
use Rattle.std.specs.Prelude.{IsSomeAnd}
use Rattle.std.proofs.lemmas.Grind.{common_steps}
use Rattle.model_messages.specs.Outputs.{with_terminal, without_last, replies_at}
use Rattle.out_queues.proofs.Counted.{kept_taken, next_given}
use Rattle.out_queues.proofs.outputs.Outputs.take_back.Goals as goal

pub remove_last-taken-requires-clause-next : goal.remove_last-taken-requires-clause-next
remove_last-taken-requires-clause-next c =
    subst (λ ts. IsSomeAnd (replies_at c.args.terminal.now ts) (λ t. 1 ≤ t.next)) (sym c.deref_mut.ensures.value)
    (next_given c.args.terminal.now c.self.inside.terminals.items c.self.invariant.numbered (rw c.self.view_is c.requires))

pub invariant_of-self : goal.invariant_of-self
invariant_of-self c =
    kept_taken c.args.terminal.now c.self.inside.terminals.items c.remove_last-taken.new.terminals _ c.self.inside.content c.remove_last-taken.result c.self.inside.highest c.self.invariant
    (c.remove_last-taken.ensures.value ∙ ap (with_terminal c.args.terminal.now without_last) c.deref_mut.ensures.value)
    (grind (arith, common_steps)) (grind (arith, common_steps))
