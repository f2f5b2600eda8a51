use Rattle.std.proofs.Common.{sym, subst}
use Rattle.std.specs.Prelude.{IsSome}
use Rattle.model_messages.specs.Queue.{queued_at}
use Rattle.lasting_state.specs.SentOutputs.{outputs_to_codes, switched_messages}
use Rattle.lasting_state.proofs.Finished.{finished_is, finished_new, found_below, still_found}
use Rattle.lasting_state.proofs.tables.Tables.finish.Goals as goal

pub remove-requires : goal.remove-requires
remove-requires c =
    subst (λ q. IsSome (queued_at c.args.id q.queued)) (sym c.in_ok-next.ensures.ok.queues)
    (still_found c.args.id (switched_messages c.in-Some.message.now.origin (outputs_to_codes c.self.inside.outputs c.args.outputs.items) c.self.inside.next_id) c.self.inside.queues.queued
    (rw (← c.self.view_is) at c.requires))

pub invariant_of-self-2 : goal.invariant_of-self-2
invariant_of-self-2 c =
    finished_new c.in-Some.message.now.origin c.args.outputs.items c.self.inside.queues c.send_all.new.queues c.remove.new.self c.self.inside.outputs c.send_all.new.terminals
    c.self.inside.next_id c.in_ok-next.next c.args.id c.self.invariant c.in_ok-next.ensures.ok c.remove.ensures

pub returns-clause-ok : goal.returns-clause-ok
returns-clause-ok c =
    rw (sym c.self.view_is)
    (finished_is (record { databases = c.self.inside.databases; queues = c.self.inside.queues; next_id = c.self.inside.next_id; terminals = c.self.inside.terminals.items; outputs = c.self.inside.outputs; conversations = c.self.inside.conversations; steps = c.self.inside.steps })
    c.send_all.new.queues c.remove.new.self c.send_all.new.terminals c.in_ok-next.next c.args.id c.args.outputs.items c.in-Some.message.now
    c.in-Some.ensures (found_below c.args.id c.self.inside.next_id c.self.inside.queues.queued c.self.invariant (rw (← c.self.view_is) at c.requires))
    c.in_ok-next.ensures.ok c.remove.ensures)
