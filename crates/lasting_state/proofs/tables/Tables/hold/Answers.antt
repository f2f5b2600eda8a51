use Rattle.std.proofs.Common.{sym, ap, subst}
use Rattle.std.specs.Prelude.{Some}
use Rattle.model_messages.specs.Queue.{IsNewId}
use Rattle.model_messages.proofs.Laws.{new_id_held}
use Rattle.lasting_state.proofs.tables.Tables.hold.Goals as goal

pub invariant_of-self : goal.invariant_of-self
invariant_of-self c =
    subst (λ qs. IsNewId c.self.inside.next_id qs) (sym (ap (λ q. q.queued) c.hold.ensures))
    (new_id_held c.self.inside.next_id c.args.id (Some c.args.region) c.self.inside.queues.queued c.self.invariant)
