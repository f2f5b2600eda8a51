use Rattle.std.proofs.Common.{refl, ap, length}
use Rattle.model_data.specs.EnqueueRequests.{waits_for_nothing}
use Rattle.pi_enqueue.specs.Lists.{table_of_lists}
use Rattle.pi_enqueue.proofs.Keeping.{kept_lists, kept_waits_for_nothing, same_listed}
use Rattle.pi_enqueue.proofs.table.Table.stop_waiting.Goals as goal

pub invariant_of-self : goal.invariant_of-self
invariant_of-self c =
    let old = c.self.inside.lists in
    kept_lists old c.stop_waiting.new.self (waits_for_nothing c.args.region (table_of_lists old)) c.self.invariant c.stop_waiting.ensures.seen refl
    (kept_waits_for_nothing (table_of_lists old) c.args.region c.self.invariant.kept) (same_listed old c.stop_waiting.new.self c.self.invariant.listed c.stop_waiting.ensures.held c.stop_waiting.ensures.holds)
    (ap length c.stop_waiting.ensures.held)
