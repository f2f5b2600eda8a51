use Rattle.std.proofs.Common.{refl}
use Rattle.model_data.specs.EnqueueRequests.{released}
use Rattle.pi_enqueue.specs.Lists.{table_of_lists}
use Rattle.pi_enqueue.proofs.Keeping.{kept_lists, kept_released}
use Rattle.pi_enqueue.proofs.table.Table.release_all.Goals as goal

pub invariant_of-self : goal.invariant_of-self
invariant_of-self c =
    let old = c.self.inside.lists in
    kept_lists old c.release_all.new.self (released c.args.region (table_of_lists old)) c.self.invariant c.release_all.ensures.seen refl
    (kept_released (table_of_lists old) c.args.region c.self.invariant.kept) c.release_all.ensures.listed c.release_all.ensures.all
