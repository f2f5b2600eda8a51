use Rattle.std.proofs.Common.{arith, subst}
use Rattle.seg_store.specs.ChangedSlots.{Kept, AreChanged}
use Rattle.seg_store.proofs.Changes.{changed_few}
use Rattle.seg_store.proofs.store.Store.dirty.Goals as goal

pub overflow_cast-result : goal.overflow_cast-result
overflow_cast-result c =
    omega (arith, changed_few c.self.inside.dbd.roots c.self.inside.changed.items c.self.invariant.changes)

pub returns-clause-valid : goal.returns-clause-valid
returns-clause-valid c = subst (λ (s : Kept). AreChanged s.dbd.roots s.changed) c.self.view_is c.self.invariant.changes
