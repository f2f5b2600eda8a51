use Rattle.std.proofs.Common.{length, ap, arith}
use Rattle.seg_store.specs.ChangedSlots.{Kept}
use Rattle.seg_store.proofs.Changes.{changed_few}
use Rattle.seg_store.proofs.SlotsWritten.{small_product}
use Rattle.seg_store.proofs.store.Store.dirty_sectors.Goals as goal

pub overflow_mul-result : goal.overflow_mul-result
overflow_mul-result c =
    let few = changed_few c.self.inside.dbd.roots c.self.inside.changed.items c.self.invariant.changes in
    let seen = ap (λ (s : Kept). length s.changed) c.self.view_is in
    omega (arith, small_product c.dirty.result c.from.result (omega (arith, c.dirty.ensures, seen, few)) (omega (arith, c.from.ensures)))
