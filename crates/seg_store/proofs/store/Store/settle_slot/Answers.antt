use Rattle.std.proofs.Common.{arith}
use Rattle.seg_store.proofs.Changes.{changed_without}
use Rattle.seg_store.proofs.store.Store.settle_slot.Goals as goal

pub invariant_of-self : goal.invariant_of-self
invariant_of-self c =
    record {
      indexed = c.self.invariant.indexed;
      changes = changed_without c.self.inside.dbd.roots c.self.inside.changed.items c.args.slot c.take_changed.new.changed.items c.self.invariant.changes c.take_changed.ensures.items;
      changed_enough = omega (arith, c.self.invariant.changed_enough, c.take_changed.ensures.room);
    }
