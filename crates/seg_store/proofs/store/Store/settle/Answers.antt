use Rattle.std.proofs.Common.{arith}
use Rattle.seg_store.proofs.Changes.{changed_none}
use Rattle.seg_store.proofs.store.Store.settle.Goals as goal

pub invariant_of-self : goal.invariant_of-self
invariant_of-self c =
    record {
      indexed = c.self.invariant.indexed;
      changes = changed_none c.self.inside.dbd.roots c.clear.new.self.items c.clear.ensures.items;
      changed_enough = omega (arith, c.self.invariant.changed_enough, c.clear.ensures.capacity);
    }
