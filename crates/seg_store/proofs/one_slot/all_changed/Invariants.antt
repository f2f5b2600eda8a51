use Rattle.std.proofs.Common.{take}
use Rattle.std.specs.List.{AllByRecursion}
use Rattle.seg_store.specs.ChangedSlots.{Kept, AreChanged}
use Rattle.seg_store.proofs.one_slot.all_changed.Given as goal

abbrev pub invariant-loop-store : goal.invariant-loop-store
invariant-loop-store l = AllByRecursion (λ (k : Kept). AreChanged k.dbd.roots k.changed) (take l.store-index l.stores)
