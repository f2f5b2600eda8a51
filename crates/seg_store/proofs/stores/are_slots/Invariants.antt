use Rattle.std.proofs.Common.{take}
use Rattle.std.specs.List.{AllByRecursion}
use Rattle.seg_store.specs.Slots.{AreSlots}
use Rattle.seg_store.specs.ChangedSlots.{Kept}
use Rattle.seg_store.proofs.stores.are_slots.Given as goal

abbrev pub invariant-loop-store : goal.invariant-loop-store
invariant-loop-store l = AllByRecursion (λ (k : Kept). AreSlots k.dbd k.slots) (take l.store-index l.stores)
