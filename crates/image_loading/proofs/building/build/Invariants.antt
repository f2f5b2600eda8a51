use Rattle.std.proofs.Common.{◌≡◌, ◌+◌, ◌*◌, ◌++◌, length, drop}
use Rattle.std.specs.List.{AllByRecursion}
use Rattle.seg_store.specs.Slots.{AreSlots, IsSlot, free_slots}
use Rattle.image_loading.specs.SharedRoots.{shared_at, apart}
use Rattle.image_loading.proofs.building.build.Given as goal

abbrev pub invariant-loop-image : goal.invariant-loop-image
invariant-loop-image l =
    let later = drop (length l.images.items) l.initial.images.items in
    record {
      whole : l.images.items ++ later ≡ l.initial.images.items;
      each : AllByRecursion (IsSlot l.dbd) l.images.items;
      slots : l.store.slots ≡ free_slots (length l.images.items) ++ apart later;
      found : l.found ≡ shared_at l.dbd.sectors (l.first + length l.images.items * l.dbd.sectors) later;
      valid : AreSlots l.store.dbd l.store.slots;
      database : l.store.dbd ≡ l.dbd;
    }

abbrev pub decreases-loop-image : goal.decreases-loop-image
decreases-loop-image l = length l.images.items
