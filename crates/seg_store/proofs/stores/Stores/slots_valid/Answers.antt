use Rattle.std.proofs.Common.{subst}
use Rattle.std.specs.List.{AllByRecursion}
use Rattle.seg_store.specs.Slots.{Stored, AreSlots}
use Rattle.seg_store.specs.ChangedSlots.{Kept, AllStores}
use Rattle.seg_store.proofs.WritingBack.{valid_seen}
use Rattle.seg_store.proofs.stores.Stores.slots_valid.Goals as goal

pub returns : goal.returns
returns c =
    subst (λ (a : AllStores). AllByRecursion (λ (s : Stored). AreSlots s.dbd s.slots) a.stores) c.self.view_is
    (valid_seen c.self.inside.items.items (subst (AllByRecursion (λ (k : Kept). AreSlots k.dbd k.slots)) c.deref.ensures.value c.are_slots.ensures))
