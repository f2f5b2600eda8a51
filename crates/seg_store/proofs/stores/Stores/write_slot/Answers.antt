use Rattle.std.proofs.Common.{◌≤◌, sym, subst}
use Rattle.std.specs.List.{AllByRecursion}
use Rattle.seg_store.specs.Slots.{Stored}
use Rattle.seg_store.specs.ChangedSlots.{AllStores}
use Rattle.seg_store.proofs.WritingBack.{sectors_seen}
use Rattle.seg_store.proofs.stores.Stores.write_slot.Goals as goal

pub write_of-requires-clause-sectors : goal.write_of-requires-clause-sectors
write_of-requires-clause-sectors g c =
    sectors_seen c.self.inside.items.items (subst (λ (a : AllStores). AllByRecursion (λ (s : Stored). s.dbd.sectors ≤ 8) a.stores) (sym c.self.view_is) c.requires.sectors)
