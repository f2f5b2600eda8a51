use Rattle.std.proofs.Common.{◌≡◌, take}
use Rattle.seg_store.specs.ChangedSlots.{all_stores}
use Rattle.seg_store.specs.Stores.{empty_stores, no_changed}
use Rattle.seg_store.proofs.stores.Stores.empty.Given as goal

abbrev pub invariant-loop-dbd : goal.invariant-loop-dbd
invariant-loop-dbd l =
    record {
      stores : (all_stores l.items.items).stores ≡ empty_stores (take l.dbd-index l.dbds);
      changed : (all_stores l.items.items).changed ≡ no_changed (take l.dbd-index l.dbds);
    }
