use Rattle.std.proofs.Common.{◌≡◌, take}
use Rattle.seg_store.proofs.stores.copy_stores.Given as goal

abbrev pub invariant-loop-store : goal.invariant-loop-store
invariant-loop-store l = l.copy.items ≡ take l.store-index l.stores
