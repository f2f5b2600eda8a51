use Rattle.std.proofs.Common.{◌≡◌, map, take}
use Rattle.seg_store.specs.Slots.{rows_of_slots}
use Rattle.openings.proofs.rows.rows_of.Given as goal

abbrev pub invariant-loop-store : goal.invariant-loop-store
invariant-loop-store l = l.rows.items ≡ map (λ store. rows_of_slots store.slots) (take l.store-index l.stores)
