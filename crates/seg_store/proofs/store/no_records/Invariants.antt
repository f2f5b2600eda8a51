use Rattle.std.proofs.Common.{◌≡◌}
use Rattle.seg_store.specs.Slots.{free_slots}
use Rattle.seg_store.proofs.store.no_records.Given as goal

abbrev pub invariant-loop : goal.invariant-loop
invariant-loop l = l.slots.items ≡ free_slots l.counter
