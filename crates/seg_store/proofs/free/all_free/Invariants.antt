use Rattle.std.proofs.Common.{◌≡◌, ◌≤◌}
use Rattle.std.specs.Vec.{vec_len, vec_capacity}
use Rattle.seg_store.specs.Slots.{free_slots}
use Rattle.seg_store.specs.Store.{free_numbers}
use Rattle.seg_store.proofs.free.all_free.Given as goal

abbrev pub invariant-loop-slot : goal.invariant-loop-slot
invariant-loop-slot l =
    record {
      items : l.free.items ≡ free_numbers 0 (free_slots l.slot);
      len : vec_len l.free ≡ l.slot;
      room : l.roots ≤ vec_capacity l.free;
    }
