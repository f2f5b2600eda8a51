use Rattle.std.proofs.Common.{◌≡◌, ◌≤◌, drop}
use Rattle.seg_store.specs.Slots.{rows_of_slots}
use Rattle.image_loading.proofs.rows.all_rows.Given as goal

abbrev pub invariant-loop-number : goal.invariant-loop-number
invariant-loop-number l =
    record {
      rows : l.rows.rows ≡ rows_of_slots (drop l.number l.store.slots);
      database : l.rows.dbd ≡ l.dbd;
      within : l.number ≤ l.dbd.roots;
    }

abbrev pub decreases-loop-number : goal.decreases-loop-number
decreases-loop-number l = l.number
