use Rattle.std.proofs.Common.{◌≡◌, ◌++◌}
use Rattle.seg_store.specs.Slots.{rows_of_slots}
use Rattle.row_search.specs.Walk.{rows_from_root, roots_left}
use Rattle.openings.proofs.rows.rows_in.Given as goal

-- what was copied, and the rows from the next root on
abbrev pub invariant-loop-next : goal.invariant-loop-next
invariant-loop-next l = l.rows.items ++ rows_from_root l.next (rows_of_slots l.store.slots) ≡ rows_of_slots l.store.slots

abbrev pub decreases-loop-next : goal.decreases-loop-next
decreases-loop-next l = roots_left l.next (rows_of_slots l.store.slots)
