use Rattle.std.proofs.Common.{◌≤◌, ◌-◌, drop, length}
use Rattle.std.specs.List.{AllByRecursion}
use Rattle.checkpointing.specs.Touches.{touch_records, IsSpelled}
use Rattle.checkpointing.proofs.Adding.{Comes}
use Rattle.checkpointing.proofs.touches.append_unit.Given as goal

abbrev pub invariant-loop-slot : goal.invariant-loop-slot
invariant-loop-slot l =
    Comes (touch_records l.unit.number l.stores.stores (drop l.place l.unit.work.now.slots)) (touch_records l.unit.number l.stores.stores l.unit.work.now.slots) l.fn.out.items l.out.items
    × (l.place ≤ length l.unit.work.now.slots)
    × AllByRecursion (IsSpelled l.stores.stores) (drop l.place l.unit.work.now.slots)

abbrev pub decreases-loop-slot : goal.decreases-loop-slot
decreases-loop-slot l = length l.unit.work.now.slots - l.place
