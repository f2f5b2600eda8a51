use Rattle.std.proofs.Common.{◌≡◌, ◌+◌, take}
use Rattle.seg_store.specs.WrittenSlots.{kept_sectors}
use Rattle.seg_store.proofs.one_slot.area_first.Given as goal

abbrev pub invariant-loop-place : goal.invariant-loop-place
invariant-loop-place l = l.at ≡ l.first + kept_sectors (take l.place l.stores.items)
