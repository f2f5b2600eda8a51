use Rattle.std.proofs.Common.{◌≡◌, ◌+◌, drop}
use Rattle.seg_store.specs.OneSlot.{lowest_from, lowest_changed}
use Rattle.seg_store.proofs.OneSlot.{marks}
use Rattle.seg_store.proofs.one_slot.lowest_of.Given as goal

abbrev pub invariant-loop-place : goal.invariant-loop-place
invariant-loop-place l = lowest_changed (marks l.stores.items) ≡ lowest_from (1 + l.place) (drop l.place (marks l.stores.items))
