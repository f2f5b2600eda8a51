use Rattle.std.proofs.Common.{◌≡◌, ◌||◌, ℕ, drop}
use Rattle.std.specs.BTreeSet.{contains}
use Rattle.std.specs.List.{list_any}
use Rattle.std.specs.Ordering.{nat_cmp}
use Rattle.model_image.specs.Slots.{is_sync_point_of}
use Rattle.log_replay.proofs.synced.synced_units.Given as goal

-- a unit of which there is one so far or still to come
abbrev pub invariant-loop-record : goal.invariant-loop-record
invariant-loop-record l =
    (unit : ℕ) → contains nat_cmp l.units unit || list_any (is_sync_point_of unit) (drop l.record-index l.records) ≡ list_any (is_sync_point_of unit) l.records
