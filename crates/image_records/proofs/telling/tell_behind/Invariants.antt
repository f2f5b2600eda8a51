use Rattle.std.proofs.Common.{◌≡◌, ◌++◌}
use Rattle.std.specs.Prelude.{filter}
use Rattle.std.specs.Vec.Iter.{into_iter_items}
use Rattle.model_image.specs.Snapshot.{with_records_told}
use Rattle.image_records.specs.ChangeRecords.{AreNamesKept, tells_change}
use Rattle.image_records.proofs.telling.tell_behind.Given as goal

abbrev pub invariant-loop-record : goal.invariant-loop-record
invariant-loop-record l =
    (AreNamesKept l.system l.lasting)
    × (with_records_told (into_iter_items l.record-iterator) l.lasting ≡ with_records_told l.fn.records.items l.fn.lasting)
    × (l.changes.items ++ filter tells_change (into_iter_items l.record-iterator) ≡ filter tells_change l.fn.records.items)
