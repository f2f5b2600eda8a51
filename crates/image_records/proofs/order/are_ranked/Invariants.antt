use Rattle.std.proofs.Common.{◌≡◌, drop}
use Rattle.model_image.specs.Snapshot.{are_ranked}
use Rattle.image_records.proofs.order.are_ranked.Given as goal

abbrev pub invariant-loop-record : goal.invariant-loop-record
invariant-loop-record l = are_ranked l.least (drop l.record-index l.records) ≡ are_ranked l.initial.least l.records
