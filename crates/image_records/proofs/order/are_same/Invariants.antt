use Rattle.std.proofs.Common.{◌≡◌, drop, length}
use Rattle.model_image.specs.Snapshot.{are_same}
use Rattle.image_records.proofs.order.are_same.Given as goal

abbrev pub invariant-loop-place : goal.invariant-loop-place
invariant-loop-place l = (length l.names ≡ length l.others) × (are_same (drop l.place l.names) (drop l.place l.others) ≡ are_same l.names l.others)
