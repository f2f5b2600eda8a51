use Rattle.std.proofs.Common.{◌≡◌, ◌-◌, ◌≤◌, drop}
use Rattle.model_image.specs.Snapshot.{ascend}
use Rattle.image_records.proofs.order.ascend.Given as goal

abbrev pub invariant-loop-place : goal.invariant-loop-place
invariant-loop-place l = (1 ≤ l.place) × (ascend (drop (l.place - 1) l.records) ≡ ascend l.records)
