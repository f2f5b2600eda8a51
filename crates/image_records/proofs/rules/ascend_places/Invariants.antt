use Rattle.std.proofs.Common.{◌≡◌, drop}
use Rattle.model_image.specs.Snapshot.{ascend_places}
use Rattle.image_records.proofs.rules.ascend_places.Given as goal

abbrev pub invariant-loop-place : goal.invariant-loop-place
invariant-loop-place l = ascend_places l.least (drop l.place-index l.places) ≡ ascend_places l.initial.least l.places
