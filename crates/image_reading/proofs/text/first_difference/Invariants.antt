use Rattle.std.proofs.Common.{◌≡◌, drop}
use Rattle.model_image.specs.Text.{first_difference}
use Rattle.image_reading.proofs.Differing.{moved}
use Rattle.image_reading.proofs.text.first_difference.Given as goal

abbrev pub invariant-loop-place : goal.invariant-loop-place
invariant-loop-place l = first_difference l.text l.other ≡ moved l.place (first_difference (drop l.place l.text) (drop l.place l.other))
