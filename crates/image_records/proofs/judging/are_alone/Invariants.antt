use Rattle.std.proofs.Common.{◌≡◌, drop}
use Rattle.model_image.specs.States.{are_alone}
use Rattle.image_records.proofs.judging.are_alone.Given as goal

abbrev pub invariant-loop-place : goal.invariant-loop-place
invariant-loop-place l = are_alone (drop l.place l.messages) ≡ are_alone l.messages
