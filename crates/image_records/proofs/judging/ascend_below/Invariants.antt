use Rattle.std.proofs.Common.{◌≡◌, drop}
use Rattle.model_image.specs.States.{ascend_below}
use Rattle.image_records.proofs.judging.ascend_below.Given as goal

abbrev pub invariant-loop-place : goal.invariant-loop-place
invariant-loop-place l = ascend_below l.next (drop l.place l.messages) ≡ ascend_below l.next l.messages
