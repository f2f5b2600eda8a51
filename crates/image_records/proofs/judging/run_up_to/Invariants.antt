use Rattle.std.proofs.Common.{◌≡◌, drop}
use Rattle.model_image.specs.States.{run_up_to}
use Rattle.image_records.proofs.judging.run_up_to.Given as goal

abbrev pub invariant-loop-place : goal.invariant-loop-place
invariant-loop-place l = run_up_to l.next (drop l.place l.replies) ≡ run_up_to l.next l.replies
