use Rattle.std.proofs.Common.{◌≡◌, ◌+◌, drop}
use Rattle.model_machine.specs.CommandAnswers.{first_busy}
use Rattle.tm_machine.proofs.busy.busy_region.Given as goal

abbrev pub invariant-loop-place : goal.invariant-loop-place
invariant-loop-place l = first_busy 1 l.parts.moment.slots ≡ first_busy (l.place + 1) (drop l.place l.parts.moment.slots)
