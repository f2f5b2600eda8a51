use Rattle.std.proofs.Common.{◌≡◌, drop}
use Rattle.log_replay.specs.ReplaySteps.{first_completed}
use Rattle.log_replay.proofs.steps.first_completed.Given as goal

abbrev pub invariant-loop-place : goal.invariant-loop-place
invariant-loop-place l = first_completed (drop l.place l.records) ≡ first_completed l.records
