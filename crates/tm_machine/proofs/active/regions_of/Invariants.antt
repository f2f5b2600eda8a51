use Rattle.std.proofs.Common.{◌≡◌, ◌+◌, ◌++◌, drop}
use Rattle.model_machine.specs.CommandAnswers.{active_from}
use Rattle.tm_machine.proofs.active.regions_of.Given as goal

abbrev pub invariant-loop-place : goal.invariant-loop-place
invariant-loop-place l =
    l.regions ++ active_from l.parts.system.databases l.parts.moment.enqueues (l.place + 1) (drop l.place l.parts.moment.slots)
    ≡ active_from l.parts.system.databases l.parts.moment.enqueues 1 l.parts.moment.slots
