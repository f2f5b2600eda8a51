use Rattle.std.proofs.Common.{◌≡◌, drop}
use Rattle.model_machine.specs.Pick.{pick_among}
use Rattle.tran_pick.specs.RegionPick.{offered_in}
use Rattle.tran_pick.proofs.schedule.pick_among.Given as goal

-- the classes so far have no candidate
abbrev pub invariant-loop-class : goal.invariant-loop-class
invariant-loop-class l =
    pick_among (offered_in l.queues.queued) (drop l.class-index l.classes) l.codes l.states
    ≡ pick_among (offered_in l.queues.queued) l.classes l.codes l.states
