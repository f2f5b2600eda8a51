use Rattle.std.proofs.Common.{◌≡◌}
use Rattle.std.specs.Option.{IfSome}
use Rattle.std.specs.Slice.Iter.{iter_rest}
use Rattle.std.specs.Iterator.Adapters.{zip_first, zip_second}
use Rattle.model_machine.specs.Pick.{better, best_of}
use Rattle.tran_pick.specs.RegionPick.{IsFirstFree, offered_in}
use Rattle.tran_pick.proofs.schedule.best_of.Given as goal

-- the best so far, with the best of what is left, is the best of all; and its message is free
abbrev pub invariant-loop-code : goal.invariant-loop-code
invariant-loop-code l =
    (better l.best (best_of (offered_in l.queues.queued) l.class (iter_rest (zip_first l.code-iterator)) (iter_rest (zip_second l.code-iterator)))
    ≡ best_of (offered_in l.queues.queued) l.class l.codes l.states)
    × IfSome l.best (λ c. IsFirstFree l.queues.queued c.code c.id)
