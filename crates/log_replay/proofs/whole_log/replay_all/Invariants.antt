use Rattle.std.proofs.Common.{◌≡◌, length}
use Rattle.std.specs.Vec.Iter.{into_iter_items, into_iter_len}
use Rattle.log_replay.proofs.Done.{IsOn}
use Rattle.log_replay.proofs.whole_log.replay_all.Given as goal

abbrev pub invariant-loop-r : goal.invariant-loop-r
invariant-loop-r l =
    IsOn l.system l.fn.kept l.fn.records.items (into_iter_items l.r-iterator) l.working
    × (into_iter_len l.r-iterator ≡ length (into_iter_items l.r-iterator))
