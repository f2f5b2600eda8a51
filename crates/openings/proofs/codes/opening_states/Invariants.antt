use Rattle.std.proofs.Common.{◌≡◌, ◌++◌}
use Rattle.std.specs.Slice.Iter.{iter_rest}
use Rattle.std.specs.Iterator.Adapters.{zip_first, zip_second}
use Rattle.model_messages.specs.Queue.{free_count}
use Rattle.openings.specs.OpeningState.{opening_states}
use Rattle.openings.proofs.codes.opening_states.Given as goal

-- the states that were made, and those that are still to come
abbrev pub invariant-loop-code : goal.invariant-loop-code
invariant-loop-code l =
    l.states.items ++ opening_states (λ name. free_count name l.queues.queued) (iter_rest (zip_first l.code-iterator)) (iter_rest (zip_second l.code-iterator))
    ≡ opening_states (λ name. free_count name l.queues.queued) l.codes l.settings
