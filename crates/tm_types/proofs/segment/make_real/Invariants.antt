use Rattle.std.proofs.Common.{◌≡◌, ◌+◌, ◌++◌, [], length, replicate}
use Rattle.tm_types.proofs.segment.make_real.Given as goal

abbrev pub invariant-loop-more : goal.invariant-loop-more
invariant-loop-more l =
    (l.items.items ++ replicate l.more [] ≡ l.initial.items.items ++ replicate l.initial.more [])
    × (length l.items.items + l.more ≡ length l.initial.items.items + l.initial.more)

abbrev pub decreases-loop-more : goal.decreases-loop-more
decreases-loop-more l = l.more
