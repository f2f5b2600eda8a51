use Rattle.std.proofs.Common.{ℕ, ◌<◌, ◌-◌, ◌∷◌, [], ◌++◌, length}
use Rattle.deadlock_pick.specs.Way.{HasNoneOf}
use Rattle.deadlock_pick.proofs.search.+search.Given as goal

abbrev pub decreases-search : goal.decreases-search
decreases-search l = 9 - length l.way

abbrev pub invariant-loop-next : goal.invariant-loop-next
invariant-loop-next l = (m : ℕ) → m < l.next → HasNoneOf l.table l.region (l.way ++ m ∷ [])
