use Rattle.std.proofs.Common.{◌≤◌, take}
use Rattle.std.specs.List.{AllByRecursion}
use Rattle.out_queues.proofs.table.highest_next.Given as goal

-- none of those so far is above it
abbrev pub invariant-loop-kept : goal.invariant-loop-kept
invariant-loop-kept l = AllByRecursion (λ t. t.next ≤ l.highest) (take l.kept-index l.terminals)
