use Rattle.std.proofs.Common.{◌≡◌, ◌≤◌, length, take}
use Rattle.workload.specs.Counts.{plus, counts_of}
use Rattle.workload.proofs.counts.with_history.Given as goal

abbrev pub invariant-loop-place : goal.invariant-loop-place
invariant-loop-place l = record {
  counts : l.counts ≡ plus l.fn.before (counts_of (take l.place l.history));
  within : l.place ≤ length l.history;
}
