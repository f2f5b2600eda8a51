use Rattle.std.proofs.Common.{◌≡◌, take}
use Rattle.workload.specs.Counts.{counts_of, entries_of}
use Rattle.workload.proofs.counts.count_lives.Given as goal

abbrev pub invariant-loop-life : goal.invariant-loop-life
invariant-loop-life l = l.counts ≡ counts_of (entries_of (take l.life-index l.lives))
