use Rattle.std.proofs.Common.{◌≡◌, ℕ, ◌<◌, length, take, drop, get_or}
use Rattle.tm_disk.specs.Moments.{writes_to}
use Rattle.tm_disk.proofs.images.count.Given as goal

abbrev pub invariant-loop-index : goal.invariant-loop-index
invariant-loop-index l =
    record {
      size : length l.counts.items ≡ length l.fn.counts.items;
      counts : (k : ℕ) → k < length l.fn.counts.items → get_or l.counts.items k 0 ≡ length (writes_to k (take l.index (drop l.settled l.writes.items)));
    }
