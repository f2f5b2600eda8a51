use Rattle.std.proofs.Common.{◌≡◌, ℕ, ◌<◌, length, get_or}
use Rattle.tm_disk.proofs.images.clear.Given as goal

abbrev pub invariant-loop-count : goal.invariant-loop-count
invariant-loop-count l =
    record {
      size : length l.count-items ≡ length l.initial.count-items;
      zeros : (k : ℕ) → k < l.count-index → get_or l.count-items k 0 ≡ 0;
    }
