use Rattle.std.proofs.Common.{◌≤◌, ◌<◌, ◌-◌, ℕ, length, get_or}
use Rattle.seg_store.proofs.free.place_among.Given as goal

abbrev pub invariant-loop-low : goal.invariant-loop-low
invariant-loop-low l =
    record {
      within : l.high ≤ length l.free;
      ordered : l.low ≤ l.high;
      front : (k d : ℕ) → k < l.low → get_or l.free k d < l.slot;
      back : (k d : ℕ) → l.high ≤ k → k < length l.free → l.slot ≤ get_or l.free k d;
    }

abbrev pub decreases-loop-low : goal.decreases-loop-low
decreases-loop-low l = l.high - l.low
