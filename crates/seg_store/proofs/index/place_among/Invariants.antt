use Rattle.std.proofs.Common.{◌≡◌, ◌≤◌, ◌<◌, ◌-◌, ℕ, List, length, true, false, get_or}
use Rattle.std.specs.Ordering.{is_lt}
use Rattle.model_data.specs.Path.{key_cmp}
use Rattle.seg_store.proofs.index.place_among.Given as goal

abbrev pub invariant-loop-low : goal.invariant-loop-low
invariant-loop-low l =
    record {
      within : l.high ≤ length l.index;
      ordered : l.low ≤ l.high;
      front : (k : ℕ) (d : List ℕ × ℕ) → k < l.low → is_lt (key_cmp (get_or l.index k d).0 l.root) ≡ true;
      back : (k : ℕ) (d : List ℕ × ℕ) → l.high ≤ k → k < length l.index → is_lt (key_cmp (get_or l.index k d).0 l.root) ≡ false;
    }

abbrev pub decreases-loop-low : goal.decreases-loop-low
decreases-loop-low l = l.high - l.low
