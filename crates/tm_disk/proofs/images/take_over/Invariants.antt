use Rattle.std.proofs.Common.{◌≡◌, ℕ, [], length, drop, get_or}
use Rattle.tm_disk.specs.Moments.{writes_to}
use Rattle.tm_disk.proofs.images.take_over.Given as goal

abbrev pub invariant-loop-place : goal.invariant-loop-place
invariant-loop-place l =
    record {
      size : length l.numbers.items ≡ length l.fn.numbers.items;
      others : (k : ℕ) → writes_to k (drop l.place l.writes.items) ≡ [] → get_or l.numbers.items k 0 ≡ get_or l.from k 0;
    }
