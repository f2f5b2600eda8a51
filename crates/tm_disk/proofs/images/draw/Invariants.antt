use Rattle.std.proofs.Common.{◌≡◌, ◌++◌, length, take, drop}
use Rattle.tm_disk.specs.Moments.{digits}
use Rattle.tm_disk.proofs.images.draw.Given as goal

abbrev pub invariant-loop-count : goal.invariant-loop-count
invariant-loop-count l =
    record {
      size : length l.count-items ≡ length l.initial.count-items;
      digits_are : digits l.pick l.initial.count-items ≡ take l.count-index l.count-items ++ digits l.rest (drop l.count-index l.count-items);
    }
