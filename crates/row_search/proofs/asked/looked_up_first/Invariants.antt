-- so far each argument is looked up
use Rattle.std.proofs.Common.{◌≡◌, take, map, length}
use Rattle.row_search.specs.AskedArguments.{looked_up}
use Rattle.row_search.proofs.asked.looked_up_first.Given as goal

abbrev pub invariant-loop-place : goal.invariant-loop-place
invariant-loop-place l =
    record {
      eight : length l.first ≡ 8;
      each : take l.place l.first ≡ map (looked_up l.types) (take l.place l.ssas);
    }
