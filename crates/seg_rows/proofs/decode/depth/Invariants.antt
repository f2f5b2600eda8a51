use Rattle.std.proofs.Common.{◌≡◌, ◌++◌, take, drop}
use Rattle.model_data.specs.RowsOfBytes.{down_to}
use Rattle.seg_rows.proofs.decode.depth.Given as goal

abbrev pub invariant-loop-i : goal.invariant-loop-i
invariant-loop-i l = take l.i l.path ++ down_to l.number (drop l.i l.path) ≡ down_to l.number l.path
