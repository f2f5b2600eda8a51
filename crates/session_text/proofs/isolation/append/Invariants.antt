use Rattle.std.proofs.Common.{◌≡◌, ◌++◌, take}
use Rattle.session_text.proofs.isolation.append.Given as goal

abbrev pub invariant-loop-region : goal.invariant-loop-region
invariant-loop-region l = l.cycle ≡ l.fn.cycle ++ take l.region-index l.regions
