use Rattle.std.proofs.Common.{◌≡◌, ◌≤◌, take}
use Rattle.std.specs.Prelude.{count_by, is_some}
use Rattle.region_work.proofs.region.count_busy.Given as goal

-- the regions so far are counted
abbrev pub invariant-loop-region : goal.invariant-loop-region
invariant-loop-region l = record {
  counted : l.busy ≡ count_by is_some (take l.region-index l.regions);
  few : l.busy ≤ l.region-index;
}
