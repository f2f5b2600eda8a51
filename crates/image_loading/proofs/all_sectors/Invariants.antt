use Rattle.std.proofs.Common.{◌≡◌, ◌*◌, ◌≤◌, take}
use Rattle.std.specs.List.{sum_by}
use Rattle.image_loading.proofs.all_sectors.Given as goal

abbrev pub invariant-loop-dbd : goal.invariant-loop-dbd
invariant-loop-dbd l = record {
  sum : l.sectors ≡ sum_by (λ dbd. dbd.roots * dbd.sectors) (take l.dbd-index l.databases);
  small : l.sectors ≤ 16711680 * l.dbd-index;
}
