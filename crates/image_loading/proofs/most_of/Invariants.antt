use Rattle.std.proofs.Common.{◌≡◌, drop}
use Rattle.model_system.specs.Areas.{most_sectors_from}
use Rattle.image_loading.proofs.most_of.Given as goal

abbrev pub invariant-loop-dbd : goal.invariant-loop-dbd
invariant-loop-dbd l = record {
  most : most_sectors_from l.most (drop l.dbd-index l.databases) ≡ most_sectors_from 1 l.databases;
}
