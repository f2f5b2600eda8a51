use Rattle.std.proofs.Common.{◌≡◌, ◌≤◌, ◌+◌, ◌*◌, drop}
use Rattle.sysdef_rules.specs.DiskSizes as spec
use Rattle.sysdef_rules.proofs.sizes.data_sectors.Given as goal

abbrev pub invariant-loop-line : goal.invariant-loop-line
invariant-loop-line l = record {
  all : l.sectors + spec.data_sectors (drop l.line-index l.lines) ≡ spec.data_sectors l.lines;
  most : l.sectors ≤ 16711425 * l.line-index;
}
