use Rattle.std.proofs.Common.{◌≡◌, take}
use Rattle.tm_disk.specs.Sector.{zeros}
use Rattle.log_sectors.proofs.log_sector.all_zero.Given as goal

abbrev pub invariant-loop-byte : goal.invariant-loop-byte
invariant-loop-byte l = take l.byte-index l.bytes ≡ zeros l.byte-index
