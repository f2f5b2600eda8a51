use Rattle.std.proofs.Common.{◌≡◌, ◌*◌, ◌≤◌, IsTrue, length}
use Rattle.tm_disk.specs.Disk.{Keeps}
use Rattle.image_loading.proofs.SectorsRead.{AreReadTo}
use Rattle.image_loading.proofs.reading.read_sectors.Given as goal

abbrev pub invariant-loop-index : goal.invariant-loop-index
invariant-loop-index g l =
    let old = g.D.Disk.state l.initial.disk in
    let now = g.D.Disk.state l.disk in
    record {
      keeps : Keeps old now;
      until_stop : now.until_stop ≡ old.until_stop;
      faults : now.faults ≡ old.faults;
      short : length l.spelled ≤ 4000 * l.index;
      read : IsTrue old.tells → AreReadTo old.shown l.at l.sectors l.index l.full l.spelled;
    }
