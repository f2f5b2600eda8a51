use Rattle.std.proofs.Common.{◌≡◌, ◌+◌, ◌≤◌, length, IsTrue}
use Rattle.tm_disk.specs.Disk.{Stays, Within, Follows, ChangesOnly}
use Rattle.restart_data.specs.Snapshot.{snapshot_sectors_of}
use Rattle.restart_data.proofs.Laying.{HoldsFront}
use Rattle.restart_data.proofs.snapshot.write_snapshot.Given as goal

abbrev pub invariant-loop-place : goal.invariant-loop-place
invariant-loop-place g l =
    record {
      stays : Stays (g.D.Disk.state l.initial.disk) (g.D.Disk.state l.disk);
      within : Within (ChangesOnly l.first (snapshot_sectors_of (length l.bytes))) (g.D.Disk.state l.initial.disk) (g.D.Disk.state l.disk);
      follows : Follows (ChangesOnly l.first (snapshot_sectors_of (length l.bytes))) (g.D.Disk.state l.initial.disk) (g.D.Disk.state l.disk);
      shown : IsTrue (g.D.Disk.state l.initial.disk).tells → HoldsFront l.first l.number l.bytes l.place (g.D.Disk.state l.initial.disk).shown (g.D.Disk.state l.disk).shown;
      faults : (g.D.Disk.state l.disk).faults ≡ (g.D.Disk.state l.initial.disk).faults;
      writes : (g.D.Disk.state l.disk).writes ≤ (g.D.Disk.state l.initial.disk).writes + l.place;
    }
