use Rattle.std.proofs.Common.{◌≡◌, ◌+◌, ◌-◌, IsTrue}
use Rattle.tm_disk.specs.Disk.{Keeps}
use Rattle.restart_data.specs.Snapshot.{bytes_and_then, parts_in, snapshot_in}
use Rattle.restart_data.specs.GatheredBytes.{so_far}
use Rattle.restart_data.proofs.snapshot.read_snapshot.Given as goal

abbrev pub invariant-loop-place : goal.invariant-loop-place
invariant-loop-place g l =
    record {
      keeps : Keeps (g.D.Disk.state l.initial.disk) (g.D.Disk.state l.disk);
      until_stop : (g.D.Disk.state l.disk).until_stop ≡ (g.D.Disk.state l.initial.disk).until_stop;
      faults : (g.D.Disk.state l.disk).faults ≡ (g.D.Disk.state l.initial.disk).faults;
      read : IsTrue (g.D.Disk.state l.initial.disk).tells → snapshot_in l.sectors (g.D.Disk.state l.initial.disk).shown l.first l.number ≡ bytes_and_then (so_far l.gathered) (parts_in (l.sectors - l.place) (g.D.Disk.state l.initial.disk).shown (l.first + l.place) l.number l.place);
    }
