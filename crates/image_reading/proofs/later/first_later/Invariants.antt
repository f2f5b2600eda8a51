use Rattle.std.proofs.Common.{◌≡◌, ◌+◌, ◌-◌, IsTrue}
use Rattle.tm_disk.specs.Disk.{Keeps}
use Rattle.model_image.specs.RecoveredState.{first_later}
use Rattle.image_reading.proofs.later.first_later.Given as goal

abbrev pub invariant-loop-place : goal.invariant-loop-place
invariant-loop-place g l =
    record {
      keeps : Keeps (g.D.Disk.state l.initial.disk) (g.D.Disk.state l.disk);
      faults : (g.D.Disk.state l.disk).faults ≡ (g.D.Disk.state l.initial.disk).faults;
      later : IsTrue (g.D.Disk.state l.initial.disk).tells → first_later l.count (g.D.Disk.state l.initial.disk).shown l.first l.epoch ≡ first_later (l.count - l.place) (g.D.Disk.state l.initial.disk).shown (l.first + l.place) l.epoch;
    }
