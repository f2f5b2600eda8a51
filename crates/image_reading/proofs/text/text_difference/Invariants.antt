use Rattle.std.proofs.Common.{◌≡◌, ◌-◌, ◌*◌, ◌≤◌, length, drop, min, IsTrue}
use Rattle.tm_disk.specs.Disk.{Keeps}
use Rattle.model_image.specs.Text.{text_in, first_difference}
use Rattle.image_reading.proofs.Differing.{moved}
use Rattle.image_reading.proofs.Pieces.{left_at}
use Rattle.image_reading.proofs.text.text_difference.Given as goal

abbrev pub invariant-loop-same : goal.invariant-loop-same
invariant-loop-same g l =
    record {
      keeps : Keeps (g.D.Disk.state l.initial.disk) (g.D.Disk.state l.disk);
      faults : (g.D.Disk.state l.disk).faults ≡ (g.D.Disk.state l.initial.disk).faults;
      begun : 1 ≤ l.at;
      place : l.same ≡ min (4096 * (l.at - 1)) l.size;
      long : l.same ≤ length l.text;
      value : IsTrue (g.D.Disk.state l.initial.disk).tells → first_difference l.text (text_in (g.D.Disk.state l.initial.disk).shown l.size) ≡ moved l.same (first_difference (drop l.same l.text) (left_at (g.D.Disk.state l.initial.disk).shown l.size l.at l.same));
    }

abbrev pub decreases-loop-same : goal.decreases-loop-same
decreases-loop-same g l = l.size - l.same
