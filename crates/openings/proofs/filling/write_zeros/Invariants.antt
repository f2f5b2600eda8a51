use Rattle.std.proofs.Common.{◌≡◌, ◌+◌, ◌≤◌, IsTrue}
use Rattle.tm_disk.specs.Disk.{Stays, Within, Follows, ChangesOnly}
use Rattle.tm_disk.specs.Sector.{blank}
use Rattle.openings.specs.ColdWrites.{Fills}
use Rattle.openings.proofs.filling.write_zeros.Given as goal

abbrev pub invariant-loop-place : goal.invariant-loop-place
invariant-loop-place g l =
    let old = g.D.Disk.state l.initial.disk in
    let now = g.D.Disk.state l.disk in
    record {
      stays : Stays old now;
      within : Within (ChangesOnly l.first l.count) old now;
      follows : Follows (ChangesOnly l.first l.count) old now;
      shown : IsTrue old.tells → Fills (λ x. blank) l.first l.place old.shown now.shown;
      faults : now.faults ≡ old.faults;
      writes : now.writes ≤ old.writes + l.place;
    }
