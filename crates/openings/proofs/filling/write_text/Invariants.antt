use Rattle.std.proofs.Common.{◌≡◌, ◌+◌, ◌≤◌, length, IsTrue}
use Rattle.tm_disk.specs.Disk.{Stays, Within, Follows, ChangesOnly}
use Rattle.openings.specs.ColdWrites.{Fills, text_sectors, text_sector}
use Rattle.openings.proofs.filling.write_text.Given as goal

abbrev pub invariant-loop-place : goal.invariant-loop-place
invariant-loop-place g l =
    let old = g.D.Disk.state l.initial.disk in
    let now = g.D.Disk.state l.disk in
    record {
      stays : Stays old now;
      within : Within (ChangesOnly 1 (text_sectors (length l.text))) old now;
      follows : Follows (ChangesOnly 1 (text_sectors (length l.text))) old now;
      shown : IsTrue old.tells → Fills (text_sector l.text) 1 l.place old.shown now.shown;
      faults : now.faults ≡ old.faults;
      writes : now.writes ≤ old.writes + l.place;
    }
