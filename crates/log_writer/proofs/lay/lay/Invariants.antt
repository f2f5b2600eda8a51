use Rattle.std.proofs.Common.{◌≡◌, ◌+◌, ◌≤◌, length, IsTrue}
use Rattle.tm_disk.specs.Disk.{Stays, Within, Follows}
use Rattle.log_writer.specs.ForcedLog.{log_sectors_of, log_pieces, Lays, HasLaid}
use Rattle.log_writer.proofs.lay.lay.Given as goal

abbrev pub invariant-loop-place : goal.invariant-loop-place
invariant-loop-place g l =
    let old = g.D.Disk.state l.initial.disk in
    let now = g.D.Disk.state l.disk in
    let payloads = log_pieces (log_sectors_of (length l.bytes)) l.bytes in
    record {
      stays : Stays old now;
      within : Within (Lays l.at l.sequence l.epoch payloads l.place) old now;
      follows : Follows (Lays l.at l.sequence l.epoch payloads l.place) old now;
      shown : IsTrue old.tells → HasLaid l.at l.sequence l.epoch payloads l.place old.shown now.shown;
      faults : now.faults ≡ old.faults;
      writes : now.writes ≤ old.writes + l.place;
    }
