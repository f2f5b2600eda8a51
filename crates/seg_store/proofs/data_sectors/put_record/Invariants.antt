use Rattle.std.proofs.Common.{◌≡◌, ◌+◌, ◌≤◌, IsTrue}
use Rattle.tm_disk.specs.Disk.{Stays, Within, Follows}
use Rattle.seg_store.specs.DataSectors.{pieces_from, MayPut, HasPut}
use Rattle.seg_store.proofs.data_sectors.put_record.Given as goal

abbrev pub invariant-loop-place : goal.invariant-loop-place
invariant-loop-place g l =
    let old = g.D.Disk.state l.initial.disk in
    let now = g.D.Disk.state l.disk in
    record {
      stays : Stays old now;
      within : Within (MayPut l.at (pieces_from l.sectors 0 l.bytes)) old now;
      follows : Follows (MayPut l.at (pieces_from l.sectors 0 l.bytes)) old now;
      shown : IsTrue old.tells → HasPut l.at (pieces_from l.place 0 l.bytes) old.shown now.shown;
      faults : now.faults ≡ old.faults;
      writes : now.writes ≤ old.writes + l.place;
    }
