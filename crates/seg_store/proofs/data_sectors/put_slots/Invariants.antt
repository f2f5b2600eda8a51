use Rattle.std.proofs.Common.{◌≡◌, ◌+◌, ◌*◌, ◌≤◌, take, IsTrue}
use Rattle.tm_disk.specs.Disk.{Stays, Within, Follows}
use Rattle.seg_store.specs.DataSectors.{pieces_of, bytes_of_slots, MayPut, HasPut}
use Rattle.seg_store.proofs.data_sectors.put_slots.Given as goal

abbrev pub invariant-loop-number : goal.invariant-loop-number
invariant-loop-number g l =
    let old = g.D.Disk.state l.initial.disk in
    let now = g.D.Disk.state l.disk in
    record {
      stays : Stays old now;
      within : Within (MayPut l.first (pieces_of l.sectors (bytes_of_slots l.slots l.numbers))) old now;
      follows : Follows (MayPut l.first (pieces_of l.sectors (bytes_of_slots l.slots l.numbers))) old now;
      shown : IsTrue old.tells → HasPut l.first (pieces_of l.sectors (bytes_of_slots l.slots (take l.number-index l.numbers))) old.shown now.shown;
      faults : now.faults ≡ old.faults;
      writes : now.writes ≤ old.writes + l.number-index * l.sectors;
    }
