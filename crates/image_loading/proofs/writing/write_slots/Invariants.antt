use Rattle.std.proofs.Common.{◌≡◌, ◌+◌, ◌*◌, ◌≤◌, take, IsTrue}
use Rattle.tm_disk.specs.Disk.{Stays, Within, Follows}
use Rattle.seg_store.specs.DataSectors.{MayPut, HasPut, pieces_of}
use Rattle.image_loading.proofs.writing.write_slots.Given as goal

abbrev pub invariant-loop-slot : goal.invariant-loop-slot
invariant-loop-slot g l =
    let old = g.D.Disk.state l.initial.disk in
    let now = g.D.Disk.state l.disk in
    record {
      stays : Stays old now;
      within : Within (MayPut l.first (pieces_of l.dbd.sectors l.given)) old now;
      follows : Follows (MayPut l.first (pieces_of l.dbd.sectors l.given)) old now;
      shown : IsTrue old.tells → HasPut l.first (pieces_of l.dbd.sectors (take l.slot-index l.given)) old.shown now.shown;
      faults : now.faults ≡ old.faults;
      writes : now.writes ≤ old.writes + l.slot-index * l.dbd.sectors;
    }
