use Rattle.std.proofs.Common.{◌≡◌, ◌+◌, ◌≤◌, take, IsTrue}
use Rattle.tm_disk.specs.Disk.{Stays, Within, Follows}
use Rattle.seg_store.specs.DataSectors.{MayPut, HasPut}
use Rattle.seg_store.specs.WrittenSlots.{kept_sectors, kept_changed, kept_bytes}
use Rattle.seg_store.proofs.write_back.write_all.Given as goal

abbrev pub invariant-loop-place : goal.invariant-loop-place
invariant-loop-place g l =
    let old = g.D.Disk.state l.initial.disk in
    let now = g.D.Disk.state l.disk in
    let kept = l.stores.items in
    record {
      at : l.at ≡ l.first + kept_sectors (take l.place kept);
      few : kept_changed (take l.place kept) ≤ kept_sectors (take l.place kept);
      count : l.count ≡ kept_changed (take l.place kept);
      stays : Stays old now;
      within : Within (MayPut l.first (kept_bytes 0 kept)) old now;
      follows : Follows (MayPut l.first (kept_bytes 0 kept)) old now;
      shown : IsTrue old.tells → HasPut l.first (kept_bytes 0 (take l.place kept)) old.shown now.shown;
      faults : now.faults ≡ old.faults;
      writes : now.writes ≤ old.writes + kept_changed (take l.place kept);
    }
