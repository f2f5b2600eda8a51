use Rattle.std.proofs.Common.{◌≡◌, take, IsTrue}
use Rattle.tm_disk.specs.Disk.{Stays, Within, Follows}
use Rattle.model_system.specs.Areas.{data_first}
use Rattle.seg_store.specs.DataSectors.{HasPut}
use Rattle.tm_restart.specs.GivenSlots.{given_from, MayPutAll, HasPutFront}
use Rattle.tm_restart.proofs.putting.put_all.Given as goal

abbrev pub invariant-loop-place : goal.invariant-loop-place
invariant-loop-place g l =
    record {
      stays : Stays (g.D.Disk.state l.initial.disk) (g.D.Disk.state l.disk);
      faults : (g.D.Disk.state l.disk).faults ≡ (g.D.Disk.state l.initial.disk).faults;
      first : l.first ≡ data_first l.system l.place;
      within : Within (MayPutAll l.system l.given) (g.D.Disk.state l.initial.disk) (g.D.Disk.state l.disk);
      follows : Follows (MayPutAll l.system l.given) (g.D.Disk.state l.initial.disk) (g.D.Disk.state l.disk);
      front : IsTrue (g.D.Disk.state l.initial.disk).tells → HasPut 0 (given_from l.system 0 (take l.place l.given)) (g.D.Disk.state l.initial.disk).shown (g.D.Disk.state l.disk).shown;
      shown : IsTrue (g.D.Disk.state l.initial.disk).tells → HasPutFront l.system l.given l.place (g.D.Disk.state l.initial.disk).shown (g.D.Disk.state l.disk).shown;
    }
