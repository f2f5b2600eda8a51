use Rattle.std.proofs.Common.{◌≡◌, None, take, IsTrue}
use Rattle.tm_disk.specs.Disk.{Keeps}
use Rattle.model_system.specs.Areas.{data_first}
use Rattle.model_image.specs.Slots.{slot_fault}
use Rattle.image_loading.specs.Databases.{slots_of_databases}
use Rattle.image_loading.specs.LoadedStores.{AreAllMade, AreSlotted}
use Rattle.image_loading.proofs.databases.load_all.Given as goal

abbrev pub invariant-loop-place : goal.invariant-loop-place
invariant-loop-place g l =
    record {
      keeps : Keeps (g.D.Disk.state l.initial.disk) (g.D.Disk.state l.disk);
      faults : (g.D.Disk.state l.disk).faults ≡ (g.D.Disk.state l.initial.disk).faults;
      first : l.first ≡ data_first l.system l.place;
      made : l.loaded.broken ≡ None → AreAllMade (take l.place l.system.databases) l.loaded.stores;
      fault : IsTrue (g.D.Disk.state l.initial.disk).tells → l.loaded.broken ≡ slot_fault (take l.place (slots_of_databases l.system (g.D.Disk.state l.initial.disk).shown l.given 0 l.system.databases));
      slotted : IsTrue (g.D.Disk.state l.initial.disk).tells → l.loaded.broken ≡ None → AreSlotted (take l.place (slots_of_databases l.system (g.D.Disk.state l.initial.disk).shown l.given 0 l.system.databases)) l.loaded.stores;
    }
