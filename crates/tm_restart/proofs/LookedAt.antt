-- What an image comes to, once its databases are loaded.
use Rattle.std.proofs.Common.{◌≡◌, ℕ, ◌*◌, true, map, refl, ap, Some, None, Ok, Err}
use Rattle.std.specs.Prelude.{Option, Decides}
use Rattle.std.specs.Option.{option_map}
use Rattle.tm_disk.specs.Disk.{Image}
use Rattle.model_system.specs.System.{System}
use Rattle.restart_data.specs.declared.restart.RestartSector.{RestartSector}
use Rattle.restart_data.specs.Restart.{restart_in}
use Rattle.seg_store.specs.Slots.{rows_of_slots}
use Rattle.seg_store.specs.ChangedSlots.{stored}
use Rattle.model_system.specs.Areas.{is_single, snapshot_area, log_first}
use Rattle.model_image.specs.CutRecords.{IsRecordCutOff}
use Rattle.model_image.specs.Faults.{Fault, unless_fault}
use Rattle.model_image.specs.Slots.{all_slots, slot_fault, rows_of_databases}
use Rattle.model_image.specs.RecoveredState.{log_in, first_later, Recovers}
use Rattle.image_loading.specs.LoadedStores.{AreAllMade, AreSlotted}
use Rattle.tm_restart.specs.declared.looking.Looked.{Looked}
use Rattle.tm_restart.specs.declared.replaying.Reread.{Reread}
use Rattle.tm_restart.specs.LookedImage.{IsLooked}
use Rattle.tm_restart.specs.ReplayedImage.{IsReplayed}
use Rattle.tm_restart.proofs.Judged.{bad_slot, bad_later, good_image}
use Rattle.tm_restart.proofs.Stores.{stores_loaded, rows_found}

module _ (system : System) (image : Image) (r : RestartSector) (is : restart_in (snapshot_area system) (is_single system) image ≡ Ok (Some r)) (looked : Looked) (rp : IsReplayed system image r looked.reread) where
  decides : Decides true (IsRecordCutOff (log_in system image r).rest)
  decides = (λ _. rp.cut_off, λ _. refl)

  pub look_good : AreAllMade system.databases looked.named.loaded.stores → AreSlotted (all_slots system image rp.snapshot (log_in system image r).records 0 system.databases) looked.named.loaded.stores
      → slot_fault (all_slots system image rp.snapshot (log_in system image r).records 0 system.databases) ≡ None → first_later (2 * system.logs) image (log_first system 0) r.epoch ≡ None → IsLooked system image r looked
  look_good made slotted none later = record {
    replayed = rp;
    loaded = stores_loaded system image rp.snapshot (log_in system image r).records looked.named.loaded.stores made slotted;
    recovers = good_image system image r is true decides rp.snapshot rp.has refl rp.lasting rp.replays (map (λ store. rows_of_slots store.slots) (map stored looked.named.loaded.stores))
        (rows_found system image rp.snapshot (log_in system image r).records looked.named.loaded.stores made slotted none) (ap (option_map (λ sector. (24, sector))) later);
  }

  pub look_later : (sector : ℕ) → AreAllMade system.databases looked.named.loaded.stores → AreSlotted (all_slots system image rp.snapshot (log_in system image r).records 0 system.databases) looked.named.loaded.stores
      → slot_fault (all_slots system image rp.snapshot (log_in system image r).records 0 system.databases) ≡ None → first_later (2 * system.logs) image (log_first system 0) r.epoch ≡ Some sector → Recovers system image (Err (24, sector))
  look_later sector made slotted none later =
      bad_later system image r is true decides rp.snapshot rp.has refl rp.lasting rp.replays (map (λ store. rows_of_slots store.slots) (map stored looked.named.loaded.stores))
      (rows_found system image rp.snapshot (log_in system image r).records looked.named.loaded.stores made slotted none) (24, sector) (ap (option_map (λ sector. (24, sector))) later)

pub look_bad : (system : System) (image : Image) (r : RestartSector) → restart_in (snapshot_area system) (is_single system) image ≡ Ok (Some r) → (reread : Reread) (rp : IsReplayed system image r reread) (fault : Fault) → slot_fault (all_slots system image rp.snapshot (log_in system image r).records 0 system.databases) ≡ Some fault → Recovers system image (Err fault)
look_bad system image r is reread rp fault bad =
    bad_slot system image r is true (λ _. rp.cut_off, λ _. refl) rp.snapshot rp.has refl rp.lasting rp.replays fault
    (ap (λ (o : Option Fault). unless_fault o (rows_of_databases (all_slots system image rp.snapshot (log_in system image r).records 0 system.databases))) bad)
