-- What an image comes to, its databases with it.
use Rattle.std.specs.Prelude.{◌≡◌, map, Result, Ok, Err}
use Rattle.tm_disk.specs.Disk.{Image, DiskState, FailedSince}
use Rattle.model_system.specs.System.{System}
use Rattle.restart_data.specs.declared.restart.RestartSector.{RestartSector}
use Rattle.seg_store.specs.Slots.{rows_of_slots}
use Rattle.seg_store.specs.ChangedSlots.{stored}
use Rattle.model_image.specs.RecoveredState.{log_in, Recovers}
use Rattle.tm_restart.specs.LoadedStores.{AreStoresLoaded}
use Rattle.image_reading.specs.declared.fault.ReadFault.{ReadFault}
use Rattle.image_reading.specs.declared.fault.ReadFault.TheVariants as faults
use Rattle.tm_restart.specs.declared.looking.Looked.{Looked}
use Rattle.tm_restart.specs.ReplayedImage.{IsReplayed}

-- The image recovers to what its snapshot and its log come to, with the rows of its databases.
pub record IsLooked (system : System) (image : Image) (restart : RestartSector) (looked : Looked) : Type 0 where
  pub replayed : IsReplayed system image restart looked.reread
  pub loaded : AreStoresLoaded system image replayed.snapshot (log_in system image restart).records (map stored looked.named.loaded.stores)
  pub recovers : Recovers system image (Ok (record replayed.lasting { rows = map (λ store. rows_of_slots store.slots) (map stored looked.named.loaded.stores) }))

abbrev pub TellsLook : System → RestartSector → Image → Result Looked ReadFault → Type 0
TellsLook system restart image (Ok looked) = IsLooked system image restart looked
TellsLook system restart image (Err (faults.Bad rule sector)) = Recovers system image (Err (rule, sector))
TellsLook system restart image (Err faults.Disk) = Unit {0}
TellsLook system restart image (Err faults.Memory) = Unit {0}

-- The disk failed in the call exactly where that is told.
abbrev pub LookCause : Result Looked ReadFault → DiskState → DiskState → Type 0
LookCause (Ok value) old new = new.faults ≡ old.faults
LookCause (Err (faults.Bad rule sector)) old new = new.faults ≡ old.faults
LookCause (Err faults.Disk) old new = FailedSince old new
LookCause (Err faults.Memory) old new = new.faults ≡ old.faults
