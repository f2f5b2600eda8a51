-- What loading all databases answers.
use Rattle.std.specs.Prelude.{◌≡◌, List, [], ◌∷◌, map, Option, None, Some, Result, Ok, Err}
use Rattle.tm_types.specs.declared.dbd.Dbd.{Dbd}
use Rattle.tm_disk.specs.Disk.{DiskState, FailedSince}
use Rattle.image_loading.specs.declared.databases.Stopped.{Stopped}
use Rattle.image_loading.specs.declared.databases.Stopped.TheVariants as stopped
use Rattle.model_image.specs.Faults.{Fault}
use Rattle.model_image.specs.Slots.{SlotOnImage, slot_fault, slot_rows}
use Rattle.seg_store.specs.ChangedSlots.{Kept}
use Rattle.image_loading.specs.LoadedStore.{IsStoreMade}
use Rattle.image_loading.specs.declared.fault.LoadFault.{LoadFault}
use Rattle.image_loading.specs.declared.fault.LoadFault.TheVariants as faults

-- the stores that were loaded, and the lowest rule that is broken so far
pub record LoadedState : Type 0 where
  pub stores : List Kept
  pub broken : Option Fault

-- Each database has a store, of which no slot counts as changed.
abbrev pub AreAllMade : List Dbd → List Kept → Type 0
AreAllMade [] [] = Unit {0}
AreAllMade (dbd ∷ dbds) (store ∷ stores) = IsStoreMade dbd store × AreAllMade dbds stores
AreAllMade _ _ = ⊥

-- Each store has the record of each of its slots.
abbrev pub AreSlotted : List (List SlotOnImage) → List Kept → Type 0
AreSlotted [] [] = Unit {0}
AreSlotted (slots ∷ databases) (store ∷ stores) = (store.slots ≡ map slot_rows slots) × AreSlotted databases stores
AreSlotted _ _ = ⊥

-- What loading all databases answers, where there is memory and the disk doesn't fail: they break no rule, and each store
-- has the records of its slots; or the lowest rule that one breaks.
abbrev pub TellsLoaded : Result LoadedState LoadFault → List (List SlotOnImage) → Type 0
TellsLoaded (Ok loaded) databases = (slot_fault databases ≡ None) × AreSlotted databases loaded.stores
TellsLoaded (Err (faults.Bad rule sector)) databases = slot_fault databases ≡ Some (rule, sector)
TellsLoaded (Err faults.Disk) databases = Unit {0}
TellsLoaded (Err faults.Memory) databases = Unit {0}

-- The disk failed in the call exactly where that is told.
abbrev pub StopCause : {A : Type 0} → Result A Stopped → DiskState → DiskState → Type 0
StopCause (Ok value) old new = new.faults ≡ old.faults
StopCause (Err stopped.Disk) old new = FailedSince old new
StopCause (Err stopped.Memory) old new = new.faults ≡ old.faults
