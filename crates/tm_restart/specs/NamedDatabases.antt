-- What loading the databases of an image answers.
use Rattle.std.specs.Prelude.{◌≡◌, List, None, Some, Result, Ok, Err}
use Rattle.model_image.specs.Slots.{SlotOnImage, slot_fault}
use Rattle.image_loading.specs.declared.fault.LoadFault.{LoadFault}
use Rattle.image_loading.specs.declared.fault.LoadFault.TheVariants as faults
use Rattle.image_loading.specs.LoadedStores.{AreSlotted}
use Rattle.tm_restart.specs.declared.databases.Named.{Named}

-- They break no rule, and each store has the records of its slots; or the lowest rule that one breaks.
abbrev pub TellsNamed : Result Named LoadFault → List (List SlotOnImage) → Type 0
TellsNamed (Ok found) databases = (slot_fault databases ≡ None) × AreSlotted databases found.loaded.stores
TellsNamed (Err (faults.Bad rule sector)) databases = slot_fault databases ≡ Some (rule, sector)
TellsNamed (Err faults.Disk) databases = Unit {0}
TellsNamed (Err faults.Memory) databases = Unit {0}
