-- What loading a database answers.
use Rattle.std.specs.Prelude.{◌≡◌, ℕ, ◌+◌, ◌*◌, ◌==◌, List, [], ◌∷◌, map, find, Option, Some, None, Result, Ok, Err}
use Rattle.std.specs.Option.{option_map}
use Rattle.tm_types.specs.declared.dbd.Dbd.{Dbd}
use Rattle.tm_disk.specs.Disk.{Image, DiskState, FailedSince}
use Rattle.model_data.specs.Rows.{Database}
use Rattle.model_image.specs.Slots.{SlotOnImage, source_of, sectors_from, slots_by, slot_fault, slot_rows}
use Rattle.seg_store.specs.Slots.{AreSlots}
use Rattle.seg_store.specs.ChangedSlots.{Kept}
use Rattle.image_loading.specs.declared.fault.LoadFault.{LoadFault}
use Rattle.image_loading.specs.declared.fault.LoadFault.TheVariants as faults

-- the bytes that a slot is given, if it is given any
abbrev pub given_to : ℕ → List (ℕ × List ℕ) → Option (List ℕ)
given_to number given = option_map (λ s. s.1) (find (λ s. s.0 == number) given)

-- a slot of a database: what it is given, or its sectors
abbrev pub slot_from : Image → Dbd → ℕ → List (ℕ × List ℕ) → ℕ → SlotOnImage
slot_from image dbd first given number = record {
  dbd = dbd;
  place = first + number * dbd.sectors;
  source = source_of (given_to number given) (sectors_from image (first + number * dbd.sectors) dbd.sectors);
}

-- all slots of a database
unfoldable pub image_slots_in : Image → Dbd → ℕ → List (ℕ × List ℕ) → List SlotOnImage
image_slots_in image dbd first given = slots_by (slot_from image dbd first given) dbd.roots 0

-- a store of a database, of which no slot counts as changed
pub record IsStoreMade (dbd : Dbd) (store : Kept) : Type 0 where
  pub database : store.dbd ≡ dbd
  pub valid : AreSlots store.dbd store.slots
  pub none_changed : store.changed ≡ []

-- these slots break no rule, and the store has the record of each
pub record AreLoaded (slots : List SlotOnImage) (store : Kept) : Type 0 where
  pub good : slot_fault (slots ∷ []) ≡ None
  pub each : store.slots ≡ map slot_rows slots

-- what loading these slots answers, where there is memory and the disk doesn't fail
abbrev pub TellsSlots : Result Kept LoadFault → List SlotOnImage → Type 0
TellsSlots (Ok store) slots = AreLoaded slots store
TellsSlots (Err (faults.Bad rule sector)) slots = slot_fault (slots ∷ []) ≡ Some (rule, sector)
TellsSlots (Err faults.Disk) slots = Unit {0}
TellsSlots (Err faults.Memory) slots = Unit {0}

-- the store of an answer that has its rows beside it
abbrev pub store_in : Result (Kept × Database) LoadFault → Result Kept LoadFault
store_in (Ok loaded) = Ok loaded.0
store_in (Err fault) = Err fault

-- The disk failed in the call exactly where that is told.
abbrev pub FaultCause : LoadFault → DiskState → DiskState → Type 0
FaultCause (faults.Bad rule sector) old new = new.faults ≡ old.faults
FaultCause faults.Disk old new = FailedSince old new
FaultCause faults.Memory old new = new.faults ≡ old.faults

abbrev pub LoadCause : {A : Type 0} → Result A LoadFault → DiskState → DiskState → Type 0
LoadCause (Ok loaded) old new = new.faults ≡ old.faults
LoadCause (Err fault) old new = FaultCause fault old new
