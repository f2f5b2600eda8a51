-- The slots of all databases, and the lowest rule that one of them breaks.
use Rattle.std.specs.Prelude.{◌≡◌, ℕ, ◌+◌, List, [], ◌∷◌, nat_le, if◌then◌else◌, Option, None, Some, IsTrue, slice_get}
use Rattle.std.specs.List.{AllByRecursion}
use Rattle.tm_types.specs.declared.dbd.Dbd.{Dbd}
use Rattle.tm_disk.specs.Disk.{Image}
use Rattle.model_system.specs.System.{System}
use Rattle.model_system.specs.Areas.{data_first}
use Rattle.model_image.specs.Faults.{Fault}
use Rattle.model_image.specs.Slots.{SlotOnImage, is_image}
use Rattle.image_loading.specs.LoadedStore.{image_slots_in}

-- the slots of the databases from one on, which has this place, each with those that are given bytes
abbrev pub slots_of_databases : System → Image → List (List (ℕ × List ℕ)) → ℕ → List Dbd → List (List SlotOnImage)
slots_of_databases system image [] place dbds = []
slots_of_databases system image (slots ∷ given) place [] = []
slots_of_databases system image (slots ∷ given) place (dbd ∷ dbds) = image_slots_in image dbd (data_first system place) slots ∷ slots_of_databases system image given (place + 1) dbds

-- the lower rule of two; of one rule the first
abbrev pub lower_fault : Fault → Fault → Fault
lower_fault one other = if nat_le one.0 other.0 then one else other

abbrev pub lowest_fault : Option Fault → Option Fault → Option Fault
lowest_fault None other = other
lowest_fault (Some one) None = Some one
lowest_fault (Some one) (Some other) = Some (lower_fault one other)

-- what each slot is given spells a record of its database or none
abbrev pub AreImages : System → List (List (ℕ × List ℕ)) → Type 0
AreImages system given =
    (place : ℕ) (dbd : Dbd) (slots : List (ℕ × List ℕ)) → slice_get system.databases place ≡ Some dbd → slice_get given place ≡ Some slots → AllByRecursion (λ s. IsTrue (is_image dbd s.1)) slots
