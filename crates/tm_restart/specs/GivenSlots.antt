-- Slots that are given bytes, of each database.
use Rattle.std.specs.Prelude.{◌≡◌, ◌⊎◌, ℕ, ◌+◌, ◌*◌, ◌<◌, ◌≤◌, List, [], ◌∷◌, ◌++◌, length, slice_get, Some}
use Rattle.std.specs.List.{AllByRecursion}
use Rattle.std.specs.List.Sorted.{IsStrictlySortedBy}
use Rattle.std.specs.Map.{keys_of}
use Rattle.std.specs.Ordering.{nat_cmp}
use Rattle.tm_types.specs.declared.dbd.Dbd.{Dbd}
use Rattle.tm_disk.specs.Disk.{Image, sector_at}
use Rattle.model_system.specs.System.{System}
use Rattle.model_system.specs.Areas.{data_first, slot_size}
use Rattle.seg_store.specs.DataSectors.{slot_spelling, pieces_of, IsGivenAt}
use Rattle.seg_store.specs.WrittenSlots.{behind}
use Rattle.model_image.specs.Slots.{slot_at}
use Rattle.image_loading.specs.LoadedStore.{given_to}

-- for each database, in their order, slots with the bytes of their records
abbrev pub GivenSlots : Type 0
GivenSlots = List (List (ℕ × List ℕ))

-- the pieces of all that is given, from the database at a place on, each with its place on the disk
abbrev pub given_from : System → ℕ → GivenSlots → List (ℕ × List ℕ)
given_from system place [] = []
given_from system place (slots ∷ given) = behind (data_first system place) (pieces_of (slot_size system place) slots) ++ given_from system (place + 1) given

abbrev pub all_pieces : System → GivenSlots → List (ℕ × List ℕ)
all_pieces system given = given_from system 0 given

-- Slots of a database in ascending order, each with bytes that its sectors have room for.
pub record AreSlotsOf (dbd : Dbd) (slots : List (ℕ × List ℕ)) : Type 0 where
  pub ascending : IsStrictlySortedBy nat_cmp (keys_of slots)
  pub within : AllByRecursion (λ s. s.0 < dbd.roots) slots
  pub fits : AllByRecursion (λ s. length s.1 ≤ 4000 * dbd.sectors) slots

-- There are such slots for each database of the system.
pub record AreGiven (system : System) (given : GivenSlots) : Type 0 where
  pub count : length given ≡ length system.databases
  pub each : (place : ℕ) (dbd : Dbd) (slots : List (ℕ × List ℕ)) → slice_get system.databases place ≡ Some dbd → slice_get given place ≡ Some slots → AreSlotsOf dbd slots

-- This sector is one that is given, and stands so.
pub record IsGiven (system : System) (given : GivenSlots) (k : ℕ) (sector : List ℕ) : Type 0 where
  pub place : ℕ
  pub slots : List (ℕ × List ℕ)
  pub found : slice_get given place ≡ Some slots
  pub is : IsGivenAt (data_first system place) (pieces_of (slot_size system place) slots) k sector

-- Each sector is as it was, or as it is given.
pub record MayPutAll (system : System) (given : GivenSlots) (before after : Image) : Type 0 where
  pub size : length after ≡ length before
  pub each : (k : ℕ) → (sector_at after k ≡ sector_at before k) ⊎ IsGiven system given k (sector_at after k)

-- The sectors of the slots of the first databases, so many, are as they are given; all others are as before, or so, too.
pub record HasPutFront (system : System) (given : GivenSlots) (count : ℕ) (before after : Image) : Type 0 where
  pub may : MayPutAll system given before after
  pub holds : (place number : ℕ) (slots : List (ℕ × List ℕ)) (bytes : List ℕ) → place < count → slice_get given place ≡ Some slots → given_to number slots ≡ Some bytes
      → slot_at system after place number ≡ slot_spelling (slot_size system place) bytes

-- All slots that are given stand so, and all other sectors are as before.
abbrev pub HasPutAll : System → GivenSlots → Image → Image → Type 0
HasPutAll system given before after = HasPutFront system given (length system.databases) before after
