-- What is read of slots one by one.
use Rattle.std.specs.Prelude.{◌≡◌, ℕ, ◌==◌, true, not, List, [], ◌∷◌, map, if◌then◌else◌, Option, Some, None, Result, Ok, Err}
use Rattle.std.specs.Option.{is_some, IfSome}
use Rattle.tm_types.specs.declared.dbd.Dbd.{Dbd}
use Rattle.model_data.specs.declared.row.Row.{Row}
use Rattle.model_image.specs.Slots.{SlotOnImage, Source, rows_of_bytes, bytes_from, wrong_from, wrong_in, spelled_in, is_no_record, first_wrong, first_no_record, slot_rows}
use Rattle.seg_store.specs.Slots.{IsSlot}
use Rattle.image_loading.specs.declared.fault.LoadFault.{LoadFault}
use Rattle.image_loading.specs.declared.fault.LoadFault.TheVariants as faults
use Rattle.image_loading.specs.declared.reading.SlotImages.{SlotImages}

-- What reading the sectors of a slot from a place on answers: the bytes that they spell, or the first wrong one.
abbrev pub TellsSectors : {A : Type 0} → Result A LoadFault → List (List ℕ) → ℕ → List ℕ → Type 0
TellsSectors (Ok done) sectors at bytes = (wrong_from true at sectors ≡ None) × (bytes ≡ spelled_in sectors)
TellsSectors (Err (faults.Bad rule sector)) sectors at bytes = (wrong_from true at sectors ≡ Some sector) × (rule ≡ 20)
TellsSectors (Err faults.Disk) sectors at bytes = Unit {0}
TellsSectors (Err faults.Memory) sectors at bytes = Unit {0}

-- the rows that a slot's bytes spell, where no sector of it is wrong
pub record IsSlotRows (dbd : Dbd) (source : Source) (at : ℕ) (rows : Option (List Row)) : Type 0 where
  pub right : wrong_in at source ≡ None
  pub none : is_no_record dbd source ≡ not (is_some rows)
  pub spelled : rows_of_bytes dbd (bytes_from source) ≡ rows

-- what reading a slot with this place answers
abbrev pub TellsSlot : Result (Option (List Row)) LoadFault → Dbd → Source → ℕ → Type 0
TellsSlot (Ok rows) dbd source at = IsSlotRows dbd source at rows
TellsSlot (Err (faults.Bad rule sector)) dbd source at = (wrong_in at source ≡ Some sector) × (rule ≡ 20)
TellsSlot (Err faults.Disk) dbd source at = Unit {0}
TellsSlot (Err faults.Memory) dbd source at = Unit {0}

-- rows that may stand in a slot, where there are any
abbrev pub MaySlot : Dbd → Option (List Row) → Type 0
MaySlot dbd rows = IfSome rows (IsSlot dbd)

-- what the first of the given slots is given, where it is the slot of this number
abbrev pub head_given : ℕ → List (ℕ × List ℕ) → Option (List ℕ)
head_given number [] = None
head_given number (slot ∷ slots) = if slot.0 == number then Some slot.1 else None

-- and the given slots behind it
abbrev pub given_behind : ℕ → List (ℕ × List ℕ) → List (ℕ × List ℕ)
given_behind number [] = []
given_behind number (slot ∷ slots) = if slot.0 == number then slots else slot ∷ slots

-- what reading all slots answers: the rows of each, and the first place of one whose bytes are no record
pub record AreRead (slots : List SlotOnImage) (images : SlotImages) : Type 0 where
  pub right : first_wrong slots ≡ None
  pub broken : images.broken ≡ first_no_record slots
  pub each : images.images.items ≡ map slot_rows slots

abbrev pub TellsRead : Result SlotImages LoadFault → List SlotOnImage → Type 0
TellsRead (Ok images) slots = AreRead slots images
TellsRead (Err (faults.Bad rule sector)) slots = (first_wrong slots ≡ Some sector) × (rule ≡ 20)
TellsRead (Err faults.Disk) slots = Unit {0}
TellsRead (Err faults.Memory) slots = Unit {0}
