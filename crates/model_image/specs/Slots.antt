-- The slots of the databases: which record speaks for each, and what else its sectors spell.
use Rattle.std.specs.Prelude.{ℕ, zero, suc, ◌+◌, ◌-◌, ◌*◌, Bool, true, false, not, ◌&&◌, ◌||◌, nat_lt, nat_le, ◌==◌, List, [], ◌∷◌, ◌++◌, length, take, drop, map, reverse, filter, find, slice_get, Option, Some, None, Result, if◌then◌else◌}
use Rattle.std.specs.Option.{is_some, option_map, option_or, unwrap_or}
use Rattle.std.specs.List.{list_any, flat_map}
use Rattle.tm_types.specs.declared.dbd.Dbd.{Dbd}
use Rattle.tm_types.specs.declared.dbd.SegType.{SegType}
use Rattle.tm_disk.specs.Disk.{Image, sector_at}
use Rattle.model_system.specs.System.{System}
use Rattle.model_data.specs.declared.row.Row.{Row}
use Rattle.model_data.specs.RowsOfBytes.{next_row}
use Rattle.model_data.specs.Record.{record_limit}
use Rattle.log_records.specs.declared.record.Record.{Record}
use Rattle.log_records.specs.declared.record.Record.TheVariants.{SyncPoint, Change}
use Rattle.restart_data.specs.Fields.{number2_at, are_zeros}
use Rattle.seg_store.specs.Slots.{is_slot_free, image_root, has_root, rows_of_slots}
use Rattle.model_system.specs.Areas.{data_first, slot_first, slot_size}
use Rattle.model_image.specs.Faults.{Fault, unless_fault}

-- ---- bytes and rows

-- a row that bytes begin with behind the byte of its type, and then the others
abbrev pub from_row : (List (ℕ × List ℕ) → List ℕ → Option (List Row)) → List ℕ → Option Row → Option (List Row)
from_row others bytes None = None
from_row others bytes (Some row) = option_map (λ rows. row ∷ rows) (others row.path (drop (length row.bytes) bytes))

-- the rows that bytes spell one after another, behind a row of this path: at most so many
abbrev pub rows_by : ℕ → List SegType → List (ℕ × List ℕ) → List ℕ → Option (List Row)
rows_by n types last [] = Some []
rows_by zero types last (byte ∷ bytes) = None
rows_by (suc n) types last (byte ∷ bytes) = from_row (rows_by n types) bytes (next_row types last (byte ∷ bytes))

-- the rows that a slot's bytes spell, of a record or of none
unfoldable pub rows_of_bytes : Dbd → List ℕ → Option (List Row)
rows_of_bytes dbd bytes = if nat_le (length bytes) (record_limit dbd) then rows_by (length bytes) dbd.types [] bytes else None

abbrev pub is_image : Dbd → List ℕ → Bool
is_image dbd bytes = is_some (rows_of_bytes dbd bytes)

-- a change is of a slot that is there, and both of its images spell a record or none
abbrev pub are_images : ℕ → List ℕ → List ℕ → Option Dbd → Bool
are_images slot before after None = false
are_images slot before after (Some dbd) = nat_lt slot dbd.roots && is_image dbd before && is_image dbd after

-- databases are numbered from 1
abbrev pub dbd_at : System → ℕ → Option Dbd
dbd_at system database = if database == 0 then None else slice_get system.databases (database - 1)

abbrev pub is_image_of : System → Record → Bool
is_image_of system (Change unit database slot before after) = are_images slot before after (dbd_at system database)
is_image_of system _ = true

-- ---- which record speaks for a slot

-- a change of a slot
abbrev pub is_change_of : ℕ → ℕ → Record → Bool
is_change_of database slot (Change unit d s before after) = (d == database) && (s == slot)
is_change_of database slot _ = false

-- the records have the sync point of this unit
abbrev pub is_sync_point_of : ℕ → Record → Bool
is_sync_point_of unit (SyncPoint u pad) = u == unit
is_sync_point_of unit _ = false

-- a change whose unit reached its sync point in this log
abbrev pub is_synced : List Record → Record → Bool
is_synced log (Change unit database slot before after) = list_any (is_sync_point_of unit) log
is_synced log _ = false

abbrev pub before_image : Record → List ℕ
before_image (Change unit database slot before after) = before
before_image _ = []

abbrev pub after_image : Record → List ℕ
after_image (Change unit database slot before after) = after
after_image _ = []

-- What the records of a snapshot and of the log behind it say of a slot: what the last change left whose unit
-- reached its sync point; else what stood there before the first; and nothing where there is no change of it.
unfoldable pub named_by : List Record → List Record → ℕ → ℕ → Option (List ℕ)
named_by snapshot log database slot =
    let changes = filter (is_change_of database slot) (snapshot ++ log) in
    option_or
    (option_map after_image (find (is_synced log) (reverse changes)))
    (option_map before_image (slice_get changes 0))

-- ---- what data sectors spell

-- how many bytes a sector says it holds, and those bytes
abbrev pub used_in : List ℕ → ℕ
used_in sector = number2_at 0 sector

abbrev pub payload_in : List ℕ → List ℕ
payload_in sector = take (used_in sector) (drop 2 sector)

-- what the sectors of a slot spell
abbrev pub spelled_in : List (List ℕ) → List ℕ
spelled_in sectors = flat_map payload_in sectors

-- A sector of a slot is wrong where it says that it holds more than 4,000 bytes, where other bytes than zeros stand
-- behind them, or where it holds some and not all before it are full.
abbrev pub is_wrong_sector : Bool → List ℕ → Bool
is_wrong_sector full sector =
    nat_lt 4000 (used_in sector) || not (are_zeros (drop (2 + used_in sector) sector)) || (not full && nat_lt 0 (used_in sector))

-- the place of the first wrong one, of sectors from a place on, all before being full or not
abbrev pub wrong_from : Bool → ℕ → List (List ℕ) → Option ℕ
wrong_from full at [] = None
wrong_from full at (sector ∷ sectors) =
    if is_wrong_sector full sector then Some at else wrong_from (full && (used_in sector == 4000)) (at + 1) sectors

-- ---- slots

-- so many sectors of an image, from one on
abbrev pub sectors_from : Image → ℕ → ℕ → List (List ℕ)
sectors_from image at zero = []
sectors_from image at (suc n) = sector_at image at ∷ sectors_from image (at + 1) n

-- the sectors of a slot of the database at a place
abbrev pub slot_at : System → Image → ℕ → ℕ → List (List ℕ)
slot_at system image place number = sectors_from image (slot_first system place number) (slot_size system place)

-- what a slot's bytes are taken from: the records that name it, or its sectors
pub data Source : Type 0 where
  Named : List ℕ → Source
  Spelled : List (List ℕ) → Source

abbrev pub source_of : Option (List ℕ) → List (List ℕ) → Source
source_of (Some bytes) sectors = Named bytes
source_of None sectors = Spelled sectors

-- a slot of a database as an image has it, with the place of its first sector
pub record SlotOnImage : Type 0 where
  pub dbd : Dbd
  pub place : ℕ
  pub source : Source

-- The sectors of a slot that a record names aren't looked at. 20: the first wrong one of the others.
abbrev pub wrong_in : ℕ → Source → Option ℕ
wrong_in at (Named bytes) = None
wrong_in at (Spelled sectors) = wrong_from true at sectors

abbrev pub wrong_sector : SlotOnImage → Option ℕ
wrong_sector slot = wrong_in slot.place slot.source

-- 21: no record
abbrev pub is_no_record : Dbd → Source → Bool
is_no_record dbd (Named bytes) = false
is_no_record dbd (Spelled sectors) = not (is_image dbd (spelled_in sectors))

abbrev pub has_no_record : SlotOnImage → Bool
has_no_record slot = is_no_record slot.dbd slot.source

-- the rows of a slot
abbrev pub bytes_from : Source → List ℕ
bytes_from (Named bytes) = bytes
bytes_from (Spelled sectors) = spelled_in sectors

abbrev pub slot_rows : SlotOnImage → List Row
slot_rows slot = unwrap_or (rows_of_bytes slot.dbd (bytes_from slot.source)) []

-- 22: a later slot has the same root
abbrev pub have_one_root : SlotOnImage → SlotOnImage → Bool
have_one_root slot other = not (is_slot_free (slot_rows slot)) && has_root (image_root (slot_rows slot)) (slot_rows other)

abbrev pub first_shared : List SlotOnImage → Option SlotOnImage
first_shared [] = None
first_shared (slot ∷ slots) = if list_any (have_one_root slot) slots then Some slot else first_shared slots

-- the slots of a database from one on, so many
abbrev pub slots_by : (ℕ → SlotOnImage) → ℕ → ℕ → List SlotOnImage
slots_by slot zero number = []
slots_by slot (suc n) number = slot number ∷ slots_by slot n (number + 1)

abbrev pub image_slot_in : Image → List Record → List Record → Dbd → ℕ → ℕ → ℕ → SlotOnImage
image_slot_in image snapshot log dbd first database number = record {
  dbd = dbd;
  place = first + number * dbd.sectors;
  source = source_of (named_by snapshot log database number) (sectors_from image (first + number * dbd.sectors) dbd.sectors);
}

-- the slots of the databases from one on, which has this place
unfoldable pub all_slots : System → Image → List Record → List Record → ℕ → List Dbd → List (List SlotOnImage)
all_slots system image snapshot log place [] = []
all_slots system image snapshot log place (dbd ∷ dbds) =
    slots_by (image_slot_in image snapshot log dbd (data_first system place) (place + 1)) dbd.roots 0 ∷ all_slots system image snapshot log (place + 1) dbds

-- where the first slot stands that breaks a rule
abbrev pub place_in : Option SlotOnImage → Option ℕ
place_in slot = option_map (λ s. s.place) slot

abbrev pub first_wrong : List SlotOnImage → Option ℕ
first_wrong [] = None
first_wrong (slot ∷ slots) = option_or (wrong_sector slot) (first_wrong slots)

abbrev pub first_no_record : List SlotOnImage → Option ℕ
first_no_record slots = place_in (find has_no_record slots)

abbrev pub first_doubled : List SlotOnImage → Option ℕ
first_doubled slots = place_in (first_shared slots)

abbrev pub first_in : (List SlotOnImage → Option ℕ) → List (List SlotOnImage) → Option ℕ
first_in place [] = None
first_in place (slots ∷ databases) = option_or (place slots) (first_in place databases)

abbrev pub fault_of : ℕ → Option ℕ → Option Fault
fault_of rule sector = option_map (λ at. (rule, at)) sector

-- The lowest rule that a slot breaks: of 20 the sector is the first wrong one, of the others the first of the slot.
abbrev pub slot_fault : List (List SlotOnImage) → Option Fault
slot_fault databases =
    option_or (fault_of 20 (first_in first_wrong databases))
    (option_or (fault_of 21 (first_in first_no_record databases))
    (fault_of 22 (first_in first_doubled databases)))

-- the rows of each database
abbrev pub rows_of_databases : List (List SlotOnImage) → List (List Row)
rows_of_databases databases = map (λ slots. rows_of_slots (map slot_rows slots)) databases

-- the rows of the databases of an image, unless a slot breaks a rule
abbrev pub image_rows_from : System → Image → List Record → List Record → Result (List (List Row)) Fault
image_rows_from system image snapshot log =
    let databases = all_slots system image snapshot log 0 system.databases in
    unless_fault (slot_fault databases) (rows_of_databases databases)
