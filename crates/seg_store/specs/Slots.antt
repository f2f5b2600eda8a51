-- The records of a database by slots: one image a slot, and a slot without rows is free.
use Rattle.std.specs.Prelude.{◌≡◌, ℕ, Bool, true, false, List, [], ◌∷◌, Option, None, Some, if◌then◌else◌, length, IsTrue, slice_set, ◌⊎◌, suc, map}
use lib.ListN.{replicate}
use Rattle.std.specs.Option.{option_map}
use Rattle.std.specs.List.{AllByRecursion}
use Rattle.std.specs.Ordering.{is_eq}
use Rattle.tm_types.specs.declared.dbd.Dbd.{Dbd}
use Rattle.tm_types.specs.SegTypes.{IsHierarchy}
use Rattle.model_data.specs.declared.row.Row.{Row}
use Rattle.model_data.specs.Path.{key_cmp, root_of}
use Rattle.model_data.specs.Record.{IsRecord}
use Rattle.model_data.specs.Rows.{with_record}

-- a database with its slots
pub record Stored : Type 0 where
  pub dbd : Dbd
  pub slots : List (List Row)

-- the root key of a record's image
abbrev pub image_root : List Row → List ℕ
image_root [] = []
image_root (row ∷ rows) = root_of row.path

-- whether the image is of a record with this root
abbrev pub has_root : List ℕ → List Row → Bool
has_root root [] = false
has_root root (row ∷ rows) = is_eq (key_cmp root (root_of row.path))

-- whether a slot with this image is free
abbrev pub is_slot_free : List Row → Bool
is_slot_free [] = true
is_slot_free (row ∷ rows) = false

-- the first place whose element passes
abbrev pub place_of : {A : Type 0} → (A → Bool) → List A → Option ℕ
place_of test [] = None
place_of test (x ∷ xs) = if test x then Some 0 else option_map (λ n. suc n) (place_of test xs)

-- at most one element passes
abbrev pub AtMostOne : {A : Type 0} → (A → Bool) → List A → Type 0
AtMostOne test [] = Unit {0}
AtMostOne test (x ∷ xs) = (IsTrue (test x) → place_of test xs ≡ None) × AtMostOne test xs

-- the slot of the record with this root
abbrev pub slot_of_root : List ℕ → List (List Row) → Option ℕ
slot_of_root root slots = place_of (has_root root) slots

-- the lowest free slot
abbrev pub lowest_free : List (List Row) → Option ℕ
lowest_free slots = place_of is_slot_free slots

-- the first of two options that is there
abbrev pub first_slot_of : Option ℕ → Option ℕ → Option ℕ
first_slot_of None other = other
first_slot_of (Some n) other = Some n

-- the slot of the record with this root, or else the lowest free one, which a new record takes
abbrev pub slot_for : List ℕ → List (List Row) → Option ℕ
slot_for root slots = first_slot_of (slot_of_root root slots) (lowest_free slots)

-- the slots with this image in one of them, if there is one
abbrev pub with_image : Option ℕ → List Row → List (List Row) → List (List Row)
with_image None image slots = slots
with_image (Some slot) image slots = slice_set slots slot image

-- the slots with this image in place of the record of the root, all others staying
abbrev pub with_root : List ℕ → List Row → List (List Row) → List (List Row)
with_root root image slots = with_image (slot_for root slots) image slots

-- these rows with one more record
abbrev pub with_rows : List Row → List Row → List Row
with_rows [] rows = rows
with_rows (row ∷ image) rows = with_record (root_of row.path) (row ∷ image) rows

-- the rows of the records in all slots, each record at the place that its root has in the order
abbrev pub rows_of_slots : List (List Row) → List Row
rows_of_slots [] = []
rows_of_slots (image ∷ slots) = with_rows image (rows_of_slots slots)

-- what a slot may have: no rows, or a record of the database
abbrev pub IsSlot : Dbd → List Row → Type 0
IsSlot dbd image = (image ≡ []) ⊎ IsRecord dbd (image_root image) image

-- the slots of a database: as many as it may have roots, and of each root at most one record
pub record AreSlots (dbd : Dbd) (slots : List (List Row)) : Type 0 where
  pub types : IsHierarchy dbd.types
  pub count : length slots ≡ dbd.roots
  pub each : AllByRecursion (IsSlot dbd) slots
  pub apart : (root : List ℕ) → AtMostOne (has_root root) slots

-- so many free slots
abbrev pub free_slots : ℕ → List (List Row)
free_slots n = replicate n []

-- the slots without the record of this root, all others staying
abbrev pub without_root : List ℕ → List (List Row) → List (List Row)
without_root root slots = map (λ image. if has_root root image then [] else image) slots
