-- What backing out needs, and what it leaves in the stores.
use Rattle.std.specs.Prelude.{◌≡◌, ℕ, ◌-◌, ◌≤◌, ◌⊎◌, Bool, true, ◌==◌, ◌&&◌, ◌||◌, not, List, [], ◌∷◌, Option, None, Some, if◌then◌else◌, length, suc, slice_get, slice_set}
use Rattle.std.specs.List.{AllByRecursion, list_any}
use Rattle.model_data.specs.declared.row.Row.{Row}
use Rattle.model_data.specs.Record.{IsRecord}
use Rattle.seg_store.specs.Slots.{Stored, has_root, is_slot_free, slot_of_root}
use Rattle.unit_work.specs.declared.change.Change.{Change}
use Rattle.unit_work.specs.Changes.{Pairs}

-- whether an image in a slot of this database is of a changed record
abbrev pub is_touched : List Change → ℕ → List Row → Bool
is_touched records db image = list_any (λ c. c.db == db && has_root c.root image) records

-- whether the change is of a record that was there, in this slot
abbrev pub was_in : ℕ → ℕ → Change → Bool
was_in db slot c = c.db == db && (c.slot == slot && not (is_slot_free c.before))

-- the image of a slot after backing out: that of the changed record that was in it, else none where
-- the record in it is a changed one, else the same as before
abbrev pub backed_slot : List Change → ℕ → ℕ → List Row → List Row
backed_slot [] db slot image = image
backed_slot (c ∷ records) db slot image = if was_in db slot c then c.before else backed_slot records db slot image

-- a slot without the changed records
abbrev pub cleared_slot : List Change → ℕ → List Row → List Row
cleared_slot records db image = if is_touched records db image then [] else image

-- the slots of a database from this number on
abbrev pub cleared_slots : List Change → ℕ → List (List Row) → List (List Row)
cleared_slots records db [] = []
cleared_slots records db (image ∷ slots) = cleared_slot records db image ∷ cleared_slots records db slots

abbrev pub backed_slots : List Change → ℕ → ℕ → List (List Row) → List (List Row)
backed_slots records db n [] = []
backed_slots records db n (image ∷ slots) = backed_slot records db n image ∷ backed_slots records db (suc n) slots

-- all stores from this number on: without the changed records, and with those that were there put back
abbrev pub cleared_from : List Change → ℕ → List Stored → List Stored
cleared_from records db [] = []
cleared_from records db (s ∷ stores) =
    record { dbd = s.dbd; slots = cleared_slots records db s.slots } ∷ cleared_from records (suc db) stores

abbrev pub backed_from : List Change → ℕ → List Stored → List Stored
backed_from records db [] = []
backed_from records db (s ∷ stores) =
    record { dbd = s.dbd; slots = backed_slots records db 0 s.slots } ∷ backed_from records (suc db) stores

-- the stores without the changed records
abbrev pub cleared : List Change → List Stored → List Stored
cleared records stores = cleared_from records 1 stores

-- the stores after backing out: the changed records are removed, and each one that was there is back
-- in its slot; all else stays
abbrev pub backed_out : List Change → List Stored → List Stored
backed_out records stores = backed_from records 1 (cleared records stores)

-- the database of the change is one of the stores
pub record IsStored (stores : List Stored) (c : Change) : Type 0 where
  pub least : 1 ≤ c.db
  pub most : c.db ≤ length stores

-- the record can go back into this store: it is a record of the database, its slot is free, and no
-- record has its root
pub record FitsStore (s : Stored) (c : Change) : Type 0 where
  pub valid : IsRecord s.dbd c.root c.before
  pub free : slice_get s.slots c.slot ≡ Some []
  pub new : slot_of_root c.root s.slots ≡ None

-- so in the store of its database
abbrev pub FitsOption : Option Stored → Change → Type 0
FitsOption None c = ⊥
FitsOption (Some s) c = FitsStore s c

-- the change is of a record that wasn't there, or it can go back
abbrev pub CanGoBack : List Stored → Change → Type 0
CanGoBack stores c = (c.before ≡ []) ⊎ FitsOption (slice_get stores (c.db - 1)) c

-- two records that were there were in different slots
abbrev pub AreInOtherSlots : Change → Change → Type 0
AreInOtherSlots c d = was_in c.db c.slot d ≡ true → c.before ≡ []

-- what backing out needs
pub record CanBackOut (records : List Change) (stores : List Stored) : Type 0 where
  pub stored : AllByRecursion (IsStored stores) records
  pub fits : AllByRecursion (CanGoBack (cleared records stores)) records
  pub apart : Pairs AreInOtherSlots records

-- one store with the record back in its slot, where it was there
abbrev pub with_image_back : Change → Stored → Stored
with_image_back c s = record { dbd = s.dbd; slots = if is_slot_free c.before then s.slots else slice_set s.slots c.slot c.before }

-- these stores with the record back
abbrev pub with_back : Change → Option Stored → List Stored → List Stored
with_back c None stores = stores
with_back c (Some s) stores = slice_set stores (c.db - 1) (with_image_back c s)

abbrev pub with_record_back : Change → List Stored → List Stored
with_record_back c stores = with_back c (slice_get stores (c.db - 1)) stores

-- whether backing out sets a slot in which this image stands: it is of a changed record, or one of them was there
abbrev pub backs : List Change → ℕ → ℕ → List Row → Bool
backs records db slot image = is_touched records db image || list_any (was_in db slot) records
