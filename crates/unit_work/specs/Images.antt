-- The records in the slots of the databases, and how they are spelled.
use Rattle.std.specs.Prelude.{ℕ, ◌-◌, ◌<◌, ◌≤◌, List, [], length, slice_get, slice_index_or}
use Rattle.std.specs.Option.{option_map_or}
use Rattle.model_data.specs.declared.row.Row.{Row}
use Rattle.model_data.specs.Record.{rows_spelling}
use Rattle.seg_store.specs.Slots.{Stored}

-- the slots of the database of this number, counted from 1
abbrev pub slots_of_database : ℕ → List Stored → List (List Row)
slots_of_database database stores = option_map_or (λ s. s.slots) (slice_get stores (database - 1)) []

-- the rows in a slot, which are none where it is free or isn't there
abbrev pub image_at : ℕ → ℕ → List Stored → List Row
image_at database slot stores = slice_index_or (slots_of_database database stores) slot []

-- and the bytes that spell them
abbrev pub image_bytes_at : ℕ → ℕ → List Stored → List ℕ
image_bytes_at database slot stores = rows_spelling (image_at database slot stores)

-- the slot is there
pub record IsSlotOf (stores : List Stored) (database slot : ℕ) : Type 0 where
  pub least : 1 ≤ database
  pub within : slot < length (slots_of_database database stores)
