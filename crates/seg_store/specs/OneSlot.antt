-- One slot among those of all databases: the lowest that was changed, and what writing it by itself leaves.
use Rattle.std.specs.Prelude.{◌≡◌, ℕ, ◌+◌, ◌-◌, ◌*◌, ◌<◌, ◌≤◌, ◌==◌, List, [], ◌∷◌, length, map, take, sum_by, slice_get, slice_set, slice_index_or, if◌then◌else◌, Option, None, Some}
use Rattle.std.specs.Option.{option_map_or}
use Rattle.seg_store.specs.declared.slot_place.SlotPlace.{SlotPlace}
use Rattle.seg_store.specs.Slots.{Stored}
use Rattle.seg_store.specs.ChangedSlots.{AllStores}
use Rattle.seg_store.specs.WrittenSlots.{sector_count}

-- the first changed slot of the first database that has one, where the numbers of the databases rise from this one on
abbrev pub lowest_from : ℕ → List (List ℕ) → Option SlotPlace
lowest_from db [] = None
lowest_from db ([] ∷ changed) = lowest_from (db + 1) changed
lowest_from db ((slot ∷ numbers) ∷ changed) = Some (record { db = db; slot = slot })

-- the lowest of all changed slots: its sectors stand in front of those of the others
abbrev pub lowest_changed : List (List ℕ) → Option SlotPlace
lowest_changed changed = lowest_from 1 changed

-- how many slots are changed
abbrev pub changed_count : List (List ℕ) → ℕ
changed_count changed = sum_by (length {A = ℕ}) changed

-- numbers without this one
abbrev pub without_number : ℕ → List ℕ → List ℕ
without_number n [] = []
without_number n (m ∷ numbers) = if m == n then without_number n numbers else m ∷ without_number n numbers

-- the changed slots without this one
abbrev pub without_slot : SlotPlace → List (List ℕ) → List (List ℕ)
without_slot place changed = slice_set changed (place.db - 1) (without_number place.slot (slice_index_or changed (place.db - 1) []))

-- this slot alone, in place of the changed ones
abbrev pub only_slot : SlotPlace → List (List ℕ) → List (List ℕ)
only_slot place changed = slice_set (map (λ numbers. []) changed) (place.db - 1) (place.slot ∷ [])

-- the stores with this slot alone changed
abbrev pub only_changed : SlotPlace → AllStores → AllStores
only_changed place all = record all { changed = only_slot place all.changed }

-- the stores with this slot not changed since it was written
abbrev pub one_written : SlotPlace → AllStores → AllStores
one_written place all = record all { changed = without_slot place all.changed }

-- how many sectors the slot has
abbrev pub slot_sectors_at : SlotPlace → List Stored → ℕ
slot_sectors_at place stores = option_map_or (λ s. s.dbd.sectors) (slice_get stores (place.db - 1)) 0

-- the first of them, where the slots of the databases stand one behind the other from this sector on
abbrev pub slot_sector : ℕ → SlotPlace → List Stored → ℕ
slot_sector first place stores = first + sector_count (take (place.db - 1) stores) + place.slot * slot_sectors_at place stores

-- the slot is there
pub record IsSlotPlace (place : SlotPlace) (stores : List Stored) : Type 0 where
  pub least : 1 ≤ place.db
  pub store : Stored
  pub found : slice_get stores (place.db - 1) ≡ Some store
  pub below : place.slot < store.dbd.roots

-- the slot counts as changed
pub record IsMarked (place : SlotPlace) (changed : List (List ℕ)) : Type 0 where
  pub numbers : List ℕ
  pub found : slice_get changed (place.db - 1) ≡ Some numbers
  pub index : ℕ
  pub listed : slice_get numbers index ≡ Some place.slot
