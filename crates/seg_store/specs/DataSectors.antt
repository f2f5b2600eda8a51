-- The data sectors of a database: how a record's bytes are spelled, and what writing some of them leaves.
use Rattle.std.specs.Prelude.{◌≡◌, ◌⊎◌, ℕ, zero, suc, ◌+◌, ◌-◌, ◌*◌, ◌==◌, List, [], ◌∷◌, ◌++◌, length, map, take, drop, slice_index_or, if◌then◌else◌, Option, None, Some}
use Rattle.std.specs.List.{flat_map}
use Rattle.std.specs.Option.{option_or, unwrap_or}
use Rattle.std.specs.Int.{w16, to_be_bytes}
use Rattle.tm_disk.specs.Disk.{Image, sector_at}
use Rattle.tm_disk.specs.Sector.{zeros}
use Rattle.model_data.specs.declared.row.Row.{Row}
use Rattle.model_data.specs.Record.{rows_spelling}

-- a sector with these bytes of a record, of which there are at most 4,000: how many they are, the bytes, and zeros to
-- the end; no record has no bytes
unfoldable pub data_sector : List ℕ → List ℕ
data_sector bytes = to_be_bytes w16 (length bytes) ++ bytes ++ zeros (4094 - length bytes)

-- the sectors of a slot with these bytes of a record, so many of them: 4,000 bytes in each, as long as there are any
abbrev pub slot_spelling : ℕ → List ℕ → List (List ℕ)
slot_spelling zero bytes = []
slot_spelling (suc n) bytes = data_sector (take 4000 bytes) ∷ slot_spelling n (drop 4000 bytes)

-- the same bytes cut up, each piece with the place of its sector, the first having this one
abbrev pub pieces_from : ℕ → ℕ → List ℕ → List (ℕ × List ℕ)
pieces_from zero at bytes = []
pieces_from (suc n) at bytes = (at, take 4000 bytes) ∷ pieces_from n (at + 1) (drop 4000 bytes)

-- the pieces of slots, each given by its number and the bytes of its record, where a slot has so many sectors
abbrev pub pieces_of : ℕ → List (ℕ × List ℕ) → List (ℕ × List ℕ)
pieces_of sectors slots = flat_map (λ slot. pieces_from sectors (slot.0 * sectors) slot.1) slots

-- Of a list of pieces: the sector is one of those for this place, where the sector with place 0 is `first`.
abbrev pub IsGivenAt : ℕ → List (ℕ × List ℕ) → ℕ → List ℕ → Type 0
IsGivenAt first [] at sector = ⊥
IsGivenAt first (piece ∷ pieces) at sector = ((first + piece.0 ≡ at) × (sector ≡ data_sector piece.1)) ⊎ IsGivenAt first pieces at sector

-- the sector for this place, the last where the list has several
abbrev pub given_at : ℕ → List (ℕ × List ℕ) → ℕ → Option (List ℕ)
given_at first [] at = None
given_at first (piece ∷ pieces) at = option_or (given_at first pieces at) (if first + piece.0 == at then Some (data_sector piece.1) else None)

-- Each sector is as it was, or holds what a piece gives it. So all sectors of other slots stay.
pub record MayPut (first : ℕ) (pieces : List (ℕ × List ℕ)) (before after : Image) : Type 0 where
  pub size : length after ≡ length before
  pub each : (at : ℕ) → (sector_at after at ≡ sector_at before at) ⊎ IsGivenAt first pieces at (sector_at after at)

-- Each sector holds what the pieces give it, and all others are as they were.
pub record HasPut (first : ℕ) (pieces : List (ℕ × List ℕ)) (before after : Image) : Type 0 where
  pub size : length after ≡ length before
  pub each : (at : ℕ) → sector_at after at ≡ unwrap_or (given_at first pieces at) (sector_at before at)

-- The pieces in front stand in their sectors, up to one of them, and from there on each sector is as it was. So they are
-- written in their order.
pub record PutsFront (first : ℕ) (pieces : List (ℕ × List ℕ)) (before after : Image) : Type 0 where
  pub front : List (ℕ × List ℕ)
  pub rest : List (ℕ × List ℕ)
  pub all : pieces ≡ front ++ rest
  pub put : HasPut first front before after

-- these slots of a database, with the bytes of their records
abbrev pub bytes_of_slots : List (List Row) → List ℕ → List (ℕ × List ℕ)
bytes_of_slots images numbers = map (λ number. (number, rows_spelling (slice_index_or images number []))) numbers
