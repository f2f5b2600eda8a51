-- The record of the writes of a disk in memory, with the room that it has.
use Rattle.std.specs.Prelude.{◌⊎◌, ◌≤◌, ◌<◌, ◌+◌, ℕ, List, [], ◌++◌, length, map, take, drop}
use Rattle.tm_disk.specs.Sector.{blank}
use Rattle.tm_disk.specs.Written.{Written}
use Rattle.tm_disk.specs.declared.record.Before.TheVariants.{Nothing}
use Rattle.tm_disk.specs.declared.record.KeptWrite.{KeptWrite}

-- the bytes, and zeros up to a sector's end
abbrev pub sector_of : List ℕ → List ℕ
sector_of bytes = bytes ++ drop (length bytes) blank

abbrev pub written_of : List ℕ → KeptWrite → Written
written_of bytes kept = record { at = kept.at; content = sector_of (take kept.len (drop kept.start bytes)); before = kept.before }

abbrev pub writes_of : List ℕ → List KeptWrite → List Written
writes_of bytes kept = map (written_of bytes) kept

-- its bytes stand among so many
abbrev pub StandsIn : ℕ → KeptWrite → Type 0
StandsIn count kept = (kept.start + kept.len ≤ count) × (kept.len ≤ 4096)

-- The writes; for how many there is room, how many bytes are kept of them, and for how many there is room.
pub record Recorded : Type 0 where
  pub items : List Written
  pub room : ℕ
  pub used : ℕ
  pub byte_room : ℕ

-- there is no room for one write more, or none for the bytes of a sector
abbrev pub HasNoRoom : Recorded → Type 0
HasNoRoom recorded = (recorded.room < length recorded.items + 1) ⊎ (recorded.byte_room < recorded.used + 4096)

-- the write in the place of one that isn't there
abbrev pub nothing_written : Written
nothing_written = record { at = 0; content = []; before = Nothing }
