-- What a cold start writes before its restart sector.
use Rattle.std.specs.Prelude.{◌≡◌, ◌⊎◌, ◌≤◌, Bool, Some, ℕ, ◌+◌, ◌-◌, ◌*◌, ◌/◌, ◌<◌, List, ◌++◌, length, take, drop, Ok}
use Rattle.tm_disk.specs.Disk.{Image, sector_at, with_sector, ChangesOnly}
use Rattle.tm_disk.specs.Sector.{zeros, blank}
use Rattle.restart_data.specs.declared.restart.RestartSector.{RestartSector}
use Rattle.restart_data.specs.Restart.{restart_in}
use Rattle.restart_data.specs.Snapshot.{snapshot_sectors_of, snapshot_in}
use Rattle.model_system.specs.System.{System}
use Rattle.model_system.specs.Areas.{snapshot_area, snapshot_first, log_first, data_first}
use Rattle.openings.specs.declared.laying_cold.Places.{Places}

-- So many sectors from a place on are these, and all the rest stay.
pub record Fills (each : ℕ → List ℕ) (at count : ℕ) (before after : Image) : Type 0 where
  pub changes : ChangesOnly at count before after
  pub filled : (x : ℕ) → x < count → sector_at after (at + x) ≡ each x

-- The restart sector is zeros, and all other sectors stay.
abbrev pub Clears : Image → Image → Type 0
Clears before after = after ≡ with_sector before 0 blank

-- how many sectors a text fills
abbrev pub text_sectors : ℕ → ℕ
text_sectors n = (n + 4095) / 4096

-- the bytes of a text in its sector at a place
abbrev pub text_piece : List ℕ → ℕ → List ℕ
text_piece text place = take 4096 (drop (place * 4096) text)

-- these bytes, and zeros behind them
abbrev pub text_sector : List ℕ → ℕ → List ℕ
text_sector text place = text_piece text place ++ zeros (4096 - length (text_piece text place))

-- All but the restart sector may be others.
pub record KeepsRestart (before after : Image) : Type 0 where
  pub size : length after ≡ length before
  pub restart : sector_at after 0 ≡ sector_at before 0

-- the places of a system: the first snapshot area, and from the first log area on all that the system needs
pub record ArePlacesOf (system : System) (places : Places) : Type 0 where
  pub snapshot : places.snapshot ≡ snapshot_first system 0
  pub area : places.area ≡ snapshot_area system
  pub blanks : places.blanks ≡ log_first system 0
  pub count : places.blanks + places.count ≡ data_first system (length system.databases)

-- The text, zeros, and the snapshot of checkpoint 1 stand at these places.
pub record IsLaid (places : Places) (text bytes : List ℕ) (image : Image) : Type 0 where
  pub has_text : (x : ℕ) → x < text_sectors (length text) → sector_at image (1 + x) ≡ text_sector text x
  pub blanks : (x : ℕ) → x < places.count → sector_at image (places.blanks + x) ≡ blank
  pub snapshot : snapshot_in (snapshot_sectors_of (length bytes)) image places.snapshot 1 ≡ Ok bytes

-- And the restart sector is this one.
pub record IsColdWritten (places : Places) (text bytes : List ℕ) (now : RestartSector) (image : Image) : Type 0 where
  pub laid : IsLaid places text bytes image
  pub restart : (most : ℕ) (single : Bool) → now.sectors ≤ most → restart_in most single image ≡ Ok (Some now)

-- The image is the one before; or it has no restart sector; or all was written.
abbrev pub BeginsCold : Places → List ℕ → List ℕ → RestartSector → Image → Image → Type 0
BeginsCold places text bytes now before after =
    (after ≡ before) ⊎ ((sector_at after 0 ≡ blank) ⊎ IsColdWritten places text bytes now after)
