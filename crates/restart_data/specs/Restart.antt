-- The restart sector: which snapshot and which log area hold.
use Rattle.std.specs.Prelude.{ℕ, ◌<◌, ◌≤◌, Bool, not, ◌&&◌, ◌||◌, nat_lt, nat_le, ◌==◌, List, [], ◌∷◌, ◌++◌, drop, if◌then◌else◌, codes, Option, Some, None, Result, Ok}
use Rattle.std.specs.Int.{w32, w64, to_be_bytes}
use Rattle.std.specs.Str.{bytes_eq}
use Rattle.tm_disk.specs.Disk.{Image, sector_at}
use Rattle.tm_disk.specs.Sector.{zeros}
use Rattle.restart_data.specs.declared.restart.RestartSector.{RestartSector}
use Rattle.restart_data.specs.Fields.{bytes_at, byte_at, number4_at, number8_at, are_zeros}
use Rattle.restart_data.specs.Rules.{first_broken, unless_rule_broken}

-- the letters IMSR, the version 2, the epoch, the bytes of the two areas and 2 zeros
unfoldable pub restart_front : ℕ → ℕ → ℕ → List ℕ
restart_front epoch snapshot log =
    73 ∷ 77 ∷ 83 ∷ 82 ∷ 0 ∷ 0 ∷ 0 ∷ 2 ∷ [] ++ to_be_bytes w64 epoch ++ snapshot ∷ log ∷ 0 ∷ 0 ∷ []

-- how many sectors the snapshot has, the first sequence of the log, the checkpoint, and how long the definition is
unfoldable pub restart_back : ℕ → ℕ → ℕ → ℕ → List ℕ
restart_back sectors sequence checkpoint text =
    to_be_bytes w32 sectors ++ to_be_bytes w64 sequence ++ to_be_bytes w64 checkpoint ++ to_be_bytes w32 text

-- both, and zeros to the end
unfoldable pub restart_sector : RestartSector → List ℕ
restart_sector r =
    restart_front r.epoch r.snapshot r.log ++ restart_back r.sectors r.sequence r.checkpoint r.text ++ zeros 4052

-- from 1 up to below 2,000,000,000,000,000,000
abbrev pub IsCounter : ℕ → Type 0
IsCounter n = (0 < n) × (n < 2000000000000000000)

-- what a restart sector may be made of
pub record IsRestart (r : RestartSector) : Type 0 where
  pub epoch : IsCounter r.epoch
  pub sequence : IsCounter r.sequence
  pub checkpoint : IsCounter r.checkpoint
  pub snapshot : r.snapshot ≤ 1
  pub log : r.log ≤ 1
  pub sectors : 0 < r.sectors
  pub text : r.text ≤ 262144

-- what a sector says, whether or not it breaks a rule
abbrev pub fields_of : List ℕ → RestartSector
fields_of sector = record {
  epoch = number8_at 8 sector;
  snapshot = byte_at 16 sector;
  log = byte_at 17 sector;
  sectors = number4_at 20 sector;
  sequence = number8_at 24 sector;
  checkpoint = number8_at 32 sector;
  text = number4_at 40 sector;
}

-- ---- Rules

abbrev pub other_letters : List ℕ → Bool
other_letters sector = not (bytes_eq (bytes_at 0 4 sector) (codes "IMSR"))

-- The version is 2. In version 1 each slot of a database had one sector, so it is read where each has one still.
abbrev pub other_version : Bool → List ℕ → Bool
other_version single sector = not (number4_at 4 sector == 2) && not (single && (number4_at 4 sector == 1))

-- there are two snapshot areas and two log areas
abbrev pub has_other_area : RestartSector → Bool
has_other_area r = nat_lt 1 r.snapshot || nat_lt 1 r.log

-- a snapshot has a sector, and not more than its area
abbrev pub wrong_size : ℕ → RestartSector → Bool
wrong_size most r = r.sectors == 0 || nat_lt most r.sectors

abbrev pub wrong_counter : ℕ → Bool
wrong_counter n = n == 0 || nat_le 2000000000000000000 n

abbrev pub wrong_counters : RestartSector → Bool
wrong_counters r = wrong_counter r.epoch || wrong_counter r.sequence || wrong_counter r.checkpoint

-- bytes where zeros belong, or a longer definition than there can be
abbrev pub stray_bytes : List ℕ → Bool
stray_bytes sector = not (are_zeros (bytes_at 18 2 sector)) || not (are_zeros (drop 44 sector))

abbrev pub long_text : RestartSector → Bool
long_text r = nat_lt 262144 r.text

-- the rules on a restart sector, with the most sectors that a snapshot can have, and whether each slot has one sector
abbrev pub restart_rules : ℕ → Bool → List ℕ → List (ℕ × Bool)
restart_rules most single sector =
    (1, other_letters sector)
    ∷ (2, other_version single sector)
    ∷ (3, has_other_area (fields_of sector))
    ∷ (4, wrong_size most (fields_of sector))
    ∷ (5, wrong_counters (fields_of sector))
    ∷ (6, stray_bytes sector || long_text (fields_of sector))
    ∷ []

-- What a sector is read as: nothing where it is all zeros, and else what it says, or the lowest rule that it breaks.
unfoldable pub restart_of : ℕ → Bool → List ℕ → Result (Option RestartSector) ℕ
restart_of most single sector =
    if are_zeros sector then Ok None else unless_rule_broken (first_broken (restart_rules most single sector)) (Some (fields_of sector))

-- the restart sector of an image, which is its sector 0
abbrev pub restart_in : ℕ → Bool → Image → Result (Option RestartSector) ℕ
restart_in most single image = restart_of most single (sector_at image 0)
