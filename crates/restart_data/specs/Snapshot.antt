-- The sectors of a snapshot.
use Rattle.std.specs.Prelude.{ℕ, zero, suc, ◌+◌, ◌-◌, ◌*◌, ◌/◌, Bool, not, ◌&&◌, ◌||◌, nat_lt, nat_le, ◌==◌, List, [], ◌∷◌, ◌++◌, length, take, drop, if◌then◌else◌, codes, Result, Ok, Err}
use Rattle.std.specs.Int.{w16, w64, to_be_bytes}
use Rattle.std.specs.Str.{bytes_eq}
use Rattle.tm_disk.specs.Disk.{Image, sector_at}
use Rattle.tm_disk.specs.Sector.{zeros}
use Rattle.restart_data.specs.Fields.{bytes_at, number2_at, number8_at, are_zeros}
use Rattle.restart_data.specs.Rules.{first_broken, unless_rule_broken}

-- the letters IMSS, 4 zeros, the checkpoint, the place among the snapshot's sectors, how many bytes of payload there
-- are, and 6 zeros
unfoldable pub snapshot_header : ℕ → ℕ → ℕ → List ℕ
snapshot_header checkpoint place used =
    73 ∷ 77 ∷ 83 ∷ 83 ∷ 0 ∷ 0 ∷ 0 ∷ 0 ∷ [] ++ to_be_bytes w64 checkpoint ++ to_be_bytes w64 place ++ to_be_bytes w16 used ++ 0 ∷ 0 ∷ 0 ∷ 0 ∷ 0 ∷ 0 ∷ []

-- the header, the payload, and zeros to the end
unfoldable pub snapshot_sector : ℕ → ℕ → List ℕ → List ℕ
snapshot_sector checkpoint place payload =
    snapshot_header checkpoint place (length payload) ++ payload ++ zeros (4064 - length payload)

-- how many sectors so many bytes take
abbrev pub snapshot_sectors_of : ℕ → ℕ
snapshot_sectors_of n = (n + 4063) / 4064

-- the bytes of a snapshot that its sector at a place holds: all sectors but the last are full
abbrev pub snapshot_piece : ℕ → List ℕ → List ℕ
snapshot_piece place bytes = take 4064 (drop (place * 4064) bytes)

-- how many bytes of payload a sector says it holds, and which
abbrev pub used_of : List ℕ → ℕ
used_of sector = number2_at 24 sector

abbrev pub snapshot_payload_of : List ℕ → List ℕ
snapshot_payload_of sector = bytes_at 32 (used_of sector) sector

-- ---- Rules

abbrev pub other_letters : List ℕ → Bool
other_letters sector = not (bytes_eq (bytes_at 0 4 sector) (codes "IMSS"))

-- the letters, the checkpoint or the place are others
abbrev pub other_place : ℕ → ℕ → List ℕ → Bool
other_place checkpoint place sector =
    other_letters sector || not (number8_at 8 sector == checkpoint) || not (number8_at 16 sector == place)

-- The last sector of a snapshot holds 1 to 4,064 bytes, and each before it 4,064.
abbrev pub wrong_used : ℕ → ℕ → Bool
wrong_used behind used = used == 0 || nat_lt 4064 used || (nat_lt 0 behind && not (used == 4064))

-- bytes where zeros belong
abbrev pub stray_snapshot : List ℕ → Bool
stray_snapshot sector =
    not (are_zeros (bytes_at 4 4 sector)) || not (are_zeros (bytes_at 26 6 sector)) || not (are_zeros (drop (32 + used_of sector) sector))

-- the rules on a sector of a snapshot, with how many of its sectors stand behind
abbrev pub snapshot_sector_rules : ℕ → ℕ → ℕ → List ℕ → List (ℕ × Bool)
snapshot_sector_rules behind checkpoint place sector =
    (7, other_place checkpoint place sector)
    ∷ (8, wrong_used behind (used_of sector))
    ∷ (9, stray_snapshot sector)
    ∷ []

-- what a sector of a snapshot is read as: its payload, or the lowest rule that it breaks
unfoldable pub part_of : ℕ → ℕ → ℕ → List ℕ → Result (List ℕ) ℕ
part_of behind checkpoint place sector =
    unless_rule_broken (first_broken (snapshot_sector_rules behind checkpoint place sector)) (snapshot_payload_of sector)

-- a broken rule and its sector
abbrev pub SectorFault : Type 0
SectorFault = ℕ × ℕ

-- of two faults the one of the lower rule, and of one rule the first
abbrev pub lower_sector_fault : SectorFault → SectorFault → SectorFault
lower_sector_fault a b = if nat_le a.0 b.0 then a else b

-- a part of a snapshot that stands in this sector
abbrev pub part_in : ℕ → Result (List ℕ) ℕ → Result (List ℕ) SectorFault
part_in at (Ok payload) = Ok payload
part_in at (Err rule) = Err (rule, at)

-- parts one after another: all their bytes, or the lowest rule that is broken, and of it the lowest sector
abbrev pub bytes_and_then : Result (List ℕ) SectorFault → Result (List ℕ) SectorFault → Result (List ℕ) SectorFault
bytes_and_then (Ok bytes) (Ok more) = Ok (bytes ++ more)
bytes_and_then (Ok bytes) (Err fault) = Err fault
bytes_and_then (Err fault) (Ok more) = Err fault
bytes_and_then (Err fault) (Err other) = Err (lower_sector_fault fault other)

-- What so many sectors of an image from one on are read as: the bytes of the snapshot of this checkpoint from a place
-- on, or the lowest rule that is broken, and of it the lowest sector.
abbrev pub parts_in : ℕ → Image → ℕ → ℕ → ℕ → Result (List ℕ) SectorFault
parts_in zero image at checkpoint place = Ok []
parts_in (suc behind) image at checkpoint place =
    bytes_and_then (part_in at (part_of behind checkpoint place (sector_at image at))) (parts_in behind image (at + 1) checkpoint (place + 1))

-- the snapshot of a checkpoint in so many sectors of an image from one on
abbrev pub snapshot_in : ℕ → Image → ℕ → ℕ → Result (List ℕ) SectorFault
snapshot_in count image first checkpoint = parts_in count image first checkpoint 0
