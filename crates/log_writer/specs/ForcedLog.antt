-- What forcing a log leaves on the disk.
use Rattle.std.specs.Prelude.{◌≡◌, ◌⊎◌, ℕ, zero, suc, ◌+◌, ◌-◌, ◌*◌, ◌/◌, ◌<◌, ◌≤◌, List, [], ◌∷◌, ◌++◌, length, take, drop, slice_index_or, IsSome, None}
use Rattle.tm_disk.specs.Disk.{Image, DiskState, sector_at, ChangesOnly}
use Rattle.log_sectors.specs.SealedSector.{sealed, opened_payload}
use Rattle.log_sectors.specs.Chain.{chain, joined_payloads}
use Rattle.log_writer.specs.Writer.{Writer}

-- the log of the writer's area
abbrev pub log_of_writer : Writer → Image → List ℕ
log_of_writer writer image = joined_payloads (chain writer.count image writer.first writer.sequence writer.epoch)

-- how many sectors so many bytes take
abbrev pub log_sectors_of : ℕ → ℕ
log_sectors_of n = (n + 4063) / 4064

-- how many bytes can still be appended
abbrev pub room_of : Writer → ℕ
room_of writer = (writer.count - writer.place) * 4064 - length writer.appended

-- Each sector of the area before the writer's place is a log sector of its epoch with the sequence that belongs to
-- it, and none from there on is.
pub record IsAtEnd (writer : Writer) (image : Image) : Type 0 where
  pub written : (x : ℕ) → x < writer.place → IsSome (opened_payload writer.epoch (writer.sequence + x) (sector_at image (writer.first + x)))
  pub free : (x : ℕ) → writer.place ≤ x → x < writer.count → opened_payload writer.epoch (writer.sequence + x) (sector_at image (writer.first + x)) ≡ None

-- The writer is where the log ends in each image that a crash may leave.
abbrev pub IsWriterReady : Writer → DiskState → Type 0
IsWriterReady writer disk = (image : Image) → disk.may_leave image → IsAtEnd writer image

-- a sector of the writer's area is as before, or a log sector of its epoch with the sequence that belongs to its place
abbrev pub StaysOrLogs : Writer → Image → Image → ℕ → Type 0
StaysOrLogs writer before after x =
    (sector_at after (writer.first + x) ≡ sector_at before (writer.first + x)) ⊎ IsSome (opened_payload writer.epoch (writer.sequence + x) (sector_at after (writer.first + x)))

-- The log has gained a front of what was appended.
pub record AddsFront (writer : Writer) (before after : Image) : Type 0 where
  pub changes : ChangesOnly (writer.first + writer.place) (log_sectors_of (length writer.appended)) before after
  pub each : (x : ℕ) → StaysOrLogs writer before after x
  pub front : ℕ
  pub log : log_of_writer writer after ≡ log_of_writer writer before ++ take front writer.appended

-- The log has gained all of what was appended.
pub record AddsAll (writer : Writer) (before after : Image) : Type 0 where
  pub changes : ChangesOnly (writer.first + writer.place) (log_sectors_of (length writer.appended)) before after
  pub each : (x : ℕ) → StaysOrLogs writer before after x
  pub log : log_of_writer writer after ≡ log_of_writer writer before ++ writer.appended

-- bytes cut into pieces of 4,064
abbrev pub log_pieces : ℕ → List ℕ → List (List ℕ)
log_pieces zero bytes = []
log_pieces (suc n) bytes = take 4064 bytes ∷ log_pieces n (drop 4064 bytes)

abbrev pub log_piece : List (List ℕ) → ℕ → List ℕ
log_piece payloads x = slice_index_or payloads x []

-- Some of the first sectors from a place on may hold their payloads, and all else stays.
pub record Lays (at sequence epoch : ℕ) (payloads : List (List ℕ)) (n : ℕ) (before after : Image) : Type 0 where
  pub size : length after ≡ length before
  pub below : (k : ℕ) → k < at → sector_at after k ≡ sector_at before k
  pub above : (k : ℕ) → at + n ≤ k → sector_at after k ≡ sector_at before k
  pub each : (x : ℕ) → x < n → (sector_at after (at + x) ≡ sector_at before (at + x)) ⊎ (sector_at after (at + x) ≡ sealed epoch (sequence + x) (log_piece payloads x))

-- The first sectors from a place on hold their payloads, and all else stays.
pub record HasLaid (at sequence epoch : ℕ) (payloads : List (List ℕ)) (n : ℕ) (before after : Image) : Type 0 where
  pub size : length after ≡ length before
  pub below : (k : ℕ) → k < at → sector_at after k ≡ sector_at before k
  pub above : (k : ℕ) → at + n ≤ k → sector_at after k ≡ sector_at before k
  pub each : (x : ℕ) → x < n → sector_at after (at + x) ≡ sealed epoch (sequence + x) (log_piece payloads x)
