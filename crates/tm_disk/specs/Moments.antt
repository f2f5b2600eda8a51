-- The moments of a disk in memory, and what a crash at each of them leaves.
use Rattle.std.specs.Prelude.{◌≡◌, ◌⊎◌, ℕ, ◌+◌, ◌/◌, ◌%◌, List, [], ◌∷◌, ◌++◌, length, ◌==◌, Contains, if◌then◌else◌, slice_index_or, replicate, ◌<◌, ◌≤◌, ◌^◌, All, drop}
use Rattle.tm_disk.specs.Disk.{Image, sector_at, with_sector}
use Rattle.tm_disk.specs.Sector.{blank}
use Rattle.tm_disk.specs.Written.{Written}
use Rattle.tm_disk.specs.declared.record.Before.{Before}
use Rattle.tm_disk.specs.declared.record.Before.TheVariants.{Nothing, Synced, Cut}

-- what was synced last, and the writes since
pub record DiskMoment : Type 0 where
  pub synced : Image
  pub since : List Written

-- a disk of zero bytes
abbrev pub zero_disk : ℕ → DiskMoment
zero_disk size = record { synced = replicate size blank; since = [] }

-- the image with all of the writes made
abbrev pub shown_of : Image → List Written → Image
shown_of image [] = image
shown_of image (write ∷ writes) = shown_of (with_sector image write.at write.content) writes

-- what the writes put into one sector, in order
abbrev pub writes_to : ℕ → List Written → List (List ℕ)
writes_to at [] = []
writes_to at (write ∷ writes) = if write.at == at then write.content ∷ writes_to at writes else writes_to at writes

-- A crash leaves each sector as it was synced last or as a write since then made it.
pub record IsImageLeft (moment : DiskMoment) (image : Image) : Type 0 where
  pub size : length image ≡ length moment.synced
  pub each : (at : ℕ) → Contains (sector_at moment.synced at ∷ writes_to at moment.since) (sector_at image at)

-- What a pick leaves of the sectors from a place on: one with k writes takes the pick's rest by k + 1,
-- 0 being the synced content and j the j-th write, and hands on the quotient.
abbrev pub picked : ℕ → ℕ → List Written → Image → Image
picked pick at since [] = []
picked pick at since (sector ∷ sectors) =
    let writes = writes_to at since in
    slice_index_or (sector ∷ writes) (pick % (length writes + 1)) sector ∷ picked (pick / (length writes + 1)) (at + 1) since sectors

-- the moment after what came before a write
abbrev pub settled_by : Before → DiskMoment → DiskMoment
settled_by Nothing moment = moment
settled_by Synced moment = record { synced = shown_of moment.synced moment.since; since = [] }
settled_by (Cut pick) moment = record { synced = picked pick 0 moment.since moment.synced; since = [] }

-- the moment from which something came before a write, if anything did
abbrev pub moments_waiting : Before → DiskMoment → List DiskMoment
moments_waiting Nothing moment = []
moments_waiting Synced moment = moment ∷ []
moments_waiting (Cut pick) moment = moment ∷ []

-- the moment after one more write
abbrev pub after_write : Written → DiskMoment → DiskMoment
after_write write moment = record { synced = moment.synced; since = moment.since ++ write ∷ [] }

-- the moment after all the writes of a record
abbrev pub after : DiskMoment → List Written → DiskMoment
after moment [] = moment
after moment (write ∷ writes) = after (after_write write (settled_by write.before moment)) writes

-- the moments before the last write of a record
abbrev pub moments : DiskMoment → List Written → List DiskMoment
moments moment [] = []
moments moment (write ∷ writes) =
    let next = settled_by write.before moment in moments_waiting write.before moment ++ next ∷ moments (after_write write next) writes

-- the moment now, and those before it, after a record and what came since its last write
abbrev pub moment_now : DiskMoment → List Written → Before → DiskMoment
moment_now start record_ pending = settled_by pending (after start record_)

abbrev pub moments_past : DiskMoment → List Written → Before → List DiskMoment
moments_past start record_ pending = moments start record_ ++ moments_waiting pending (after start record_)

-- a crash at one of these moments left the image
abbrev pub WasLeft : List DiskMoment → Image → Type 0
WasLeft [] image = ⊥
WasLeft (moment ∷ moments) image = IsImageLeft moment image ⊎ WasLeft moments image

-- what a pick chooses of each sector, of which there were so many writes
abbrev pub digits : ℕ → List ℕ → List ℕ
digits pick [] = []
digits pick (count ∷ counts) = pick % (count + 1) ∷ digits (pick / (count + 1)) counts

-- What a disk in memory keeps: what it shows, what was synced, all the writes, how many of them are synced or cut
-- off, and what came since the last of them.
pub record IsMomentSound (shown synced : Image) (writes : List Written) (settled : ℕ) (pending : Before) : Type 0 where
  pub size_fits : length synced < 2 ^ 32
  pub few : length writes ≤ 262144
  pub settled_in : settled ≤ length writes
  pub in_range : All (λ write. write.at < length synced) writes
  pub now_is : moment_now (zero_disk (length synced)) writes pending ≡ record { synced = synced; since = drop settled writes }
  pub shown_is : shown ≡ shown_of synced (drop settled writes)
