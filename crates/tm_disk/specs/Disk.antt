-- A disk of sectors, and what a crash of it may leave.
use Rattle.std.specs.Prelude.{◌≡◌, ◌⊎◌, ℕ, suc, zero, ◌+◌, ◌-◌, ◌<◌, ◌≤◌, ◌^◌, Bool, true, false, List, [], length, IsTrue, IsFalse, Option, Some, None, slice_index_or, slice_set}
use Rattle.tm_disk.specs.Count.{raised}

-- what stands on a disk: its sectors, each a list of bytes
abbrev pub Image : Type 0
Image = List (List ℕ)

-- the sector at a place, and nothing past the end
abbrev pub sector_at : Image → ℕ → List ℕ
sector_at image at = slice_index_or image at []

-- The sectors from a place on may be others, so many of them, and all the rest stay.
pub record ChangesOnly (at count : ℕ) (before after : Image) : Type 0 where
  pub size : length after ≡ length before
  pub below : (k : ℕ) → k < at → sector_at after k ≡ sector_at before k
  pub above : (k : ℕ) → at + count ≤ k → sector_at after k ≡ sector_at before k

-- the image with another sector at a place
abbrev pub with_sector : Image → ℕ → List ℕ → Image
with_sector image at sector = slice_set image at sector

-- How often a disk was cut, as far as a count goes, and with which pick at last.
pub record Cuts : Type 0 where
  pub count : ℕ
  pub pick : ℕ

-- after one cut more
abbrev pub cut_once : ℕ → Cuts → Cuts
cut_once pick cuts = record { count = raised cuts.count; pick = pick }

-- A disk at one moment. One that doesn't tell its contents says of no image that a crash may leave it,
-- so that what is said of each image holds of it too.
pub record DiskState : Type 1 where
  -- how many sectors it has
  pub size : ℕ
  -- whether it tells its contents
  pub tells : Bool
  -- what reads give
  pub shown : Image
  -- what a crash at this moment may leave
  pub may_leave : Image → Type 0
  -- what a cut at this moment leaves, by its pick
  pub chosen : ℕ → Image
  -- the time, which never runs back
  pub clock : ℕ
  -- what a crash at some moment since a time might have left
  pub left_since : ℕ → Image → Type 0
  -- how often it failed
  pub faults : ℕ
  -- how often it was told to write
  pub writes : ℕ
  -- whether it can be told to stop at a write to come
  pub can_arm : Bool
  -- where it was told so, the writes left until it stops: none once it has stopped
  pub until_stop : Option ℕ
  -- how often it was cut, and with which pick at last
  pub cuts : Cuts

-- What holds of each disk at each moment.
pub record IsDisk (disk : DiskState) : Type 0 where
  pub size_fits : disk.size < 2 ^ 32
  pub shown_size : length disk.shown ≡ disk.size
  -- a crash leaves sectors, as many as the disk has
  pub image_size : (time : ℕ) (image : Image) → disk.left_since time image → length image ≡ disk.size
  -- the shown disk is one of its images
  pub shown_left : IsTrue disk.tells → disk.may_leave disk.shown
  -- a disk that doesn't tell its contents names no image
  pub silent : IsFalse disk.tells → (time : ℕ) (image : Image) → disk.left_since time image → ⊥
  -- this moment is one of those since an earlier one
  pub now_counts : (time : ℕ) (image : Image) → time ≤ disk.clock → disk.may_leave image → disk.left_since time image
  -- since this moment there is no other
  pub now_alone : (image : Image) → disk.left_since disk.clock image → disk.may_leave image

-- A count rose, or stands at the last value that it can have.
abbrev pub Rose : ℕ → ℕ → Type 0
Rose before now = (before < now) ⊎ (18446744073709551615 ≤ now)

-- the disk has failed since
abbrev pub FailedSince : DiskState → DiskState → Type 0
FailedSince old new = Rose old.faults new.faults

-- the disk was told to write at most so many times since
abbrev pub WritesAtMost : ℕ → DiskState → DiskState → Type 0
WritesAtMost n old new = new.writes ≤ old.writes + n

-- What no call changes, and counts that don't fall.
pub record IsSameDisk (old new : DiskState) : Type 0 where
  pub size : new.size ≡ old.size
  pub tells : new.tells ≡ old.tells
  pub can_arm : new.can_arm ≡ old.can_arm
  pub faults : old.faults ≤ new.faults
  pub writes : old.writes ≤ new.writes

-- the writes left until a stop, after so many more: none once it has stopped
abbrev pub less_by : ℕ → Option ℕ → Option ℕ
less_by made None = None
less_by made (Some left) = Some (left - made)

-- So many writes were made: the count of writes rose by just them, or stands at the last value that it can have; and where the disk was
-- told to stop, that is nearer by just them.
pub record HasMadeWrites (old new : DiskState) : Type 0 where
  pub made : ℕ
  pub count : (new.writes ≡ old.writes + made) ⊎ (18446744073709551615 ≤ new.writes)
  pub until_stop : new.until_stop ≡ less_by made old.until_stop

-- It is the same disk: one that wasn't told to stop isn't told so, and a stop to come is nearer by just the writes that were made. It wasn't cut.
pub record Stays (old new : DiskState) : Type 0 where
  pub size : new.size ≡ old.size
  pub tells : new.tells ≡ old.tells
  pub can_arm : new.can_arm ≡ old.can_arm
  pub faults : old.faults ≤ new.faults
  pub writes : old.writes ≤ new.writes
  pub stop : HasMadeWrites old new
  pub cuts : new.cuts ≡ old.cuts

-- Time goes on: a crash since a time might have left what it might have left before, or what it may leave now.
pub record Elapses (old new : DiskState) : Type 0 where
  pub later : old.clock ≤ new.clock
  pub nothing_else : (time : ℕ) (image : Image) → time ≤ old.clock → new.left_since time image → old.left_since time image ⊎ new.may_leave image
  pub keeps : (time : ℕ) (image : Image) → time ≤ old.clock → old.left_since time image → new.left_since time image

-- The image comes, by this relation, from one that a crash might have left.
pub record ComesFrom (step : Image → Image → Type 0) (old : DiskState) (image : Image) : Type 0 where
  pub before : Image
  pub left : old.may_leave before
  pub by : step before image

-- Each image that a crash may leave comes, by this relation, from one that it might have left before.
pub record Follows (step : Image → Image → Type 0) (old new : DiskState) : Type 0 where
  pub from : (image : Image) → new.may_leave image → ComesFrom step old image

-- At any moment since, a crash left an image that comes, by this relation, from one that it might have left before.
pub record Within (step : Image → Image → Type 0) (old new : DiskState) : Type 0 where
  pub later : old.clock ≤ new.clock
  pub from : (time : ℕ) (image : Image) → time ≤ old.clock → new.left_since time image → old.left_since time image ⊎ ComesFrom step old image
  pub keeps : (time : ℕ) (image : Image) → time ≤ old.clock → old.left_since time image → new.left_since time image

-- A crash leaves this image and no other.
abbrev pub Only : Image → DiskState → Type 0
Only image disk = (left : Image) → disk.may_leave left → left ≡ image

-- A crash leaves nothing that it might not have left before.
abbrev pub NoMore : DiskState → DiskState → Type 0
NoMore old new = (image : Image) → new.may_leave image → old.may_leave image

-- the disk has stopped
abbrev pub is_disk_stopped : Option ℕ → Bool
is_disk_stopped None = false
is_disk_stopped (Some zero) = true
is_disk_stopped (Some (suc n)) = false

-- the disk has stopped, or stops at the next write
abbrev pub is_stop_due : Option ℕ → Bool
is_stop_due None = false
is_stop_due (Some zero) = true
is_stop_due (Some (suc zero)) = true
is_stop_due (Some (suc (suc n))) = false

-- the writes left after one more
abbrev pub one_less : Option ℕ → Option ℕ
one_less None = None
one_less (Some zero) = Some 0
one_less (Some (suc n)) = Some n

-- armed for the n-th write from now; a disk that has stopped stays so
abbrev pub armed : ℕ → Option ℕ → Option ℕ
armed n None = Some n
armed n (Some zero) = Some 0
armed n (Some (suc left)) = Some n

-- the same image, or the one with this sector at this place
abbrev pub MayWrite : ℕ → List ℕ → Image → Image → Type 0
MayWrite at sector before after = (after ≡ before) ⊎ (after ≡ with_sector before at sector)

-- Nothing was written and nothing was lost.
pub record Keeps (old new : DiskState) : Type 0 where
  pub stays : Stays old new
  pub elapses : Elapses old new
  pub no_more : NoMore old new
  pub shown : new.shown ≡ old.shown
  pub writes : new.writes ≡ old.writes

-- The disk was told when to stop, or couldn't be: nothing else has changed.
pub record IsToldToStop (old new : DiskState) : Type 0 where
  pub same : IsSameDisk old new
  pub elapses : Elapses old new
  pub no_more : NoMore old new
  pub shown : new.shown ≡ old.shown
  pub writes : new.writes ≡ old.writes
  pub cuts : new.cuts ≡ old.cuts

-- The disk was told to write a sector: it did, or failed and may have done so or not.
pub record MayHaveWritten (at : ℕ) (sector : List ℕ) (old new : DiskState) : Type 0 where
  pub stays : Stays old new
  pub elapses : Elapses old new
  pub follows : Follows (MayWrite at sector) old new
  pub shown : IsTrue old.tells → MayWrite at sector old.shown new.shown
  pub writes : new.writes ≤ old.writes + 1
  pub counted : new.writes ≡ raised old.writes
  pub until_stop : new.until_stop ≡ one_less old.until_stop

-- A sector was written: a crash leaves each image as it was or with the sector.
pub record HasWritten (at : ℕ) (sector : List ℕ) (old new : DiskState) : Type 0 where
  pub shown : IsTrue old.tells → new.shown ≡ with_sector old.shown at sector
  pub without : (image : Image) → old.may_leave image → new.may_leave image
  pub written : (image : Image) → old.may_leave image → new.may_leave (with_sector image at sector)

-- The disk was cut off with a pick: of the images that a crash might have left the one that the pick chooses is shown and synced.
-- It did not fail. The cut is counted, and its pick noted.
pub record IsCut (pick : ℕ) (old new : DiskState) : Type 0 where
  pub same : IsSameDisk old new
  pub elapses : Elapses old new
  pub no_more : NoMore old new
  pub left : IsTrue old.tells → old.may_leave new.shown
  pub picked : IsTrue old.tells → new.shown ≡ old.chosen pick
  pub synced : Only new.shown new
  pub writes : new.writes ≡ old.writes
  pub faults : new.faults ≡ old.faults
  pub disarmed : new.until_stop ≡ None
  pub cuts : new.cuts ≡ cut_once pick old.cuts
