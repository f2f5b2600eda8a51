-- What a disk in memory shows of itself.
use Rattle.std.specs.Prelude.{◌≡◌, ◌⊎◌, ℕ, ◌+◌, List, length, Bool, IsTrue, if◌then◌else◌}
use Rattle.std.proofs.Common.{sym, ◌∙◌}
use Rattle.std.proofs.lemmas.List.{length-map, length-replicate}
use Rattle.tm_disk.specs.Disk.{DiskState, IsDisk, is_stop_due, is_disk_stopped}
use Rattle.tm_disk.specs.Sector.{blank}
use Rattle.tm_disk.specs.Moments.{DiskMoment, zero_disk, after_write}
use Rattle.tm_disk.specs.NumberedSectors.{made_by}
use Rattle.tm_disk.specs.Count.{raised}
use Rattle.tm_disk.specs.declared.record.Before.{Before}
use Rattle.tm_disk.specs.MomentLaws.{size-moments_past}
use Rattle.tm_disk.specs.Contents.{contents_now, past_of}
use Rattle.tm_disk.specs.Plan.{IsListed, plan_cuts}
use Rattle.tm_disk.specs.Record.{HasNoRoom}
use Rattle.tm_disk.specs.MemState.{mem_state, mem_is_disk}
use Rattle.tm_disk.specs.declared.mem_disk.MemDisk.{MemDisk}

-- the moment at which it is
abbrev pub disk_moment_of : MemDisk → DiskMoment
disk_moment_of disk = contents_now disk.contents

abbrev pub mem_disk_state : MemDisk → DiskState
mem_disk_state disk = mem_state (contents_now disk.contents) (past_of disk.contents) disk.plan.faults disk.plan.writes disk.plan.until_stop (plan_cuts disk.plan)

-- the calls that fail, and how many calls there were
abbrev pub fails_at : MemDisk → List ℕ
fails_at disk = disk.plan.fail_at.items

abbrev pub calls_of : MemDisk → ℕ
calls_of disk = disk.plan.calls

-- how many writes met want of memory
abbrev pub starved_of : MemDisk → ℕ
starved_of disk = disk.plan.starved

-- how many writes its record has
abbrev pub recorded : MemDisk → ℕ
recorded disk = length disk.contents.writes.items

-- its record has no room for one write more, or for a sector's bytes
abbrev pub MustGrow : MemDisk → Type 0
MustGrow disk = HasNoRoom disk.contents.writes

-- the next call is listed, or the disk has stopped
abbrev pub MustFail : MemDisk → Type 0
MustFail disk = IsListed disk.plan ⊎ IsTrue (is_disk_stopped disk.plan.until_stop)

-- the next call is listed, or meets the stop as a write, or its record is full
abbrev pub MustFailToWrite : MemDisk → Type 0
MustFailToWrite disk = IsListed disk.plan ⊎ IsTrue (is_stop_due disk.plan.until_stop) ⊎ (recorded disk ≡ 262144)

-- What each call of `read`, `write` and `sync` counts.
pub record CountsCall (old new : MemDisk) (failed : Bool) : Type 0 where
  pub fails_at : fails_at new ≡ fails_at old
  pub calls : calls_of new ≡ raised (calls_of old)
  pub faults : (mem_disk_state new).faults ≡ (if failed then raised (mem_disk_state old).faults else (mem_disk_state old).faults)

-- What no call but a write changes.
pub record SameRecord (old new : MemDisk) : Type 0 where
  pub starved : starved_of new ≡ starved_of old
  pub recorded : recorded new ≡ recorded old

-- The write was added, made or failed: a crash may leave it.
pub record AddsWrite (at : ℕ) (sector : List ℕ) (old new : MemDisk) : Type 0 where
  pub before : Before
  pub moment : disk_moment_of new ≡ after_write (record { at = at; content = sector; before = before }) (disk_moment_of old)
  pub recorded : recorded new ≡ recorded old + 1
  pub starved : starved_of new ≡ starved_of old

-- The write was not added: a crash leaves what it might have left before.
pub record AddsNoWrite (old new : MemDisk) : Type 0 where
  pub moment : disk_moment_of new ≡ disk_moment_of old
  pub same : SameRecord old new

-- The write met want of memory, its record having no room: nothing was added, and it is counted.
pub record Starves (old new : MemDisk) : Type 0 where
  pub no_room : MustGrow old
  pub moment : disk_moment_of new ≡ disk_moment_of old
  pub recorded : recorded new ≡ recorded old
  pub starved : starved_of new ≡ raised (starved_of old)

-- A call that only arms the disk: it counts nothing, lists nothing, and a crash leaves what it might have left.
pub record OnlyArms (old new : MemDisk) : Type 0 where
  pub moment : disk_moment_of new ≡ disk_moment_of old
  pub same : SameRecord old new
  pub fails_at : fails_at new ≡ fails_at old
  pub calls : calls_of new ≡ calls_of old

pub disk_law : (disk : MemDisk) → IsDisk (mem_disk_state disk)
disk_law disk =
    let c = disk.contents in
    mem_is_disk (contents_now c) (past_of c) disk.plan.faults disk.plan.writes disk.plan.until_stop (plan_cuts disk.plan) c.sound.size_fits
    (λ image left. size-moments_past (zero_disk (length c.synced.items)) c.writes.items c.pending image left ∙ length-replicate (length c.synced.items) blank ∙ sym (length-map c.synced.items (made_by c.writes.items)))
