-- How far a control region counts on.
use Rattle.std.specs.Prelude.{◌≡◌, ℕ, ◌+◌, ◌*◌, ◌≤◌, true, length}
use Rattle.tm_disk.specs.Disk.{Image, DiskState}
use Rattle.checkpointing.specs.Counts.{CountsUpTo}
use Rattle.disk_law.specs.UnitCounts.{StandsUpTo}
use Rattle.tm_control.specs.ControlOnDisk.{ControlOnDisk}
use Rattle.session_law.specs.Measures.{call_raises}

-- how much further an image may count behind a force: no log has an area of more sectors
abbrev pub force_raises : ℕ
force_raises = 2048

-- Of what it counts on for its log nothing is above a bound while it is up, and each image that a crash may leave counts by 2,048 further
-- at most.
pub record CountsUp {D : Type 0} (state : D → DiskState) (high : ℕ) (control : ControlOnDisk D) : Type 0 where
  pub own : control.up ≡ true → StandsUpTo high control.journal control.next_unit
  pub images : (image : Image) → (state control.disk).may_leave image → CountsUpTo control.control.system (high + force_raises) image

-- It keeps pace with its entries: each brings it 4,096 further at most, in a system whose log has areas of 2,048 sectors at most; and
-- without an entry it counts no further.
abbrev pub KeepsPace : {D : Type 0} → (D → DiskState) → ControlOnDisk D → ControlOnDisk D → Type 0
KeepsPace state old new =
    old.control.system.logs ≤ 2048 → (high : ℕ) → CountsUp state (high + call_raises * length old.control.history) old → CountsUp state (high + call_raises * length new.control.history) new
