-- Log sectors that a life has still to write.
use Rattle.std.specs.Prelude.{◌≡◌, ℕ, ◌+◌, ◌*◌, ◌<◌, ◌≤◌, ◌^◌, None}
use Rattle.tm_disk.specs.Disk.{Image, sector_at}
use Rattle.model_system.specs.System.{System}
use Rattle.log_sectors.specs.SealedSector.{opened_payload}
use Rattle.model_system.specs.Areas.{log_first}

-- No sector of either log area is a log sector of this epoch with this sequence or a later one. Both are numbers of eight
-- bytes, so greater ones aren't looked at.
pub record NoneAhead (system : System) (image : Image) (epoch sequence : ℕ) : Type 0 where
  pub none : (x n : ℕ) → x < 2 * system.logs → sequence ≤ n → n < 2 ^ 64 → opened_payload epoch n (sector_at image (log_first system 0 + x)) ≡ None
