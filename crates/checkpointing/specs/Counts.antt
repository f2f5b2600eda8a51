-- What is counted on, as an image tells it.
use Rattle.std.specs.Prelude.{◌≡◌, ℕ, ◌+◌, ◌≤◌, List, Some, Ok}
use Rattle.tm_disk.specs.Disk.{Image}
use Rattle.model_system.specs.System.{System}
use Rattle.log_records.specs.declared.record.Record.{Record}
use Rattle.restart_data.specs.declared.restart.RestartSector.{RestartSector}
use Rattle.restart_data.specs.Restart.{restart_in}
use Rattle.model_system.specs.Areas.{is_single, snapshot_area}
use Rattle.model_image.specs.Counters.{next_sequence, next_unit}
use Rattle.model_image.specs.RecoveredState.{snapshot_from, log_in}

-- No counter of an image with this restart sector is above a bound: the epoch, the log's next sequence, the checkpoint and the
-- next unit.
pub record AreUpTo (system : System) (high : ℕ) (image : Image) (restart : RestartSector) : Type 0 where
  pub epoch : restart.epoch ≤ high
  pub sequence : next_sequence system image restart ≤ high
  pub checkpoint : restart.checkpoint ≤ high
  pub unit : (snapshot : List Record) → snapshot_from system image restart ≡ Ok snapshot → next_unit snapshot (log_in system image restart).records ≤ high

-- No counter of an image is above a bound. One without a restart sector has none.
abbrev pub CountsUpTo : System → ℕ → Image → Type 0
CountsUpTo system high image = (restart : RestartSector) → restart_in (snapshot_area system) (is_single system) image ≡ Ok (Some restart) → AreUpTo system high image restart

-- Where no counter of the first image is above a bound, none of the second is by more than so much.
abbrev pub RaisesCounts : ℕ → System → Image → Image → Type 0
RaisesCounts more system before after = (high : ℕ) → CountsUpTo system high before → CountsUpTo system (high + more) after
