-- What a life finds on the disk when it begins, and what a stop before that leaves.
use Rattle.std.specs.Prelude.{◌≡◌, ℕ, ◌+◌, ◌-◌, List, [], length, Some, Ok}
use Rattle.tm_disk.specs.Disk.{Image}
use Rattle.model_system.specs.System.{System}
use Rattle.model_machine.specs.Machine.{LastingState}
use Rattle.restart_data.specs.declared.restart.RestartSector.{RestartSector}
use Rattle.restart_data.specs.Restart.{restart_in}
use Rattle.log_writer.specs.Writer.{Writer}
use Rattle.model_system.specs.Areas.{is_single, snapshot_area, log_first}
use Rattle.model_image.specs.SectorsAhead.{NoneAhead}
use Rattle.model_image.specs.Counters.{next_sequence}
use Rattle.model_image.specs.RecoveredState.{Recovers, snapshot_from}
use Rattle.checkpointing.specs.SnapshotRecords.{snapshot_records}
use Rattle.model_image.specs.Text.{text_in}

-- the log's writer at the start of the area that a restart sector names
abbrev pub first_writer : System → RestartSector → Writer
first_writer system now = record {
  first = log_first system now.log;
  count = system.logs;
  sequence = now.sequence;
  epoch = now.epoch;
  place = 0;
  appended = [];
}

-- The image has this restart sector and this text, and recovers to this state. Its snapshot has the records of the state,
-- with this next unit and no changes. No log sector of this life is there, so that its log is empty in either area.
pub record IsRenewed (system : System) (text : List ℕ) (now : RestartSector) (unit : ℕ) (state : LastingState) (image : Image) : Type 0 where
  pub restart : restart_in (snapshot_area system) (is_single system) image ≡ Ok (Some now)
  pub text_size : now.text ≡ length text
  pub has_text : text_in image now.text ≡ text
  pub has_snapshot : snapshot_from system image now ≡ Ok (snapshot_records now.checkpoint unit state [])
  pub recovers : Recovers system image (Ok state)
  pub none_ahead : NoneAhead system image now.epoch now.sequence

-- ---- restart sectors

-- a restart takes the next epoch, the next checkpoint, the other areas, and the sequence behind the log
pub record IsNext (system : System) (image : Image) (before now : RestartSector) : Type 0 where
  pub epoch : now.epoch ≡ before.epoch + 1
  pub checkpoint : now.checkpoint ≡ before.checkpoint + 1
  pub sequence : now.sequence ≡ next_sequence system image before
  pub snapshot : now.snapshot ≡ 1 - before.snapshot
  pub log : now.log ≡ 1 - before.log
