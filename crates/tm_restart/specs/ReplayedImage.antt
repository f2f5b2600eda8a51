-- What reading the snapshot and the log of an image answers.
use Rattle.std.specs.Prelude.{◌≡◌, List, Some, Result, Ok, Err}
use Rattle.tm_disk.specs.Disk.{Image, DiskState, FailedSince}
use Rattle.model_system.specs.System.{System}
use Rattle.model_machine.specs.Machine.{LastingState}
use Rattle.log_records.specs.declared.record.Record.{Record}
use Rattle.restart_data.specs.declared.restart.RestartSector.{RestartSector}
use Rattle.model_system.specs.Areas.{log_first}
use Rattle.model_image.specs.Counters.{next_sequence}
use Rattle.model_image.specs.CutRecords.{IsRecordCutOff}
use Rattle.model_image.specs.RecoveredState.{snapshot_from, log_in, first_later, Recovers}
use Rattle.model_image.specs.Replay.{replay_of}
use Rattle.model_image.specs.Snapshot.{snapshot_state}
use Rattle.image_law.specs.SegmentCounts.{AreSegmentsCounted}
use Rattle.checkpointing.specs.SnapshotRecords.{IsOfSystem}
use Rattle.image_records.specs.RecordAnswers.{ReplayedState, IsBehindLog}
use Rattle.image_reading.specs.declared.fault.ReadFault.{ReadFault}
use Rattle.image_reading.specs.declared.fault.ReadFault.TheVariants as faults
use Rattle.tm_restart.specs.declared.replaying.Reread.{Reread}

-- What was read comes from records of a snapshot and of a log, on every disk. They leave a state of the system, whose
-- messages and replies have 1 to 32 segments.
pub record ComesBehind (system : System) (replayed : ReplayedState) : Type 0 where
  pub snapshot : List Record
  pub log : List Record
  pub lasting : LastingState
  pub behind : IsBehindLog system snapshot log lasting replayed
  pub counted : AreSegmentsCounted lasting
  pub named : IsOfSystem system lasting

-- The image's snapshot and the records of its log come to this state; what is left of the log is cut off.
pub record IsReplayed (system : System) (image : Image) (restart : RestartSector) (read : Reread) : Type 0 where
  pub snapshot : List Record
  pub has : snapshot_from system image restart ≡ Ok snapshot
  pub cut_off : IsRecordCutOff (log_in system image restart).rest
  pub lasting : LastingState
  pub replays : replay_of system (log_in system image restart).records (snapshot_state system snapshot) ≡ Some lasting
  pub behind : IsBehindLog system snapshot (log_in system image restart).records lasting read.replayed
  pub sequence : read.next_sequence ≡ next_sequence system image restart
  pub later : read.later ≡ first_later system.logs image (log_first system restart.log) restart.epoch

abbrev pub TellsReplay : System → RestartSector → Image → Result Reread ReadFault → Type 0
TellsReplay system restart image (Ok read) = IsReplayed system image restart read
TellsReplay system restart image (Err (faults.Bad rule sector)) = Recovers system image (Err (rule, sector))
TellsReplay system restart image (Err faults.Disk) = Unit {0}
TellsReplay system restart image (Err faults.Memory) = Unit {0}

-- The disk failed in the call exactly where that is told.
abbrev pub ReplayCause : Result Reread ReadFault → DiskState → DiskState → Type 0
ReplayCause (Ok value) old new = new.faults ≡ old.faults
ReplayCause (Err (faults.Bad rule sector)) old new = new.faults ≡ old.faults
ReplayCause (Err faults.Disk) old new = FailedSince old new
ReplayCause (Err faults.Memory) old new = new.faults ≡ old.faults
