-- What a checkpoint is made of, and what it leaves in place of the old restart sector and of the log's writer.
use Rattle.std.specs.Prelude.{◌≡◌, ℕ, ◌+◌, ◌-◌, List, [], length}
use Rattle.model_system.specs.System.{System}
use Rattle.restart_data.specs.declared.restart.RestartSector.{RestartSector}
use Rattle.restart_data.specs.Snapshot as snapshot
use Rattle.log_writer.specs.Writer.{Writer}
use Rattle.log_writer.specs.ForcedLog.{log_sectors_of}
use Rattle.model_system.specs.Areas.{snapshot_area, snapshot_first, log_first}
use Rattle.checkpointing.specs.declared.checkpoint.PartsView.{PartsView}

-- the system, the restart sector that holds, where the snapshot and the log behind it are to stand, and the snapshot's
-- bytes
pub record CheckpointParts : Type 0 where
  pub system : System
  pub now : RestartSector
  pub snapshot_at : ℕ
  pub snapshot_sectors : ℕ
  pub log_at : ℕ
  pub log_sectors : ℕ
  pub snapshot : List ℕ

abbrev pub checkpoint_parts_of : PartsView → CheckpointParts
checkpoint_parts_of view = record {
  system = view.system.now;
  now = view.now.now;
  snapshot_at = view.snapshot_at;
  snapshot_sectors = view.snapshot_sectors;
  log_at = view.log_at;
  log_sectors = view.log_sectors;
  snapshot = view.snapshot.now;
}

-- the other of two areas, which have the numbers 0 and 1
abbrev pub other_area : ℕ → ℕ
other_area area = 1 - area

-- the sequence behind what was written and what is to be forced
abbrev pub sequence_behind : Writer → ℕ
sequence_behind log = log.sequence + log.place + log_sectors_of (length log.appended)

-- The restart sector that a checkpoint writes: it names the new snapshot and the other log area, whose first sequence is
-- the next one.
abbrev pub restart_behind : CheckpointParts → ℕ → RestartSector
restart_behind parts sequence = record {
  epoch = parts.now.epoch;
  snapshot = other_area parts.now.snapshot;
  log = other_area parts.now.log;
  sectors = snapshot.snapshot_sectors_of (length parts.snapshot);
  sequence = sequence;
  checkpoint = parts.now.checkpoint + 1;
  text = parts.now.text;
}

abbrev pub next_restart : CheckpointParts → Writer → RestartSector
next_restart parts log = restart_behind parts (sequence_behind log)

-- the log's writer once all is forced
abbrev pub forced_writer : Writer → Writer
forced_writer log = record log { place = log.place + log_sectors_of (length log.appended); appended = [] }

-- The log's writer behind a checkpoint, at the start of the other log area.
abbrev pub next_writer : CheckpointParts → Writer → Writer
next_writer parts log = record {
  first = parts.log_at;
  count = parts.log_sectors;
  sequence = sequence_behind log;
  epoch = parts.now.epoch;
  place = 0;
  appended = [];
}

-- The areas are those that the restart sector doesn't name.
pub record AreAreasFree (parts : CheckpointParts) : Type 0 where
  pub snapshot_at : parts.snapshot_at ≡ snapshot_first parts.system (other_area parts.now.snapshot)
  pub snapshot_sectors : parts.snapshot_sectors ≡ snapshot_area parts.system
  pub log_at : parts.log_at ≡ log_first parts.system (other_area parts.now.log)
  pub log_sectors : parts.log_sectors ≡ parts.system.logs

-- The writer is over the log area that the restart sector names, with its epoch and its first sequence.
pub record IsOver (parts : CheckpointParts) (log : Writer) : Type 0 where
  pub first : log.first ≡ log_first parts.system parts.now.log
  pub count : log.count ≡ parts.system.logs
  pub sequence : log.sequence ≡ parts.now.sequence
  pub epoch : log.epoch ≡ parts.now.epoch
