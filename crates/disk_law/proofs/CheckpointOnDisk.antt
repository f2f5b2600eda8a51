-- A checkpoint on a disk, and the beginning of a life there.
use Rattle.std.proofs.Common.{◌≡◌, ℕ, false, List, [], ◌∷◌, refl, sym, ap, subst, ⊎_elim, arith, Ok}
use Rattle.tm_disk.specs.Disk.{Image, DiskState, IsDisk, ComesFrom, Follows, Within}
use Rattle.model_system.specs.System.{System}
use Rattle.model_machine.specs.Machine.{LastingState}
use Rattle.log_records.specs.declared.record.Record.{Record}
use Rattle.log_writer.specs.Writer.{Writer}
use Rattle.log_writer.specs.ForcedLog.{IsWriterReady}
use Rattle.restart_data.specs.declared.restart.RestartSector.{RestartSector}
use Rattle.restart_data.specs.Restart.{IsRestart}
use Rattle.seg_store.specs.Slots.{Stored}
use Rattle.seg_store.specs.ChangedSlots.{AllStores}
use Rattle.model_image.specs.RecoveredState.{Recovers}
use Rattle.model_image.proofs.Ahead.{ahead_free}
use Rattle.disk_law.specs.CommittedBytes.{Touches}
use Rattle.checkpointing.specs.CheckpointParts.{CheckpointParts, sequence_behind, restart_behind, next_restart, next_writer, forced_writer}
use Rattle.checkpointing.specs.Checkpoint.{KeepsRecovery, IsCheckpointed}
use Rattle.checkpointing.specs.CheckpointNeeds.{HasRestart, NoneIsAhead, ChangedAreNamed, ForceKeeps, SnapshotKeeps}
use Rattle.disk_law.specs.Life.{LifeOnDisk, IsLifeOnDisk}
use Rattle.disk_law.specs.KeptImages.{IsImageKept, AreImagesKept}
use Rattle.disk_law.specs.LifeSteps.{forced_life}
use Rattle.disk_law.specs.PendingMoves.{PendsBehind}
use Rattle.disk_law.proofs.Front.{recovers, forced_is_life}
use Rattle.disk_law.proofs.OnDisk.{settled}
use Rattle.disk_law.specs.LifeCheckpoint.{parts_with, MayCheckpoint, after_checkpoint}
use Rattle.disk_law.specs.OpenedLife.{opened_life, MayOpenLife, IsOpened}
use Rattle.disk_law.proofs.Checkpointed.{changed_named, force_keeps, ahead_behind, checkpoint_kept, checkpoint_life, snapshot_keeps}
use Rattle.disk_law.proofs.Opened.{opened_kept}

-- the writer in a free area from a sequence on, and the life that begins there
abbrev writer_from : CheckpointParts → ℕ → Writer
writer_from parts sequence = record { first = parts.log_at; count = parts.log_sectors; sequence = sequence; epoch = parts.now.epoch; place = 0; appended = [] }

abbrev life_from : List ℕ → Touches → LifeOnDisk → ℕ → LifeOnDisk
life_from bytes touches life sequence = record life {
  now = restart_behind (parts_with bytes life) sequence;
  log = writer_from (parts_with bytes life) sequence;
  appended = [];
  changed = λ database slot. false;
  touches = touches;
}

-- each image of a life has its restart sector
pub has_restart : (life : LifeOnDisk) (disk : DiskState) → AreImagesKept life disk → HasRestart life.system life.now disk
has_restart life disk kept image left = (kept image left).restart

-- ---- a checkpoint, before which all is forced

pub sequence_forced : (log : Writer) → sequence_behind (forced_writer log) ≡ sequence_behind log
sequence_forced log = omega arith

pub next_forced : (parts : CheckpointParts) (log : Writer) → (next_restart parts (forced_writer log) ≡ next_restart parts log) × (next_writer parts (forced_writer log) ≡ next_writer parts log)
next_forced parts log =
    let same : sequence_behind (forced_writer log) ≡ sequence_behind log = sequence_forced log in
    (ap (restart_behind parts) same, ap (writer_from parts) same)

-- the life behind a checkpoint is the same, where all is forced before
pub after_forced : (bytes : List ℕ) (touches : Touches) (life : LifeOnDisk) → after_checkpoint bytes touches (forced_life life) ≡ after_checkpoint bytes touches life
after_forced bytes touches life = ap (life_from bytes touches life) (sequence_forced life.log)

-- and so it may be taken then
pub may_forced : (bytes : List ℕ) (stores : AllStores) (touches : Touches) (told : List Record) (life : LifeOnDisk) → MayCheckpoint bytes stores touches told life → MayCheckpoint bytes stores touches told (forced_life life)
may_forced bytes stores touches told life may = record {
  fits = may.fits;
  next = subst (λ (r : RestartSector). IsRestart r) (sym (next_forced (parts_with bytes life) life.log).0) may.next;
  slots = record { are_of = may.slots.are_of; valid = may.slots.valid; present = may.slots.present; changed = may.slots.changed };
  forgets = record { kept = may.forgets.kept; slots = may.forgets.slots };
  is_snapshot = may.is_snapshot;
}

module _ (bytes : List ℕ) (stores : AllStores) (touches : Touches) (told : List Record) (life : LifeOnDisk) (l : IsLifeOnDisk life) (may : MayCheckpoint bytes stores touches told life) where
  module _ (nothing : life.appended ≡ []) (old : DiskState) (kept : AreImagesKept life old) where
    -- What a checkpoint asks for holds of each image, where nothing waits.
    pub changed_are_named : ChangedAreNamed (parts_with bytes life) life.log stores old
    changed_are_named image left = changed_named bytes stores touches told life l may nothing image (kept image left)

    pub none_is_ahead : NoneIsAhead life.system life.now.epoch (sequence_behind life.log) old
    none_is_ahead image left = ahead_behind bytes stores touches told life l may nothing image (kept image left)

    pub forces_keep : ForceKeeps (parts_with bytes life) life.log old
    forces_keep before after left front = force_keeps bytes stores touches told life l may nothing before (kept before left) after front

    pub snapshots_keep : SnapshotKeeps (parts_with bytes life) life.log stores old
    snapshots_keep before after left done = snapshot_keeps bytes stores touches told life l may nothing before after (kept before left) done

  -- Behind it an image has all of the life behind it, where it had all of the life,
  pub image_behind : (before : Image) → IsImageKept (forced_life life) before → (after : Image) → IsCheckpointed (parts_with bytes life) (forced_writer life.log) stores before after → IsImageKept (after_checkpoint bytes touches life) after
  image_behind before kept after done =
      subst (λ (x : LifeOnDisk). IsImageKept x after) (after_forced bytes touches life)
      (checkpoint_kept bytes stores touches told (forced_life life) (forced_is_life life l) (may_forced bytes stores touches told life may) refl before kept after done)

  -- and so each image has, once it is done.
  pub checkpoint_done : (old : DiskState) → AreImagesKept (forced_life life) old → (new : DiskState) → Follows (IsCheckpointed (parts_with bytes life) (forced_writer life.log) stores) old new → PendsBehind (life.lasting ∷ []) (after_checkpoint bytes touches life) new
  checkpoint_done old kept new follows =
      settled (after_checkpoint bytes touches life) new (checkpoint_life bytes stores touches told life l may) refl (λ image left.
      let c = follows.from image left in image_behind c.before (kept c.before c.left) image c.by)

-- Whenever a crash came within a call that keeps what lasts, the image recovers to it.
pub keeps_at_any_moment : (life : LifeOnDisk) → IsLifeOnDisk life → (old new : DiskState) → AreImagesKept life old → IsDisk old → Within (KeepsRecovery life.system) old new → (image : Image) → new.left_since old.clock image → Recovers life.system image (Ok life.lasting)
keeps_at_any_moment life l old new kept disk within image left =
    ⊎_elim
    (λ was. recovers life l image (kept image (disk.now_alone image was)))
    (λ (c : ComesFrom (KeepsRecovery life.system) old image). c.by life.lasting (recovers life l c.before (kept c.before c.left)))
    (within.from old.clock image (omega arith) left)

-- ---- a life begins

module _ (system : System) (text : List ℕ) (now : RestartSector) (stores : List Stored) (state : LastingState) (told : List Record) (may : MayOpenLife system now stores state told) (disk : DiskState)
    (opens : (image : Image) → disk.may_leave image → IsOpened system text now stores state told image) where
  -- Each image has all of it.
  pub opened_done : IsLifeOnDisk (opened_life system text now stores state) → PendsBehind (state ∷ []) (opened_life system text now stores state) disk
  opened_done l = settled (opened_life system text now stores state) disk l refl (λ image left. opened_kept system text now stores state told may image (opens image left))

  -- And its writer stands where the log ends.
  pub opened_ready : IsWriterReady (opened_life system text now stores state).log disk
  opened_ready image left = record {
    written = λ x lt. absurd (omega (arith, lt));
    free = λ x far lt. ahead_free system image now.epoch now.sequence now.log x (opens image left).none_ahead may.in_range.log lt (omega (arith, lt, may.few, may.in_range.sequence.1));
  }
