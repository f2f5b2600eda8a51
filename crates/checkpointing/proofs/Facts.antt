-- What is known of each image behind a checkpoint, so that what it recovers to can be told.
use Rattle.std.proofs.Common.{◌≡◌, ℕ, ◌+◌, ◌-◌, ◌*◌, ◌<◌, ◌≤◌, ◌^◌, length, false, sym, ◌∙◌, ap, subst, ⊎_elim, arith, None, Ok, IsSome}
use Rattle.tm_disk.specs.Disk.{Image, sector_at}
use Rattle.model_machine.specs.Machine.{LastingState}
use Rattle.log_sectors.specs.SealedSector.{opened_payload}
use Rattle.log_writer.specs.Writer.{Writer}
use Rattle.log_writer.specs.ForcedLog.{log_sectors_of}
use Rattle.model_system.specs.Areas.{log_first}
use Rattle.model_image.specs.RecoveredState.{is_later, first_later, Recovers}
use Rattle.model_image.proofs.Places.{snapshot_below, both_logs}
use Rattle.model_image.proofs.Readings.{opened_not_later}
use Rattle.model_image.proofs.Later.{none_later, each_not_later, not_later}
use Rattle.checkpointing.specs.CheckpointParts.{CheckpointParts, next_restart}
use Rattle.seg_store.specs.ChangedSlots.{AllStores}
use Rattle.checkpointing.specs.Checkpoint.{InArea, IsCheckpointWritten, IsCheckpointed}
use Rattle.checkpointing.proofs.Keeping.{Stands, dirty_above}

module _ (parts : CheckpointParts) (log : Writer) (stores : AllStores) (a e : Image) (s : Stands parts log stores a) (done : IsCheckpointed parts log stores a e) where
  -- a sector of the logs that is written is one of the writer's
  written_log : (k : ℕ) → log_first parts.system 0 ≤ k → k < log_first parts.system 2 → IsCheckpointWritten parts log stores k → InArea (log.first + log.place) (log_sectors_of (length log.appended)) k
  written_log k low high written =
      ⊎_elim (λ (zero : k ≡ 0). absurd (omega (arith, zero, low)))
      (λ others.
      ⊎_elim (λ (in_ : InArea parts.snapshot_at parts.snapshot_sectors k). absurd (omega (arith, in_.high, low, s.free.snapshot_at, s.free.snapshot_sectors, snapshot_below parts.system (1 - parts.now.snapshot) (omega arith))))
      (λ more. ⊎_elim (λ in_. in_) (λ dirty. absurd (omega (arith, high, dirty_above parts log stores a s k dirty))) more)
      others)
      written

  -- no sector of the logs gets a later epoch
  not_later_behind : parts.now.epoch < 2 ^ 64 → (k : ℕ) → log_first parts.system 0 ≤ k → k < log_first parts.system 2 → is_later parts.now.epoch (sector_at a k) ≡ false → is_later parts.now.epoch (sector_at e k) ≡ false
  not_later_behind small k low high before =
      ⊎_elim
      (λ (same : sector_at e k ≡ sector_at a k). ap (is_later parts.now.epoch) same ∙ before)
      (λ written.
      let in_ = written_log k low high written in
      let x = k - log.first in
      let is : log.first + x ≡ k = omega (arith, in_.low) in
      ⊎_elim
      (λ same. subst (λ i. is_later parts.now.epoch (sector_at e i) ≡ false) is (ap (is_later parts.now.epoch) same ∙ subst (λ i. is_later parts.now.epoch (sector_at a i) ≡ false) (sym is) before))
      (λ (logs : IsSome (opened_payload log.epoch (log.sequence + x) (sector_at e (log.first + x)))).
      subst (λ i. is_later parts.now.epoch (sector_at e i) ≡ false) is
      (opened_not_later parts.now.epoch (log.sequence + x) (sector_at e (log.first + x)) small
      (subst (λ n. IsSome (opened_payload n (log.sequence + x) (sector_at e (log.first + x)))) s.over.epoch logs)))
      (done.log_each x (omega (arith, in_.high, s.room))))
      (done.elsewhere k)

  -- where the image before recovers
  pub later_behind : parts.now.epoch < 2 ^ 64 → (state : LastingState) → Recovers parts.system a (Ok state) → first_later (2 * parts.system.logs) e (log_first parts.system 0) (next_restart parts log).epoch ≡ None
  later_behind small state recovers =
      let before = not_later parts.system a parts.now state s.now recovers in
      none_later (2 * parts.system.logs) e (log_first parts.system 0) parts.now.epoch (λ k low high.
      not_later_behind small k low (omega (arith, high, both_logs parts.system)) (each_not_later (2 * parts.system.logs) a (log_first parts.system 0) parts.now.epoch before k low high))
