-- The whole of a checkpoint on a disk.
use Rattle.std.proofs.Common.{◌≡◌, ℕ, ◌+◌, ◌*◌, ◌<◌, ◌≤◌, ◌^◌, [], refl, ap, length, ⊎_elim, inl, inr, ◌∙◌, arith, sym, subst}
use Rattle.tm_disk.specs.Disk.{Image, DiskState, IsDisk, Follows, Within, MayWrite, ChangesOnly}
use Rattle.tm_disk.proofs.Words.{follows_on, follows_where, within_where}
use Rattle.restart_data.specs.declared.restart.RestartSector.{RestartSector}
use Rattle.restart_data.specs.Restart.{IsRestart, restart_sector}
use Rattle.restart_data.specs.Snapshot as snapshot
use Rattle.restart_data.specs.WrittenSectors.{Restarts}
use Rattle.restart_data.proofs.ImageLaws.{restart_either}
use Rattle.log_sectors.specs.Chain.{joined_payloads}
use Rattle.log_writer.specs.Writer.{Writer}
use Rattle.log_writer.proofs.Gaining.{chain-ended}
use Rattle.log_writer.specs.ForcedLog.{log_of_writer, log_sectors_of, IsAtEnd, IsWriterReady}
use Rattle.checkpointing.specs.CheckpointParts.{CheckpointParts, AreAreasFree, IsOver, sequence_behind, forced_writer, next_restart, next_writer}
use Rattle.seg_store.specs.ChangedSlots.{AllStores}
use Rattle.checkpointing.specs.DirtySlots.{AreStoresOf}
use Rattle.checkpointing.specs.Checkpoint.{KeepsRecovery, IsCheckpointed}
use Rattle.checkpointing.specs.CheckpointNeeds.{HasRestart, NoneIsAhead, ChangedAreNamed, ForceKeeps, SnapshotKeeps}
use Rattle.checkpointing.specs.DefinitionText.{KeepsText}
use Rattle.checkpointing.proofs.Texts.{prepares_text, written_text}
use Rattle.checkpointing.specs.CheckpointSteps.{WritesSnapshot, WritesRestart, Prepares, Takes}
use Rattle.checkpointing.proofs.Calls.{within_then}
use Rattle.checkpointing.proofs.Preparing.{sectors_fit, snapshot_prepares}
use Rattle.model_system.specs.Areas.{log_first, data_first}
use Rattle.model_image.proofs.Places.{slot_above, both_logs}
use Rattle.checkpointing.proofs.Keeping.{Stands, prepares_keep, is_checkpointed, next_restart_in, next_ahead, next_at_end}

-- What is known before the checkpoint.
pub record Asked (parts : CheckpointParts) (log : Writer) (stores : AllStores) (disk : DiskState) : Type 0 where
  pub areas : data_first parts.system (length parts.system.databases) ≤ disk.size
  pub now : HasRestart parts.system parts.now disk
  pub free : AreAreasFree parts
  pub over : IsOver parts log
  pub room : log.place + log_sectors_of (length log.appended) ≤ log.count
  pub of_ : AreStoresOf parts.system stores
  pub fits : snapshot.snapshot_sectors_of (length parts.snapshot) ≤ parts.snapshot_sectors
  pub next : IsRestart (next_restart parts log)
  pub named : ChangedAreNamed parts log stores disk
  pub ahead : NoneIsAhead parts.system parts.now.epoch (sequence_behind log) disk
  pub force : ForceKeeps parts log disk
  pub snapshot_keeps : SnapshotKeeps parts log stores disk

module _ (parts : CheckpointParts) (log : Writer) (stores : AllStores) (old : DiskState) (disk : IsDisk old) (asked : Asked parts log stores old) where
  stands : (image : Image) → old.may_leave image → Stands parts log stores image
  stands image left = record {
    now = asked.now image left;
    free = asked.free;
    over = asked.over;
    room = asked.room;
    of_ = asked.of_;
    fits = asked.fits;
    named = asked.named image left;
  }

  prepares_recover : (a e : Image) → old.may_leave a → Prepares parts log stores a e → KeepsRecovery parts.system a e
  prepares_recover a e left prepares =
      prepares_keep parts log stores a (stands a left) (λ c front. asked.force a c left front) e prepares

  pub checkpointed : (a e : Image) → old.may_leave a → WritesRestart parts log stores a e → IsCheckpointed parts log stores a e
  checkpointed a e left whole = is_checkpointed parts log stores a (stands a left) e whole

  takes_recover : (a e : Image) → old.may_leave a → Takes parts log stores a e → KeepsRecovery parts.system a e
  takes_recover a e left takes =
      ⊎_elim (λ prepares. prepares_recover a e left prepares)
      (λ whole. asked.snapshot_keeps a e left (checkpointed a e left whole))
      takes

  some_size : 0 < old.size
  some_size = omega (arith, asked.areas)

  small : snapshot.snapshot_sectors_of (length parts.snapshot) < 2 ^ 32
  small = omega (arith, asked.areas, asked.fits, asked.free.snapshot_sectors, disk.size_fits)

  -- while the restart sector is written
  restart_takes : (a b c : Image) → old.may_leave a → WritesSnapshot parts log stores a b → MayWrite 0 (restart_sector (next_restart parts log)) b c → Takes parts log stores a c
  restart_takes a b c left saved may =
      let image_size : length a ≡ old.size = disk.image_size old.clock a (disk.now_counts old.clock a (omega arith) left) in
      let some : 0 < length b = omega (arith, image_size, some_size, saved.two.changes.size, saved.one.two.size, saved.one.one.changes.size) in
      ⊎_elim
      (λ (same : c ≡ b). inl (snapshot_prepares parts log stores asked.of_ (snapshot.snapshot_sectors_of (length parts.snapshot)) a saved.middle c asked.fits saved.one (subst (λ (i : Image). ChangesOnly parts.snapshot_at (snapshot.snapshot_sectors_of (length parts.snapshot)) saved.middle i) (sym same) saved.two.changes)))
      (λ (new : Restarts (next_restart parts log) b c). inr (record { middle = b; one = saved; two = new }))
      (restart_either (next_restart parts log) asked.next small b c some may)

  takes_text : (a e : Image) → old.may_leave a → Takes parts log stores a e → KeepsText parts.system a e
  takes_text a e left takes =
      ⊎_elim (λ prepares. prepares_text parts log stores a (stands a left) e prepares)
      (λ whole. written_text parts log stores a (stands a left) e (omega (arith, asked.fits, asked.free.snapshot_sectors)) (checkpointed a e left whole))
      takes

  -- ---- at each exit
  pub prepared_text : (new : DiskState) → Within (Prepares parts log stores) old new → Within (KeepsText parts.system) old new
  prepared_text new within =
      within_where (Prepares parts log stores) (KeepsText parts.system) old new (λ a e left prepares. prepares_text parts log stores a (stands a left) e prepares) within

  pub taken_text : (mid new : DiskState) → Within (Prepares parts log stores) old mid → Follows (WritesSnapshot parts log stores) old mid → Within (MayWrite 0 (restart_sector (next_restart parts log))) mid new → Within (KeepsText parts.system) old new
  taken_text mid new before saved may =
      within_where (Takes parts log stores) (KeepsText parts.system) old new takes_text
      (within_then (Prepares parts log stores) (WritesSnapshot parts log stores) (MayWrite 0 (restart_sector (next_restart parts log))) (Takes parts log stores) old mid new (λ a c prepares. inl prepares) restart_takes before saved may)

  pub prepared_steps : (new : DiskState) → Within (Prepares parts log stores) old new → Within (Takes parts log stores) old new
  prepared_steps new within = within_where (Prepares parts log stores) (Takes parts log stores) old new (λ a e left prepares. inl prepares) within

  pub taken_steps : (mid new : DiskState) → Within (Prepares parts log stores) old mid → Follows (WritesSnapshot parts log stores) old mid → Within (MayWrite 0 (restart_sector (next_restart parts log))) mid new → Within (Takes parts log stores) old new
  taken_steps mid new before saved may =
      within_then (Prepares parts log stores) (WritesSnapshot parts log stores) (MayWrite 0 (restart_sector (next_restart parts log))) (Takes parts log stores) old mid new (λ a c prepares. inl prepares) restart_takes before saved may

  pub prepared_within : (new : DiskState) → Within (Prepares parts log stores) old new → Within (KeepsRecovery parts.system) old new
  prepared_within new within = within_where (Prepares parts log stores) (KeepsRecovery parts.system) old new prepares_recover within

  pub taken_within : (mid new : DiskState) → Within (Prepares parts log stores) old mid → Follows (WritesSnapshot parts log stores) old mid → Within (MayWrite 0 (restart_sector (next_restart parts log))) mid new → Within (KeepsRecovery parts.system) old new
  taken_within mid new before saved may =
      within_where (Takes parts log stores) (KeepsRecovery parts.system) old new takes_recover
      (within_then (Prepares parts log stores) (WritesSnapshot parts log stores) (MayWrite 0 (restart_sector (next_restart parts log))) (Takes parts log stores) old mid new (λ a c prepares. inl prepares) restart_takes before saved may)

  pub taken_follows : (mid new : DiskState) → Follows (WritesSnapshot parts log stores) old mid → Follows (Restarts (next_restart parts log)) mid new → Follows (IsCheckpointed parts log stores) old new
  taken_follows mid new saved restarts =
      follows_where (WritesRestart parts log stores) (IsCheckpointed parts log stores) old new checkpointed
      (follows_on (WritesSnapshot parts log stores) (Restarts (next_restart parts log)) (WritesRestart parts log stores) old mid new (λ a b c one two. record { middle = b; one = one; two = two }) saved restarts)

  pub taken_restart : (new : DiskState) → Follows (IsCheckpointed parts log stores) old new → HasRestart parts.system (next_restart parts log) new
  taken_restart new follows image left =
      let w = follows.from image left in next_restart_in parts log stores w.before (stands w.before w.left) image w.by

  small_logs : log_first parts.system 2 < 2 ^ 32
  small_logs = omega (arith, asked.areas, disk.size_fits, slot_above parts.system (length parts.system.databases) 0 0)

  pub taken_ahead : (new : DiskState) → Follows (IsCheckpointed parts log stores) old new → NoneIsAhead parts.system parts.now.epoch (sequence_behind log) new
  taken_ahead new follows image left =
      let w = follows.from image left in next_ahead parts log stores w.before (stands w.before w.left) image w.by (asked.ahead w.before w.left)

  pub taken_ready : (new : DiskState) → Follows (IsCheckpointed parts log stores) old new → IsWriterReady (next_writer parts log) new
  taken_ready new follows image left =
      next_at_end parts log asked.free image (omega (arith, asked.next.sequence.1, small_logs, both_logs parts.system)) (taken_ahead new follows image left)

pub all_asked : (parts : CheckpointParts) (log : Writer) (stores : AllStores) (disk : DiskState) → data_first parts.system (length parts.system.databases) ≤ disk.size → HasRestart parts.system parts.now disk → AreAreasFree parts → IsOver parts log → log.place + log_sectors_of (length log.appended) ≤ log.count → AreStoresOf parts.system stores → length parts.snapshot ≤ parts.snapshot_sectors * 4064 → IsRestart (next_restart parts log) → ChangedAreNamed parts log stores disk → NoneIsAhead parts.system parts.now.epoch (sequence_behind log) disk → ForceKeeps parts log disk → SnapshotKeeps parts log stores disk → Asked parts log stores disk
all_asked parts log stores disk areas now free over room of_ fits next named ahead force snapshot_keeps = record {
  areas = areas;
  now = now;
  free = free;
  over = over;
  room = room;
  of_ = of_;
  fits = sectors_fit (length parts.snapshot) parts.snapshot_sectors fits;
  next = next;
  named = named;
  ahead = ahead;
  force = force;
  snapshot_keeps = snapshot_keeps;
}

-- ---- the code's own values

pub next_of_forced : (forced log : Writer) → forced ≡ forced_writer log → forced.sequence + forced.place ≡ sequence_behind log
next_of_forced forced log is = ap (λ (w : Writer). w.sequence + w.place) is ∙ omega arith

abbrev pub writer_at : ℕ → ℕ → RestartSector → Writer
writer_at first count r = record { first = first; count = count; sequence = r.sequence; epoch = r.epoch; place = 0; appended = [] }

pub same_writer : (first count : ℕ) (r next : RestartSector) → r ≡ next → writer_at first count r ≡ writer_at first count next
same_writer first count r next same = subst (λ (n : RestartSector). writer_at first count r ≡ writer_at first count n) same refl

-- a writer at the start of an area has no log
pub begins_empty : (w : Writer) (image : Image) → IsAtEnd w image → w.place ≡ 0 → log_of_writer w image ≡ []
begins_empty w image end none =
    ap joined_payloads (chain-ended w.count image w.first w.sequence w.epoch (λ some. end.free 0 (omega (arith, none)) some))
