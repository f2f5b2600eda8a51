-- All steps before the restart sector.
use Rattle.std.proofs.Common.{◌≡◌, ◌⊎◌, ℕ, ◌+◌, ◌*◌, ◌<◌, ◌≤◌, ⊎_elim, inl, inr, ◌∙◌, arith}
use Rattle.std.proofs.lemmas.Bool.{cases_lt}
use Rattle.tm_disk.specs.Disk.{Image, DiskState, sector_at, Follows, Within, ChangesOnly}
use Rattle.tm_disk.proofs.Words.{follows_on}
use Rattle.restart_data.specs.Snapshot as snapshot
use Rattle.log_writer.specs.Writer.{Writer}
use Rattle.log_writer.specs.ForcedLog.{AddsFront, AddsAll}
use Rattle.checkpointing.specs.CheckpointParts.{CheckpointParts}
use Rattle.seg_store.specs.ChangedSlots.{AllStores}
use Rattle.seg_store.specs.DataSectors.{MayPut, HasPut}
use Rattle.seg_store.specs.WrittenSlots.{changed_bytes}
use Rattle.model_system.specs.Areas.{data_first}
use Rattle.checkpointing.specs.DirtySlots.{DirtyAt, AreStoresOf}
use Rattle.checkpointing.proofs.Slots.{may_dirty, put_dirty}
use Rattle.checkpointing.specs.Checkpoint.{InArea}
use Rattle.checkpointing.specs.CheckpointSteps.{WritesSlots, Prepares}
use Rattle.checkpointing.proofs.Calls.{within_then}

pub sectors_fit : (n k : ℕ) → n ≤ k * 4064 → snapshot.snapshot_sectors_of n ≤ k
sectors_fit n k le = omega (arith, le)

module _ (parts : CheckpointParts) (log : Writer) (stores : AllStores) (of_ : AreStoresOf parts.system stores) where
  -- changed slots are written
  slots_prepare : (a b c : Image) → AddsAll log a b → MayPut (data_first parts.system 0) (changed_bytes stores) b c → Prepares parts log stores a c
  slots_prepare a b c forced writes = inr (record {
    middle = b;
    one = forced;
    two = record { size = writes.size; each = λ k. ⊎_elim (λ same. inl same) (λ dirty. inr (inl dirty)) (may_dirty parts.system stores of_ b c writes k) };
  })

  -- a sector once the snapshot was written
  snapshot_each : (n : ℕ) (b c d : Image) → n ≤ parts.snapshot_sectors → HasPut (data_first parts.system 0) (changed_bytes stores) b c → ChangesOnly parts.snapshot_at n c d → (k : ℕ) → (sector_at d k ≡ sector_at b k) ⊎ (DirtyAt parts.system stores k ⊎ InArea parts.snapshot_at parts.snapshot_sectors k)
  snapshot_each n b c d fits writes changes k =
      let kept : sector_at d k ≡ sector_at c k → (sector_at d k ≡ sector_at b k) ⊎ (DirtyAt parts.system stores k ⊎ InArea parts.snapshot_at parts.snapshot_sectors k) =
      λ same. ⊎_elim (λ stays. inl (same ∙ stays)) (λ dirty. inr (inl dirty)) (put_dirty parts.system stores of_ b c writes k) in
      ⊎_elim
      (λ (below : k < parts.snapshot_at). kept (changes.below k below))
      (λ (low : parts.snapshot_at ≤ k).
      ⊎_elim
      (λ (high : k < parts.snapshot_at + n). inr (inr (record { low = low; high = omega (arith, high, fits) })))
      (λ (above : parts.snapshot_at + n ≤ k). kept (changes.above k above))
      (cases_lt k (parts.snapshot_at + n)))
      (cases_lt k parts.snapshot_at)

  pub snapshot_prepares : (n : ℕ) (a c d : Image) → n ≤ parts.snapshot_sectors → WritesSlots parts log stores a c → ChangesOnly parts.snapshot_at n c d → Prepares parts log stores a d
  snapshot_prepares n a c d fits slots changes = inr (record {
    middle = slots.middle;
    one = slots.one;
    two = record { size = changes.size ∙ slots.two.size; each = snapshot_each n slots.middle c d fits slots.two changes };
  })

  -- the log is forced, and slots are written
  pub within_slots : (old mid new : DiskState) → Within (AddsFront log) old mid → Follows (AddsAll log) old mid → Within (MayPut (data_first parts.system 0) (changed_bytes stores)) mid new → Within (Prepares parts log stores) old new
  within_slots old mid new front all writes =
      within_then (AddsFront log) (AddsAll log) (MayPut (data_first parts.system 0) (changed_bytes stores)) (Prepares parts log stores) old mid new (λ a c adds. inl adds) (λ a b c left forced writes. slots_prepare a b c forced writes) front all writes

  pub follows_slots : (old mid new : DiskState) → Follows (AddsAll log) old mid → Follows (HasPut (data_first parts.system 0) (changed_bytes stores)) mid new → Follows (WritesSlots parts log stores) old new
  follows_slots old mid new all holds =
      follows_on (AddsAll log) (HasPut (data_first parts.system 0) (changed_bytes stores)) (WritesSlots parts log stores) old mid new (λ a b c one two. record { middle = b; one = one; two = two }) all holds

  -- and then the snapshot
  pub within_snapshot : (n : ℕ) (old mid new : DiskState) → n ≤ parts.snapshot_sectors → Within (Prepares parts log stores) old mid → Follows (WritesSlots parts log stores) old mid → Within (ChangesOnly parts.snapshot_at n) mid new → Within (Prepares parts log stores) old new
  within_snapshot n old mid new fits before slots changes =
      within_then (Prepares parts log stores) (WritesSlots parts log stores) (ChangesOnly parts.snapshot_at n) (Prepares parts log stores) old mid new (λ a c prepares. prepares) (λ a b c left slots changes. snapshot_prepares n a b c fits slots changes) before slots changes
