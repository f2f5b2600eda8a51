-- The steps of a restart, on images and on disks.
use Rattle.std.proofs.Common.{◌≡◌, ◌⊎◌, ℕ, zero, suc, ◌+◌, ◌*◌, ◌<◌, ◌≤◌, ◌^◌, List, length, refl, sym, ◌∙◌, ap, subst, inl, inr, ⊎_elim, arith}
use Rattle.std.specs.Prelude.{Result, Ok, Err, OnOk}
use Rattle.std.proofs.lemmas.Bool.{cases_lt}
use Rattle.std.proofs.lemmas.List.{length-set}
use Rattle.tm_disk.specs.Disk.{Image, DiskState, IsDisk, sector_at, MayWrite, Within, Follows, ChangesOnly}
use Rattle.tm_disk.proofs.Words.{within_more, follows_on}
use Rattle.model_system.specs.System.{System}
use Rattle.restart_data.specs.declared.restart.RestartSector.{RestartSector}
use Rattle.restart_data.specs.Restart.{IsRestart, restart_sector}
use Rattle.restart_data.specs.Snapshot.{snapshot_sectors_of}
use Rattle.restart_data.specs.WrittenSectors.{Saves, Restarts}
use Rattle.restart_data.proofs.ImageLaws.{restart_either, others_stay, restart_keeps_snapshots}
use Rattle.model_system.specs.Areas.{snapshot_area, snapshot_first, log_first, data_first, slot_first, slot_size}
use Rattle.model_image.proofs.Places.{snapshot_below, log_above, slot_above, slot_same}
use Rattle.checkpointing.specs.Checkpoint.{InArea}
use Rattle.checkpointing.proofs.Calls.{within_then}
use Rattle.tm_restart.specs.GivenSlots.{GivenSlots, IsGiven, MayPutAll, HasPutAll}
use Rattle.tm_restart.specs.LifeWrites.{WritesLifeSnapshot, WritesLifeRestart, ChangesUnreadSectors, IsSectorWritten, IsRewritten, Rewrites}

pub on_ok : {A E : Type 0} (r : Result A E) (P Q : Type 0) → (P → Q) → OnOk r P → OnOk r Q
on_ok (Ok x) P Q f p = f p
on_ok (Err e) P Q f p = p

pub sectors_fit : (n k : ℕ) → n ≤ k * 4064 → snapshot_sectors_of n ≤ k
sectors_fit n k le = omega (arith, le)

module _ (system : System) (given : GivenSlots) (bytes : List ℕ) (now : RestartSector) where
  -- slots are put
  pub put_unread : (a b : Image) → MayPutAll system given a b → ChangesUnreadSectors system given now a b
  put_unread a b may = record { size = may.size; each = λ k. ⊎_elim (λ same. inl same) (λ w. inr (inl w)) (may.each k) }

  -- and then a snapshot is written
  snapshot_each : (count : ℕ) (a b c : Image) → count ≤ snapshot_area system → MayPutAll system given a b → ChangesOnly (snapshot_first system now.snapshot) count b c → (k : ℕ)
      → (sector_at c k ≡ sector_at a k) ⊎ (IsGiven system given k (sector_at c k) ⊎ InArea (snapshot_first system now.snapshot) (snapshot_area system) k)
  snapshot_each count a b c fits may changes k =
      let kept : sector_at c k ≡ sector_at b k → (sector_at c k ≡ sector_at a k) ⊎ (IsGiven system given k (sector_at c k) ⊎ InArea (snapshot_first system now.snapshot) (snapshot_area system) k) =
      λ same. ⊎_elim (λ stays. inl (same ∙ stays)) (λ (w : IsGiven system given k (sector_at b k)). inr (inl (subst (IsGiven system given k) (sym same) w))) (may.each k) in
      ⊎_elim
      (λ (below : k < snapshot_first system now.snapshot). kept (changes.below k below))
      (λ (low : snapshot_first system now.snapshot ≤ k).
      ⊎_elim
      (λ (high : k < snapshot_first system now.snapshot + count). inr (inr (record { low = low; high = omega (arith, high, fits) })))
      (λ (above : snapshot_first system now.snapshot + count ≤ k). kept (changes.above k above))
      (cases_lt k (snapshot_first system now.snapshot + count)))
      (cases_lt k (snapshot_first system now.snapshot))

  pub snapshot_unread : (count : ℕ) (a b c : Image) → count ≤ snapshot_area system → MayPutAll system given a b → ChangesOnly (snapshot_first system now.snapshot) count b c → ChangesUnreadSectors system given now a c
  snapshot_unread count a b c fits may changes = record { size = changes.size ∙ may.size; each = snapshot_each count a b c fits may changes }

  module _ (fits : snapshot_sectors_of (length bytes) ≤ snapshot_area system) (is : IsRestart now) where
    -- and then the restart sector
    area_end : snapshot_first system now.snapshot + snapshot_sectors_of (length bytes) ≤ log_first system 0
    area_end = omega (arith, fits, snapshot_below system now.snapshot is.snapshot)

    elsewhere : (a c d : Image) → ChangesUnreadSectors system given now a c → Restarts now c d → (k : ℕ) → (sector_at d k ≡ sector_at a k) ⊎ IsSectorWritten system given now k (sector_at d k)
    elsewhere a c d unread restarts zero = inr (inl refl)
    elsewhere a c d unread restarts (suc i) =
        let k = suc i in
        let same : sector_at d k ≡ sector_at c k = others_stay now c d restarts k (omega arith) in
        ⊎_elim (λ stays. inl (same ∙ stays))
        (λ other. ⊎_elim (λ (w : IsGiven system given k (sector_at c k)). inr (inr (inr (subst (IsGiven system given k) (sym same) w)))) (λ (in_ : InArea (snapshot_first system now.snapshot) (snapshot_area system) k). inr (inr (inl in_))) other)
        (unread.each k)

    pub rewritten : (a d : Image) → WritesLifeRestart system given bytes now a d → IsRewritten system given bytes now a d
    rewritten a d whole =
        let b = whole.one.middle in
        let c = whole.middle in
        let unread = snapshot_unread (snapshot_sectors_of (length bytes)) a b c fits whole.one.one.may whole.one.two.changes in record {
          restart = whole.two.read;
          snapshot = restart_keeps_snapshots now c d whole.two (snapshot_sectors_of (length bytes)) (snapshot_first system now.snapshot) now.checkpoint (omega arith) ∙ whole.one.two.read;
          holds = λ place number slots given_bytes lt found to.
              slot_same (slot_size system place) b d (slot_first system place number)
              (λ i within.
              let k = slot_first system place number + i in
              let above = slot_above system place number i in
              others_stay now c d whole.two k (omega (arith, above, log_above system 2))
              ∙ whole.one.two.changes.above k (omega (arith, above, area_end, log_above system 2)))
              ∙ whole.one.one.holds place number slots given_bytes lt found to;
          size = ap (length {A = List ℕ}) whole.two.set ∙ length-set c 0 (restart_sector now) ∙ unread.size;
          elsewhere = elsewhere a c d unread whole.two;
        }

    -- ---- on a disk
    module _ (sectors : now.sectors ≡ snapshot_sectors_of (length bytes)) (old : DiskState) (disk : IsDisk old) (areas : data_first system (length system.databases) ≤ old.size) where
      area_small : snapshot_area system < old.size
      area_small = omega (arith, areas, slot_above system (length system.databases) 0 0)

      sized : (image : Image) → old.may_leave image → 0 < length image
      sized image left = omega (arith, area_small, disk.image_size old.clock image (disk.now_counts old.clock image (omega arith) left))

      small : now.sectors < 2 ^ 32
      small = omega (arith, sectors, fits, area_small, disk.size_fits)

      restart_rewrites : (a c d : Image) → old.may_leave a → WritesLifeSnapshot system given bytes now a c → MayWrite 0 (restart_sector now) c d → Rewrites system given bytes now a d
      restart_rewrites a c d left saved may =
          let unread = snapshot_unread (snapshot_sectors_of (length bytes)) a saved.middle c fits saved.one.may saved.two.changes in
          ⊎_elim
          (λ (same : d ≡ c). inl (subst (λ (i : Image). ChangesUnreadSectors system given now a i) (sym same) unread))
          (λ (new : Restarts now c d). inr (rewritten a d (record { middle = c; one = saved; two = new })))
          (restart_either now is small c d (omega (arith, sized a left, unread.size)) may)

      pub renewed_within : (mid new : DiskState) → Within (ChangesUnreadSectors system given now) old mid → Follows (WritesLifeSnapshot system given bytes now) old mid → Within (MayWrite 0 (restart_sector now)) mid new → Within (Rewrites system given bytes now) old new
      renewed_within mid new before saved may =
          within_then (ChangesUnreadSectors system given now) (WritesLifeSnapshot system given bytes now) (MayWrite 0 (restart_sector now)) (Rewrites system given bytes now) old mid new (λ a c unread. inl unread) restart_rewrites before saved may

    pub renewed_follows : (old mid new : DiskState) → Follows (WritesLifeSnapshot system given bytes now) old mid → Follows (Restarts now) mid new → Follows (IsRewritten system given bytes now) old new
    renewed_follows old mid new saved restarts =
        follows_on (WritesLifeSnapshot system given bytes now) (Restarts now) (IsRewritten system given bytes now) old mid new (λ a b c one two. rewritten a c (record { middle = b; one = one; two = two })) saved restarts

  pub prepared_within : (old mid new : DiskState) → snapshot_sectors_of (length bytes) ≤ snapshot_area system → Within (MayPutAll system given) old mid → Follows (HasPutAll system given) old mid → Within (ChangesOnly (snapshot_first system now.snapshot) (snapshot_sectors_of (length bytes))) mid new → Within (ChangesUnreadSectors system given now) old new
  prepared_within old mid new fits within follows after =
      within_then (MayPutAll system given) (HasPutAll system given) (ChangesOnly (snapshot_first system now.snapshot) (snapshot_sectors_of (length bytes))) (ChangesUnreadSectors system given now) old mid new put_unread
      (λ a b c left one two. snapshot_unread (snapshot_sectors_of (length bytes)) a b c fits one.may two) within follows after

  pub put_within : (old mid : DiskState) → Within (MayPutAll system given) old mid → Within (ChangesUnreadSectors system given now) old mid
  put_within old mid within = within_more (MayPutAll system given) (ChangesUnreadSectors system given now) old mid put_unread within

  pub prepared_follows : (old mid new : DiskState) → Follows (HasPutAll system given) old mid → Follows (Saves (snapshot_first system now.snapshot) now.checkpoint bytes) mid new → Follows (WritesLifeSnapshot system given bytes now) old new
  prepared_follows old mid new follows after =
      follows_on (HasPutAll system given) (Saves (snapshot_first system now.snapshot) now.checkpoint bytes) (WritesLifeSnapshot system given bytes now) old mid new (λ a b c one two. record { middle = b; one = one; two = two }) follows after
