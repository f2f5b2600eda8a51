-- What the steps of a checkpoint leave of an image, and what it recovers to.
use Rattle.std.proofs.Common.{◌≡◌, ◌⊎◌, ℕ, zero, suc, ◌+◌, ◌-◌, ◌<◌, ◌≤◌, ◌^◌, List, [], ◌++◌, length, refl, sym, ◌∙◌, ap, subst, inl, inr, ⊎_elim, arith, Some, None, Ok, IsSome}
use Rattle.std.specs.Prelude.{slice_index_or}
use Rattle.std.proofs.lemmas.Bool.{cases_lt}
use Rattle.std.proofs.lemmas.List.{length-set, take_all}
use Rattle.tm_disk.specs.Disk.{Image, sector_at}
use Rattle.log_records.specs.declared.record.Record.{Record}
use Rattle.log_sectors.specs.SealedSector.{opened_payload}
use Rattle.log_sectors.specs.Chain.{chain, joined_payloads}
use Rattle.log_writer.specs.Writer.{Writer}
use Rattle.log_writer.specs.ForcedLog.{log_of_writer, log_sectors_of, IsAtEnd, StaysOrLogs, AddsFront, AddsAll}
use Rattle.log_writer.proofs.Gaining.{chain-same}
use Rattle.restart_data.specs.Restart.{restart_of, restart_in, restart_sector}
use Rattle.restart_data.specs.Snapshot as snapshot
use Rattle.restart_data.specs.WrittenSectors.{Saves, Restarts}
use Rattle.restart_data.proofs.ImageLaws.{others_stay, restart_keeps_snapshots}
use Rattle.model_image.specs.SectorsAhead.{NoneAhead}
use Rattle.model_system.specs.Areas.{is_single, snapshot_area, log_first, data_first, slot_first, slot_size}
use Rattle.model_image.specs.CutRecords.{cut_of}
use Rattle.model_image.specs.Slots.{named_by, slot_at}
use Rattle.model_image.specs.RecoveredState.{snapshot_from, log_in}
use Rattle.model_image.proofs.Ahead.{opened_one, ahead_free}
use Rattle.model_image.proofs.Alike.{ImagesAlike, recovers_alike, snapshot_same}
use Rattle.model_image.proofs.Places.{snapshot_below, log_above, log_below, both_logs, slot_above, slot_same}
use Rattle.model_image.proofs.Readings.{IsKept, restart_kept}
use Rattle.model_image.proofs.Unread.{InFreeSnapshot, OfNamedSlot, unread_alike}
use Rattle.checkpointing.specs.CheckpointParts.{CheckpointParts, AreAreasFree, IsOver, sequence_behind, next_restart, next_writer}
use Rattle.model_data.specs.Record.{rows_spelling}
use Rattle.seg_store.specs.ChangedSlots.{AllStores}
use Rattle.seg_store.specs.DataSectors.{slot_spelling, HasPut}
use Rattle.seg_store.specs.WrittenSlots.{changed_bytes}
use Rattle.checkpointing.specs.DirtySlots.{DirtySlot, DirtyAt, AreStoresOf}
use Rattle.checkpointing.proofs.Slots.{dirty_slot, put_dirty, put_holds}
use Rattle.checkpointing.specs.Checkpoint.{KeepsRecovery, InArea, IsCheckpointWritten, IsCheckpointed}
use Rattle.checkpointing.specs.CheckpointSteps.{Then, WritesRestart, ChangesUnread, Prepares}

-- What is known of one image before the checkpoint.
pub record Stands (parts : CheckpointParts) (log : Writer) (stores : AllStores) (image : Image) : Type 0 where
  pub now : restart_in (snapshot_area parts.system) (is_single parts.system) image ≡ Ok (Some parts.now)
  pub free : AreAreasFree parts
  pub over : IsOver parts log
  pub room : log.place + log_sectors_of (length log.appended) ≤ log.count
  pub of_ : AreStoresOf parts.system stores
  pub fits : snapshot.snapshot_sectors_of (length parts.snapshot) ≤ parts.snapshot_sectors
  pub named : (snapshot : List Record) → snapshot_from parts.system image parts.now ≡ Ok snapshot → (place number : ℕ) → DirtySlot stores place number → IsSome (named_by snapshot (cut_of (log_of_writer log image ++ log.appended)).records (place + 1) number)

same_log : (parts : CheckpointParts) (log : Writer) (image : Image) → IsOver parts log → log_of_writer log image ≡ joined_payloads (chain parts.system.logs image (log_first parts.system parts.now.log) parts.now.sequence parts.now.epoch)
same_log parts log image over = rw (over.first, over.count, over.sequence, over.epoch) refl

module _ (parts : CheckpointParts) (log : Writer) (stores : AllStores) (a : Image) (s : Stands parts log stores a) where
  kept : IsKept (snapshot_area parts.system) parts.now
  kept = restart_kept (snapshot_area parts.system) (is_single parts.system) (sector_at a 0) parts.now s.now

  -- a changed slot stands behind the logs
  pub dirty_above : (k : ℕ) → DirtyAt parts.system stores k → log_first parts.system 2 ≤ k
  dirty_above k dirty =
      omega (arith, dirty.sector, slot_above parts.system dirty.place dirty.number dirty.index)

  -- ---- the log is forced
  module _ (b : Image) (all : AddsAll log a b) where
    forced_restart : restart_in (snapshot_area parts.system) (is_single parts.system) b ≡ Ok (Some parts.now)
    forced_restart = ap (restart_of (snapshot_area parts.system) (is_single parts.system)) (all.changes.below 0 (omega (arith, s.over.first))) ∙ s.now

    forced_snapshot : snapshot_from parts.system b parts.now ≡ snapshot_from parts.system a parts.now
    forced_snapshot =
        snapshot_same parts.system parts.now a b (λ k low high.
        all.changes.below k (omega (arith, high, kept.sectors, snapshot_below parts.system parts.now.snapshot kept.snapshot, log_above parts.system parts.now.log, s.over.first)))

    forced_records : (log_in parts.system b parts.now).records ≡ (cut_of (log_of_writer log a ++ log.appended)).records
    forced_records = ap (λ (l : List ℕ). (cut_of l).records) (sym (same_log parts log b s.over) ∙ all.log)

    -- since then only unread sectors are others
    module _ (e : Image) (unread : ChangesUnread parts stores b e) where
      unread_slot : (k : ℕ) → DirtyAt parts.system stores k → OfNamedSlot parts.system parts.now b k
      unread_slot k dirty =
          record {
            place = dirty.place;
            number = dirty.number;
            slot = dirty_slot parts.system stores s.of_ dirty.place dirty.number dirty.slot;
            index = dirty.index;
            within = dirty.within;
            sector = dirty.sector;
            named = λ snapshot read.
                subst (λ (l : List Record). IsSome (named_by snapshot l (dirty.place + 1) dirty.number)) (sym forced_records)
                (s.named snapshot (sym forced_snapshot ∙ read) dirty.place dirty.number dirty.slot);
          }

      unread_area : (k : ℕ) → InArea parts.snapshot_at parts.snapshot_sectors k → InFreeSnapshot parts.system parts.now k
      unread_area k in_ = record {
        low = omega (arith, in_.low, s.free.snapshot_at);
        high = omega (arith, in_.high, s.free.snapshot_at, s.free.snapshot_sectors);
      }

      pub unread_images : ImagesAlike parts.system b e
      unread_images =
          unread_alike parts.system parts.now b e forced_restart (λ k.
          ⊎_elim (λ same. inl same)
          (λ other. ⊎_elim (λ dirty. inr (inr (inr (unread_slot k dirty)))) (λ in_. inr (inl (unread_area k in_))) other)
          (unread.each k))

  -- all of it is a front
  pub all_front : (b : Image) → AddsAll log a b → AddsFront log a b
  all_front b all = record {
    changes = all.changes;
    each = all.each;
    front = length log.appended;
    log = all.log ∙ ap (λ (l : List ℕ). log_of_writer log a ++ l) (sym (take_all (length log.appended) log.appended (omega arith)));
  }

  -- Before the restart sector is written the image recovers as the one before.
  pub prepares_keep : ((c : Image) → AddsFront log a c → KeepsRecovery parts.system a c) → (e : Image) → Prepares parts log stores a e → KeepsRecovery parts.system a e
  prepares_keep force e prepares =
      ⊎_elim (λ front. force e front)
      (λ (later : Then (AddsAll log) (ChangesUnread parts stores) a e). λ state recovers.
      recovers_alike parts.system later.middle e (unread_images later.middle later.one e later.two) (Ok state) (force later.middle (all_front later.middle later.one) state recovers))
      prepares

  -- ---- the whole checkpoint
  module _ (b c d e : Image) (all : AddsAll log a b) (holds : HasPut (data_first parts.system 0) (changed_bytes stores) b c) (saves : Saves parts.snapshot_at (parts.now.checkpoint + 1) parts.snapshot c d) (restarts : Restarts (next_restart parts log) d e) where
    area_above : 65 ≤ parts.snapshot_at
    area_above = omega (arith, s.free.snapshot_at)

    area_below : parts.snapshot_at + snapshot.snapshot_sectors_of (length parts.snapshot) ≤ log_first parts.system 0
    area_below = omega (arith, s.fits, s.free.snapshot_at, s.free.snapshot_sectors, snapshot_below parts.system (1 - parts.now.snapshot) (omega arith))

    -- a sector of a log
    at_log : (k : ℕ) → log_first parts.system 0 ≤ k → k < log_first parts.system 2 → sector_at e k ≡ sector_at b k
    at_log k low high =
        others_stay (next_restart parts log) d e restarts k (omega (arith, low))
        ∙ saves.changes.above k (omega (arith, low, area_below))
        ∙ ⊎_elim (λ same. same) (λ dirty. absurd (omega (arith, high, dirty_above k dirty))) (put_dirty parts.system stores s.of_ b c holds k)

    log_end : log.first + log.count ≤ log_first parts.system 2
    log_end = omega (arith, s.over.first, s.over.count, log_below parts.system parts.now.log kept.log)

    at_own : (x : ℕ) → x < log.count → sector_at e (log.first + x) ≡ sector_at b (log.first + x)
    at_own x lt = at_log (log.first + x) (omega (arith, s.over.first, log_above parts.system parts.now.log)) (omega (arith, lt, log_end))

    log_has : log_of_writer log e ≡ log_of_writer log a ++ log.appended
    log_has = ap joined_payloads (chain-same log.count b e log.first log.sequence log.epoch at_own) ∙ all.log

    log_each : (x : ℕ) → x < log.count → StaysOrLogs log a e x
    log_each x lt =
        ⊎_elim (λ same. inl (at_own x lt ∙ same))
        (λ logs. inr (subst (λ (v : List ℕ). IsSome (opened_payload log.epoch (log.sequence + x) v)) (sym (at_own x lt)) logs))
        (all.each x)

    -- a sector behind the logs
    at_slot : (k : ℕ) → log_first parts.system 2 ≤ k → sector_at e k ≡ sector_at c k
    at_slot k above =
        others_stay (next_restart parts log) d e restarts k (omega (arith, above, log_above parts.system 2))
        ∙ saves.changes.above k (omega (arith, above, area_below, log_above parts.system 2))

    slots_hold : (place number : ℕ) (slot : DirtySlot stores place number) → slot_at parts.system e place number ≡ slot_spelling (slot_size parts.system place) (rows_spelling (slice_index_or slot.store.slots number []))
    slots_hold place number slot =
        slot_same (slot_size parts.system place) c e (slot_first parts.system place number)
        (λ index within. at_slot (slot_first parts.system place number + index) (slot_above parts.system place number index))
        ∙ put_holds parts.system stores s.of_ b c holds place number slot

    size : length e ≡ length a
    size =
        ap (length {A = List ℕ}) restarts.set ∙ length-set d 0 (restart_sector (next_restart parts log))
        ∙ saves.changes.size ∙ holds.size ∙ all.changes.size

    -- a sector before the log was forced, and behind it
    since_force : (k : ℕ) → sector_at e k ≡ sector_at b k → (sector_at e k ≡ sector_at a k) ⊎ IsCheckpointWritten parts log stores k
    since_force k same =
        ⊎_elim
        (λ (below : k < log.first + log.place). inl (same ∙ all.changes.below k below))
        (λ (low : log.first + log.place ≤ k).
        ⊎_elim
        (λ (high : k < (log.first + log.place) + log_sectors_of (length log.appended)). inr (inr (inr (inl (record { low = low; high = high })))))
        (λ (above : (log.first + log.place) + log_sectors_of (length log.appended) ≤ k). inl (same ∙ all.changes.above k above))
        (cases_lt k ((log.first + log.place) + log_sectors_of (length log.appended))))
        (cases_lt k (log.first + log.place))

    since_slots : (k : ℕ) → sector_at e k ≡ sector_at c k → (sector_at e k ≡ sector_at a k) ⊎ IsCheckpointWritten parts log stores k
    since_slots k same =
        ⊎_elim (λ stays. since_force k (same ∙ stays)) (λ dirty. inr (inr (inr (inr dirty)))) (put_dirty parts.system stores s.of_ b c holds k)

    elsewhere : (k : ℕ) → (sector_at e k ≡ sector_at a k) ⊎ IsCheckpointWritten parts log stores k
    elsewhere zero = inr (inl refl)
    elsewhere (suc i) =
        let k = suc i in
        let same : sector_at e k ≡ sector_at d k = others_stay (next_restart parts log) d e restarts k (omega arith) in
        ⊎_elim
        (λ (below : k < parts.snapshot_at). since_slots k (same ∙ saves.changes.below k below))
        (λ (low : parts.snapshot_at ≤ k).
        ⊎_elim
        (λ (high : k < parts.snapshot_at + snapshot.snapshot_sectors_of (length parts.snapshot)). inr (inr (inl (record { low = low; high = omega (arith, high, s.fits) }))))
        (λ (above : parts.snapshot_at + snapshot.snapshot_sectors_of (length parts.snapshot) ≤ k). since_slots k (same ∙ saves.changes.above k above))
        (cases_lt k (parts.snapshot_at + snapshot.snapshot_sectors_of (length parts.snapshot))))
        (cases_lt k parts.snapshot_at)

    steps_checkpoint : IsCheckpointed parts log stores a e
    steps_checkpoint = record {
      restart = restarts.read;
      snapshot = restart_keeps_snapshots (next_restart parts log) d e restarts (snapshot.snapshot_sectors_of (length parts.snapshot)) parts.snapshot_at (parts.now.checkpoint + 1) (omega (arith, area_above)) ∙ saves.read;
      log_has = log_has;
      log_each = log_each;
      slots = slots_hold;
      size = size;
      elsewhere = elsewhere;
    }

  pub is_checkpointed : (e : Image) → WritesRestart parts log stores a e → IsCheckpointed parts log stores a e
  is_checkpointed e whole =
      steps_checkpoint whole.one.one.middle whole.one.middle whole.middle e whole.one.one.one whole.one.one.two whole.one.two whole.two

  -- ---- behind it
  module _ (e : Image) (done : IsCheckpointed parts log stores a e) where
    pub next_restart_in : restart_in (snapshot_area parts.system) (is_single parts.system) e ≡ Ok (Some (next_restart parts log))
    next_restart_in = done.restart (snapshot_area parts.system) (is_single parts.system) (omega (arith, s.fits, s.free.snapshot_sectors))

    -- a sector of a log area stays, or is a new one of the log
    log_stays : (k : ℕ) → log_first parts.system 0 ≤ k → k < log_first parts.system 2 → (sector_at e k ≡ sector_at a k) ⊎ InArea (log.first + log.place) (log_sectors_of (length log.appended)) k
    log_stays k low high =
        ⊎_elim (λ same. inl same)
        (λ written.
        ⊎_elim (λ (zero : k ≡ 0). absurd (omega (arith, zero, low)))
        (λ others.
        ⊎_elim (λ (in_ : InArea parts.snapshot_at parts.snapshot_sectors k). absurd (omega (arith, in_.high, low, s.free.snapshot_at, s.free.snapshot_sectors, snapshot_below parts.system (1 - parts.now.snapshot) (omega arith))))
        (λ more.
        ⊎_elim (λ (in_ : InArea (log.first + log.place) (log_sectors_of (length log.appended)) k). inr in_)
        (λ dirty. absurd (omega (arith, high, dirty_above k dirty)))
        more)
        others)
        written)
        (done.elsewhere k)

    -- a new sector of the log has a sequence before the next one
    new_sector : (k n : ℕ) → InArea (log.first + log.place) (log_sectors_of (length log.appended)) k → sequence_behind log ≤ n → n < 2 ^ 64 → (opened_payload parts.now.epoch n (sector_at a k) ≡ None) → opened_payload parts.now.epoch n (sector_at e k) ≡ None
    new_sector k n in_ from fits none =
        let y : ℕ = k - log.first in
        let is : log.first + y ≡ k = omega (arith, in_.low) in
        let before : y < log.place + log_sectors_of (length log.appended) = omega (arith, is, in_.high) in
        ⊎_elim
        (λ (same : sector_at e (log.first + y) ≡ sector_at a (log.first + y)).
        ap (λ (v : List ℕ). opened_payload parts.now.epoch n v) (subst (λ j. sector_at e j ≡ sector_at a j) is same) ∙ none)
        (λ (logs : IsSome (opened_payload log.epoch (log.sequence + y) (sector_at e (log.first + y)))).
        opened_one parts.now.epoch (log.sequence + y) n (sector_at e k) (omega (arith, before, from, fits)) fits
        (subst (λ j. IsSome (opened_payload parts.now.epoch (log.sequence + y) (sector_at e j))) is
        (subst (λ epoch. IsSome (opened_payload epoch (log.sequence + y) (sector_at e (log.first + y)))) s.over.epoch logs))
        (λ same. omega (arith, same, before, from)))
        (done.log_each y (omega (arith, before, s.room)))

    pub next_ahead : NoneAhead parts.system a parts.now.epoch (sequence_behind log) → NoneAhead parts.system e parts.now.epoch (sequence_behind log)
    next_ahead ahead = record {
      none = λ x n below from fits.
          let k = log_first parts.system 0 + x in
          let none = ahead.none x n below from fits in
          ⊎_elim
          (λ (same : sector_at e k ≡ sector_at a k). ap (λ (v : List ℕ). opened_payload parts.now.epoch n v) same ∙ none)
          (λ (in_ : InArea (log.first + log.place) (log_sectors_of (length log.appended)) k). new_sector k n in_ from fits none)
          (log_stays k (omega arith) (omega (arith, below, both_logs parts.system)));
    }

-- The next writer's area has nothing of its log.
pub next_at_end : (parts : CheckpointParts) (log : Writer) → AreAreasFree parts → (e : Image) → sequence_behind log + parts.system.logs < 2 ^ 64 → NoneAhead parts.system e parts.now.epoch (sequence_behind log) → IsAtEnd (next_writer parts log) e
next_at_end parts log free e small ahead = record {
  written = λ x lt. absurd (omega (arith, lt));
  free = λ x far lt.
      let below : x < parts.system.logs = omega (arith, lt, free.log_sectors) in
      ap (λ k. opened_payload parts.now.epoch (sequence_behind log + x) (sector_at e (k + x))) free.log_at
      ∙ ahead_free parts.system e parts.now.epoch (sequence_behind log) (1 - parts.now.log) x ahead (omega arith) below (omega (arith, below, small));
}
