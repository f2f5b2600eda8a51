-- One changed slot is written behind a force of all that was appended, by what the two leave on the disk.
use Rattle.std.proofs.Common.{◌≡◌, ⊎_elim, inl, inr, ℕ, ◌+◌, ◌≤◌, ◌<◌, ◌^◌, List, [], ◌∷◌, length, false, sym, ◌∙◌, ap, subst, arith}
use Rattle.tm_disk.specs.Disk.{DiskState, IsDisk, Follows, Within, sector_at}
use Rattle.tm_disk.proofs.Words.{within_more, within_where, follows_on}
use Rattle.log_sectors.specs.SealedSector.{opened_payload}
use Rattle.std.specs.Prelude.{IsSome}
use Rattle.model_system.specs.System.{System}
use Rattle.model_system.specs.Areas.{data_first, log_first}
use Rattle.model_machine.specs.Machine.{LastingState}
use Rattle.model_image.proofs.Places.{log_below, slot_above}
use Rattle.log_writer.specs.Writer.{Writer}
use Rattle.log_writer.specs.ForcedLog.{IsWriterReady, AddsFront, AddsAll}
use Rattle.seg_store.specs.declared.slot_place.SlotPlace.{SlotPlace}
use Rattle.seg_store.specs.ChangedSlots.{AllStores}
use Rattle.seg_store.specs.DataSectors.{MayPut, HasPut}
use Rattle.seg_store.specs.WrittenSlots.{sector_count}
use Rattle.seg_store.specs.OneSlot.{IsSlotPlace, IsMarked}
use Rattle.checkpointing.specs.CheckpointParts.{forced_writer}
use Rattle.checkpointing.specs.DefinitionText.{KeepsText}
use Rattle.checkpointing.proofs.Calls.{within_then}
use Rattle.checkpointing.proofs.Slots.{slots_end}
use Rattle.disk_law.specs.Life.{LifeOnDisk, IsLifeOnDisk}
use Rattle.disk_law.specs.LifeSteps.{forced_life}
use Rattle.disk_law.specs.PendingMoves.{PendsBehind, KeepsBehindForce}
use Rattle.disk_law.specs.JournalState.{JournalState}
use Rattle.disk_law.specs.SlotChanges.{put_at}
use Rattle.disk_law.specs.SlotWrites.{ArePiecesOfSlots, OfChangedSlot, PutsBehindForce, HasPutBehindForce, slot_written_life}
use Rattle.disk_law.proofs.OnDisk.{pending_life, pending_restart, pending_text}
use Rattle.disk_law.proofs.SlotsOnDisk.{put_keeps, put_restart, put_text, put_at_any_moment, put_pends, put_may}
use Rattle.disk_law.proofs.OneSlotWritten.{one_slot_pieces}
use Rattle.journal.specs.SlotWriteFor.{IsSlotWriteOf, CanWriteSlot, slot_write_pieces}
use Rattle.journal.specs.JournalDisk.{RecoverOne}
use Rattle.journal.proofs.BehindForce.{keeps_text}

module _ (system : System) (journal : JournalState) (stores : AllStores) (place : SlotPlace) (old : DiskState) (there : IsSlotPlace place stores.stores) (marked : IsMarked place stores.changed)
    (life : LifeOnDisk) (states : List LastingState) (is : IsSlotWriteOf system journal stores states old life) where
  of_ : ArePiecesOfSlots life.system life.present life.changed (put_at place.db place.slot false life.changed) (data_first life.system 0) (slot_write_pieces place stores)
  of_ = one_slot_pieces life stores is.slots place there marked

  puts_of : (new : DiskState) → Within (PutsBehindForce journal.log (data_first system 0) (slot_write_pieces place stores)) old new → Within (PutsBehindForce life.log (data_first life.system 0) (slot_write_pieces place stores)) old new
  puts_of new within =
      subst (λ (s : System). Within (PutsBehindForce life.log (data_first s 0) (slot_write_pieces place stores)) old new) (sym is.of_system)
      (subst (λ (w : Writer). Within (PutsBehindForce w (data_first system 0) (slot_write_pieces place stores)) old new) (sym is.writer) within)

  -- Whenever a crash comes, the image recovers to one of the states that pend.
  pub put_recovers : IsDisk old → (new : DiskState) → Within (PutsBehindForce journal.log (data_first system 0) (slot_write_pieces place stores)) old new → RecoverOne system states old new
  put_recovers disk new within =
      subst (λ (s : System). RecoverOne s states old new) is.of_system
      (λ image left. put_at_any_moment states life old is.pends (put_at place.db place.slot false life.changed) (data_first life.system 0) (slot_write_pieces place stores) of_ new disk (puts_of new within) image left)

  pub put_moment : (new : DiskState) → Within (PutsBehindForce journal.log (data_first system 0) (slot_write_pieces place stores)) old new → Within (KeepsBehindForce system journal.log) old new
  put_moment new within =
      subst (λ (w : Writer). Within (KeepsBehindForce system w) old new) is.writer
      (subst (λ (s : System). Within (KeepsBehindForce s life.log) old new) is.of_system
      (within_where (PutsBehindForce life.log (data_first life.system 0) (slot_write_pieces place stores)) (KeepsBehindForce life.system life.log) old new
      (λ a c left puts. put_keeps states life old is.pends (put_at place.db place.slot false life.changed) (data_first life.system 0) (slot_write_pieces place stores) of_ a left c puts)
      (puts_of new within)))

  pub put_texts : (new : DiskState) → Within (PutsBehindForce journal.log (data_first system 0) (slot_write_pieces place stores)) old new → Within (KeepsText system) old new
  put_texts new within =
      subst (λ (s : System). Within (KeepsText s) old new) is.of_system
      (within_where (PutsBehindForce life.log (data_first life.system 0) (slot_write_pieces place stores)) (KeepsText life.system) old new
      (λ a c left puts.
      keeps_text life.system life.now life.text a c (pending_restart states life old is.pends a left) (pending_text states life old is.pends a left)
      (put_restart states life old is.pends (put_at place.db place.slot false life.changed) (data_first life.system 0) (slot_write_pieces place stores) of_ a left c puts)
      (put_text states life old is.pends (put_at place.db place.slot false life.changed) (data_first life.system 0) (slot_write_pieces place stores) of_ a left c puts))
      (puts_of new within))

  -- Once it is done, each image has all of the life behind it.
  pub put_settled : (new : DiskState) → Follows (HasPutBehindForce journal.log (data_first system 0) (slot_write_pieces place stores)) old new
      → PendsBehind (life.lasting ∷ []) (slot_written_life place.db place.slot (forced_life life)) new
  put_settled new follows =
      put_pends states life old is.pends (put_at place.db place.slot false life.changed) (data_first life.system 0) (slot_write_pieces place stores) of_ new
      (subst (λ (s : System). Follows (HasPutBehindForce life.log (data_first s 0) (slot_write_pieces place stores)) old new) (sym is.of_system)
      (subst (λ (w : Writer). Follows (HasPutBehindForce w (data_first system 0) (slot_write_pieces place stores)) old new) (sym is.writer) follows))

  -- ---- the log stays

  its_life : IsLifeOnDisk life
  its_life = pending_life states life old is.pends

  log_end : life.log.first + life.log.count ≤ log_first life.system 2
  log_end =
      let w = its_life.writer in
      omega (arith, w.first, w.count, log_below life.system life.now.log its_life.in_range.log)

  pub put_ready : (mid new : DiskState) → IsWriterReady (forced_writer life.log) mid → Follows (HasPut (data_first life.system 0) (slot_write_pieces place stores)) mid new → IsWriterReady (forced_writer life.log) new
  put_ready mid new ready follows = λ image left.
      let c = follows.from image left in
      let at = ready c.before c.left in
      let same : (x : ℕ) → x < life.log.count → sector_at image (life.log.first + x) ≡ sector_at c.before (life.log.first + x) = λ x lt.
      ⊎_elim (λ s. s)
      (λ (o : OfChangedSlot life.system life.changed (life.log.first + x)). absurd (omega (arith, o.sector, slot_above life.system o.place o.number o.index, log_end, lt)))
      (of_.only c.before image (put_may (data_first life.system 0) (slot_write_pieces place stores) c.before image c.by) (life.log.first + x)) in
      record {
        written = λ x lt. subst (λ (s : List ℕ). IsSome (opened_payload life.log.epoch (life.log.sequence + x) s)) (sym (same x (omega (arith, lt, its_life.appended.fits)))) (at.written x lt);
        free = λ x le lt. ap (opened_payload life.log.epoch (life.log.sequence + x)) (same x lt) ∙ at.free x le lt;
      }

module _ (system : System) (journal : JournalState) (stores : AllStores) (place : SlotPlace) (old : DiskState) (can : CanWriteSlot system journal stores place old) where
  can_life : IsLifeOnDisk can.life
  can_life = pending_life can.states can.life old can.is.pends

  areas : data_first can.life.system (length can.life.system.databases) ≤ old.size
  areas = subst (λ (s : System). data_first s (length s.databases) ≤ old.size) (sym can.is.of_system) can.areas

  life_area : can.life.log.first + can.life.log.count ≤ old.size
  life_area =
      let w = can_life.writer in
      omega (arith, w.first, w.count, areas, log_below can.life.system can.life.now.log can_life.in_range.log, slot_above can.life.system (length can.life.system.databases) 0 0)

  pub log_area : journal.log.first + journal.log.count ≤ old.size
  log_area = subst (λ (w : Writer). w.first + w.count ≤ old.size) can.is.writer life_area

  life_sequences : can.life.log.sequence + can.life.log.count < 2 ^ 64
  life_sequences = let w = can_life.writer in omega (arith, w.sequence, w.count, can_life.in_range.sequence.1, can_life.few)

  pub log_sequences : journal.log.sequence + journal.log.count < 2 ^ 64
  log_sequences = subst (λ (w : Writer). w.sequence + w.count < 2 ^ 64) can.is.writer life_sequences

  life_slots : data_first can.life.system 0 + sector_count stores.stores ≤ old.size
  life_slots = omega (arith, slots_end can.life.system stores can.is.slots.are_of, areas)

  pub slots_area : data_first system 0 + sector_count stores.stores ≤ old.size
  slots_area = subst (λ (s : System). data_first s 0 + sector_count stores.stores ≤ old.size) can.is.of_system life_slots

  -- ---- behind the force

  pub front_puts : (new : DiskState) → Within (AddsFront journal.log) old new → Within (PutsBehindForce journal.log (data_first system 0) (slot_write_pieces place stores)) old new
  front_puts new within = within_more (AddsFront journal.log) (PutsBehindForce journal.log (data_first system 0) (slot_write_pieces place stores)) old new (λ a c front. inl front) within

  module _ (mid new : DiskState) (within : Within (AddsFront journal.log) old mid) (forced : Follows (AddsAll journal.log) old mid) where
    pub all_puts : Within (MayPut (data_first system 0) (slot_write_pieces place stores)) mid new → Within (PutsBehindForce journal.log (data_first system 0) (slot_write_pieces place stores)) old new
    all_puts then =
        within_then (AddsFront journal.log) (AddsAll journal.log) (MayPut (data_first system 0) (slot_write_pieces place stores)) (PutsBehindForce journal.log (data_first system 0) (slot_write_pieces place stores)) old mid new
        (λ a c front. inl front) (λ a b c left all puts. inr (record { middle = b; one = all; two = puts })) within forced then

    pub all_put : Follows (HasPut (data_first system 0) (slot_write_pieces place stores)) mid new → Follows (HasPutBehindForce journal.log (data_first system 0) (slot_write_pieces place stores)) old new
    all_put then =
        follows_on (AddsAll journal.log) (HasPut (data_first system 0) (slot_write_pieces place stores)) (HasPutBehindForce journal.log (data_first system 0) (slot_write_pieces place stores)) old mid new
        (λ a b c all put. record { middle = b; one = all; two = put }) forced then
