-- Slots that count as changed are written by themselves: a record names each, so an image keeps all of the life, torn or not; and once they
-- are written they don't count as changed any more.
use Rattle.std.proofs.Common.{◌≡◌, ◌⊎◌, ℕ, ◌+◌, ◌*◌, ◌<◌, Bool, true, false, List, ◌++◌, refl, sym, ◌∙◌, ap, subst, inl, inr, ⊎_elim, arith, Some, None, Ok, IsSome}
use Rattle.std.specs.Prelude.{Result}
use Rattle.tm_disk.specs.Disk.{Image, sector_at}
use Rattle.model_system.specs.Areas.{is_single, snapshot_area, log_first, slot_first, slot_size}
use Rattle.log_records.specs.declared.record.Record.{Record}
use Rattle.log_sectors.specs.Chain.{joined_payloads}
use Rattle.log_writer.specs.ForcedLog.{log_of_writer}
use Rattle.log_writer.proofs.Gaining.{chain-same}
use Rattle.restart_data.specs.Restart.{restart_of, restart_in}
use Rattle.model_image.specs.Counters.{greatest_unit}
use Rattle.model_image.specs.CutRecords.{Cut, cut_of}
use Rattle.model_image.specs.Faults.{Fault}
use Rattle.model_image.specs.HeldStores.{HoldsBytes}
use Rattle.model_image.specs.Slots.{named_by}
use Rattle.model_image.specs.RecoveredState.{snapshot_from, log_in, first_later, is_later}
use Rattle.model_image.specs.Text.{text_in}
use Rattle.model_image.proofs.Ahead.{ahead_same}
use Rattle.model_image.proofs.Alike.{IsSlotOf, ImagesAlike, snapshot_same}
use Rattle.model_image.proofs.Later.{none_later, each_not_later}
use Rattle.model_image.proofs.Places.{snapshot_below, log_above, log_below, both_logs, slot_above, one_slot, slot_same}
use Rattle.model_image.proofs.Readings as readings
use Rattle.model_image.proofs.Unread.{OfNamedSlot, unread_alike}
use Rattle.disk_law.specs.Life.{LifeOnDisk, IsLifeOnDisk, EachSlot}
use Rattle.disk_law.specs.KeptImages.{IsImageKept, AreRecordsOf, StandsAt}
use Rattle.disk_law.specs.SlotWrites.{OfChangedSlot, MayWriteSlots, with_changed_slots}
use Rattle.disk_law.specs.UnitCounts.{TellsUnits}
use Rattle.disk_law.proofs.Counting.{cut_again, log_kept}
use Rattle.disk_law.proofs.Forcing.{log_is, text_same}

one_value : (found : Result (List Record) Fault) (a b : List Record) → found ≡ Ok a → found ≡ Ok b → a ≡ b
one_value found a b one other = let both : Ok a ≡ Ok b = sym one ∙ other in cc

-- the life with other slots that count as changed
pub changed_is_life : (changed : ℕ → ℕ → Bool) (life : LifeOnDisk) → IsLifeOnDisk life → IsLifeOnDisk (with_changed_slots changed life)
changed_is_life changed life l = record {
  in_range = l.in_range;
  few = l.few;
  writer = l.writer;
  appended = l.appended;
  sound = l.sound;
  rows = l.rows;
  slots = l.slots;
}

module _ (life : LifeOnDisk) (l : IsLifeOnDisk life) (b : Image) (k : IsImageKept life b) (c : Image) (writes : MayWriteSlots life.system life.changed b c) where
  kept : readings.IsKept (snapshot_area life.system) life.now
  kept = readings.restart_kept (snapshot_area life.system) (is_single life.system) (sector_at b 0) life.now k.restart

  -- ---- what stays

  -- no slot stands below the end of the logs
  low_stays : (x : ℕ) → x < log_first life.system 2 → sector_at c x ≡ sector_at b x
  low_stays x low =
      ⊎_elim (λ same. same)
      (λ (of_ : OfChangedSlot life.system life.changed x). absurd (omega (arith, low, of_.sector, slot_above life.system of_.place of_.number of_.index)))
      (writes x)

  restart_stays : restart_in (snapshot_area life.system) (is_single life.system) c ≡ Ok (Some life.now)
  restart_stays = ap (restart_of (snapshot_area life.system) (is_single life.system)) (low_stays 0 (omega arith)) ∙ k.restart

  text_stays : text_in c life.now.text ≡ life.text
  text_stays = text_same b c life.now.text (λ i low high. low_stays i (omega (arith, high))) ∙ k.has_text

  pub written_snapshot : snapshot_from life.system c life.now ≡ snapshot_from life.system b life.now
  written_snapshot =
      snapshot_same life.system life.now b c (λ x low high. low_stays x (omega (arith, high, kept.sectors, snapshot_below life.system life.now.snapshot kept.snapshot, log_above life.system 2)))

  pub written_log : log_of_writer life.log c ≡ log_of_writer life.log b
  written_log =
      ap joined_payloads
      (chain-same life.log.count b c life.log.first life.log.sequence life.log.epoch (λ x inside.
      low_stays (life.log.first + x) (omega (arith, inside, l.writer.first, l.writer.count, log_below life.system life.now.log kept.log))))

  none_is_later : first_later (2 * life.system.logs) c (log_first life.system 0) life.now.epoch ≡ None
  none_is_later =
      none_later (2 * life.system.logs) c (log_first life.system 0) life.now.epoch (λ x low high.
      ap (is_later life.now.epoch) (low_stays x (omega (arith, high, both_logs life.system)))
      ∙ each_not_later (2 * life.system.logs) b (log_first life.system 0) life.now.epoch k.not_later x low high)

  -- a sector of a slot that doesn't count as changed
  sector_stays : (place number : ℕ) → IsSlotOf life.system place number → life.changed (place + 1) number ≡ false → (index : ℕ) → index < slot_size life.system place
      → sector_at c (slot_first life.system place number + index) ≡ sector_at b (slot_first life.system place number + index)
  sector_stays place number slot unchanged index inside =
      ⊎_elim (λ same. same)
      (λ (of_ : OfChangedSlot life.system life.changed (slot_first life.system place number + index)).
      let one = one_slot life.system of_.place of_.number of_.index place number index (record { dbd = of_.dbd; found = of_.found; below = of_.below }) slot of_.within inside (sym of_.sector) in
      let is : life.changed (place + 1) number ≡ true =
      ap (λ p. life.changed (p + 1) number) (sym one.place) ∙ ap (λ n. life.changed (of_.place + 1) n) (sym one.number) ∙ of_.counts in
      absurd (let clash : true ≡ false = sym is ∙ unchanged in cc))
      (writes (slot_first life.system place number + index))

  unchanged_stays : EachSlot life.system (λ place number. life.changed (place + 1) number ≡ false → (v : List ℕ) → StandsAt life.system b place number v → StandsAt life.system c place number v)
  unchanged_stays place number dbd found below unchanged v stands =
      subst (λ (sectors : List (List ℕ)). HoldsBytes v sectors)
      (sym (slot_same (slot_size life.system place) b c (slot_first life.system place number) (sector_stays place number (record { dbd = dbd; found = found; below = below }) unchanged)))
      stands

  -- ---- what it recovers to

  its_records : (log_in life.system b life.now).records ≡ k.log
  its_records =
      ap (λ (cut : Cut). cut.records) (log_is life.system life.now life.log b l.writer)
      ∙ ap (λ (bytes : List ℕ). (cut_of bytes).records) k.has_log
      ∙ cut_again k.log k.records

  of_named : (x : ℕ) → OfChangedSlot life.system life.changed x → OfNamedSlot life.system life.now b x
  of_named x of_ = record {
    place = of_.place;
    number = of_.number;
    slot = record { dbd = of_.dbd; found = of_.found; below = of_.below };
    index = of_.index;
    within = of_.within;
    sector = of_.sector;
    named = λ snapshot read.
        subst (λ (s : List Record). IsSome (named_by s (log_in life.system b life.now).records (of_.place + 1) of_.number)) (one_value (snapshot_from life.system b life.now) k.snapshot snapshot k.has_snapshot read)
        (subst (λ (rs : List Record). IsSome (named_by k.snapshot rs (of_.place + 1) of_.number)) (sym its_records)
        (k.are.named of_.place of_.number of_.dbd of_.found of_.below of_.counts));
  }

  -- The same is read of both images, and so the one recovers to what the other does.
  pub written_alike : ImagesAlike life.system b c
  written_alike =
      unread_alike life.system life.now b c k.restart (λ x. ⊎_elim (λ same. inl same) (λ of_. inr (inr (inr (of_named x of_)))) (writes x))

  -- It tells the same next unit.
  pub written_tells : (next : ℕ) → TellsUnits life.system (log_kept life life.log) next b → TellsUnits life.system (log_kept life life.log) next c
  written_tells next tells = record {
    snapshot = λ found read. tells.snapshot found (sym written_snapshot ∙ read);
    log = subst (λ (bytes : List ℕ). greatest_unit (cut_of (bytes ++ life.log.appended)).records < next) (sym written_log) tells.log;
  }

  -- ---- what it has of the life

  module _ (changed : ℕ → ℕ → Bool) (fewer : EachSlot life.system (λ place number. changed (place + 1) number ≡ true → life.changed (place + 1) number ≡ true))
      (stand : EachSlot life.system (λ place number. life.changed (place + 1) number ≡ true → changed (place + 1) number ≡ false → StandsAt life.system c place number (life.present (place + 1) number))) where
    same_records : AreRecordsOf (with_changed_slots changed life) k.snapshot k.log c
    same_records = record {
      lasts = k.are.lasts;
      slots = k.are.slots;
      unnamed = λ place number dbd found below none. unnamed_by place number dbd found below none (life.changed (place + 1) number) refl;
      written = λ place number dbd found below unchanged. written_by place number dbd found below unchanged (life.changed (place + 1) number) refl;
      named = λ place number dbd found below is. k.are.named place number dbd found below (fewer place number dbd found below is);
    } where
      unnamed_by : EachSlot life.system (λ place number. named_by k.snapshot k.log (place + 1) number ≡ None → (was : Bool) → life.changed (place + 1) number ≡ was → StandsAt life.system c place number (life.committed (place + 1) number))
      unnamed_by place number dbd found below none true was =
          absurd (readings.not_both (named_by k.snapshot k.log (place + 1) number) none (k.are.named place number dbd found below was))
      unnamed_by place number dbd found below none false was =
          unchanged_stays place number dbd found below was (life.committed (place + 1) number) (k.are.unnamed place number dbd found below none)

      written_by : EachSlot life.system (λ place number. changed (place + 1) number ≡ false → (was : Bool) → life.changed (place + 1) number ≡ was → StandsAt life.system c place number (life.present (place + 1) number))
      written_by place number dbd found below unchanged true was = stand place number dbd found below was unchanged
      written_by place number dbd found below unchanged false was =
          unchanged_stays place number dbd found below was (life.present (place + 1) number) (k.are.written place number dbd found below was)

    -- It has all of the life of which these count as changed.
    pub image_with_changed : IsImageKept (with_changed_slots changed life) c
    image_with_changed = record {
      restart = restart_stays;
      has_text = text_stays;
      snapshot = k.snapshot;
      log = k.log;
      has_snapshot = written_snapshot ∙ k.has_snapshot;
      has_log = written_log ∙ k.has_log;
      records = k.records;
      bytes = k.bytes;
      are = same_records;
      not_later = none_is_later;
      none_ahead = ahead_same life.system b c life.now.epoch (life.log.sequence + life.log.place) (λ x low high. low_stays x high) k.none_ahead;
    }

  -- Torn at any moment, it has all of the life.
  pub writes_kept : IsImageKept life c
  writes_kept =
      image_with_changed life.changed (λ place number dbd found below is. is)
      (λ place number dbd found below was now. absurd (let clash : true ≡ false = sym was ∙ now in cc))
