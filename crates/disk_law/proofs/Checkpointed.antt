-- A checkpoint of a life of which nothing waits: its images have what it asks for, and the image behind it is one of the life behind it.
use Rattle.std.proofs.Common.{◌≡◌, ℕ, ◌+◌, ◌-◌, ◌*◌, ◌<◌, ◌≤◌, Bool, true, false, List, [], ◌∷◌, ◌++◌, length, get_or, refl, sym, ◌∙◌, ap, subst, ⊎_elim, arith, append-nil, Some, Ok, IsSome}
use Rattle.std.specs.Prelude.{Option, Result, slice_index_or}
use Rattle.std.specs.List.{flat_map}
use Rattle.tm_disk.specs.Disk.{Image, sector_at}
use Rattle.tm_types.specs.declared.dbd.Dbd.{Dbd}
use Rattle.model_data.specs.Record as rows
use Rattle.model_machine.specs.Machine.{LastingState}
use Rattle.log_records.specs.declared.record.Record.{Record}
use Rattle.log_records.specs.RecordSpelling.{record_spelling}
use Rattle.log_records.specs.RecordReader.{◌>>=◌}
use Rattle.log_records.proofs.Takes.{IsBytes}
use Rattle.log_sectors.specs.Chain.{joined_payloads}
use Rattle.log_writer.specs.ForcedLog.{log_of_writer, log_sectors_of, AddsFront}
use Rattle.restart_data.specs.Rules.{unless_rule_broken}
use Rattle.seg_store.specs.Slots.{Stored, AreSlots}
use Rattle.seg_store.specs.ChangedSlots.{AllStores}
use Rattle.seg_store.specs.DataSectors.{slot_spelling}
use Rattle.model_image.specs.SectorsAhead.{NoneAhead}
use Rattle.model_system.specs.Areas.{is_single, snapshot_area, snapshot_first, log_first, slot_size, slot_first}
use Rattle.model_image.specs.CutRecords.{Cut, cut_of, where_none_left, records_cut}
use Rattle.model_image.specs.Faults.{Fault, in_sector, unless_any, or_fault}
use Rattle.model_image.specs.HeldStores.{HoldsBytes}
use Rattle.model_image.specs.Slots.{named_by, slot_at}
use Rattle.model_image.specs.Snapshot.{snapshot_rules}
use Rattle.model_image.specs.RecoveredState.{snapshot_from, Recovers}
use Rattle.model_image.proofs.Ahead.{ahead_more, ahead_empty}
use Rattle.model_image.proofs.Alike.{IsSlotOf}
use Rattle.model_image.proofs.Answers.{one_answer_of}
use Rattle.model_image.proofs.Cutting.{records_whole}
use Rattle.model_image.proofs.Places.{snapshot_below, log_above, log_below, slot_above, one_slot, size_of, slot_same}
use Rattle.model_image.proofs.Readings as readings
use Rattle.disk_law.specs.CommittedBytes.{Touches}
use Rattle.checkpointing.specs.CheckpointParts.{CheckpointParts, AreAreasFree, IsOver, sequence_behind, next_restart}
use Rattle.checkpointing.specs.DirtySlots.{DirtySlot, DirtyAt}
use Rattle.checkpointing.specs.Checkpoint.{KeepsRecovery, InArea, IsCheckpointed}
use Rattle.checkpointing.proofs.Keeping.{Stands, next_restart_in, next_ahead}
use Rattle.checkpointing.proofs.Facts.{later_behind}
use Rattle.checkpointing.proofs.Slots.{dirty_slot}
use Rattle.disk_law.specs.Life.{LifeOnDisk, IsLifeOnDisk, EachSlot}
use Rattle.disk_law.specs.KeptImages.{IsImageKept, StandsAt}
use Rattle.disk_law.proofs.Naming.{unnamed_changes}
use Rattle.disk_law.proofs.Recovering.{all_at}
use Rattle.disk_law.proofs.Forcing.{text_same}
use Rattle.disk_law.proofs.Front.{recovers}
use Rattle.disk_law.proofs.Pending.{front_one}
use Rattle.disk_law.proofs.OnDisk.{one_recovers}
use Rattle.disk_law.specs.LifeCheckpoint.{is_slot_changed, parts_with, MayCheckpoint, after_checkpoint}
use Rattle.disk_law.proofs.Anew.{begins_anew, none_told}
use Rattle.disk_law.proofs.Stored.{store_of, bytes_of_store, slot_short, dirty_changed, changed_dirty}
use Rattle.image_loading.proofs.Held.{data_holds}

cut_is : (cut : Cut) (records : List Record) → where_none_left cut.rest cut.records ≡ Some records → cut.records ≡ records
cut_is cut records is = by_rest cut.rest is where
  by_rest : (rest : List ℕ) → where_none_left rest cut.records ≡ Some records → cut.records ≡ records
  by_rest [] e = cc
  by_rest (b ∷ rest) e = cc

abbrev read_as : List Record → Result (List Record) Fault
read_as records = Ok records

one_value : (a b : List Record) → read_as a ≡ read_as b → a ≡ b
one_value a b e = cc

pub no_bytes : IsBytes []
no_bytes i = nothing i where
  nothing : (i : ℕ) → get_or [] i 0 < 256
  nothing i = omega arith

-- The parts of the life behind a checkpoint agree.
pub checkpoint_life : (bytes : List ℕ) (stores : AllStores) (touches : Touches) (told : List Record) (life : LifeOnDisk) → IsLifeOnDisk life → MayCheckpoint bytes stores touches told life → IsLifeOnDisk (after_checkpoint bytes touches life)
checkpoint_life bytes stores touches told life l may = record {
  in_range = may.next;
  few = l.few;
  writer = record { first = refl; count = refl; sequence = refl; epoch = refl };
  appended = record { fits = omega arith; spelled = refl; records = tt; bytes = no_bytes };
  sound = l.sound;
  rows = l.rows;
  slots = may.forgets.slots;
}

module _ (bytes : List ℕ) (stores : AllStores) (touches : Touches) (told : List Record) (life : LifeOnDisk) (l : IsLifeOnDisk life) (may : MayCheckpoint bytes stores touches told life)
    (nothing : life.appended ≡ []) where
  abbrev parts : CheckpointParts
  parts = parts_with bytes life

  free : AreAreasFree parts
  free = record { snapshot_at = refl; snapshot_sectors = refl; log_at = refl; log_sectors = refl }

  over : IsOver parts life.log
  over = record { first = l.writer.first; count = l.writer.count; sequence = l.writer.sequence; epoch = l.writer.epoch }

  module _ (a : Image) (k : IsImageKept life a) where
    -- ---- what it asks for

    same_records : (cut_of (log_of_writer life.log a ++ life.log.appended)).records ≡ k.log
    same_records =
        let none : life.log.appended ≡ [] = l.appended.spelled ∙ ap (λ (rs : List Record). flat_map record_spelling rs) nothing in
        let same : log_of_writer life.log a ++ life.log.appended ≡ flat_map record_spelling k.log =
        ap (λ (old : List ℕ). old ++ life.log.appended) k.has_log ∙ ap (λ (new : List ℕ). flat_map record_spelling k.log ++ new) none ∙ append-nil (flat_map record_spelling k.log) in
        ap (λ (b : List ℕ). (cut_of b).records) same ∙ cut_is (cut_of (flat_map record_spelling k.log)) k.log (records_whole k.log k.records)

    -- Each slot that was changed is named.
    pub changed_named : (snapshot : List Record) → snapshot_from life.system a life.now ≡ Ok snapshot → (place number : ℕ) → DirtySlot stores place number → IsSome (named_by snapshot (cut_of (log_of_writer life.log a ++ life.log.appended)).records (place + 1) number)
    changed_named snapshot read place number slot =
        let of_ = dirty_slot life.system stores may.slots.are_of place number slot in
        let changed : life.changed (place + 1) number ≡ true = may.slots.changed place number of_.dbd of_.found of_.below ∙ dirty_changed stores place number slot in
        subst (λ (s : List Record). IsSome (named_by s (cut_of (log_of_writer life.log a ++ life.log.appended)).records (place + 1) number)) (one_value k.snapshot snapshot (sym k.has_snapshot ∙ read))
        (subst (λ (rs : List Record). IsSome (named_by k.snapshot rs (place + 1) number)) (sym same_records) (k.are.named place number of_.dbd of_.found of_.below changed))

    pub stands : Stands parts life.log stores a
    stands = record { now = k.restart; free = free; over = over; room = l.appended.fits; of_ = may.slots.are_of; fits = may.fits; named = changed_named }

    -- Whatever the image recovers to, one within a force, with nothing to force, does.
    pub force_keeps : (b : Image) → AddsFront life.log a b → KeepsRecovery life.system a b
    force_keeps b front state recovered =
        subst (λ (answer : Result LastingState Fault). Recovers life.system b answer)
        (one_answer_of life.system a (Ok life.lasting) (Ok state) (recovers life l a k) recovered)
        (one_recovers life.system life.lasting b (front_one life l nothing [] tt a k b front))

    pub ahead_behind : NoneAhead life.system a life.now.epoch (sequence_behind life.log)
    ahead_behind = ahead_more life.system a life.now.epoch (life.log.sequence + life.log.place) (sequence_behind life.log) (omega arith) k.none_ahead

    -- ---- what it leaves
    module _ (e : Image) (done : IsCheckpointed parts life.log stores a e) where
      abbrev now_after : Rattle.restart_data.specs.declared.restart.RestartSector.RestartSector
      now_after = next_restart parts life.log

      kept : readings.IsKept (snapshot_area life.system) life.now
      kept = readings.restart_kept (snapshot_area life.system) (is_single life.system) (sector_at a 0) life.now k.restart

      log_end : (life.log.first + life.log.place) + log_sectors_of (length life.log.appended) ≤ log_first life.system 2
      log_end = omega (arith, l.appended.fits, l.writer.first, l.writer.count, log_below life.system life.now.log kept.log)

      text_stays : (i : ℕ) → 1 ≤ i → i < 65 → sector_at e i ≡ sector_at a i
      text_stays i low high =
          ⊎_elim (λ same. same)
          (λ written.
          ⊎_elim (λ (first : i ≡ 0). absurd (omega (arith, first, low)))
          (λ others.
          ⊎_elim (λ (in_ : InArea parts.snapshot_at parts.snapshot_sectors i). absurd (omega (arith, in_.low, high)))
          (λ more.
          ⊎_elim (λ (in_ : InArea (life.log.first + life.log.place) (log_sectors_of (length life.log.appended)) i). absurd (omega (arith, in_.low, high, l.writer.first)))
          (λ (dirty : DirtyAt life.system stores i). absurd (omega (arith, dirty.sector, high, slot_above life.system dirty.place dirty.number dirty.index)))
          more)
          others)
          written)
          (done.elsewhere i)

      -- each sector of a slot that wasn't changed stands as it did
      sector_stays : (place number : ℕ) → IsSlotOf life.system place number → is_slot_changed stores.changed place number ≡ false → (k : ℕ) → k < slot_size life.system place
          → sector_at e (slot_first life.system place number + k) ≡ sector_at a (slot_first life.system place number + k)
      sector_stays place number slot unchanged k inside =
          let at : ℕ = slot_first life.system place number + k in
          let above : log_first life.system 2 ≤ at = slot_above life.system place number k in
          ⊎_elim (λ same. same)
          (λ written.
          ⊎_elim (λ (first : at ≡ 0). absurd (omega (arith, first, above)))
          (λ others.
          ⊎_elim (λ (in_ : InArea parts.snapshot_at parts.snapshot_sectors at). absurd (omega (arith, in_.high, above, snapshot_below life.system (1 - life.now.snapshot) (omega arith), log_above life.system 2)))
          (λ more.
          ⊎_elim (λ (in_ : InArea (life.log.first + life.log.place) (log_sectors_of (length life.log.appended)) at). absurd (omega (arith, in_.high, above, log_end)))
          (λ (dirty : DirtyAt life.system stores at).
          let one =
          one_slot life.system dirty.place dirty.number dirty.index place number k (dirty_slot life.system stores may.slots.are_of dirty.place dirty.number dirty.slot) slot dirty.within inside (sym dirty.sector) in
          let is : is_slot_changed stores.changed place number ≡ true =
          ap (λ p. is_slot_changed stores.changed p number) (sym one.place) ∙ ap (is_slot_changed stores.changed dirty.place) (sym one.number) ∙ dirty_changed stores dirty.place dirty.number dirty.slot in
          absurd (let clash : true ≡ false = sym is ∙ unchanged in cc))
          more)
          others)
          written)
          (done.elsewhere at)

      -- and so the slot does
      unchanged_stays : (place number : ℕ) → IsSlotOf life.system place number → is_slot_changed stores.changed place number ≡ false → slot_at life.system e place number ≡ slot_at life.system a place number
      unchanged_stays place number slot unchanged =
          slot_same (slot_size life.system place) a e (slot_first life.system place number) (sector_stays place number slot unchanged)

      -- each slot stands in its sectors as in the stores
      all_stand : EachSlot life.system (λ place number. StandsAt life.system e place number (life.present (place + 1) number))
      all_stand place number dbd found below = by_changed (is_slot_changed stores.changed place number) refl where
        by_changed : (b : Bool) → is_slot_changed stores.changed place number ≡ b → StandsAt life.system e place number (life.present (place + 1) number)
        by_changed true is =
            let of_ = store_of stores.stores life.system.databases place dbd may.slots.are_of.databases found in
            let dirty = changed_dirty stores place number of_.store of_.found is in
            let same : Some dirty.store ≡ Some of_.store = sym dirty.found ∙ of_.found in
            let store : dirty.store ≡ of_.store = cc in
            let image = slice_index_or of_.store.slots number [] in
            let size : ℕ = slot_size life.system place in
            let sectors : of_.store.dbd.sectors ≡ size = ap (λ (d : Dbd). d.sectors) of_.is ∙ sym (size_of life.system place dbd found) in
            let short : length (rows.rows_spelling image) ≤ 4000 * size =
            subst (λ n. length (rows.rows_spelling image) ≤ 4000 * n) sectors
            (slot_short of_.store number (all_at (λ (s : Stored). AreSlots s.dbd s.slots) stores.stores place of_.store may.slots.valid of_.found)) in
            subst (λ (v : List ℕ). StandsAt life.system e place number v) (sym (may.slots.present place number dbd found below ∙ bytes_of_store stores.stores place number of_.store of_.found))
            (subst (λ (written : List (List ℕ)). HoldsBytes (rows.rows_spelling image) written)
            (sym (done.slots place number dirty ∙ ap (λ (s : Stored). slot_spelling size (rows.rows_spelling (slice_index_or s.slots number []))) store))
            (data_holds size (rows.rows_spelling image) short))
        by_changed false is =
            subst (λ (sectors : List (List ℕ)). HoldsBytes (life.present (place + 1) number) sectors) (sym (unchanged_stays place number (record { dbd = dbd; found = found; below = below }) is))
            (k.are.written place number dbd found below (may.slots.changed place number dbd found below ∙ is))

      pub has_snapshot : snapshot_from life.system e now_after ≡ Ok told
      has_snapshot =
          let first : ℕ = snapshot_first life.system now_after.snapshot in
          ap (λ (read : Result (List ℕ) Fault). read >>= λ b. or_fault (10, first) (records_cut b) >>= λ found. unless_any first (snapshot_rules life.system found) found) done.snapshot
          ∙ ap (λ (found : Option (List Record)). or_fault (10, first) found >>= λ found. unless_any first (snapshot_rules life.system found) found) may.is_snapshot.cut
          ∙ ap (λ (broken : Option ℕ). in_sector first (unless_rule_broken broken told)) may.is_snapshot.unbroken

      pub none_ahead_after : NoneAhead life.system e life.now.epoch (sequence_behind life.log)
      none_ahead_after = next_ahead parts life.log stores a stands e done ahead_behind

      slots_after : Rattle.disk_law.specs.CommittedBytes.AreCommitted told [] life.may_sync touches life.committed
      slots_after =
          begins_anew told life.may_sync touches life.committed may.is_snapshot.tells
          (λ unit d s t is. k.are.slots.live unit d s t (may.forgets.kept unit d s t is))
          (λ unit d s t is. may.forgets.slots.firsts unit d s t is)

      -- It is an image of the life behind it.
      pub checkpoint_kept : IsImageKept (after_checkpoint bytes touches life) e
      checkpoint_kept = record {
        restart = next_restart_in parts life.log stores a stands e done;
        has_text = text_same a e life.now.text text_stays ∙ k.has_text;
        snapshot = told;
        log = [];
        has_snapshot = has_snapshot;
        has_log = ap joined_payloads (ahead_empty life.system e life.now.epoch (sequence_behind life.log) (1 - life.now.log) none_ahead_after (omega arith) (omega (arith, may.next.sequence.1)));
        records = tt;
        bytes = no_bytes;
        are = record {
          lasts = ap (λ (lasting : LastingState). Some (record { lasting = lasting; waiting = [] })) may.is_snapshot.state_is;
          slots = slots_after;
          unnamed = λ place number dbd found below none.
              subst (λ (v : List ℕ). StandsAt life.system e place number v)
              (sym (may.forgets.slots.untouched place number dbd found below
              (none_told told life.may_sync touches life.committed may.is_snapshot.tells
              (λ unit d s t is. k.are.slots.live unit d s t (may.forgets.kept unit d s t is))
              (λ unit d s t is. may.forgets.slots.firsts unit d s t is)
              (place + 1) number (unnamed_changes told [] (place + 1) number none))))
              (all_stand place number dbd found below);
          written = λ place number dbd found below is. all_stand place number dbd found below;
          named = λ place number dbd found below is. absurd cc;
        };
        not_later = later_behind parts life.log stores a e stands done (omega (arith, l.in_range.epoch.1)) life.lasting (recovers life l a k);
        none_ahead = subst (λ n. NoneAhead life.system e life.now.epoch n) (omega arith) none_ahead_after;
      }

  -- And so, whatever the image before recovers to, the one behind does.
  pub snapshot_keeps : (a e : Image) → IsImageKept life a → IsCheckpointed parts life.log stores a e → KeepsRecovery life.system a e
  snapshot_keeps a e k done state recovered =
      subst (λ (answer : Result LastingState Fault). Recovers life.system e answer)
      (one_answer_of life.system a (Ok life.lasting) (Ok state) (recovers life l a k) recovered)
      (recovers (after_checkpoint bytes touches life) (checkpoint_life bytes stores touches told life l may) e (checkpoint_kept a k e done))
