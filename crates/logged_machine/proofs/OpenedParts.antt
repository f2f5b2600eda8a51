-- Parts that are opened: the life that begins goes with them.
use Rattle.std.proofs.Common.{◌≡◌, ℕ, zero, suc, ◌-◌, ◌<◌, false, List, [], ◌∷◌, length, map, replicate, refl, sym, ◌∙◌, ap, subst}
use Rattle.std.specs.Prelude.{◌==◌, slice_index_or}
use Rattle.std.specs.List.{list_any}
use Rattle.tm_types.specs.declared.dbd.Dbd.{Dbd}
use Rattle.tm_disk.specs.Disk.{DiskState, Image}
use Rattle.model_machine.specs.Machine.{LastingState, Moment, start_of}
use Rattle.log_writer.specs.ForcedLog.{IsWriterReady}
use Rattle.model_image.specs.HeldStores.{HoldsStores}
use Rattle.model_image.specs.States.{breaks_a_rule}
use Rattle.restart_data.specs.declared.restart.RestartSector.{RestartSector}
use Rattle.restart_data.specs.Restart.{IsRestart}
use Rattle.seg_store.specs.Slots.{Stored, rows_of_slots}
use Rattle.seg_store.specs.Stores.{no_changed}
use Rattle.unit_work.specs.declared.change.Change.{Change}
use Rattle.unit_work.specs.Marks.{is_marked}
use Rattle.checkpointing.specs.SnapshotRecords.{IsOfSystem, snapshot_records}
use Rattle.image_law.specs.SegmentCounts.{AreSegmentsCounted}
use Rattle.disk_law.specs.OpenedLife.{IsOpened, MayOpenLife, opened_life}
use Rattle.disk_law.specs.PendingMoves.{PendsBehind}
use Rattle.disk_law.proofs.CheckpointOnDisk as on_disk
use Rattle.program_rows.specs.SlotsState.{SlotsState, touched_in}
use Rattle.tm_machine.specs.SlotChanges.{HasSlots, slots_now}
use Rattle.tm_machine.specs.Parts.{PartsState}
use Rattle.openings.specs.OpenedImage.{MayBegin}
use Rattle.openings.specs.Renewal.{IsRenewed}
use Rattle.openings.specs.OpeningParts.{AreOpeningParts, OpeningParts}
use Rattle.journal.specs.CarriedLife.{IsCarriedBy}
use Rattle.journal.proofs.Openings.{may_open, no_units, opening_carried}
use Rattle.logged_machine.specs.CarriedParts.{IsCarried}
use Rattle.logged_machine.specs.OpeningSlots.{opening_slots, slots_of_opening}

none_touched : (n k : ℕ) (none : List Change) → none ≡ [] → slice_index_or (replicate n none) k [] ≡ []
none_touched zero k none is = refl
none_touched (suc n) zero none is = is
none_touched (suc n) (suc k) none is = none_touched n k none is

none_changed : (dbds : List Dbd) (s k : ℕ) → list_any (λ n. n == s) (slice_index_or (no_changed dbds) k []) ≡ false
none_changed [] s k = refl
none_changed (dbd ∷ dbds) s zero = refl
none_changed (dbd ∷ dbds) s (suc k) = none_changed dbds s k

module _ (parts : PartsState) (text : List ℕ) (now : RestartSector) (state : LastingState) (stores : List Stored) (next : ℕ) (has : HasSlots parts) (starts : parts.moment ≡ start_of parts.system state)
    (slots_are : slots_now parts ≡ opening_slots stores parts.system.databases (length parts.system.regions))
    (in_range : IsRestart now) (unbroken : breaks_a_rule parts.system state ≡ false) (names : IsOfSystem parts.system state) (counted : AreSegmentsCounted state) (some : 0 < next) where
  stores_are : (slots_now parts).stores ≡ stores
  stores_are = ap (λ (s : SlotsState). s.stores) slots_are

  rows_so : map (λ s. rows_of_slots s.slots) (slots_now parts).stores ≡ state.rows
  rows_so =
      ap (λ (l : List Stored). map (λ s. rows_of_slots s.slots) l) (stores_are ∙ sym (ap (λ (s : SlotsState). s.committed) slots_are))
      ∙ has.rows_are
      ∙ ap (λ (m : Moment). m.lasting.rows) starts

  clean : (region : ℕ) → touched_in region (slots_now parts) ≡ []
  clean region = ap (λ (s : SlotsState). touched_in region s) slots_are ∙ none_touched (length parts.system.regions) (region - 1) [] refl

  unmarked : (d s : ℕ) → is_marked (slots_now parts).changed d s ≡ false
  unmarked d s = ap (λ (x : SlotsState). is_marked x.changed d s) slots_are ∙ none_changed parts.system.databases s (d - 1)

  -- The life may be opened.
  pub may_open_parts : MayOpenLife parts.system now stores state (snapshot_records now.checkpoint next state [])
  may_open_parts =
      subst (λ (l : List Stored). MayOpenLife parts.system now l state (snapshot_records now.checkpoint next state [])) stores_are
      (may_open parts.system has.defined (length parts.system.regions) text now state (slots_now parts) next in_range unbroken names counted has.have rows_so clean unmarked some)

  -- It goes with the parts.
  pub opened : IsCarried parts (no_units (length parts.system.regions)) next (opened_life parts.system text now stores state)
  opened =
      subst (λ (m : Moment). IsCarriedBy parts.system m (slots_now parts) (no_units (length parts.system.regions)) next (opened_life parts.system text now stores state)) (sym starts)
      (subst (λ (l : List Stored). IsCarriedBy parts.system (start_of parts.system state) (slots_now parts) (no_units (length parts.system.regions)) next (opened_life parts.system text now l state)) stores_are
      (opening_carried parts.system has.defined (length parts.system.regions) text now state (slots_now parts) next in_range unbroken names counted has.have rows_so clean unmarked some))

-- ---- what an opening gives

module _ (parts : PartsState) (text : List ℕ) (opening : OpeningParts) (state : LastingState) (are : AreOpeningParts parts.system state opening) (begins : MayBegin parts.system text opening state)
    (has : HasSlots parts) (starts : parts.moment ≡ start_of parts.system state) (slots_are : slots_now parts ≡ slots_of_opening opening (length parts.system.regions)) where
  slots_so : slots_now parts ≡ opening_slots opening.stores.stores parts.system.databases (length parts.system.regions)
  slots_so =
      slots_are
      ∙ ap (λ (changed : List (List ℕ)). record { committed = opening.stores.stores; stores = opening.stores.stores; changed = changed; touched = replicate (length parts.system.regions) [] }) are.written

  may : MayOpenLife parts.system opening.now opening.stores.stores state (snapshot_records opening.now.checkpoint opening.next_unit state [])
  may =
      may_open_parts parts text opening.now state opening.stores.stores opening.next_unit has starts slots_so begins.restart begins.keeps_rules begins.of_system begins.counted begins.some_unit

  -- The life that begins goes with the parts that were opened.
  pub opened_by : IsCarried parts (no_units (length parts.system.regions)) opening.next_unit (opened_life parts.system text opening.now opening.stores.stores state)
  opened_by =
      opened parts text opening.now state opening.stores.stores opening.next_unit has starts slots_so begins.restart begins.keeps_rules begins.of_system begins.counted begins.some_unit

  module _ (disk : DiskState) (renewed : (image : Image) → disk.may_leave image → IsRenewed parts.system text opening.now opening.next_unit state image)
      (stored : (image : Image) → disk.may_leave image → HoldsStores parts.system opening.stores.stores image) where
    opens : (image : Image) → disk.may_leave image → IsOpened parts.system text opening.now opening.stores.stores state (snapshot_records opening.now.checkpoint opening.next_unit state []) image
    opens image left =
        let is = renewed image left in
        record { restart = is.restart; has_text = is.has_text; has_snapshot = is.has_snapshot; recovers = is.recovers; none_ahead = is.none_ahead; holds = stored image left }

    -- Each image that a crash may leave is one of it, and what it begins with pends.
    pub opened_pends : PendsBehind (state ∷ []) (opened_life parts.system text opening.now opening.stores.stores state) disk
    opened_pends = on_disk.opened_done parts.system text opening.now opening.stores.stores state (snapshot_records opening.now.checkpoint opening.next_unit state []) may disk opens opened_by.is.is_life

    -- Its writer stands where the log ends.
    pub opened_ready : IsWriterReady (opened_life parts.system text opening.now opening.stores.stores state).log disk
    opened_ready = on_disk.opened_ready parts.system text opening.now opening.stores.stores state (snapshot_records opening.now.checkpoint opening.next_unit state []) may disk opens
