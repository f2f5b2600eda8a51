-- An image whose records are done again to what lasts, and whose slots have the committed bytes, recovers to it.
use Rattle.std.proofs.Common.{◌≡◌, ℕ, zero, suc, ◌+◌, ◌*◌, ◌<◌, true, List, [], ◌∷◌, map, refl, sym, ◌∙◌, ap, subst, arith, Some, None, Ok}
use Rattle.std.specs.Prelude.{Option, Result, slice_get, slice_index_or}
use Rattle.std.specs.Option.{option_map, option_map_or}
use Rattle.std.specs.List.{AllByRecursion}
use Rattle.std.proofs.lemmas.Option.{slice_get_within, slice_get-map}
use Rattle.tm_types.specs.declared.dbd.Dbd.{Dbd}
use Rattle.tm_disk.specs.Disk.{Image}
use Rattle.model_data.specs.declared.row.Row.{Row}
use Rattle.model_data.specs.Record as rows
use Rattle.model_system.specs.System.{System}
use Rattle.model_machine.specs.Machine.{LastingState}
use Rattle.log_records.specs.declared.record.Record.{Record}
use Rattle.log_records.specs.RecordReader.{◌>>=◌}
use Rattle.restart_data.specs.declared.restart.RestartSector.{RestartSector}
use Rattle.restart_data.specs.Restart.{restart_in}
use Rattle.seg_store.specs.Slots.{Stored, AreSlots, IsSlot}
use Rattle.model_system.specs.Areas.{is_single, snapshot_area, log_first, data_first}
use Rattle.model_image.specs.CutRecords.{IsRecordCutOff}
use Rattle.model_image.specs.HeldStores.{HoldsBytes}
use Rattle.model_image.specs.Faults.{Fault, in_sector, or_fault, unless_fault}
use Rattle.model_image.specs.Slots.{image_slot_in, slots_by, sectors_from, named_by, image_rows_from}
use Rattle.model_image.specs.Replay.{Replay, replay_all}
use Rattle.model_image.specs.RecoveredState.{snapshot_from, log_in, log_from, state_from, first_later, later_sector, state_with, state_by_restart, rest_by, log_rest, Recovers}
use Rattle.model_image.proofs.Places.{size_of}
use Rattle.disk_law.specs.CommittedBytes.{Bytes}
use Rattle.disk_law.specs.Life.{EachSlot, SpellRows, but_rows}
use Rattle.disk_law.specs.KeptImages.{StandsAt, beginning}
use Rattle.disk_law.proofs.Naming.{NamedAs}
use Rattle.disk_law.proofs.SlotsRead.{IsRight, AreRight, slot_right, right_by, IsGood, rows_read}
use Rattle.checkpointing.proofs.Begun.{bind_is}

-- What is read of an image, so that it recovers to this state.
pub record IsReadAs (system : System) (now : RestartSector) (snapshot records : List Record) (lasting : LastingState) (committed : Bytes) (image : Image) : Type 0 where
  pub restart : restart_in (snapshot_area system) (is_single system) image ≡ Ok (Some now)
  pub has_snapshot : snapshot_from system image now ≡ Ok snapshot
  pub has_records : (log_in system image now).records ≡ records
  pub cut_off : IsRecordCutOff (log_in system image now).rest
  pub waiting : List Record
  pub lasts : replay_all system records (beginning system snapshot) ≡ Some (record { lasting = but_rows system lasting; waiting = waiting })
  pub named : (database slot : ℕ) → NamedAs (committed database slot) (named_by snapshot records database slot)
  pub unnamed : EachSlot system (λ place number. named_by snapshot records (place + 1) number ≡ None → StandsAt system image place number (committed (place + 1) number))
  pub slots : SpellRows system committed lasting.rows
  pub not_later : first_later (2 * system.logs) image (log_first system 0) now.epoch ≡ None

-- ---- lists by their places

pub index_found : {X : Type 0} (xs : List X) (k : ℕ) (x d : X) → slice_get xs k ≡ Some x → slice_index_or xs k d ≡ x
index_found [] k x d found = absurd (omega (arith, slice_get_within [] k x found))
index_found (y ∷ xs) zero x d found = cc
index_found (y ∷ xs) (suc k) x d found = index_found xs k x d found

pub all_at : {X : Type 0} (P : X → Type 0) (xs : List X) (k : ℕ) (x : X) → AllByRecursion P xs → slice_get xs k ≡ Some x → P x
all_at P [] k x all found = absurd (omega (arith, slice_get_within [] k x found))
all_at P (y ∷ xs) zero x all found = let same : y ≡ x = cc in subst P same all.0
all_at P (y ∷ xs) (suc k) x all found = all_at P xs k x all.1 found

-- the database of a store
pub dbd_found : (stores : List Stored) (dbds : List Dbd) (place : ℕ) (s : Stored) → map (λ s. s.dbd) stores ≡ dbds → slice_get stores place ≡ Some s → slice_get dbds place ≡ Some s.dbd
dbd_found stores dbds place s are found =
    subst (λ (l : List Dbd). slice_get l place ≡ Some s.dbd) are
    (slice_get-map (λ (s : Stored). s.dbd) stores place ∙ ap (λ (o : Option Stored). option_map (λ (s : Stored). s.dbd) o) found)

-- ---- the rows

module _ (system : System) (image : Image) (snapshot records : List Record) (committed : Bytes) (lines : List (List Row))
    (named : (database slot : ℕ) → NamedAs (committed database slot) (named_by snapshot records database slot))
    (unnamed : EachSlot system (λ place number. named_by snapshot records (place + 1) number ≡ None → StandsAt system image place number (committed (place + 1) number)))
    (spell : SpellRows system committed lines) where
  one_right : (place : ℕ) (s : Stored) → slice_get spell.stores place ≡ Some s → AreSlots s.dbd s.slots → (number : ℕ) (slot_image : List Row) → slice_get s.slots number ≡ Some slot_image →
      IsRight (image_slot_in image snapshot records s.dbd (data_first system place) (place + 1) number) slot_image
  one_right place s found valid number slot_image there =
      let below : number < s.dbd.roots = omega (arith, valid.count, slice_get_within s.slots number slot_image there) in
      let dbd = dbd_found spell.stores system.databases place s spell.databases found in
      let spells : committed (place + 1) number ≡ rows.rows_spelling slot_image =
      spell.bytes place number s.dbd dbd below
      ∙ ap (λ (o : Option Stored). rows.rows_spelling (slice_index_or (option_map_or (λ (s : Stored). s.slots) o []) number [])) found
      ∙ ap rows.rows_spelling (index_found s.slots number slot_image [] there) in
      let first : ℕ = data_first system place in
      slot_right s.dbd (first + number * s.dbd.sectors) valid.types slot_image (all_at (IsSlot s.dbd) s.slots number slot_image valid.each there) (committed (place + 1) number) spells
      (named_by snapshot records (place + 1) number) (sectors_from image (first + number * s.dbd.sectors) s.dbd.sectors) (named (place + 1) number)
      (λ none. subst (λ n. HoldsBytes (committed (place + 1) number) (sectors_from image (first + number * n) n)) (size_of system place s.dbd dbd) (unnamed place number s.dbd dbd below none))

  good : (place : ℕ) (s : Stored) → slice_get spell.stores place ≡ Some s → IsGood system image snapshot records place s
  good place s found =
      let valid : AreSlots s.dbd s.slots = all_at (λ (s : Stored). AreSlots s.dbd s.slots) spell.stores place s spell.valid found in (
        subst (λ n. AreRight (slots_by (image_slot_in image snapshot records s.dbd (data_first system place) (place + 1)) n 0) s.slots) valid.count
            (right_by (image_slot_in image snapshot records s.dbd (data_first system place) (place + 1)) s.slots 0 (λ k slot_image there.
            subst (λ n. IsRight (image_slot_in image snapshot records s.dbd (data_first system place) (place + 1) n) slot_image) (omega arith) (one_right place s found valid k slot_image there))),
        valid.apart,
      )

  pub rows_there : image_rows_from system image snapshot records ≡ Ok lines
  rows_there =
      rows_read system image snapshot records spell.stores spell.databases (λ j s found. subst (λ k. IsGood system image snapshot records k s) (omega arith) (good j s found))
      ∙ ap (λ (l : List (List Row)). Ok l) spell.are

-- ---- the whole

module _ (system : System) (now : RestartSector) (snapshot records : List Record) (lasting : LastingState) (committed : Bytes) (image : Image) (r : IsReadAs system now snapshot records lasting committed image) where
  abbrev of_rows : LastingState → List (List Row) → Result LastingState Fault
  of_rows state lines = unless_fault (later_sector system image now) (record state { rows = lines })

  abbrev of_state : LastingState → Result LastingState Fault
  of_state state = image_rows_from system image snapshot records >>= λ lines. of_rows state lines

  abbrev of_log : List Record → Result LastingState Fault
  of_log log = state_from system now snapshot log >>= λ state. image_rows_from system image snapshot log >>= λ lines. of_rows state lines

  abbrev of_snapshot : List Record → Result LastingState Fault
  of_snapshot told = log_from system image now true >>= λ log. state_from system now told log >>= λ state. image_rows_from system image told log >>= λ lines. of_rows state lines

  state_is : state_with system image true now ≡ Ok lasting
  state_is =
      let state = but_rows system lasting in
      bind_is (snapshot_from system image now) of_snapshot snapshot r.has_snapshot
      ∙ bind_is (log_from system image now true) of_log records (ap (λ (l : List Record). Ok l) r.has_records)
      ∙ bind_is (state_from system now snapshot records) of_state state (ap (λ (o : Option Replay). or_fault (19, log_first system now.log) (option_map (λ (replay : Replay). replay.lasting) o)) r.lasts)
      ∙ bind_is (image_rows_from system image snapshot records) (of_rows state) lasting.rows (rows_there system image snapshot records committed lasting.rows r.named r.unnamed r.slots)
      ∙ ap (λ (found : Option ℕ). unless_fault (option_map {U = Fault} (λ sector. (24, sector)) found) lasting) r.not_later

  -- It recovers to that.
  pub read_recovers : Recovers system image (Ok lasting)
  read_recovers =
      let rest : log_rest system image ≡ (log_in system image now).rest = ap (rest_by system image) r.restart in
      record {
        is_cut_off = true;
        decides = (λ _. subst (λ (l : List ℕ). IsRecordCutOff l) (sym rest) r.cut_off, λ _. refl);
        is = ap (λ (read : Result (Option RestartSector) ℕ). in_sector 0 read >>= λ restart. state_by_restart system image true restart) r.restart ∙ state_is;
      }
