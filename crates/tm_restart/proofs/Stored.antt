-- The stores that were loaded stand in their sectors, slot by slot.
use Rattle.std.proofs.Common.{◌≡◌, ℕ, zero, suc, ◌+◌, ◌*◌, ◌<◌, Bool, true, false, not, ◌&&◌, List, [], ◌∷◌, map, refl, sym, ◌∙◌, ap, arith, Some, None, Ok}
use Rattle.std.specs.Prelude.{Option, slice_get, slice_index_or, find, if◌then◌else◌, ◌==◌}
use Rattle.std.specs.Option.{option_or, unwrap_or, is_some}
use Rattle.tm_types.specs.declared.dbd.Dbd.{Dbd}
use Rattle.tm_types.specs.SegTypes.{IsHierarchy}
use Rattle.tm_disk.specs.Disk.{Image}
use Rattle.model_data.specs.declared.row.Row.{Row}
use Rattle.model_data.specs.Record.{rows_spelling}
use Rattle.model_system.specs.System.{System}
use Rattle.log_records.specs.declared.record.Record.{Record}
use Rattle.restart_data.specs.declared.restart.RestartSector.{RestartSector}
use Rattle.seg_store.specs.Slots.{Stored}
use Rattle.image_loading.proofs.Spelled.{RowsOf, rows_spell}
use Rattle.model_system.specs.Areas.{data_first}
use Rattle.model_image.specs.HeldStores.{HoldsBytes, HoldsStores}
use Rattle.model_image.specs.Slots.{SlotOnImage, slots_by, image_slot_in, all_slots, slot_fault, rows_of_databases, image_rows_from, rows_of_bytes, used_in, spelled_in, is_wrong_sector, wrong_from, slot_at, is_image, wrong_sector, has_no_record, slot_rows, first_in, fault_of, first_wrong, first_no_record, first_doubled}
use Rattle.model_image.specs.Slots.Source.{Spelled}
use Rattle.model_image.specs.RecoveredState.{log_in}
use Rattle.checkpointing.proofs.Slots.{dbd_found}
use Rattle.tm_restart.specs.GivenSlots.{GivenSlots}
use Rattle.tm_restart.specs.UnpreparedImage.{IsUnprepared}
use Rattle.tm_restart.specs.LoadedStores.{AreStoresLoaded}
use Rattle.tm_restart.specs.LifeWrites.{IsRewritten}
use Rattle.tm_restart.proofs.Same.{SameSlot, left_none, right_none, no_sector, no_place, by_fault}
use Rattle.tm_restart.proofs.SlotsAnew.{slot_again}

-- ---- one of all slots

none_at : (test : List SlotOnImage → Option ℕ) (sss : List (List SlotOnImage)) (place : ℕ) (ss : List SlotOnImage) → first_in test sss ≡ None → slice_get sss place ≡ Some ss → test ss ≡ None
none_at test [] place ss none found = cc
none_at test (s ∷ sss) zero ss none found = let same : s ≡ ss = cc in ap test (sym same) ∙ left_none (test s) (first_in test sss) none
none_at test (s ∷ sss) (suc place) ss none found = none_at test sss place ss (right_none (test s) (first_in test sss) none) found

no_found : (p : SlotOnImage → Bool) (b : Bool) (s : SlotOnImage) (rest : Option SlotOnImage) → (if b then Some s else rest) ≡ None → (b ≡ false) × (rest ≡ None)
no_found p true s rest e = cc
no_found p false s rest e = (refl, e)

passes_right : (slot : ℕ → SlotOnImage) (n number k : ℕ) → first_wrong (slots_by slot n number) ≡ None → k < n → wrong_sector (slot (number + k)) ≡ None
passes_right slot zero number k none lt = absurd (omega (arith, lt))
passes_right slot (suc n) number zero none lt = ap (λ i. wrong_sector (slot i)) (omega arith) ∙ left_none (wrong_sector (slot number)) (first_wrong (slots_by slot n (number + 1))) none
passes_right slot (suc n) number (suc k) none lt =
    ap (λ i. wrong_sector (slot i)) (omega arith)
    ∙ passes_right slot n (number + 1) k (right_none (wrong_sector (slot number)) (first_wrong (slots_by slot n (number + 1))) none) (omega (arith, lt))

passes_none : (p : SlotOnImage → Bool) (slot : ℕ → SlotOnImage) (n number k : ℕ) → find p (slots_by slot n number) ≡ None → k < n → p (slot (number + k)) ≡ false
passes_none p slot zero number k none lt = absurd (omega (arith, lt))
passes_none p slot (suc n) number zero none lt = ap (λ i. p (slot i)) (omega arith) ∙ (no_found p (p (slot number)) (slot number) (find p (slots_by slot n (number + 1))) none).0
passes_none p slot (suc n) number (suc k) none lt =
    ap (λ i. p (slot i)) (omega arith)
    ∙ passes_none p slot n (number + 1) k (no_found p (p (slot number)) (slot number) (find p (slots_by slot n (number + 1))) none).1 (omega (arith, lt))

pub slots_of : (system : System) (image : Image) (snapshot log : List Record) (from i : ℕ) (dbds : List Dbd) (dbd : Dbd) → slice_get dbds i ≡ Some dbd
    → slice_get (all_slots system image snapshot log from dbds) i ≡ Some (slots_by (image_slot_in image snapshot log dbd (data_first system (from + i)) (from + i + 1)) dbd.roots 0)
unfolding all_slots
slots_of system image snapshot log from i [] dbd found = cc
slots_of system image snapshot log from zero (d ∷ dbds) dbd found =
    let same : d ≡ dbd = cc in
    let at : from ≡ from + 0 = omega arith in
    ap (λ (x : Dbd). Some (slots_by (image_slot_in image snapshot log x (data_first system from) (from + 1)) x.roots 0)) same
    ∙ ap (λ p. Some (slots_by (image_slot_in image snapshot log dbd (data_first system p) (p + 1)) dbd.roots 0)) at
slots_of system image snapshot log from (suc i) (d ∷ dbds) dbd found =
    slots_of system image snapshot log (from + 1) i dbds dbd found
    ∙ ap (λ p. Some (slots_by (image_slot_in image snapshot log dbd (data_first system p) (p + 1)) dbd.roots 0)) (omega arith)

rows_at : (slot : ℕ → SlotOnImage) (n number k : ℕ) → k < n → slice_index_or (map slot_rows (slots_by slot n number)) k [] ≡ slot_rows (slot (number + k))
rows_at slot zero number k lt = absurd (omega (arith, lt))
rows_at slot (suc n) number zero lt = ap (λ i. slot_rows (slot i)) (omega arith)
rows_at slot (suc n) number (suc k) lt = rows_at slot n (number + 1) k (omega (arith, lt)) ∙ ap (λ i. slot_rows (slot i)) (omega arith)

-- ---- the bytes of sectors that spell rows

spelled_by : (bytes : List ℕ) (rows : List Row) (dbd : Dbd) → RowsOf dbd bytes rows → bytes ≡ rows_spelling rows
spelled_by bytes [] dbd is = is.none refl
spelled_by bytes (row ∷ rows) dbd is = sym (is.some (λ e. let clash : row ∷ rows ≡ [] = e in absurd (cc))).spelled

by_rows : (dbd : Dbd) → IsHierarchy dbd.types → (bytes : List ℕ) (o : Option (List Row)) → rows_of_bytes dbd bytes ≡ o → not (is_some o) ≡ false → bytes ≡ rows_spelling (unwrap_or o [])
by_rows dbd types bytes None is some = cc
by_rows dbd types bytes (Some rows) is some = spelled_by bytes rows dbd (rows_spell dbd types bytes rows is)

spells : (dbd : Dbd) → IsHierarchy dbd.types → (bytes : List ℕ) → not (is_image dbd bytes) ≡ false → bytes ≡ rows_spelling (unwrap_or (rows_of_bytes dbd bytes) [])
spells dbd types bytes some = by_rows dbd types bytes (rows_of_bytes dbd bytes) refl some

-- whether a sector is wrong doesn't go by where it stands
right_by : (b : Bool) (at other : ℕ) (rest more : Option ℕ) → (rest ≡ None → more ≡ None) → (if b then Some at else rest) ≡ None → (if b then Some other else more) ≡ None
right_by true at other rest more later e = cc
right_by false at other rest more later e = later e

right_anywhere : (full : Bool) (at other : ℕ) (sectors : List (List ℕ)) → wrong_from full at sectors ≡ None → wrong_from full other sectors ≡ None
right_anywhere full at other [] e = refl
right_anywhere full at other (sector ∷ sectors) e =
    right_by (is_wrong_sector full sector) at other (wrong_from (full && (used_in sector == 4000)) (at + 1) sectors) (wrong_from (full && (used_in sector == 4000)) (other + 1) sectors)
    (right_anywhere (full && (used_in sector == 4000)) (at + 1) (other + 1) sectors) e

-- a slot that its sectors spell
holds_slot : (dbd : Dbd) (k : ℕ) (sectors : List (List ℕ)) (rows : List Row) → IsHierarchy dbd.types → wrong_sector (record { dbd = dbd; place = k; source = Spelled sectors }) ≡ None → has_no_record (record { dbd = dbd; place = k; source = Spelled sectors }) ≡ false
    → slot_rows (record { dbd = dbd; place = k; source = Spelled sectors }) ≡ rows → HoldsBytes (rows_spelling rows) sectors
holds_slot dbd k sectors rows types right some is = record {
  right = λ at. right_anywhere true k at sectors right;
  spelled = spells dbd types (spelled_in sectors) some ∙ ap rows_spelling is;
}

module _ (system : System) (r : RestartSector) (snapshot : List Record) (given : GivenSlots) (bytes : List ℕ) (now : RestartSector) (a e : Image) (is : IsUnprepared system r snapshot given now a) (done : IsRewritten system given bytes now a e)
    (stores : List Stored) (loaded : AreStoresLoaded system a snapshot (log_in system a r).records stores) (rows : List (List Row)) (read : image_rows_from system a snapshot (log_in system a r).records ≡ Ok rows) where
  abbrev log : List Record
  log = (log_in system a r).records

  abbrev before_all : List (List SlotOnImage)
  before_all = all_slots system a snapshot log 0 system.databases

  no_fault : slot_fault before_all ≡ None
  no_fault = (by_fault (slot_fault before_all) (rows_of_databases before_all) rows read).0

  one_none : first_in first_wrong before_all ≡ None
  one_none = no_sector 20 (first_in first_wrong before_all) (left_none (fault_of 20 (first_in first_wrong before_all)) (option_or (fault_of 21 (first_in first_no_record before_all)) (fault_of 22 (first_in first_doubled before_all))) no_fault)

  two_none : first_in first_no_record before_all ≡ None
  two_none =
      no_sector 21 (first_in first_no_record before_all)
      (left_none (fault_of 21 (first_in first_no_record before_all)) (fault_of 22 (first_in first_doubled before_all))
      (right_none (fault_of 20 (first_in first_wrong before_all)) (option_or (fault_of 21 (first_in first_no_record before_all)) (fault_of 22 (first_in first_doubled before_all))) no_fault))

  one_holds : (place number : ℕ) (store : Stored) → slice_get stores place ≡ Some store → number < store.dbd.roots → HoldsBytes (rows_spelling (slice_index_or store.slots number [])) (slot_at system e place number)
  one_holds place number store found lt =
      let dbd : Dbd = store.dbd in
      let has : slice_get system.databases place ≡ Some dbd = dbd_found stores system.databases place store loaded.databases found in
      let slot : ℕ → SlotOnImage = image_slot_in a snapshot log dbd (data_first system place) (place + 1) in
      let there : slice_get before_all place ≡ Some (slots_by slot dbd.roots 0) = slots_of system a snapshot log 0 place system.databases dbd has ∙ ap (λ p. Some (slots_by (image_slot_in a snapshot log dbd (data_first system p) (p + 1)) dbd.roots 0)) (omega arith) in
      let right : wrong_sector (slot number) ≡ None = ap (λ i. wrong_sector (slot i)) (omega arith) ∙ passes_right slot dbd.roots 0 number (none_at first_wrong before_all place (slots_by slot dbd.roots 0) one_none there) lt in
      let none : find has_no_record (slots_by slot dbd.roots 0) ≡ None = no_place (find has_no_record (slots_by slot dbd.roots 0)) (none_at first_no_record before_all place (slots_by slot dbd.roots 0) two_none there) in
      let some : has_no_record (slot number) ≡ false = ap (λ i. has_no_record (slot i)) (omega arith) ∙ passes_none has_no_record slot dbd.roots 0 number none lt in
      let k : ℕ = data_first system place + number * dbd.sectors in
      let spelled : SameSlot (slot number) (record { dbd = dbd; place = k; source = Spelled (slot_at system e place number) }) =
      slot_again system r snapshot given bytes now a e is done dbd place number has (record { dbd = dbd; found = has; below = lt }) in
      let is_rows : slice_index_or store.slots number [] ≡ slot_rows (slot number) = ap (λ (l : List (List Row)). slice_index_or l number []) (loaded.each place store found) ∙ rows_at slot dbd.roots 0 number lt ∙ ap (λ i. slot_rows (slot i)) (omega arith) in
      holds_slot dbd k (slot_at system e place number) (slice_index_or store.slots number []) (loaded.types place store found) (spelled.wrong right) (spelled.none some) (spelled.rows ∙ sym is_rows)

  pub stores_held : HoldsStores system stores e
  stores_held = record { each = one_holds }
