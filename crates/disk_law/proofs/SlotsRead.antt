-- Slots whose bytes spell the records of a store: they break no rule, and are read as these records.
use Rattle.std.proofs.Common.{◌≡◌, ℕ, suc, ◌+◌, ◌*◌, ◌≤◌, Bool, true, false, not, ◌&&◌, ◌||◌, List, [], ◌∷◌, length, map, refl, sym, ◌∙◌, ap, subst, ⊎_elim, arith, Some, None, Ok, IsTrue}
use Rattle.std.specs.Prelude.{Option, if◌then◌else◌, find, slice_get}
use Rattle.std.specs.Option.{option_map, option_or, unwrap_or, is_some}
use Rattle.std.specs.List.{list_any}
use Rattle.std.specs.Ordering.{is_eq}
use Rattle.std.proofs.lemmas.Cmp.{tied_itself}
use Rattle.tm_types.specs.declared.dbd.Dbd.{Dbd}
use Rattle.tm_types.specs.SegTypes.{IsHierarchy}
use Rattle.tm_disk.specs.Disk.{Image}
use Rattle.model_data.specs.declared.row.Row.{Row}
use Rattle.model_data.specs.Path.{root_of}
use Rattle.model_data.specs.Record.{rows_spelling, IsRecord}
use Rattle.model_data.proofs.Order.{key_total}
use Rattle.model_system.specs.System.{System}
use Rattle.log_records.specs.declared.record.Record.{Record}
use Rattle.seg_store.specs.Slots.{Stored, IsSlot, AtMostOne, is_slot_free, image_root, has_root, place_of, rows_of_slots}
use Rattle.image_loading.proofs.Spelled.{spells_rows, no_bytes}
use Rattle.model_system.specs.Areas.{data_first}
use Rattle.model_image.specs.Faults.{Fault, unless_fault}
use Rattle.model_image.specs.Slots.{SlotOnImage, Source, source_of, slots_by, image_slot_in, all_slots, slot_fault, rows_of_databases, image_rows_from, rows_of_bytes, is_image, wrong_sector, has_no_record, slot_rows, have_one_root, first_shared, place_in, first_wrong, first_no_record, first_doubled, first_in}
use Rattle.model_image.specs.Slots.Source.{Named, Spelled}
use Rattle.model_image.specs.HeldStores.{HoldsBytes}
use Rattle.disk_law.proofs.Naming.{NamedAs}

-- ---- one slot

-- a slot that breaks no rule by itself, and is read as this image
pub record IsRight (slot : SlotOnImage) (image : List Row) : Type 0 where
  pub right : wrong_sector slot ≡ None
  pub spells : has_no_record slot ≡ false
  pub is : slot_rows slot ≡ image

image_read : (dbd : Dbd) → IsHierarchy dbd.types → (image : List Row) → IsSlot dbd image → rows_of_bytes dbd (rows_spelling image) ≡ Some image
image_read dbd types image is =
    ⊎_elim
    (λ (none : image ≡ []). ap (λ (rows : List Row). rows_of_bytes dbd (rows_spelling rows)) none ∙ no_bytes dbd ∙ ap (λ (rows : List Row). Some rows) (sym none))
    (λ (whole : IsRecord dbd (image_root image) image). spells_rows dbd types (rows_spelling image) image (record { root = image_root image; valid = whole; spelled = refl }))
    is

pub image_fits : (dbd : Dbd) → (image : List Row) → IsSlot dbd image → length (rows_spelling image) ≤ 4000 * dbd.sectors
image_fits dbd image is =
    ⊎_elim
    (λ (none : image ≡ []). omega (arith, ap (λ (rows : List Row). length (rows_spelling rows)) none))
    (λ (whole : IsRecord dbd (image_root image) image). omega (arith, whole.within))
    is

-- what is read of bytes that spell an image
module _ (dbd : Dbd) (image : List Row) (bytes : List ℕ) (read : rows_of_bytes dbd bytes ≡ Some image) where
  spelled_image : not (is_image dbd bytes) ≡ false
  spelled_image = ap (λ (o : Option (List Row)). not (is_some o)) read

  spelled_rows : unwrap_or (rows_of_bytes dbd bytes) [] ≡ image
  spelled_rows = ap (λ (o : Option (List Row)). unwrap_or o []) read

-- by its source: named with the bytes, or spelled by its sectors
module _ (dbd : Dbd) (place : ℕ) (types : IsHierarchy dbd.types) (image : List Row) (is : IsSlot dbd image) (v : List ℕ) (spells : v ≡ rows_spelling image) where
  abbrev with_source : Source → SlotOnImage
  with_source source = record { dbd = dbd; place = place; source = source }

  read_is : rows_of_bytes dbd v ≡ Some image
  read_is = ap (rows_of_bytes dbd) spells ∙ image_read dbd types image is

  named_right : IsRight (with_source (Named v)) image
  named_right = record { right = refl; spells = refl; is = spelled_rows dbd image v read_is }

  sectors_right : (sectors : List (List ℕ)) → HoldsBytes v sectors → IsRight (with_source (Spelled sectors)) image
  sectors_right sectors holds = record {
    right = holds.right place;
    spells = ap (λ (b : List ℕ). not (is_image dbd b)) holds.spelled ∙ spelled_image dbd image v read_is;
    is = ap (λ (b : List ℕ). unwrap_or (rows_of_bytes dbd b) []) holds.spelled ∙ spelled_rows dbd image v read_is;
  }

  pub slot_right : (named : Option (List ℕ)) (sectors : List (List ℕ)) → NamedAs v named → (named ≡ None → HoldsBytes v sectors) → IsRight (with_source (source_of named sectors)) image
  slot_right (Some bytes) sectors same spelled = subst (λ (b : List ℕ). IsRight (with_source (Named b)) image) (sym same) named_right
  slot_right None sectors same spelled = sectors_right sectors (spelled refl)

-- ---- the slots of a database

abbrev pub AreRight : List SlotOnImage → List (List Row) → Type 0
AreRight [] [] = Unit {0}
AreRight (slot ∷ slots) (image ∷ images) = IsRight slot image × AreRight slots images
AreRight [] (image ∷ images) = ⊥
AreRight (slot ∷ slots) [] = ⊥

pub right_by : (slot : ℕ → SlotOnImage) (images : List (List Row)) (number : ℕ) → ((k : ℕ) (image : List Row) → slice_get images k ≡ Some image → IsRight (slot (number + k)) image) → AreRight (slots_by slot (length images) number) images
right_by slot [] number each = tt
right_by slot (image ∷ images) number each = (
  subst (λ k. IsRight (slot k) image) (omega arith) (each 0 image refl),
  right_by slot images (number + 1) (λ k other found. subst (λ j. IsRight (slot j) other) (omega arith) (each (suc k) other found)),
)

none_wrong : (slots : List SlotOnImage) (images : List (List Row)) → AreRight slots images → first_wrong slots ≡ None
none_wrong [] [] right = refl
none_wrong (s ∷ slots) (image ∷ images) right = ap (λ (o : Option ℕ). option_or o (first_wrong slots)) right.0.right ∙ none_wrong slots images right.1
none_wrong [] (image ∷ images) right = absurd right
none_wrong (s ∷ slots) [] right = absurd right

none_other : (slots : List SlotOnImage) (images : List (List Row)) → AreRight slots images → find has_no_record slots ≡ None
none_other [] [] right = refl
none_other (s ∷ slots) (image ∷ images) right = ap (λ (b : Bool). if b then Some s else find has_no_record slots) right.0.spells ∙ none_other slots images right.1
none_other [] (image ∷ images) right = absurd right
none_other (s ∷ slots) [] right = absurd right

images_are : (slots : List SlotOnImage) (images : List (List Row)) → AreRight slots images → map slot_rows slots ≡ images
images_are [] [] right = refl
images_are (s ∷ slots) (image ∷ images) right =
    ap (λ (first : List Row). first ∷ map slot_rows slots) right.0.is ∙ ap (λ (others : List (List Row)). image ∷ others) (images_are slots images right.1)
images_are [] (image ∷ images) right = absurd right
images_are (s ∷ slots) [] right = absurd right

-- no two have one root

none_head : (test : List Row → Bool) (x : List Row) (xs : List (List Row)) → place_of test (x ∷ xs) ≡ None → (test x ≡ false) × (place_of test xs ≡ None)
none_head test x xs none = by_first (test x) (place_of test xs) none where
  by_first : (b : Bool) (o : Option ℕ) → (if b then Some 0 else option_map (λ n. suc n) o) ≡ None → (b ≡ false) × (o ≡ None)
  by_first true o e = cc
  by_first false None e = (refl, refl)
  by_first false (Some n) e = cc

root_alike : (root : List ℕ) (s : SlotOnImage) (image : List Row) → image_root image ≡ root → slot_rows s ≡ image → (slots : List SlotOnImage) (images : List (List Row)) → AreRight slots images → place_of (has_root root) images ≡ None → list_any (have_one_root s) slots ≡ false
root_alike root s image its is [] [] right none = refl
root_alike root s image its is (other ∷ slots) (x ∷ images) right none =
    let both = none_head (has_root root) x images none in
    ap (λ b. b || list_any (have_one_root s) slots)
    (ap (λ (rows : List Row). not (is_slot_free (slot_rows s)) && has_root (image_root rows) (slot_rows other)) is
    ∙ ap (λ (key : List ℕ). not (is_slot_free (slot_rows s)) && has_root key (slot_rows other)) its
    ∙ ap (λ (rows : List Row). not (is_slot_free (slot_rows s)) && has_root root rows) right.0.is
    ∙ ap (λ b. not (is_slot_free (slot_rows s)) && b) both.0
    ∙ and_false (not (is_slot_free (slot_rows s))))
    ∙ root_alike root s image its is slots images right.1 both.1 where
      and_false : (b : Bool) → b && false ≡ false
      and_false true = refl
      and_false false = refl
root_alike root s image its is [] (x ∷ images) right none = absurd right
root_alike root s image its is (other ∷ slots) [] right none = absurd right

free_alike : (s : SlotOnImage) → slot_rows s ≡ [] → (slots : List SlotOnImage) → list_any (have_one_root s) slots ≡ false
free_alike s is [] = refl
free_alike s is (other ∷ slots) =
    ap (λ (rows : List Row). not (is_slot_free rows) && has_root (image_root rows) (slot_rows other) || list_any (have_one_root s) slots) is
    ∙ free_alike s is slots

none_alike : (s : SlotOnImage) (image : List Row) → slot_rows s ≡ image → (slots : List SlotOnImage) (images : List (List Row)) → AreRight slots images → ((root : List ℕ) → IsTrue (has_root root image) → place_of (has_root root) images ≡ None) → list_any (have_one_root s) slots ≡ false
none_alike s [] is slots images right apart = free_alike s is slots
none_alike s (row ∷ image) is slots images right apart =
    let root = root_of row.path in
    root_alike root s (row ∷ image) refl is slots images right (apart root (ap is_eq (tied_itself key_total root)))

none_shared : (slots : List SlotOnImage) (images : List (List Row)) → AreRight slots images → ((root : List ℕ) → AtMostOne (has_root root) images) → first_shared slots ≡ None
none_shared [] [] right apart = refl
none_shared (s ∷ slots) (image ∷ images) right apart =
    ap (λ (b : Bool). if b then Some s else first_shared slots) (none_alike s image right.0.is slots images right.1 (λ root. (apart root).0))
    ∙ none_shared slots images right.1 (λ root. (apart root).1)
none_shared [] (image ∷ images) right apart = absurd right
none_shared (s ∷ slots) [] right apart = absurd right

-- ---- all databases

-- the slots of each are read as those of its store, of which no two have one root
abbrev pub AllRight : List (List SlotOnImage) → List Stored → Type 0
AllRight [] [] = Unit {0}
AllRight (slots ∷ databases) (s ∷ stores) = (AreRight slots s.slots × ((root : List ℕ) → AtMostOne (has_root root) s.slots)) × AllRight databases stores
AllRight [] (s ∷ stores) = ⊥
AllRight (slots ∷ databases) [] = ⊥

wrong_none : (databases : List (List SlotOnImage)) (stores : List Stored) → AllRight databases stores → first_in first_wrong databases ≡ None
wrong_none [] [] right = refl
wrong_none (slots ∷ databases) (s ∷ stores) right = ap (λ (o : Option ℕ). option_or o (first_in first_wrong databases)) (none_wrong slots s.slots right.0.0) ∙ wrong_none databases stores right.1
wrong_none [] (s ∷ stores) right = absurd right
wrong_none (slots ∷ databases) [] right = absurd right

other_none : (databases : List (List SlotOnImage)) (stores : List Stored) → AllRight databases stores → first_in first_no_record databases ≡ None
other_none [] [] right = refl
other_none (slots ∷ databases) (s ∷ stores) right = ap (λ (o : Option SlotOnImage). option_or (place_in o) (first_in first_no_record databases)) (none_other slots s.slots right.0.0) ∙ other_none databases stores right.1
other_none [] (s ∷ stores) right = absurd right
other_none (slots ∷ databases) [] right = absurd right

shared_none : (databases : List (List SlotOnImage)) (stores : List Stored) → AllRight databases stores → first_in first_doubled databases ≡ None
shared_none [] [] right = refl
shared_none (slots ∷ databases) (s ∷ stores) right = ap (λ (o : Option SlotOnImage). option_or (place_in o) (first_in first_doubled databases)) (none_shared slots s.slots right.0.0 right.0.1) ∙ shared_none databases stores right.1
shared_none [] (s ∷ stores) right = absurd right
shared_none (slots ∷ databases) [] right = absurd right

no_fault : (databases : List (List SlotOnImage)) (stores : List Stored) → AllRight databases stores → slot_fault databases ≡ None
no_fault databases stores right =
    rw (wrong_none databases stores right, other_none databases stores right, shared_none databases stores right) refl

rows_are : (databases : List (List SlotOnImage)) (stores : List Stored) → AllRight databases stores → rows_of_databases databases ≡ map (λ s. rows_of_slots s.slots) stores
rows_are [] [] right = refl
rows_are (slots ∷ databases) (s ∷ stores) right =
    ap (λ (images : List (List Row)). rows_of_slots images ∷ rows_of_databases databases) (images_are slots s.slots right.0.0)
    ∙ ap (λ (others : List (List Row)). rows_of_slots s.slots ∷ others) (rows_are databases stores right.1)
rows_are [] (s ∷ stores) right = absurd right
rows_are (slots ∷ databases) [] right = absurd right

module _ (system : System) (image : Image) (snapshot log : List Record) where
  abbrev pub of_store : ℕ → Stored → List SlotOnImage
  of_store place s = slots_by (image_slot_in image snapshot log s.dbd (data_first system place) (place + 1)) s.dbd.roots 0

  abbrev pub IsGood : ℕ → Stored → Type 0
  IsGood place s = AreRight (of_store place s) s.slots × ((root : List ℕ) → AtMostOne (has_root root) s.slots)

  all_right : (place : ℕ) (stores : List Stored) → ((j : ℕ) (s : Stored) → slice_get stores j ≡ Some s → IsGood (place + j) s) → AllRight (all_slots system image snapshot log place (map (λ s. s.dbd) stores)) stores
  unfolding all_slots
  all_right place [] each = tt
  all_right place (s ∷ stores) each = (
    subst (λ k. IsGood k s) (omega arith) (each 0 s refl),
    all_right (place + 1) stores (λ j other found. subst (λ k. IsGood k other) (omega arith) (each (suc j) other found)),
  )

  -- what the slots of an image are read as
  pub rows_read : (stores : List Stored) → map (λ s. s.dbd) stores ≡ system.databases → ((j : ℕ) (s : Stored) → slice_get stores j ≡ Some s → IsGood (0 + j) s) → image_rows_from system image snapshot log ≡ Ok (map (λ s. rows_of_slots s.slots) stores)
  rows_read stores are each =
      let databases : List (List SlotOnImage) = all_slots system image snapshot log 0 (map (λ s. s.dbd) stores) in
      let right = all_right 0 stores each in
      ap (λ (dbds : List Dbd). unless_fault (slot_fault (all_slots system image snapshot log 0 dbds)) (rows_of_databases (all_slots system image snapshot log 0 dbds))) (sym are)
      ∙ ap (λ (fault : Option Fault). unless_fault fault (rows_of_databases databases)) (no_fault databases stores right)
      ∙ ap (λ (rows : List (List Row)). Ok rows) (rows_are databases stores right)
