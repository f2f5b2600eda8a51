-- Slots of stores: which are changed, and how long what they spell is.
use Rattle.std.proofs.Common.{◌≡◌, ℕ, zero, suc, ◌*◌, ◌≤◌, Bool, true, false, ◌||◌, List, [], ◌∷◌, length, map, refl, sym, ◌∙◌, ap, subst, inl, Some, None}
use Rattle.std.specs.Prelude.{Option, ◌==◌, slice_get, slice_index_or}
use Rattle.std.specs.List.{list_any}
use Rattle.std.specs.Option.{option_map, option_map_or}
use Rattle.std.proofs.lemmas.Bool.{eq-eqb, eqb-true}
use Rattle.std.proofs.lemmas.Option.{slice_get-map}
use Rattle.tm_types.specs.declared.dbd.Dbd.{Dbd}
use Rattle.model_data.specs.declared.row.Row.{Row}
use Rattle.model_data.specs.Record.{rows_spelling}
use Rattle.seg_store.specs.Slots.{Stored, AreSlots, IsSlot}
use Rattle.seg_store.specs.ChangedSlots.{AllStores}
use Rattle.checkpointing.specs.DirtySlots.{DirtySlot}
use Rattle.disk_law.specs.Life.{store_bytes_at}
use Rattle.disk_law.proofs.Recovering.{index_found, all_at}
use Rattle.disk_law.proofs.SlotsRead.{image_fits}
use Rattle.disk_law.specs.LifeCheckpoint.{is_slot_changed}

-- the store of a database
pub record StoreOf (stores : List Stored) (place : ℕ) (dbd : Dbd) : Type 0 where
  pub store : Stored
  pub found : slice_get stores place ≡ Some store
  pub is : store.dbd ≡ dbd

pub store_of : (stores : List Stored) (dbds : List Dbd) (place : ℕ) (dbd : Dbd) → map (λ s. s.dbd) stores ≡ dbds → slice_get dbds place ≡ Some dbd → StoreOf stores place dbd
store_of stores dbds place dbd are found =
    by_store (slice_get stores place) refl
    (sym (slice_get-map (λ (s : Stored). s.dbd) stores place) ∙ ap (λ (l : List Dbd). slice_get l place) are ∙ found) where
      by_store : (o : Option Stored) → slice_get stores place ≡ o → option_map (λ (s : Stored). s.dbd) (slice_get stores place) ≡ Some dbd → StoreOf stores place dbd
      by_store None none is = let clash : None ≡ Some dbd = sym (ap (λ (o : Option Stored). option_map (λ (s : Stored). s.dbd) o) none) ∙ is in cc
      by_store (Some s) there is =
          let same : Some s.dbd ≡ Some dbd = sym (ap (λ (o : Option Stored). option_map (λ (s : Stored). s.dbd) o) there) ∙ is in
          record { store = s; found = there; is = cc }

-- what a slot spells is that of its store
pub bytes_of_store : (stores : List Stored) (place number : ℕ) (s : Stored) → slice_get stores place ≡ Some s → store_bytes_at stores place number ≡ rows_spelling (slice_index_or s.slots number [])
bytes_of_store stores place number s found = ap (λ (o : Option Stored). rows_spelling (slice_index_or (option_map_or (λ (s : Stored). s.slots) o []) number [])) found

nothing_there : (slots : List (List Row)) (number : ℕ) → slice_get slots number ≡ None → slice_index_or slots number [] ≡ []
nothing_there [] number none = refl
nothing_there (x ∷ slots) zero none = cc
nothing_there (x ∷ slots) (suc number) none = nothing_there slots number none

-- it has no more bytes than its sectors hold
pub slot_short : (s : Stored) (number : ℕ) → AreSlots s.dbd s.slots → length (rows_spelling (slice_index_or s.slots number [])) ≤ 4000 * s.dbd.sectors
slot_short s number valid = by_image (slice_get s.slots number) refl where
  by_image : (o : Option (List Row)) → slice_get s.slots number ≡ o → length (rows_spelling (slice_index_or s.slots number [])) ≤ 4000 * s.dbd.sectors
  by_image None none = image_fits s.dbd (slice_index_or s.slots number []) (inl (nothing_there s.slots number none))
  by_image (Some image) there =
      image_fits s.dbd (slice_index_or s.slots number [])
      (subst (IsSlot s.dbd) (sym (index_found s.slots number image [] there)) (all_at (IsSlot s.dbd) s.slots number image valid.each there))

-- ---- changed slots

pub record Listed (n : ℕ) (numbers : List ℕ) : Type 0 where
  pub index : ℕ
  pub is : slice_get numbers index ≡ Some n

listed_in : (n : ℕ) (numbers : List ℕ) → list_any (λ m. m == n) numbers ≡ true → Listed n numbers
listed_in n [] is = absurd cc
listed_in n (m ∷ numbers) is = by_first (m == n) refl is (listed_in n numbers) where
  by_first : (b : Bool) → m == n ≡ b → b || list_any (λ m. m == n) numbers ≡ true → (list_any (λ m. m == n) numbers ≡ true → Listed n numbers) → Listed n (m ∷ numbers)
  by_first true same all later = record { index = 0; is = ap (λ (k : ℕ). Some k) (eqb-true m n same) }
  by_first false other all later = let l = later all in record { index = suc l.index; is = l.is }

any_listed : (n : ℕ) (numbers : List ℕ) (index : ℕ) → slice_get numbers index ≡ Some n → list_any (λ m. m == n) numbers ≡ true
any_listed n [] index is = absurd (nothing index is) where
  nothing : (k : ℕ) → slice_get {X = ℕ} [] k ≡ Some n → ⊥
  nothing k e = cc
any_listed n (m ∷ numbers) zero is = let same : m ≡ n = cc in ap (λ b. b || list_any (λ m. m == n) numbers) (eq-eqb m n same)
any_listed n (m ∷ numbers) (suc index) is = or_true (m == n) (list_any (λ m. m == n) numbers) (any_listed n numbers index is) where
  or_true : (a b : Bool) → b ≡ true → a || b ≡ true
  or_true true b is = refl
  or_true false b is = is

module _ (stores : AllStores) where
  -- a changed slot is marked so
  pub dirty_changed : (place number : ℕ) → DirtySlot stores place number → is_slot_changed stores.changed place number ≡ true
  dirty_changed place number slot =
      ap (λ (numbers : List ℕ). list_any (λ n. n == number) numbers) (index_found stores.changed place slot.numbers [] slot.changed)
      ∙ any_listed number slot.numbers slot.index slot.listed

  numbers_of : (place number : ℕ) (o : Option (List ℕ)) → slice_get stores.changed place ≡ o → is_slot_changed stores.changed place number ≡ true → (s : Stored) → slice_get stores.stores place ≡ Some s → DirtySlot stores place number
  numbers_of place number None none is s found = absurd (no_list stores.changed place none is) where
    no_list : (changed : List (List ℕ)) (k : ℕ) → slice_get changed k ≡ None → list_any (λ n. n == number) (slice_index_or changed k []) ≡ true → ⊥
    no_list [] k none is = cc
    no_list (x ∷ changed) zero none is = cc
    no_list (x ∷ changed) (suc k) none is = no_list changed k none is
  numbers_of place number (Some numbers) there is s found =
      let l = listed_in number numbers (sym (ap (λ (ns : List ℕ). list_any (λ n. n == number) ns) (index_found stores.changed place numbers [] there)) ∙ is) in
      record { store = s; found = found; numbers = numbers; changed = there; index = l.index; listed = l.is }

  -- and one that is marked is changed
  pub changed_dirty : (place number : ℕ) (s : Stored) → slice_get stores.stores place ≡ Some s → is_slot_changed stores.changed place number ≡ true → DirtySlot stores place number
  changed_dirty place number s found is = numbers_of place number (slice_get stores.changed place) refl is s found
