-- The changed slots of the stores, among the slots of the system.
use Rattle.std.proofs.Common.{◌≡◌, ◌⊎◌, ℕ, zero, suc, ◌+◌, ◌*◌, ◌<◌, List, [], ◌∷◌, ◌++◌, length, take, refl, sym, ◌∙◌, ap, subst, inl, inr, ⊎_elim, arith, Some, None, eqb, true, false, Bool}
use Rattle.std.specs.Prelude.{Option, map, option_map, slice_get, slice_index_or, sum_by, if◌then◌else◌}
use Rattle.std.specs.Option.{option_or, unwrap_or}
use Rattle.std.proofs.lemmas.Bool.{eqb-true, eq-eqb}
use Rattle.std.proofs.lemmas.Option.{slice_get_within, slice_get-map}
use Rattle.std.proofs.lemmas.List.Sums.{sum_by-cons}
use Rattle.std.proofs.lemmas.List.{take_all}
use Rattle.tm_types.specs.declared.dbd.Dbd.{Dbd}
use Rattle.model_data.specs.declared.row.Row.{Row}
use Rattle.model_data.specs.Record.{rows_spelling}
use Rattle.tm_disk.specs.Disk.{Image, sector_at}
use Rattle.model_system.specs.System.{System}
use Rattle.model_system.specs.Areas.{data_first, slot_first, slot_size}
use Rattle.seg_store.specs.Slots.{Stored}
use Rattle.seg_store.specs.ChangedSlots.{AllStores}
use Rattle.seg_store.specs.DataSectors.{data_sector, slot_spelling, pieces_from, pieces_of, IsGivenAt, given_at, MayPut, HasPut, bytes_of_slots}
use Rattle.seg_store.specs.WrittenSlots.{sector_count, behind, all_bytes, changed_bytes}
use Rattle.seg_store.proofs.Pieces.{piece_at, piece_given, in_piece}
use Rattle.seg_store.proofs.WritingBack.{is_given_front, is_given_back, is_given_behind}
use Rattle.model_image.specs.Slots.{slot_at}
use Rattle.model_image.proofs.Alike.{IsSlotOf}
use Rattle.model_image.proofs.Places.{one_slot, size_of, slot_is}
use Rattle.checkpointing.specs.DirtySlots.{DirtySlot, DirtyAt, AreStoresOf}

-- ---- what a list gives a place

-- the sectors of the databases before one
abbrev pub sectors_before : List Stored → ℕ → ℕ
sectors_before stores place = sum_by (λ s. s.dbd.roots * s.dbd.sectors) (take place stores)

-- what stands in a sector of a slot with these bytes
abbrev sector_of : List ℕ → ℕ → List ℕ
sector_of bytes index = data_sector (piece_at index bytes)

-- the bytes of a slot
abbrev bytes_in : List (List Row) → ℕ → List ℕ
bytes_in images number = rows_spelling (slice_index_or images number [])

-- what a list of changed slots gives a place: it is a sector of one of them
pub record Gives (first others : ℕ) (stores : List Stored) (changed : List (List ℕ)) (at : ℕ) (sector : List ℕ) : Type 0 where
  pub place : ℕ
  pub number : ℕ
  pub slot : DirtySlot (record { stores = stores; changed = changed }) place number
  pub index : ℕ
  pub within : index < slot.store.dbd.sectors
  pub is : at ≡ first + others + sectors_before stores place + (number * slot.store.dbd.sectors + index)
  pub holds : sector ≡ sector_of (bytes_in slot.store.slots number) index

record InNumbers (first sectors : ℕ) (images : List (List Row)) (numbers : List ℕ) (at : ℕ) (sector : List ℕ) : Type 0 where
  pub number : ℕ
  pub place : ℕ
  pub listed : slice_get numbers place ≡ Some number
  pub index : ℕ
  pub within : index < sectors
  pub is : at ≡ first + (number * sectors + index)
  pub holds : sector ≡ sector_of (bytes_in images number) index

given_either : (first : ℕ) (some more : List (ℕ × List ℕ)) (at : ℕ) (sector : List ℕ) → IsGivenAt first (some ++ more) at sector → IsGivenAt first some at sector ⊎ IsGivenAt first more at sector
given_either first [] more at sector given = inr given
given_either first (p ∷ some) more at sector given =
    ⊎_elim
    (λ here. inl (inl here))
    (λ later. ⊎_elim (λ one. inl (inr one)) (λ other. inr other) (given_either first some more at sector later))
    given

-- pieces behind others, by their own first sector
by_own_first : (first others : ℕ) (pieces : List (ℕ × List ℕ)) (at : ℕ) (sector : List ℕ) → IsGivenAt first (behind others pieces) at sector → IsGivenAt (first + others) pieces at sector
by_own_first first others [] at sector given = given
by_own_first first others (p ∷ pieces) at sector given =
    let place : (first + others) + p.0 ≡ first + (others + p.0) = omega arith in
    ⊎_elim (λ here. inl (place ∙ here.0, here.1)) (λ later. inr (by_own_first first others pieces at sector later)) given

in_numbers : (first sectors : ℕ) (images : List (List Row)) (numbers : List ℕ) (at : ℕ) (sector : List ℕ) → IsGivenAt first (pieces_of sectors (bytes_of_slots images numbers)) at sector → InNumbers first sectors images numbers at sector
in_numbers first sectors images [] at sector given = absurd given
in_numbers first sectors images (n ∷ numbers) at sector given =
    ⊎_elim
    (λ (here : IsGivenAt first (pieces_from sectors (n * sectors) (bytes_in images n)) at sector).
    let w = in_piece sectors first (n * sectors) (bytes_in images n) at sector here in
    record { number = n; place = 0; listed = refl; index = w.index; within = w.within; is = w.is; holds = w.holds })
    (λ (later : IsGivenAt first (pieces_of sectors (bytes_of_slots images numbers)) at sector).
    let w = in_numbers first sectors images numbers at sector later in
    record { number = w.number; place = suc w.place; listed = w.listed; index = w.index; within = w.within; is = w.is; holds = w.holds })
    (given_either first (pieces_from sectors (n * sectors) (bytes_in images n)) (pieces_of sectors (bytes_of_slots images numbers)) at sector given)

pub gives : (first others : ℕ) (stores : List Stored) (changed : List (List ℕ)) (at : ℕ) (sector : List ℕ) → IsGivenAt first (all_bytes others stores changed) at sector → Gives first others stores changed at sector
gives first others [] changed at sector given = absurd given
gives first others (s ∷ stores) [] at sector given = absurd given
gives first others (s ∷ stores) (numbers ∷ changed) at sector given =
    let own : List (ℕ × List ℕ) = pieces_of s.dbd.sectors (bytes_of_slots s.slots numbers) in
    let more : List (ℕ × List ℕ) = all_bytes (others + s.dbd.roots * s.dbd.sectors) stores changed in
    ⊎_elim
    (λ (here : IsGivenAt first (behind others own) at sector).
    let w = in_numbers (first + others) s.dbd.sectors s.slots numbers at sector (by_own_first first others own at sector here) in
    record {
      place = 0;
      number = w.number;
      slot = record { store = s; found = refl; numbers = numbers; changed = refl; index = w.place; listed = w.listed };
      index = w.index;
      within = w.within;
      is = omega (arith, w.is);
      holds = w.holds;
    })
    (λ (later : IsGivenAt first more at sector).
    let w = gives first (others + s.dbd.roots * s.dbd.sectors) stores changed at sector later in
    record {
      place = suc w.place;
      number = w.number;
      slot = record { store = w.slot.store; found = w.slot.found; numbers = w.slot.numbers; changed = w.slot.changed; index = w.slot.index; listed = w.slot.listed };
      index = w.index;
      within = w.within;
      is = omega (arith, w.is, sum_by-cons (λ (x : Stored). x.dbd.roots * x.dbd.sectors) s (take w.place stores));
      holds = w.holds;
    })
    (given_either first (behind others own) more at sector given)

-- and each of them is given
given_number : (first sectors : ℕ) (images : List (List Row)) (numbers : List ℕ) (i n index : ℕ) → slice_get numbers i ≡ Some n → index < sectors → IsGivenAt first (pieces_of sectors (bytes_of_slots images numbers)) (first + (n * sectors + index)) (sector_of (bytes_in images n) index)
given_number first sectors images [] i n index listed within = absurd (none_of i listed) where
  none_of : (k : ℕ) → slice_get {X = ℕ} [] k ≡ Some n → ⊥
  none_of k e = cc
given_number first sectors images (m ∷ numbers) zero n index listed within =
    let same : n ≡ m = cc in
    is_given_front first (pieces_from sectors (m * sectors) (bytes_in images m)) (pieces_of sectors (bytes_of_slots images numbers)) (first + (n * sectors + index)) (sector_of (bytes_in images n) index)
    (subst (λ k. IsGivenAt first (pieces_from sectors (k * sectors) (bytes_in images k)) (first + (n * sectors + index)) (sector_of (bytes_in images n) index)) same
    (piece_given sectors first (n * sectors) (bytes_in images n) index within))
given_number first sectors images (m ∷ numbers) (suc i) n index listed within =
    is_given_back first (pieces_from sectors (m * sectors) (bytes_in images m)) (pieces_of sectors (bytes_of_slots images numbers)) (first + (n * sectors + index)) (sector_of (bytes_in images n) index)
    (given_number first sectors images numbers i n index listed within)

given_of : (first others : ℕ) (s : Stored) (numbers : List ℕ) (i n index at : ℕ) → slice_get numbers i ≡ Some n → index < s.dbd.sectors → at ≡ (first + others) + (n * s.dbd.sectors + index)
    → IsGivenAt first (behind others (pieces_of s.dbd.sectors (bytes_of_slots s.slots numbers))) at (sector_of (bytes_in s.slots n) index)
given_of first others s numbers i n index at listed within is =
    let own : List (ℕ × List ℕ) = pieces_of s.dbd.sectors (bytes_of_slots s.slots numbers) in
    is_given_behind first others own at (sector_of (bytes_in s.slots n) index)
    (subst (λ k. IsGivenAt (first + others) own k (sector_of (bytes_in s.slots n) index)) (sym is)
    (given_number (first + others) s.dbd.sectors s.slots numbers i n index listed within))

pub given : (first others : ℕ) (stores : List Stored) (changed : List (List ℕ)) (place n i index at : ℕ) (store : Stored) (numbers : List ℕ) → slice_get stores place ≡ Some store → slice_get changed place ≡ Some numbers → slice_get numbers i ≡ Some n → index < store.dbd.sectors
    → at ≡ first + others + sectors_before stores place + (n * store.dbd.sectors + index) → IsGivenAt first (all_bytes others stores changed) at (sector_of (bytes_in store.slots n) index)
given first others [] changed place n i index at store numbers found listed is within at_is = absurd (omega (arith, slice_get_within [] place store found))
given first others (s ∷ stores) [] place n i index at store numbers found listed is within at_is = absurd (omega (arith, slice_get_within [] place numbers listed))
given first others (s ∷ stores) (ns ∷ changed) zero n i index at store numbers found listed is within at_is =
    let store_is : store ≡ s = cc in
    let numbers_is : numbers ≡ ns = cc in
    is_given_front first (behind others (pieces_of s.dbd.sectors (bytes_of_slots s.slots ns))) (all_bytes (others + s.dbd.roots * s.dbd.sectors) stores changed) at (sector_of (bytes_in store.slots n) index)
    (subst (λ (x : Stored). IsGivenAt first (behind others (pieces_of x.dbd.sectors (bytes_of_slots x.slots ns))) at (sector_of (bytes_in store.slots n) index)) store_is
    (given_of first others store ns i n index at (subst (λ (l : List ℕ). slice_get l i ≡ Some n) numbers_is is) within (omega (arith, at_is))))
given first others (s ∷ stores) (ns ∷ changed) (suc place) n i index at store numbers found listed is within at_is =
    is_given_back first (behind others (pieces_of s.dbd.sectors (bytes_of_slots s.slots ns))) (all_bytes (others + s.dbd.roots * s.dbd.sectors) stores changed) at (sector_of (bytes_in store.slots n) index)
    (given first (others + s.dbd.roots * s.dbd.sectors) stores changed place n i index at store numbers found listed is within (omega (arith, at_is, sum_by-cons (λ (x : Stored). x.dbd.roots * x.dbd.sectors) s (take place stores))))

-- ---- the sector that a list gives

by_given : (first : ℕ) (x : ℕ × List ℕ) (slots : List (ℕ × List ℕ)) (at : ℕ) (sector : List ℕ) (later : Option (List ℕ)) (b : Bool) → (later ≡ Some sector → IsGivenAt first slots at sector) → eqb (first + x.0) at ≡ b → option_or later (if b then Some (data_sector x.1) else None) ≡ Some sector → IsGivenAt first (x ∷ slots) at sector
by_given first x slots at sector (Some s) b others test e = inr (others e)
by_given first x slots at sector None true others test e = let same : data_sector x.1 ≡ sector = cc in inl (eqb-true (first + x.0) at test, sym same)
by_given first x slots at sector None false others test e = cc

pub given_is : (first : ℕ) (slots : List (ℕ × List ℕ)) (at : ℕ) (sector : List ℕ) → given_at first slots at ≡ Some sector → IsGivenAt first slots at sector
given_is first [] at sector e = cc
given_is first (x ∷ slots) at sector e = by_given first x slots at sector (given_at first slots at) (eqb (first + x.0) at) (given_is first slots at sector) refl e

by_none : (first : ℕ) (x : ℕ × List ℕ) (at : ℕ) (later : Option (List ℕ)) → option_or later (if eqb (first + x.0) at then Some (data_sector x.1) else None) ≡ None → (later ≡ None) × (first + x.0 ≡ at → ⊥)
by_none first x at (Some s) e = cc
by_none first x at None e = (refl, λ here. let clash : Some (data_sector x.1) ≡ None = sym (ap (λ b. if b then Some (data_sector x.1) else None) (eq-eqb (first + x.0) at here)) ∙ e in cc)

given_some : (first : ℕ) (slots : List (ℕ × List ℕ)) (at : ℕ) (sector : List ℕ) → IsGivenAt first slots at sector → given_at first slots at ≡ None → ⊥
given_some first [] at sector g e = g
given_some first (x ∷ slots) at sector g e =
    let none = by_none first x at (given_at first slots at) e in
    ⊎_elim (λ here. none.1 here.0) (λ later. given_some first slots at sector later none.0) g

-- ---- the stores of a system

same_length : (stores : List Stored) → length (map (λ (s : Stored). s.dbd) stores) ≡ length stores
same_length [] = refl
same_length (s ∷ stores) = omega (arith, same_length stores)

sums_map : (stores : List Stored) (place : ℕ) → sum_by (λ (d : Dbd). d.roots * d.sectors) (take place (map (λ (s : Stored). s.dbd) stores)) ≡ sectors_before stores place
sums_map [] zero = refl
sums_map [] (suc place) = refl
sums_map (s ∷ stores) zero = refl
sums_map (s ∷ stores) (suc place) =
    omega (arith, sums_map stores place, sum_by-cons (λ (d : Dbd). d.roots * d.sectors) s.dbd (take place (map (λ (x : Stored). x.dbd) stores)), sum_by-cons (λ (x : Stored). x.dbd.roots * x.dbd.sectors) s (take place stores))

pub dbd_found : (stores : List Stored) (dbds : List Dbd) (place : ℕ) (store : Stored) → map (λ s. s.dbd) stores ≡ dbds → slice_get stores place ≡ Some store → slice_get dbds place ≡ Some store.dbd
dbd_found stores dbds place store are found =
    subst (λ (l : List Dbd). slice_get l place ≡ Some store.dbd) are
    (slice_get-map (λ (s : Stored). s.dbd) stores place ∙ ap (λ (o : Option Stored). option_map (λ (s : Stored). s.dbd) o) found)

module _ (system : System) (stores : AllStores) (of_ : AreStoresOf system stores) where
  place_is : (place : ℕ) → data_first system place ≡ data_first system 0 + 0 + sectors_before stores.stores place
  place_is place =
      omega (arith, sums_map stores.stores place, ap (λ (l : List Dbd). sum_by (λ (d : Dbd). d.roots * d.sectors) (take place l)) of_.databases)

  pub slots_end : data_first system 0 + sector_count stores.stores ≡ data_first system (length system.databases)
  slots_end =
      omega (
        arith,
        place_is (length system.databases),
        ap (length {A = Dbd}) of_.databases,
        same_length stores.stores,
        ap (λ (l : List Stored). sector_count l) (take_all (length system.databases) stores.stores (omega (arith, ap (length {A = Dbd}) of_.databases, same_length stores.stores))),
      )

  -- a changed slot is one of the system, with as many sectors as its database's have
  pub dirty_slot : (place number : ℕ) → DirtySlot stores place number → IsSlotOf system place number
  dirty_slot place number slot = record {
    dbd = slot.store.dbd;
    found = dbd_found stores.stores system.databases place slot.store of_.databases slot.found;
    below = of_.below place number slot;
  }

  pub dirty_size : (place number : ℕ) (slot : DirtySlot stores place number) → slot_size system place ≡ slot.store.dbd.sectors
  dirty_size place number slot = size_of system place slot.store.dbd (dbd_found stores.stores system.databases place slot.store of_.databases slot.found)

  sector_is : (place number index at : ℕ) (slot : DirtySlot stores place number) → at ≡ data_first system 0 + 0 + sectors_before stores.stores place + (number * slot.store.dbd.sectors + index) → at ≡ slot_first system place number + index
  sector_is place number index at slot is =
      omega (arith, is, place_is place, ap (λ n. number * n) (dirty_size place number slot))

  gives_dirty : (at : ℕ) (sector : List ℕ) → Gives (data_first system 0) 0 stores.stores stores.changed at sector → DirtyAt system stores at
  gives_dirty at sector w = record {
    place = w.place;
    number = w.number;
    slot = w.slot;
    index = w.index;
    within = omega (arith, w.within, dirty_size w.place w.number w.slot);
    sector = sector_is w.place w.number w.index at w.slot w.is;
  }

  pub may_dirty : (b c : Image) → MayPut (data_first system 0) (changed_bytes stores) b c → (k : ℕ) → (sector_at c k ≡ sector_at b k) ⊎ DirtyAt system stores k
  may_dirty b c may k =
      ⊎_elim (λ same. inl same)
      (λ is. inr (gives_dirty k (sector_at c k) (gives (data_first system 0) 0 stores.stores stores.changed k (sector_at c k) is)))
      (may.each k)

  given_cases : (b : Image) (k : ℕ) (o : Option (List ℕ)) → given_at (data_first system 0) (changed_bytes stores) k ≡ o → (unwrap_or o (sector_at b k) ≡ sector_at b k) ⊎ DirtyAt system stores k
  given_cases b k None is = inl refl
  given_cases b k (Some s) is = inr (gives_dirty k s (gives (data_first system 0) 0 stores.stores stores.changed k s (given_is (data_first system 0) (changed_bytes stores) k s is)))

  pub put_dirty : (b c : Image) → HasPut (data_first system 0) (changed_bytes stores) b c → (k : ℕ) → (sector_at c k ≡ sector_at b k) ⊎ DirtyAt system stores k
  put_dirty b c has k =
      let o = given_at (data_first system 0) (changed_bytes stores) k in
      ⊎_elim (λ same. inl (has.each k ∙ same)) (λ dirty. inr dirty) (given_cases b k o refl)

  -- a list that gives a place of a slot a sector gives it that of the slot
  one_given : (place number index at : ℕ) (slot : DirtySlot stores place number) (s : List ℕ) → index < slot_size system place → at ≡ slot_first system place number + index
      → Gives (data_first system 0) 0 stores.stores stores.changed at s → s ≡ sector_of (bytes_in slot.store.slots number) index
  one_given place number index at slot s within is w =
      let one = one_slot system w.place w.number w.index place number index (dirty_slot w.place w.number w.slot) (dirty_slot place number slot) (omega (arith, w.within, dirty_size w.place w.number w.slot)) within
      (sym (sector_is w.place w.number w.index at w.slot w.is) ∙ is) in
      let same : Some w.slot.store ≡ Some slot.store = sym w.slot.found ∙ ap (λ p. slice_get stores.stores p) one.place ∙ slot.found in
      let store : w.slot.store ≡ slot.store = cc in
      w.holds ∙ ap (λ (x : Stored). sector_of (bytes_in x.slots w.number) w.index) store
      ∙ ap (λ n. sector_of (bytes_in slot.store.slots n) w.index) one.number
      ∙ ap (λ n. sector_of (bytes_in slot.store.slots number) n) one.index

  put_one : (b : Image) (place number index at : ℕ) (slot : DirtySlot stores place number) (o : Option (List ℕ)) → index < slot_size system place → at ≡ slot_first system place number + index
      → given_at (data_first system 0) (changed_bytes stores) at ≡ o → unwrap_or o (sector_at b at) ≡ sector_of (bytes_in slot.store.slots number) index
  put_one b place number index at slot None within at_is is =
      absurd (given_some (data_first system 0) (changed_bytes stores) at (sector_of (bytes_in slot.store.slots number) index)
      (given (data_first system 0) 0 stores.stores stores.changed place number slot.index index at slot.store slot.numbers slot.found slot.changed slot.listed
      (omega (arith, within, dirty_size place number slot))
      (omega (arith, at_is, place_is place, ap (λ n. number * n) (dirty_size place number slot)))) is)
  put_one b place number index at slot (Some s) within at_is is =
      one_given place number index at slot s within at_is (gives (data_first system 0) 0 stores.stores stores.changed at s (given_is (data_first system 0) (changed_bytes stores) at s is))

  -- each changed slot stands in its sectors
  pub put_holds : (b c : Image) → HasPut (data_first system 0) (changed_bytes stores) b c → (place number : ℕ) (slot : DirtySlot stores place number)
      → slot_at system c place number ≡ slot_spelling (slot_size system place) (rows_spelling (slice_index_or slot.store.slots number []))
  put_holds b c has place number slot =
      slot_is (slot_size system place) c (slot_first system place number) (bytes_in slot.store.slots number) (λ index within.
      let k = slot_first system place number + index in
      has.each k ∙ put_one b place number index k slot (given_at (data_first system 0) (changed_bytes stores) k) within refl refl)
