-- Slots that are chosen among the changed ones of stores, and one of them alone: their pieces, and the stores behind it.
use Rattle.std.proofs.Common.{◌≡◌, ◌⊎◌, ℕ, zero, suc, ◌+◌, ◌-◌, ◌*◌, ◌<◌, ◌≤◌, Bool, true, false, ◌&&◌, ◌||◌, List, [], ◌∷◌, length, map, refl, sym, ◌∙◌, ap, subst, inl, inr, ⊎_elim, arith, Some}
use Rattle.std.specs.Prelude.{◌==◌, if◌then◌else◌, slice_get, slice_set, slice_index_or}
use Rattle.std.specs.List.{list_any}
use Rattle.std.proofs.lemmas.Bool.{cases_eq, eq-eqb, eqb-true, ne_eqb}
use Rattle.std.proofs.lemmas.List.{get_or-set_same, get_or-set_other}
use Rattle.std.proofs.lemmas.Option.{slice_get_within}
use Rattle.tm_types.specs.declared.dbd.Dbd.{Dbd}
use Rattle.tm_disk.specs.Disk.{Image}
use Rattle.model_data.specs.Record as rows
use Rattle.model_system.specs.Areas.{data_first, slot_size}
use Rattle.seg_store.specs.declared.slot_place.SlotPlace.{SlotPlace}
use Rattle.seg_store.specs.Slots.{Stored, AreSlots}
use Rattle.seg_store.specs.ChangedSlots.{AllStores}
use Rattle.seg_store.specs.DataSectors.{slot_spelling, HasPut}
use Rattle.seg_store.specs.WrittenSlots.{changed_bytes}
use Rattle.seg_store.specs.OneSlot.{without_number, without_slot, only_slot, only_changed, one_written, IsSlotPlace, IsMarked}
use Rattle.model_image.specs.HeldStores.{HoldsBytes}
use Rattle.model_image.proofs.Places.{size_of}
use Rattle.image_loading.proofs.Held.{data_holds}
use Rattle.checkpointing.specs.DirtySlots.{DirtySlot, DirtyAt, AreStoresOf}
use Rattle.checkpointing.proofs.Slots.{dirty_slot, may_dirty, put_holds}
use Rattle.disk_law.specs.CommittedBytes.{is_place}
use Rattle.disk_law.specs.Life.{LifeOnDisk, EachSlot}
use Rattle.disk_law.specs.KeptImages.{StandsAt}
use Rattle.disk_law.specs.SlotChanges.{put_at}
use Rattle.disk_law.specs.LifeCheckpoint.{is_slot_changed, HasStores}
use Rattle.disk_law.specs.SlotWrites.{OfChangedSlot, ArePiecesOfSlots, slot_written_life}
use Rattle.disk_law.proofs.Recovering.{all_at}
use Rattle.disk_law.proofs.Stored.{store_of, bytes_of_store, slot_short, dirty_changed, changed_dirty}

-- ---- slots that are chosen among the changed ones

module _ (life : LifeOnDisk) (stores : AllStores) (h : HasStores life stores) (marks : List (List ℕ))
    (among : (place number : ℕ) → DirtySlot (record stores { changed = marks }) place number → is_slot_changed stores.changed place number ≡ true) where
  abbrev chosen : AllStores
  chosen = record stores { changed = marks }

  chosen_below : (place number : ℕ) (slot : DirtySlot chosen place number) → number < slot.store.dbd.roots
  chosen_below place number slot =
      let dirty = changed_dirty stores place number slot.store slot.found (among place number slot) in
      let same : Some dirty.store ≡ Some slot.store = sym dirty.found ∙ slot.found in
      let store : dirty.store ≡ slot.store = cc in
      subst (λ (s : Stored). number < s.dbd.roots) store (h.are_of.below place number dirty)

  pub chosen_are : AreStoresOf life.system chosen
  chosen_are = record { databases = h.are_of.databases; few_sectors = h.are_of.few_sectors; below = chosen_below }

  of_dirty : (k : ℕ) → DirtyAt life.system chosen k → OfChangedSlot life.system life.changed k
  of_dirty k dirty =
      let slot = dirty_slot life.system chosen chosen_are dirty.place dirty.number dirty.slot in record {
        place = dirty.place;
        number = dirty.number;
        dbd = slot.dbd;
        found = slot.found;
        below = slot.below;
        counts = h.changed dirty.place dirty.number slot.dbd slot.found slot.below ∙ among dirty.place dirty.number dirty.slot;
        index = dirty.index;
        within = dirty.within;
        sector = dirty.sector;
      }

  chosen_stand : EachSlot life.system (λ place number. is_slot_changed marks place number ≡ true →
      (before after : Image) → HasPut (data_first life.system 0) (changed_bytes chosen) before after → StandsAt life.system after place number (life.present (place + 1) number))
  chosen_stand place number dbd found below is before after has =
      let of_ = store_of stores.stores life.system.databases place dbd h.are_of.databases found in
      let dirty = changed_dirty chosen place number of_.store of_.found is in
      let same : Some dirty.store ≡ Some of_.store = sym dirty.found ∙ of_.found in
      let store : dirty.store ≡ of_.store = cc in
      let image = slice_index_or of_.store.slots number [] in
      let size : ℕ = slot_size life.system place in
      let sectors : of_.store.dbd.sectors ≡ size = ap (λ (d : Dbd). d.sectors) of_.is ∙ sym (size_of life.system place dbd found) in
      let short : length (rows.rows_spelling image) ≤ 4000 * size =
      subst (λ n. length (rows.rows_spelling image) ≤ 4000 * n) sectors
      (slot_short of_.store number (all_at (λ (s : Stored). AreSlots s.dbd s.slots) stores.stores place of_.store h.valid of_.found)) in
      subst (λ (v : List ℕ). StandsAt life.system after place number v) (sym (h.present place number dbd found below ∙ bytes_of_store stores.stores place number of_.store of_.found))
      (subst (λ (written : List (List ℕ)). HoldsBytes (rows.rows_spelling image) written)
      (sym (put_holds life.system chosen chosen_are before after has place number dirty ∙ ap (λ (s : Stored). slot_spelling size (rows.rows_spelling (slice_index_or s.slots number []))) store))
      (data_holds size (rows.rows_spelling image) short))

  -- What is written of them are pieces of changed slots, and those that count as changed no more are among them.
  pub chosen_pieces : (behind : ℕ → ℕ → Bool) → EachSlot life.system (λ place number. behind (place + 1) number ≡ true → life.changed (place + 1) number ≡ true)
      → EachSlot life.system (λ place number. life.changed (place + 1) number ≡ true → behind (place + 1) number ≡ false → is_slot_changed marks place number ≡ true)
      → ArePiecesOfSlots life.system life.present life.changed behind (data_first life.system 0) (changed_bytes chosen)
  chosen_pieces behind fewer are = record {
    only = λ before after may k. ⊎_elim (λ same. inl same) (λ (dirty : DirtyAt life.system chosen k). inr (of_dirty k dirty)) (may_dirty life.system chosen chosen_are before after may k);
    fewer = fewer;
    stand = λ place number dbd found below was now. chosen_stand place number dbd found below (are place number dbd found below was now);
  }

-- ---- marks of one slot

-- a list with one number alone has no other
only_one : (changed : List (List ℕ)) (i x p index n : ℕ) (numbers : List ℕ) → slice_get (slice_set (map (λ numbers. []) changed) i (x ∷ [])) p ≡ Some numbers → slice_get numbers index ≡ Some n → (p ≡ i) × (n ≡ x)
only_one [] i x p index n numbers found listed = absurd (omega (arith, slice_get_within [] p numbers found))
only_one (c ∷ changed) zero x zero index n numbers found listed =
    let same : numbers ≡ x ∷ [] = cc in (refl, in_one index (subst (λ (l : List ℕ). slice_get l index ≡ Some n) same listed)) where
      in_one : (j : ℕ) → slice_get (x ∷ []) j ≡ Some n → n ≡ x
      in_one zero is = cc
      in_one (suc j) is = absurd (omega (arith, slice_get_within [] j n is))
only_one (c ∷ changed) zero x (suc p) index n numbers found listed = absurd (in_none changed p found) where
  in_none : (l : List (List ℕ)) (j : ℕ) → slice_get (map (λ numbers. []) l) j ≡ Some numbers → ⊥
  in_none [] j is = omega (arith, slice_get_within [] j numbers is)
  in_none (y ∷ l) zero is = let same : numbers ≡ [] = cc in omega (arith, slice_get_within [] index n (subst (λ (m : List ℕ). slice_get m index ≡ Some n) same listed))
  in_none (y ∷ l) (suc j) is = in_none l j is
only_one (c ∷ changed) (suc i) x zero index n numbers found listed =
    let same : numbers ≡ [] = cc in absurd (omega (arith, slice_get_within [] index n (subst (λ (m : List ℕ). slice_get m index ≡ Some n) same listed)))
only_one (c ∷ changed) (suc i) x (suc p) index n numbers found listed =
    let both = only_one changed i x p index n numbers found listed in (ap suc both.0, both.1)

only_there : (changed : List (List ℕ)) (i x : ℕ) (numbers : List ℕ) → slice_get changed i ≡ Some numbers → slice_get (slice_set (map (λ numbers. []) changed) i (x ∷ [])) i ≡ Some (x ∷ [])
only_there [] i x numbers found = absurd (omega (arith, slice_get_within [] i numbers found))
only_there (c ∷ changed) zero x numbers found = refl
only_there (c ∷ changed) (suc i) x numbers found = only_there changed i x numbers found

any_none : (x : ℕ) (numbers : List ℕ) → list_any (λ m. m == x) (without_number x numbers) ≡ false
any_none x [] = refl
any_none x (m ∷ numbers) = by (m == x) refl (any_none x numbers) where
  by : (b : Bool) → m == x ≡ b → list_any (λ k. k == x) (without_number x numbers) ≡ false → list_any (λ k. k == x) (if b then without_number x numbers else m ∷ without_number x numbers) ≡ false
  by true is more = more
  by false is more = ap (λ b. b || list_any (λ k. k == x) (without_number x numbers)) is ∙ more

any_same : (x n : ℕ) (numbers : List ℕ) → (n ≡ x → ⊥) → list_any (λ m. m == n) (without_number x numbers) ≡ list_any (λ m. m == n) numbers
any_same x n [] other = refl
any_same x n (m ∷ numbers) other = by (m == x) refl (any_same x n numbers other) where
  by : (b : Bool) → m == x ≡ b → list_any (λ k. k == n) (without_number x numbers) ≡ list_any (λ k. k == n) numbers
      → list_any (λ k. k == n) (if b then without_number x numbers else m ∷ without_number x numbers) ≡ (m == n) || list_any (λ k. k == n) numbers
  by true is more =
      let here : m ≡ x = eqb-true m x is in
      more ∙ ap (λ b. b || list_any (λ k. k == n) numbers) (sym (ne_eqb m n (λ same. other (sym same ∙ here))))
  by false is more = ap (λ b. (m == n) || b) more

-- ---- one slot

module _ (life : LifeOnDisk) (stores : AllStores) (h : HasStores life stores) (at : SlotPlace) (there : IsSlotPlace at stores.stores) (marked : IsMarked at stores.changed) where
  abbrev behind_it : ℕ → ℕ → Bool
  behind_it = put_at at.db at.slot false life.changed

  its_number : (at.db - 1) + 1 ≡ at.db
  its_number = omega (arith, there.least)

  -- it counts as changed
  is_marked : is_slot_changed stores.changed (at.db - 1) at.slot ≡ true
  is_marked =
      dirty_changed stores (at.db - 1) at.slot
      (record { store = there.store; found = there.found; numbers = marked.numbers; changed = marked.found; index = marked.index; listed = marked.listed })

  only_marked : is_slot_changed (only_slot at stores.changed) (at.db - 1) at.slot ≡ true
  only_marked =
      dirty_changed (only_changed at stores) (at.db - 1) at.slot (record {
        store = there.store;
        found = there.found;
        numbers = at.slot ∷ [];
        changed = only_there stores.changed (at.db - 1) at.slot marked.numbers marked.found;
        index = 0;
        listed = refl;
      })

  is_it : (place number : ℕ) → place ≡ at.db - 1 → number ≡ at.slot → is_place at.db at.slot (place + 1) number ≡ true
  is_it place number p n =
      ap (λ b. b && (number == at.slot)) (eq-eqb (place + 1) at.db (omega (arith, p, there.least))) ∙ eq-eqb number at.slot n

  is_other : (place number : ℕ) → (place ≡ at.db - 1) ⊎ (place ≡ at.db - 1 → ⊥) → (number ≡ at.slot) ⊎ (number ≡ at.slot → ⊥)
      → ((place ≡ at.db - 1) × (number ≡ at.slot)) ⊎ (is_place at.db at.slot (place + 1) number ≡ false)
  is_other place number (inl p) (inl n) = inl (p, n)
  is_other place number (inl p) (inr n) = inr (and_false (place + 1 == at.db) (number == at.slot) (ne_eqb number at.slot n)) where
    and_false : (a b : Bool) → b ≡ false → a && b ≡ false
    and_false true b is = is
    and_false false b is = refl
  is_other place number (inr p) n = inr (ap (λ b. b && (number == at.slot)) (ne_eqb (place + 1) at.db (λ same. p (omega (arith, same)))))

  which : (place number : ℕ) → ((place ≡ at.db - 1) × (number ≡ at.slot)) ⊎ (is_place at.db at.slot (place + 1) number ≡ false)
  which place number = is_other place number (cases_eq place (at.db - 1)) (cases_eq number at.slot)

  -- all others count as they did
  others : (place number : ℕ) → is_place at.db at.slot (place + 1) number ≡ false → behind_it (place + 1) number ≡ life.changed (place + 1) number
  others place number other = ap (λ b. if b then false else life.changed (place + 1) number) other

  itself : (place number : ℕ) → place ≡ at.db - 1 → number ≡ at.slot → behind_it (place + 1) number ≡ false
  itself place number p n = ap (λ b. if b then false else life.changed (place + 1) number) (is_it place number p n)

  only_among : (place number : ℕ) → DirtySlot (only_changed at stores) place number → is_slot_changed stores.changed place number ≡ true
  only_among place number slot =
      let both = only_one stores.changed (at.db - 1) at.slot place slot.index number slot.numbers slot.changed slot.listed in
      ap (λ p. is_slot_changed stores.changed p number) both.0 ∙ ap (λ n. is_slot_changed stores.changed (at.db - 1) n) both.1 ∙ is_marked

  pub one_slot_pieces : ArePiecesOfSlots life.system life.present life.changed (put_at at.db at.slot false life.changed) (data_first life.system 0) (changed_bytes (only_changed at stores))
  one_slot_pieces =
      chosen_pieces life stores h (only_slot at stores.changed) only_among behind_it
      (λ place number dbd found below is.
      ⊎_elim
      (λ here. absurd (let clash : true ≡ false = sym is ∙ itself place number here.0 here.1 in cc))
      (λ other. sym (others place number other) ∙ is)
      (which place number))
      (λ place number dbd found below was now.
      ⊎_elim
      (λ here. ap (λ p. is_slot_changed (only_slot at stores.changed) p number) here.0 ∙ ap (λ n. is_slot_changed (only_slot at stores.changed) (at.db - 1) n) here.1 ∙ only_marked)
      (λ other. absurd (let clash : true ≡ false = sym was ∙ sym (others place number other) ∙ now in cc))
      (which place number))

  -- ---- the stores behind it

  within : at.db - 1 < length stores.changed
  within = slice_get_within stores.changed (at.db - 1) marked.numbers marked.found

  not_marked : (place number : ℕ) → place ≡ at.db - 1 → number ≡ at.slot → is_slot_changed (without_slot at stores.changed) place number ≡ false
  not_marked place number p n =
      ap (λ q. is_slot_changed (without_slot at stores.changed) q number) p
      ∙ ap (λ m. is_slot_changed (without_slot at stores.changed) (at.db - 1) m) n
      ∙ ap (λ (l : List ℕ). list_any (λ m. m == at.slot) l) (get_or-set_same stores.changed (at.db - 1) (without_number at.slot (slice_index_or stores.changed (at.db - 1) [])) [] within)
      ∙ any_none at.slot (slice_index_or stores.changed (at.db - 1) [])

  still_marked : (place number : ℕ) → (place ≡ at.db - 1) ⊎ (place ≡ at.db - 1 → ⊥) → (number ≡ at.slot) ⊎ (number ≡ at.slot → ⊥) → is_place at.db at.slot (place + 1) number ≡ false
      → is_slot_changed (without_slot at stores.changed) place number ≡ is_slot_changed stores.changed place number
  still_marked place number (inl p) (inl n) other = absurd (let clash : true ≡ false = sym (is_it place number p n) ∙ other in cc)
  still_marked place number (inl p) (inr n) other =
      ap (λ q. is_slot_changed (without_slot at stores.changed) q number) p
      ∙ ap (λ (l : List ℕ). list_any (λ m. m == number) l) (get_or-set_same stores.changed (at.db - 1) (without_number at.slot (slice_index_or stores.changed (at.db - 1) [])) [] within)
      ∙ any_same at.slot number (slice_index_or stores.changed (at.db - 1) []) n
      ∙ ap (λ q. is_slot_changed stores.changed q number) (sym p)
  still_marked place number (inr p) n other =
      ap (λ (l : List ℕ). list_any (λ m. m == number) l) (get_or-set_other stores.changed (at.db - 1) place (without_number at.slot (slice_index_or stores.changed (at.db - 1) [])) [] p)

  same_marks : (place number : ℕ) → is_place at.db at.slot (place + 1) number ≡ false → is_slot_changed (without_slot at stores.changed) place number ≡ is_slot_changed stores.changed place number
  same_marks place number other = still_marked place number (cases_eq place (at.db - 1)) (cases_eq number at.slot) other

  left_among : (place number : ℕ) → DirtySlot (one_written at stores) place number → is_slot_changed stores.changed place number ≡ true
  left_among place number slot =
      let is : is_slot_changed (without_slot at stores.changed) place number ≡ true = dirty_changed (one_written at stores) place number slot in
      ⊎_elim
      (λ here. absurd (let clash : true ≡ false = sym is ∙ not_marked place number here.0 here.1 in cc))
      (λ other. sym (same_marks place number other) ∙ is)
      (which place number)

  -- The life behind it has them.
  pub written_stores : HasStores (slot_written_life at.db at.slot life) (one_written at stores)
  written_stores = record {
    are_of = chosen_are life stores h (without_slot at stores.changed) left_among;
    valid = h.valid;
    present = h.present;
    changed = λ place number dbd found below.
        ⊎_elim
        (λ here. itself place number here.0 here.1 ∙ sym (not_marked place number here.0 here.1))
        (λ other. others place number other ∙ h.changed place number dbd found below ∙ sym (same_marks place number other))
        (which place number);
  }
