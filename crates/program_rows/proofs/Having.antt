-- What always holds of the slots of databases that are whole.
use Rattle.std.proofs.Common.{◌≡◌, ℕ, ◌-◌, ◌<◌, ◌≤◌, ◌∷◌, [], List, length, suc, refl, sym, ◌∙◌, ap, subst, Bool, true, false, cond, Option, None, Some, arith, get_or, zero, ◌||◌, ◌&&◌, ◌⊎◌, not, eqb, ⊎_elim}
use Rattle.std.specs.List.{AllByRecursion, slice_get}
use Rattle.std.specs.Option.{option_map_or}
use Rattle.std.proofs.lemmas.Bool.{false≢true, cases_lt}
use Rattle.std.proofs.lemmas.List.{length-map}
use Rattle.std.proofs.lemmas.Option.{slice_get_within}
use Rattle.model_data.specs.declared.row.Row.{Row}
use Rattle.model_data.proofs.Lists.{all_then}
use Rattle.model_data.specs.Table.{EnqueueTable}
use Rattle.seg_store.specs.Slots.{Stored, AreSlots, AtMostOne, has_root, is_slot_free}
use Rattle.seg_store.proofs.SlotRows.{same_key}
use Rattle.unit_work.specs.declared.change.Change.{Change}
use Rattle.unit_work.specs.Changes.{Changes, is_seen}
use Rattle.unit_work.specs.BackOut.{was_in, backed_slot, cleared_slot}
use Rattle.unit_work.specs.Images.{slots_of_database, image_at, IsSlotOf}
use Rattle.program_rows.specs.SlotsState.{slots_state_of as slots_seen, root_in, HoldsSlot, IsTouchedSlot, AreTouchedSlots, AreOnSlots}
use Rattle.program_rows.specs.OpenUnits.{unit_records_of, unit_slots_of, HoldsAlone, IsOpenUnit, was_there, IsRecordTouched}
use Rattle.program_rows.specs.PlannedChanges.{databases_opened, IsUnitWhole}
use Rattle.program_rows.specs.declared.opened.Opened.{Opened}
use Rattle.program_rows.proofs.Apart.{all_beside, all_good}
use Rattle.program_rows.proofs.Aside.{can_rooted, was_in_is}
use Rattle.program_rows.proofs.Backed.{all_there, dbds_all, valid_all}
use Rattle.program_rows.proofs.Beside.{AreRooted}
use Rattle.program_rows.proofs.Few.{few_had, few_have}
use Rattle.program_rows.proofs.Seen.{regions_length}
use Rattle.program_rows.proofs.Bools.{right_of}
use Rattle.program_rows.proofs.Touching.{back_at}
use Rattle.program_rows.proofs.Untouched.{first_here, units_apart, stands_untouched}

-- a slot that is there is one of a database that is there
known_slot : (stores : List Stored) (db slot : ℕ) → IsSlotOf stores db slot → db ≤ length stores
known_slot stores db slot there = by (slice_get stores (db - 1)) refl
  where
    by : (o : Option Stored) → slice_get stores (db - 1) ≡ o → db ≤ length stores
    by None e =
        let none : slots_of_database db stores ≡ [] = ap (λ x. option_map_or (λ (s : Stored). s.slots) x []) e in
        absurd (omega (arith, there.within, ap length none))
    by (Some s) e = omega (arith, slice_get_within stores (db - 1) s e, there.least)

-- what holds of each record that was there holds of what is put back where one was
back_there : (P : List Row → Type 0) (records : List Change) (db slot : ℕ) (image : List Row) → was_there records db slot ≡ true → AllByRecursion (λ c. was_in db slot c ≡ true → P c.before) records
    → P (backed_slot records db slot image)
back_there P [] db slot image w h = absurd (false≢true w)
back_there P (c ∷ records) db slot image w h = by (was_in db slot c) refl w (λ g. back_there P records db slot image g h.1)
  where
    by : (b : Bool) → was_in db slot c ≡ b → was_there (c ∷ records) db slot ≡ true → (was_there records db slot ≡ true → P (backed_slot records db slot image)) → P (cond b c.before (backed_slot records db slot image))
    by true q g rec = h.0 q
    by false q g rec = rec (sym (ap (λ b. b || was_there records db slot) q) ∙ g)

-- a record that was in a slot has rows
none_free : (db slot : ℕ) (c : Change) → was_in db slot c ≡ true → c.before ≡ [] → ⊥
none_free db slot c w none =
    let kept : not (is_slot_free c.before) ≡ true = right_of (eqb c.slot slot) (not (is_slot_free c.before)) (right_of (eqb c.db db) (eqb c.slot slot && not (is_slot_free c.before)) w) in
    false≢true (sym (ap (λ image. not (is_slot_free image)) none) ∙ kept)

-- a region holds alone what its unit has touched
module _ (table : EnqueueTable) (stores : List Stored) (region : ℕ) (records : List Change) (unit : IsOpenUnit table stores region records) where
  held_before : (c : Change) (db slot : ℕ) → was_in db slot c ≡ true → (c.before ≡ []) ⊎ (has_root c.root c.before ≡ true) → HoldsAlone table region (record { db = c.db; root = Some c.root })
      → HoldsAlone table region (record { db = db; root = root_in c.before })
  held_before c db slot w rooted alone =
      let place = was_in_is db slot c w in
      subst (λ n. HoldsAlone table region (record { db = n; root = root_in c.before })) place.database
      (by c.before refl rooted)
    where
      by : (image : List Row) → c.before ≡ image → (image ≡ []) ⊎ (has_root c.root image ≡ true) → HoldsAlone table region (record { db = c.db; root = root_in c.before })
      by [] e r = absurd (free e)
        where
          free : c.before ≡ [] → ⊥
          free none = none_free db slot c w none
      by (row ∷ rows) e r =
          ⊎_elim
          (λ none. let clash : row ∷ rows ≡ [] = none in absurd (cc))
          (λ has.
          let root : root_in c.before ≡ Some c.root = ap root_in e ∙ ap Some (same_key c.root _ has) in
          subst (λ o. HoldsAlone table region (record { db = c.db; root = o })) (sym root) alone) r

  all_before : (rs : List Change) (db slot : ℕ) → AreRooted rs → AllByRecursion (λ c. HoldsAlone table region (record { db = c.db; root = Some c.root })) rs
      → AllByRecursion (λ c. was_in db slot c ≡ true → HoldsAlone table region (record { db = db; root = root_in c.before })) rs
  all_before [] db slot rooted alone = tt
  all_before (c ∷ rs) db slot rooted alone = (λ w. held_before c db slot w rooted.0 alone.0, all_before rs db slot rooted.1 alone.1)

  pub holds_touched : (c : Change) → IsRecordTouched table stores region records c → HoldsSlot table region c
  holds_touched c t =
      ⊎_elim
      (λ w.
      subst (λ image. HoldsAlone table region (record { db = c.db; root = root_in image })) (sym (back_at records stores c.db c.slot t.there.least t.there.within) ∙ t.first)
      (back_there (λ image. HoldsAlone table region (record { db = c.db; root = root_in image })) records c.db c.slot (cleared_slot records c.db (image_at c.db c.slot stores)) w
      (all_before records c.db c.slot (can_rooted records stores unit.can) unit.alone)))
      (λ p. subst (λ image. HoldsAlone table region (record { db = c.db; root = root_in image })) (sym p.0) p.1) t.sits

module _ (o : Opened) (w : IsUnitWhole o) where
  abbrev units : List (List Change)
  units = unit_records_of o.units.items

  abbrev slots : List (List Change)
  slots = unit_slots_of o.units.items

  abbrev stores : List Stored
  stores = o.stores.stores

  same_count : length slots ≡ length units
  same_count = length-map o.units.items (λ (x : Changes). x.slots) ∙ sym (length-map o.units.items (λ (x : Changes). x.records))

  -- a region without a unit has touched nothing
  beyond : (places : List (List Change)) (k : ℕ) → length places ≤ k → get_or places k [] ≡ []
  beyond [] k le = refl
  beyond (x ∷ places) zero le = absurd (omega arith)
  beyond (x ∷ places) (suc k) le = beyond places k (omega arith)

  seen_within : (k db slot : ℕ) → is_seen db slot (get_or slots k []) ≡ true → k < length units
  seen_within k db slot e =
      ⊎_elim (λ lt. lt)
      (λ (le : length units ≤ k).
      absurd (false≢true (sym (ap (is_seen db slot) (beyond slots k (omega (arith, le, same_count)))) ∙ e))) (cases_lt k (length units))

  one_root : (db : ℕ) (root : List ℕ) → 1 ≤ db → AtMostOne (has_root root) (slots_of_database db stores)
  one_root db root least = by (slice_get stores (db - 1)) refl
    where
      by : (found : Option Stored) → slice_get stores (db - 1) ≡ found → AtMostOne (has_root root) (slots_of_database db stores)
      by None e = subst (λ x. AtMostOne (has_root root) (option_map_or (λ (s : Stored). s.slots) x [])) (sym e) tt
      by (Some s) e =
          subst (λ x. AtMostOne (has_root root) (option_map_or (λ (t : Stored). t.slots) x [])) (sym e)
          ((all_there (λ (x : Stored). AreSlots x.dbd x.slots) stores (db - 1) s w.units.valid e).apart root)

  touched_there : (k : ℕ) → k < length units → AreTouchedSlots (slots_seen (databases_opened o)) (get_or slots k [])
  touched_there k lt =
      let t = w.touched k lt in
      let u = w.units.each k lt in
      record {
        each = all_then (IsRecordTouched o.table stores (suc k) (get_or units k [])) (IsTouchedSlot (slots_seen (databases_opened o))) (get_or slots k [])
            (λ c x. record {
              there = x.there;
              known = known_slot stores c.db c.slot x.there;
              first = first_here units slots stores o.table w.units w.touched k lt c x;
            }) t.each;
        ascend = t.order.ascend;
        few = t.order.few;
        few_before = omega (arith, few_had o.table stores (suc k) (get_or units k []) u.can (get_or slots k []) t.order.ascend t.each, u.kept.few);
        few_now = omega (arith, few_have o.table stores (suc k) (get_or units k []) u.can one_root (get_or slots k []) t.order.ascend t.each, u.kept.few);
      }

  touched_all : (k : ℕ) → AreTouchedSlots (slots_seen (databases_opened o)) (get_or slots k [])
  touched_all k =
      ⊎_elim (touched_there k)
      (λ (le : length units ≤ k).
      subst (AreTouchedSlots (slots_seen (databases_opened o))) (sym (beyond slots k (omega (arith, le, same_count))))
      (record { each = tt; ascend = tt; few = omega arith; few_before = omega arith; few_now = omega arith })) (cases_lt k (length units))

  pub whole_slots : AreOnSlots (databases_opened o)
  whole_slots =
      record {
        have = record {
          stores = refl;
          committed = dbds_all stores units;
          valid = w.units.valid;
          valid_committed = valid_all stores units w.units.valid (all_good units stores o.table w.units) (all_beside units stores o.table w.units);
          count = same_count ∙ sym (regions_length 0 units units stores);
          touched = λ region. touched_all (region - 1);
          apart = λ one other db slot least more e f.
              let same : one - 1 ≡ other - 1 =
              units_apart units slots stores o.table w.units w.touched (one - 1) (other - 1) (seen_within (one - 1) db slot e) (seen_within (other - 1) db slot f) db slot e f in
              omega (arith, same, least, more);
          untouched = λ db slot least none. stands_untouched units slots stores o.table w.units w.touched db slot least (λ k inside.
              let up : suc k - 1 ≡ k = omega arith in
              subst (λ n. is_seen db slot (get_or slots n []) ≡ false) up (none (suc k)));
          marks = w.marks;
        };
        holds = λ region least. holds region least;
        compatible = w.units.compatible;
      }
    where
      holds : (region : ℕ) → 1 ≤ region → AllByRecursion (HoldsSlot o.table region) (get_or slots (region - 1) [])
      holds region least =
          ⊎_elim
          (λ (lt : region - 1 < length units).
          let up : suc (region - 1) ≡ region = omega (arith, least) in
          subst (λ r. AllByRecursion (HoldsSlot o.table r) (get_or slots (region - 1) [])) up
          (all_then (IsRecordTouched o.table stores (suc (region - 1)) (get_or units (region - 1) [])) (HoldsSlot o.table (suc (region - 1))) (get_or slots (region - 1) [])
          (holds_touched o.table stores (suc (region - 1)) (get_or units (region - 1) []) (w.units.each (region - 1) lt)) (w.touched (region - 1) lt).each))
          (λ (le : length units ≤ region - 1).
          subst (AllByRecursion (HoldsSlot o.table region)) (sym (beyond slots (region - 1) (omega (arith, le, same_count)))) tt) (cases_lt (region - 1) (length units))
