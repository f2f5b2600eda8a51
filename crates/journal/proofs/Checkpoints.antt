-- A checkpoint of a life that goes with the machine.
use Rattle.std.proofs.Common.{◌≡◌, inl, inr, ℕ, zero, suc, ◌+◌, ◌-◌, ◌*◌, ◌≤◌, ◌<◌, nat_lt, Bool, true, false, ◌||◌, ◌&&◌, List, [], ◌∷◌, length, map, Option, Some, None, IsSome, refl, sym, ◌∙◌, ap, subst, arith, mul-le-mul_left}
use Rattle.std.specs.Prelude.{slice_get, slice_index_or, sum_by, find, ◌==◌, if◌then◌else◌}
use Rattle.std.specs.List.{list_any, flat_map, AllByRecursion}
use Rattle.std.specs.Option.{option_map, option_map_or}
use Rattle.std.proofs.lemmas.Bool.{eq-eqb, eqb-true, ltb-true, ne_eqb}
use Rattle.std.proofs.lemmas.List.Sums.{sum_by-cons}
use Rattle.tm_types.specs.declared.dbd.Dbd.{Dbd}
use Rattle.model_data.specs.declared.row.Row.{Row}
use Rattle.model_data.specs.Record as rows
use Rattle.model_system.specs.System.{System}
use Rattle.model_machine.specs.Machine.{LastingState, Moment}
use Rattle.model_system.specs.Areas.{most_sectors, snapshot_area}
use Rattle.model_image.proofs.Places.{most_one}
use Rattle.model_image.specs.States.{breaks_a_rule}
use Rattle.log_records.specs.declared.record.Record.{Record}
use Rattle.log_records.specs.RecordSpelling.{record_spelling}
use Rattle.log_writer.specs.ForcedLog.{log_sectors_of}
use Rattle.restart_data.specs.Restart.{IsRestart}
use Rattle.restart_data.specs.Snapshot as snapshot
use Rattle.seg_store.specs.Slots.{Stored, AreSlots, IsSlot}
use Rattle.unit_work.specs.declared.change.Change.{Change}
use Rattle.unit_work.specs.Changes.{is_slot_before, is_slot}
use Rattle.unit_work.specs.Images.{image_at, IsSlotOf}
use Rattle.checkpointing.specs.CheckpointParts.{next_restart}
use Rattle.checkpointing.specs.declared.touches.OpenUnit.{OpenUnit}
use Rattle.checkpointing.specs.SnapshotRecords.{snapshot_records}
use Rattle.checkpointing.specs.SpelledRecords.{AddsSpelled}
use Rattle.checkpointing.specs.Touches as touching
use Rattle.checkpointing.proofs.Judged.{AreCounts}
use Rattle.checkpointing.proofs.Read.{IsRead}
use Rattle.checkpointing.proofs.Whole.{IsWhole, whole}
use Rattle.system_types.specs.ValidSystem.{IsSystem}
use Rattle.disk_law.proofs.Touched.{open_changes, open_size}
use Rattle.disk_law.specs.CommittedBytes.{Touch, Touches}
use Rattle.disk_law.specs.Life.{LifeOnDisk}
use Rattle.disk_law.proofs.Changing.{IsKnownSlot}
use Rattle.disk_law.proofs.Recovering.{all_at, index_found}
use Rattle.disk_law.specs.LifeCheckpoint.{IsSnapshotOf, MayCheckpoint, after_checkpoint, parts_with}
use Rattle.disk_law.proofs.Checkpointed.{checkpoint_life}
use Rattle.disk_law.proofs.Stored.{store_of}
use Rattle.disk_law.specs.KeptUnits.{KeptUnit, AreSlotsOnce, HaveNumbers, IsUnitOpen, KeepTouches, kept_touches, touch_of, unit_kept}
use Rattle.disk_law.proofs.Told.{forgets}
use Rattle.disk_law.proofs.Snapshots.{is_snapshot}
use Rattle.unit_work.specs.Marks.{is_marked}
use Rattle.unit_work.specs.Changes.{ChangesAscend}
use Rattle.program_rows.specs.SlotsState.{SlotsState, HaveSlots, AreTouchedSlots, IsTouchedSlot, slots_stores, image_records_in, touched_in}
use Rattle.journal.specs.OpenUnits.{IsUnitOf, AreUnitsOf, written}
use Rattle.journal.specs.UnitNumbers.{unit_of_region}
use Rattle.journal.specs.CarriedLife.{HoldTouched, IsTouchedBy, IsCarriedBy}
use Rattle.journal.proofs.Calls.{ascend_own}
use Rattle.journal.proofs.Ended.{committed_so, get_of_index, stands_committed}
use Rattle.journal.proofs.Moves.{AreOwn}
use Rattle.journal.proofs.Places.{is_among}
use Rattle.journal.proofs.Stores.{has_stores, known_slot_of, stands_so, few_sectors_of, stores_most}

-- ---- kept slots, as a snapshot takes them

find_none : (d s : ℕ) (slots : List Change) → is_among d s slots ≡ false → find (is_slot d s) slots ≡ None
find_none d s [] none = refl
find_none d s (c ∷ slots) none = by (is_slot d s c) none (find_none d s slots) where
  by : (b : Bool) → (b || is_among d s slots) ≡ false → (is_among d s slots ≡ false → find (is_slot d s) slots ≡ None) → (if b then Some c else find (is_slot d s) slots) ≡ None
  by true e later = absurd cc
  by false e later = later e

none_found : (d s : ℕ) (slots : List Change) → find (is_slot d s) slots ≡ None → is_among d s slots ≡ false
none_found d s [] none = refl
none_found d s (c ∷ slots) none = by (is_slot d s c) none (none_found d s slots) where
  by : (b : Bool) → (if b then Some c else find (is_slot d s) slots) ≡ None → (find (is_slot d s) slots ≡ None → is_among d s slots ≡ false) → (b || is_among d s slots) ≡ false
  by true e later = absurd cc
  by false e later = later e

own_once : (slots : List Change) → AreOwn slots → AreSlotsOnce slots
own_once [] own = tt
own_once (c ∷ slots) own = (find_none c.db c.slot slots own.0, own_once slots own.1)

numbers_apart : (opens : List OpenUnit) → touching.UnitsAscend opens → HaveNumbers (map unit_kept opens)
numbers_apart [] ascending = tt
numbers_apart (u ∷ opens) ascending = (others opens ascending.0, numbers_apart opens ascending.1) where
  others : (some : List OpenUnit) → AllByRecursion (λ v. u.number < v.number) some → AllByRecursion (λ v. u.number == v.number ≡ false) (map unit_kept some)
  others [] all = tt
  others (v ∷ some) all = (ne_eqb u.number v.number (λ e. omega (arith, e, all.0)), others some all.1)

slot_before : (c d : Change) → is_slot_before d.db d.slot c ≡ true → touching.IsSlotBefore c d
slot_before c d before = by (nat_lt c.db d.db) (c.db == d.db) (nat_lt c.slot d.slot) refl refl refl before where
  by : (a b e : Bool) → nat_lt c.db d.db ≡ a → c.db == d.db ≡ b → nat_lt c.slot d.slot ≡ e → (a || (b && e)) ≡ true → touching.IsSlotBefore c d
  by true b e f g h is = inl (ltb-true c.db d.db f)
  by false true true f g h is = inr (eqb-true c.db d.db g, ltb-true c.slot d.slot h)
  by false true false f g h is = absurd cc
  by false false e f g h is = absurd cc

slots_ascend : (slots : List Change) → ChangesAscend slots → touching.SlotsAscend slots
slots_ascend [] are = tt
slots_ascend (c ∷ []) are = tt
slots_ascend (c ∷ d ∷ slots) are = (slot_before c d are.0.0, slots_ascend (d ∷ slots) are.1)

same_image : (stores : List Stored) (db slot : ℕ) → touching.image_in stores db slot ≡ image_at db slot stores
same_image stores db slot = by (slice_get stores (db - 1)) where
  by : (o : Option Stored) → option_map_or (λ s. slice_index_or s.slots slot []) o [] ≡ slice_index_or (option_map_or (λ s. s.slots) o []) slot []
  by None = refl
  by (Some s) = refl

same_count : (image : List Row) → touching.touched_records_in image ≡ image_records_in image
same_count [] = refl
same_count (row ∷ image) = refl

count_before : (slots : List Change) → sum_by (λ c. touching.touched_records_in c.before) slots ≡ sum_by (λ c. image_records_in c.before) slots
count_before [] = refl
count_before (c ∷ slots) =
    omega (
      arith,
      sum_by-cons (λ (x : Change). touching.touched_records_in x.before) c slots,
      sum_by-cons (λ (x : Change). image_records_in x.before) c slots,
      same_count c.before,
      count_before slots,
    )

count_now : (stores : List Stored) (slots : List Change) → sum_by (λ c. touching.touched_records_in (touching.image_in stores c.db c.slot)) slots ≡ sum_by (λ c. image_records_in (image_at c.db c.slot stores)) slots
count_now stores [] = refl
count_now stores (c ∷ slots) =
    omega (
      arith,
      sum_by-cons (λ (x : Change). touching.touched_records_in (touching.image_in stores x.db x.slot)) c slots,
      sum_by-cons (λ (x : Change). image_records_in (image_at x.db x.slot stores)) c slots,
      ap (λ (image : List Row). touching.touched_records_in image) (same_image stores c.db c.slot),
      same_count (image_at c.db c.slot stores),
      count_now stores slots,
    )

slot_in : (dbd : Dbd) (slots : List (List Row)) (slot : ℕ) → AllByRecursion (IsSlot dbd) slots → IsSlot dbd (slice_index_or slots slot [])
slot_in dbd [] slot each = inl refl
slot_in dbd (image ∷ slots) zero each = each.0
slot_in dbd (image ∷ slots) (suc slot) each = slot_in dbd slots slot each.1

touch_is : (t : Touch) (first present : List ℕ) → t.first ≡ first → t.present ≡ present → t ≡ record { first = first; present = present }
touch_is t first present a b = ap (λ (x : List ℕ). record { first = x; present = t.present }) a ∙ ap (λ (x : List ℕ). record { first = first; present = x }) b

-- what a unit keeps, by its number
kept_at : (units : List KeptUnit) → HaveNumbers units → (present : Rattle.disk_law.specs.CommittedBytes.Bytes) (k : ℕ) (u : KeptUnit) → slice_get units k ≡ Some u → (d s : ℕ) → kept_touches present units u.number d s ≡ option_map (touch_of present) (find (is_slot d s) u.slots)
kept_at [] numbers present k u found d s = absurd cc
kept_at (v ∷ units) numbers present zero u found d s =
    let same : v ≡ u = cc in
    subst (λ (x : KeptUnit). kept_touches present (v ∷ units) x.number d s ≡ option_map (touch_of present) (find (is_slot d s) x.slots)) same
    (ap (λ b. if b then option_map (touch_of present) (find (is_slot d s) v.slots) else kept_touches present units v.number d s) (eq-eqb v.number v.number refl))
kept_at (v ∷ units) numbers present (suc k) u found d s =
    let apart : v.number == u.number ≡ false = all_at (λ (x : KeptUnit). v.number == x.number ≡ false) units k u numbers.0 found in
    ap (λ b. if b then option_map (touch_of present) (find (is_slot d s) v.slots) else kept_touches present units u.number d s) apart ∙ kept_at units numbers.1 present k u found d s

unit_at : (opens : List OpenUnit) (k : ℕ) (u : KeptUnit) → slice_get (map unit_kept opens) k ≡ Some u → (P : OpenUnit → Type 0) → AllByRecursion P opens → (o : OpenUnit) × (unit_kept o ≡ u) × P o
unit_at [] k u found P all = absurd cc
unit_at (o ∷ opens) zero u found P all = let same : unit_kept o ≡ u = cc in (o, same, all.0)
unit_at (o ∷ opens) (suc k) u found P all = unit_at opens k u found P all.1

pub none_marked : (changed : List (List ℕ)) (d s : ℕ) → is_marked (map (λ numbers. []) changed) d s ≡ false
none_marked changed d s = by changed (d - 1) where
  by : (some : List (List ℕ)) (k : ℕ) → list_any (λ n. n == s) (slice_index_or (map (λ (numbers : List ℕ). []) some) k []) ≡ false
  by [] k = refl
  by (x ∷ some) zero = refl
  by (x ∷ some) (suc k) = by some k

module _ (system : System) (valid : IsSystem system) (n : ℕ) (moment : Moment) (slots : SlotsState) (units : List ℕ) (next : ℕ) (life : LifeOnDisk) (c : IsCarriedBy system moment slots units next life)
    (have : HaveSlots system.databases n slots) (holds : HoldTouched moment.enqueues slots) (opens : List OpenUnit) (o : AreUnitsOf slots units opens) where
  abbrev kept_units : List KeptUnit
  kept_units = map unit_kept opens

  abbrev pub kept_now : Touches
  kept_now = kept_touches life.present kept_units

  known : (d s : ℕ) → IsSlotOf slots.stores d s → IsKnownSlot system d s
  known d s there = known_slot_of system n slots have d s there

  -- ---- what the units keep is what they touched

  touched_is : (u : OpenUnit) (is : IsUnitOf slots units u) (x : Change) → IsTouchedSlot slots x → IsSome (life.touches u.number x.db x.slot) → life.touches u.number x.db x.slot ≡ Some (touch_of life.present x)
  touched_is u is x at some = by (life.touches u.number x.db x.slot) refl some where
    by : (t : Option Touch) → life.touches u.number x.db x.slot ≡ t → IsSome t → t ≡ Some (touch_of life.present x)
    by None e h = absurd cc
    by (Some t) e h =
        ap (λ (y : Touch). Some y)
        (touch_is t (rows.rows_spelling x.before) (life.present x.db x.slot)
        (c.is.is_life.slots.firsts u.number x.db x.slot t e
        ∙ committed_so system n moment.lasting moment.slots moment.enqueues moment.enqueues slots units next life c.is have holds u.number is.region is.least is.found is.some x.db x.slot (known x.db x.slot at.there)
        ∙ ap (λ (image : List Row). rows.rows_spelling image) (sym at.first))
        (c.is.is_life.slots.touched u.number x.db x.slot t e))

  all_touched : (u : OpenUnit) (is : IsUnitOf slots units u) (some : List Change) → AllByRecursion (IsTouchedSlot slots) some → AllByRecursion (λ x. IsSome (life.touches u.number x.db x.slot)) some → AllByRecursion (λ x. life.touches u.number x.db x.slot ≡ Some (touch_of life.present x)) some
  all_touched u is [] at touched = tt
  all_touched u is (x ∷ some) at touched = (touched_is u is x at.0 touched.0, all_touched u is some at.1 touched.1)

  unit_touched : (u : OpenUnit) → IsUnitOf slots units u → AllByRecursion (λ x. life.touches u.number x.db x.slot ≡ Some (touch_of life.present x)) u.work.now.slots
  unit_touched u is =
      subst (λ (some : List Change). AllByRecursion (λ x. life.touches u.number x.db x.slot ≡ Some (touch_of life.present x)) some) (sym is.keeps)
      (all_touched u is (touched_in is.region slots) (have.touched is.region).each
      (subst (λ m. AllByRecursion (λ x. IsSome (life.touches m x.db x.slot)) (touched_in is.region slots)) (index_found units (is.region - 1) u.number 0 is.found) (c.is.touched.kept is.region is.least)))

  each_touched : (some : List OpenUnit) → AllByRecursion (IsUnitOf slots units) some → AllByRecursion (λ u. AllByRecursion (λ x. life.touches u.number x.db x.slot ≡ Some (touch_of life.present x)) u.slots) (map unit_kept some)
  each_touched [] all = tt
  each_touched (u ∷ some) all = (unit_touched u all.0, each_touched some all.1)

  each_once : (some : List OpenUnit) → AllByRecursion (IsUnitOf slots units) some → AllByRecursion (λ u. AreSlotsOnce u.slots) (map unit_kept some)
  each_once [] all = tt
  each_once (u ∷ some) all =
      (subst (λ (cs : List Change). AreSlotsOnce cs) (sym all.0.keeps) (own_once (touched_in all.0.region slots) (ascend_own (touched_in all.0.region slots) (have.touched all.0.region).ascend)), each_once some all.1)

  -- what a unit keeps no more stands as it is committed
  rest_stands : (unit d s : ℕ) (t : Touch) → life.touches unit d s ≡ Some t → kept_now unit d s ≡ None → t.first ≡ t.present
  rest_stands unit d s t is none =
      let by = c.is.touched.each unit d s t is in
      let opened = o.all (by.region - 1) unit by.found by.some in
      let its = unit_at opens opened.place opened.unit opened.found (IsUnitOf slots units) o.each in
      let its_number : its.0.number ≡ unit = ap (λ (x : KeptUnit). x.number) its.1 ∙ opened.is in
      let same_place : its.2.region - 1 ≡ by.region - 1 =
      c.is.numbers.apart (its.2.region - 1) (by.region - 1) unit (subst (λ m. slice_get units (its.2.region - 1) ≡ Some m) its_number its.2.found) by.found by.some in
      let region_is : its.2.region ≡ by.region = omega (arith, same_place, its.2.least, by.least) in
      let slots_are : opened.unit.slots ≡ touched_in by.region slots =
      ap (λ (x : KeptUnit). x.slots) (sym its.1) ∙ its.2.keeps ∙ ap (λ r. touched_in r slots) region_is in
      let found_none : find (is_slot d s) (touched_in by.region slots) ≡ None =
      ap (λ (cs : List Change). find (is_slot d s) cs) (sym slots_are)
      ∙ mapped_none (find (is_slot d s) opened.unit.slots)
      (sym (kept_at kept_units (numbers_apart opens o.ascending) life.present opened.place opened.unit opened.found d s) ∙ ap (λ m. kept_now m d s) opened.is ∙ none) in
      let stands : image_at d s slots.committed ≡ image_at d s slots.stores =
      stands_committed system n moment.lasting moment.slots moment.enqueues moment.enqueues slots units next life c.is have holds unit by.region by.least by.found by.some d s t is (none_found d s (touched_in by.region slots) found_none) in
      c.is.is_life.slots.firsts unit d s t is
      ∙ committed_so system n moment.lasting moment.slots moment.enqueues moment.enqueues slots units next life c.is have holds unit by.region by.least by.found by.some d s (known d s by.there)
      ∙ ap (λ (image : List Row). rows.rows_spelling image) stands
      ∙ sym (stands_so system slots life c.is.of_system c.is.stores d s (known d s by.there))
      ∙ sym (c.is.is_life.slots.touched unit d s t is) where
        mapped_none : (found : Option Change) → option_map (touch_of life.present) found ≡ None → found ≡ None
        mapped_none None e = refl
        mapped_none (Some x) e = absurd cc

  pub keep_touches : KeepTouches life kept_units
  keep_touches = record {
    numbers = numbers_apart opens o.ascending;
    once = each_once opens o.each;
    each = each_touched opens o.each;
    only = λ unit d s t is. let by = c.is.touched.each unit d s t is in o.all (by.region - 1) unit by.found by.some;
    rest = rest_stands;
  }

  -- ---- they are open units of a snapshot

  slot_touched : (x : Change) → IsTouchedSlot slots x → touching.IsSlotTouched slots.stores x
  slot_touched x at =
      let slot = known x.db x.slot at.there in
      let now = store_of slots.stores system.databases slot.place slot.dbd have.stores slot.found in
      let was = store_of slots.committed system.databases slot.place slot.dbd have.committed slot.found in
      let now_slots = all_at (λ (y : Stored). AreSlots y.dbd y.slots) slots.stores slot.place now.store have.valid now.found in
      let was_slots = all_at (λ (y : Stored). AreSlots y.dbd y.slots) slots.committed slot.place was.store have.valid_committed was.found in
      let place_is : x.db - 1 ≡ slot.place = omega (arith, slot.is) in
      let before_is : x.before ≡ slice_index_or was.store.slots x.slot [] =
      at.first ∙ ap (λ k. slice_index_or (option_map_or (λ (y : Stored). y.slots) (slice_get slots.committed k) []) x.slot []) place_is
      ∙ ap (λ (found : Option Stored). slice_index_or (option_map_or (λ (y : Stored). y.slots) found []) x.slot []) was.found in
      record {
        store = now.store;
        least = at.there.least;
        found = ap (λ k. slice_get slots.stores k) place_is ∙ now.found;
        slots = now_slots;
        within = subst (λ (dbd : Dbd). x.slot < dbd.roots) (sym now.is) slot.below;
        before = subst (λ (image : List Row). IsSlot now.store.dbd image) (sym before_is)
            (subst (λ (dbd : Dbd). IsSlot dbd (slice_index_or was.store.slots x.slot [])) (was.is ∙ sym now.is) (slot_in was.store.dbd was.store.slots x.slot was_slots.each));
      }

  all_slots : (some : List Change) → AllByRecursion (IsTouchedSlot slots) some → AllByRecursion (touching.IsSlotTouched slots.stores) some
  all_slots [] all = tt
  all_slots (x ∷ some) all = (slot_touched x all.0, all_slots some all.1)

  region_touched : (some : List Change) → AreTouchedSlots slots some → touching.AreSlotsTouched slots.stores some
  region_touched some are = record {
    each = all_slots some are.each;
    ascending = slots_ascend some are.ascend;
    few = are.few;
    few_before = omega (arith, count_before some, are.few_before);
    few_now = omega (arith, count_now slots.stores some, are.few_now);
  }

  units_touched : (some : List OpenUnit) → AllByRecursion (IsUnitOf slots units) some → AllByRecursion (λ u. touching.AreSlotsTouched slots.stores u.work.now.slots) some
  units_touched [] all = tt
  units_touched (u ∷ some) all =
      (subst (λ (cs : List Change). touching.AreSlotsTouched slots.stores cs) (sym all.0.keeps) (region_touched (touched_in all.0.region slots) (have.touched all.0.region)), units_touched some all.1)

  -- so a snapshot may have them
  pub are_open : touching.AreOpen slots.stores opens
  are_open = record { each = units_touched opens o.each; ascending = o.ascending }

  -- ---- the checkpoint

  module _ (counts : AreCounts (life.now.checkpoint + 1) next) (few : length opens ≤ length system.regions) (bytes : List ℕ)
      (adds : AddsSpelled (snapshot_records (life.now.checkpoint + 1) next moment.lasting (touching.changes_of_units slots.stores opens)) [] bytes)
      (sequence : life.log.sequence + life.log.place + log_sectors_of (length life.log.appended) < 2000000000000000000) where
    abbrev pub told_records : List Record
    told_records = snapshot_records (life.now.checkpoint + 1) next moment.lasting (touching.changes_of_units slots.stores opens)

    unbroken : breaks_a_rule system moment.lasting ≡ false
    unbroken = ap (λ (y : System). breaks_a_rule y moment.lasting) (sym c.is.of_system) ∙ ap (λ (l : LastingState). breaks_a_rule life.system l) (sym c.is.lasts) ∙ c.is.is_life.sound

    whole_is : IsWhole system (life.now.checkpoint + 1) next moment.lasting (touching.changes_of_units slots.stores opens) bytes
    whole_is =
        whole system (life.now.checkpoint + 1) next moment.lasting (touching.changes_of_units slots.stores opens) bytes valid c.is.names counts unbroken
        (open_changes system slots.stores opens have.stores are_open)
        (omega (arith, open_size (most_sectors system) slots.stores opens (stores_most system n slots have) (most_one system) are_open.each, mul-le-mul_left (262144 * most_sectors system) few)) adds

    restart_next : IsRestart (next_restart (parts_with bytes life) life.log)
    restart_next = record {
      epoch = c.is.is_life.in_range.epoch;
      sequence = (omega (arith, c.is.is_life.writer.sequence, c.is.is_life.in_range.sequence.0), sequence);
      checkpoint = (omega arith, ltb-true (life.now.checkpoint + 1) 2000000000000000000 counts.checkpoint_small);
      snapshot = omega arith;
      log = omega arith;
      sectors = omega (arith, whole_is.some);
      text = c.is.is_life.in_range.text;
    }

    is_snapshot_of : IsSnapshotOf life.system life.lasting kept_now told_records bytes
    is_snapshot_of =
        let changes : List Record = touching.changes_of_units slots.stores opens in
        let checkpoint : ℕ = life.now.checkpoint + 1 in
        let read : IsRead life.system checkpoint next life.lasting changes =
        subst (λ (y : System). IsRead y checkpoint next life.lasting changes) (sym c.is.of_system)
        (subst (λ (l : LastingState). IsRead system checkpoint next l changes) (sym c.is.lasts) whole_is.read) in
        subst (λ (b : List ℕ). IsSnapshotOf life.system life.lasting kept_now told_records b) (sym whole_is.spelled)
        (subst (λ (l : LastingState). IsSnapshotOf life.system life.lasting kept_now (snapshot_records checkpoint next l changes) (flat_map record_spelling (snapshot_records checkpoint next l changes))) c.is.lasts
        (is_snapshot life (slots_stores slots) c.is.stores c.is.is_life opens are_open keep_touches checkpoint next read))

    pub may_checkpoint : MayCheckpoint bytes (slots_stores slots) kept_now told_records life
    may_checkpoint = record {
      fits = subst (λ (y : System). snapshot.snapshot_sectors_of (length bytes) ≤ snapshot_area y) (sym c.is.of_system) (omega (arith, whole_is.fits));
      next = restart_next;
      slots = c.is.stores;
      forgets = forgets life c.is.is_life kept_units keep_touches;
      is_snapshot = is_snapshot_of;
    }

    -- ---- behind it

    module _ (had : HaveSlots system.databases n (written slots)) where
      abbrev pub life_checked : LifeOnDisk
      life_checked = after_checkpoint bytes kept_now life

      each_kept : (unit d s : ℕ) (t : Touch) → kept_now unit d s ≡ Some t → IsTouchedBy moment.enqueues (written slots) units unit d s
      each_kept unit d s t is_kept =
          let by = c.is.touched.each unit d s t ((forgets life c.is.is_life kept_units keep_touches).kept unit d s t is_kept) in
          record { region = by.region; least = by.least; found = by.found; some = by.some; there = by.there; alone = by.alone }

      -- a region without a number has touched nothing
      none_of : (m : ℕ) → m ≡ 0 → (some : List Change) → AllByRecursion (λ x. IsSome (life.touches m x.db x.slot)) some → some ≡ []
      none_of m none [] all = refl
      none_of m none (x ∷ some) all = absurd (by (life.touches m x.db x.slot) refl all.0) where
        by : (found : Option Touch) → life.touches m x.db x.slot ≡ found → IsSome found → ⊥
        by None e h = cc
        by (Some y) e h = omega (arith, (c.is.touched.each m x.db x.slot y e).some, none)

      found_all : (cs some : List Change) → ((d s : ℕ) → is_among d s some ≡ true → is_among d s cs ≡ true) → AllByRecursion (λ x. IsSome (option_map (touch_of life.present) (find (is_slot x.db x.slot) cs))) some
      found_all cs [] among = tt
      found_all cs (x ∷ some) among =
          (some_found cs x.db x.slot (among x.db x.slot (ap (λ b. b || is_among x.db x.slot some) (same_slot x))), found_all cs some (λ d s later. among d s (later_among (is_slot d s x) (is_among d s some) later))) where
            later_among : (a b : Bool) → b ≡ true → a || b ≡ true
            later_among true b h = refl
            later_among false b h = h

            same_slot : (x : Change) → is_slot x.db x.slot x ≡ true
            same_slot x = rw (eq-eqb x.db x.db refl, eq-eqb x.slot x.slot refl) refl

            some_found : (all : List Change) (d s : ℕ) → is_among d s all ≡ true → IsSome (option_map (touch_of life.present) (find (is_slot d s) all))
            some_found [] d s h = absurd cc
            some_found (y ∷ all) d s h = step (is_slot d s y) h (some_found all d s) where
              step : (b : Bool) → (b || is_among d s all) ≡ true → (is_among d s all ≡ true → IsSome (option_map (touch_of life.present) (find (is_slot d s) all))) → IsSome (option_map (touch_of life.present) (if b then Some y else find (is_slot d s) all))
              step true e later = refl
              step false e later = later e

      kept_then : (region : ℕ) → 1 ≤ region → AllByRecursion (λ x. IsSome (kept_now (unit_of_region units region) x.db x.slot)) (touched_in region slots)
      kept_then region least = by (unit_of_region units region) refl where
        numbered : (m : ℕ) → unit_of_region units region ≡ m → 0 < m → AllByRecursion (λ x. IsSome (kept_now m x.db x.slot)) (touched_in region slots)
        numbered m e some =
            let found = get_of_index units (region - 1) m e some in
            let opened = o.all (region - 1) m found some in
            let its = unit_at opens opened.place opened.unit opened.found (IsUnitOf slots units) o.each in
            let its_number : its.0.number ≡ m = ap (λ (x : KeptUnit). x.number) its.1 ∙ opened.is in
            let same_place : its.2.region - 1 ≡ region - 1 =
            c.is.numbers.apart (its.2.region - 1) (region - 1) m (subst (λ k. slice_get units (its.2.region - 1) ≡ Some k) its_number its.2.found) found some in
            let region_is : its.2.region ≡ region = omega (arith, same_place, its.2.least, least) in
            let slots_are : opened.unit.slots ≡ touched_in region slots = ap (λ (x : KeptUnit). x.slots) (sym its.1) ∙ its.2.keeps ∙ ap (λ r. touched_in r slots) region_is in
            all_kept opened m slots_are (touched_in region slots) (found_all (touched_in region slots) (touched_in region slots) (λ d s h. h)) where
              all_kept : (opened : IsUnitOpen kept_units m) (k : ℕ) → opened.unit.slots ≡ touched_in region slots → (some : List Change)
                  → AllByRecursion (λ x. IsSome (option_map (touch_of life.present) (find (is_slot x.db x.slot) (touched_in region slots)))) some → AllByRecursion (λ x. IsSome (kept_now m x.db x.slot)) some
              all_kept opened k are [] all = tt
              all_kept opened k are (x ∷ some) all = (
                subst (λ (found : Option Touch). IsSome found)
                    (sym (ap (λ u. kept_now u x.db x.slot) (sym opened.is)
                    ∙ kept_at kept_units (numbers_apart opens o.ascending) life.present opened.place opened.unit opened.found x.db x.slot
                    ∙ ap (λ (cs : List Change). option_map (touch_of life.present) (find (is_slot x.db x.slot) cs)) are)) all.0,
                all_kept opened k are some all.1,
              )

        by : (m : ℕ) → unit_of_region units region ≡ m → AllByRecursion (λ x. IsSome (kept_now (unit_of_region units region) x.db x.slot)) (touched_in region slots)
        by zero e =
            subst (λ (cs : List Change). AllByRecursion (λ x. IsSome (kept_now (unit_of_region units region) x.db x.slot)) cs)
            (sym (none_of (unit_of_region units region) e (touched_in region slots) (c.is.touched.kept region least))) tt
        by (suc m) e = subst (λ u. AllByRecursion (λ x. IsSome (kept_now u x.db x.slot)) (touched_in region slots)) (sym e) (numbered (suc m) e (omega arith))

      -- The life goes on with the machine.
      pub checkpoint_carried : IsCarriedBy system moment (written slots) units next life_checked
      checkpoint_carried = record {
        is = record {
          of_system = c.is.of_system;
          lasts = c.is.lasts;
          names = c.is.names;
          counted = c.is.counted;
          is_life = checkpoint_life bytes (slots_stores slots) kept_now told_records life c.is.is_life may_checkpoint;
          stores = has_stores system n (written slots) had (few_sectors_of system valid) life_checked c.is.of_system
              (λ place number dbd found below. stands_so system slots life c.is.of_system c.is.stores (place + 1) number (record { place = place; is = refl; dbd = dbd; found = found; below = below }))
              (λ place number dbd found below. sym (none_marked slots.changed (place + 1) number));
          committed = c.is.committed;
          numbers = c.is.numbers;
          touched = record { each = each_kept; kept = kept_then };
          syncs = c.is.syncs;
        };
        sound = c.sound;
      }
