-- A region's unit changes slots: the life goes on with changes that tell of them.
use Rattle.std.proofs.Common.{◌≡◌, ◌⊎◌, inl, inr, ⊎_elim, ℕ, zero, suc, ◌+◌, ◌-◌, ◌<◌, ◌≤◌, Bool, true, false, ◌||◌, ◌&&◌, nat_lt, List, [], ◌∷◌, ◌++◌, length, map, refl, sym, ◌∙◌, ap, subst, arith, Some, None, IsSome}
use Rattle.std.specs.Prelude.{Option, ◌==◌, slice_get, slice_index_or, if◌then◌else◌}
use Rattle.std.specs.List.{flat_map, AllByRecursion}
use Rattle.std.specs.Option.{is_some, option_map_or}
use Rattle.std.proofs.lemmas.Bool.{eq-eqb, eqb-true}
use Rattle.std.proofs.lemmas.Bool.Decides.{nat_tests}
use Rattle.tm_types.specs.declared.dbd.Dbd.{Dbd}
use Rattle.tm_types.specs.SegTypes.{IsHierarchy}
use Rattle.model_data.specs.declared.row.Row.{Row}
use Rattle.model_data.specs.Record as rows
use Rattle.model_system.specs.System.{System}
use Rattle.model_machine.specs.Machine.{LastingState, Slot}
use Rattle.model_data.specs.Table.{EnqueueTable}
use Rattle.log_records.specs.declared.record.Record.{Record}
use Rattle.log_records.specs.declared.record.Record.TheVariants as record_of
use Rattle.log_records.specs.RecordSpelling.{record_spelling, IsLogRecord}
use Rattle.log_records.proofs.Takes.{IsBytes}
use Rattle.log_writer.specs.ForcedLog.{log_sectors_of}
use Rattle.seg_store.specs.Slots.{Stored, AreSlots, IsSlot, image_root}
use Rattle.unit_work.specs.declared.change.Change.{Change}
use Rattle.unit_work.specs.Changes.{is_slot}
use Rattle.unit_work.specs.Images.{slots_of_database, image_at, image_bytes_at, IsSlotOf}
use Rattle.image_loading.proofs.Spelled.{spells_rows, no_bytes}
use Rattle.model_image.specs.Slots.{is_image, are_images, dbd_at, is_image_of}
use Rattle.disk_law.specs.CommittedBytes.{Bytes, Touch, Touches}
use Rattle.disk_law.specs.Life.{LifeOnDisk, IsLifeOnDisk}
use Rattle.disk_law.specs.SlotChanges.{SlotChange, with_bytes_behind, with_slot_changes, MayChangeAll}
use Rattle.disk_law.proofs.Changing.{IsKnownSlot, changes_life}
use Rattle.disk_law.proofs.OnDisk.{goes_by_changes}
use Rattle.disk_law.proofs.Recovering.{all_at}
use Rattle.disk_law.proofs.Stored.{store_of}
use Rattle.unit_work.specs.Marks.{is_marked, AreMarked}
use Rattle.program_rows.specs.OpenUnits.{HoldsAlone}
use Rattle.program_rows.specs.SlotsState.{SlotsState, HaveSlots, slots_stores, touched_in}
use Rattle.journal.specs.UnitNumbers.{AreUnitsNumbered, unit_of_region}
use Rattle.journal.specs.CarriedLife.{resource_of, HoldTouched, IsTouchedBy, IsLifeOf}
use Rattle.journal.specs.LifeByCall.{Continues}
use Rattle.journal.proofs.Changes.{changes_slot, AreOfOwn, records_of, log_behind, StaysSo, stays_so, present_behind, changed_behind, others_behind, own_behind, MayBe, all_may}
use Rattle.journal.proofs.Holding.{one_holder}
use Rattle.journal.proofs.Numbers.{same_or_apart}
use Rattle.journal.proofs.Places.{is_among, IsAmong, among_holds}
use Rattle.journal.proofs.Stores.{has_stores, stands_so, marked_so, stays_there, known_slot_of}
use Rattle.tm_types.proofs.Ordered.{eqb_back}
use Rattle.disk_law.proofs.Touched.{both}

-- ---- slots as changes

module _ (unit : ℕ) (old new : SlotsState) where
  abbrev pub move_of : Change → SlotChange
  move_of c = record { database = c.db; slot = c.slot; before = image_bytes_at c.db c.slot old.stores; after = image_bytes_at c.db c.slot new.stores; marked = is_marked new.changed c.db c.slot }

  abbrev pub moves : List Change → List SlotChange
  moves cs = map move_of cs

  -- the record that tells of a slot
  abbrev pub move_record : Change → Record
  move_record c = record_of.Change unit c.db c.slot (image_bytes_at c.db c.slot old.stores) (image_bytes_at c.db c.slot new.stores)

  same_records : (cs : List Change) → records_of unit (moves cs) ≡ map move_record cs
  same_records [] = refl
  same_records (c ∷ cs) = ap (λ (rs : List Record). move_record c ∷ rs) (same_records cs)

  flipped : (cs : List Change) (d s : ℕ) → changes_slot (moves cs) d s ≡ is_among d s cs
  flipped [] d s = refl
  flipped (c ∷ cs) d s =
      ap (λ b. (b && (s == c.slot)) || changes_slot (moves cs) d s) (eqb_back d c.db)
      ∙ ap (λ b. ((c.db == d) && b) || changes_slot (moves cs) d s) (eqb_back s c.slot)
      ∙ ap (λ b. is_slot d s c || b) (flipped cs d s)

  marked_so_far : (cs : List Change) → AllByRecursion (λ c. c.marked ≡ is_marked new.changed c.database c.slot) (moves cs)
  marked_so_far [] = tt
  marked_so_far (c ∷ cs) = (refl, marked_so_far cs)

  after_so : (cs : List Change) → AllByRecursion (λ c. c.after ≡ image_bytes_at c.database c.slot new.stores) (moves cs)
  after_so [] = tt
  after_so (c ∷ cs) = (refl, after_so cs)

-- each of these is of a slot of its own
abbrev pub AreOwn : List Change → Type 0
AreOwn [] = Unit {0}
AreOwn (c ∷ cs) = (is_among c.db c.slot cs ≡ false) × AreOwn cs

-- ---- images are those of records

slot_image : (dbd : Dbd) → IsHierarchy dbd.types → (image : List Row) → IsSlot dbd image → is_image dbd (rows.rows_spelling image) ≡ true
slot_image dbd types image is =
    ⊎_elim
    (λ (none : image ≡ []). ap (λ (l : List Row). is_image dbd (rows.rows_spelling l)) none ∙ ap (λ (o : Option (List Row)). is_some o) (no_bytes dbd))
    (λ valid. ap (λ (o : Option (List Row)). is_some o) (spells_rows dbd types (rows.rows_spelling image) image (record { root = image_root image; valid = valid; spelled = refl })))
    is

slot_at : (dbd : Dbd) (slots : List (List Row)) (slot : ℕ) → AllByRecursion (IsSlot dbd) slots → IsSlot dbd (slice_index_or slots slot [])
slot_at dbd [] slot each = inl refl
slot_at dbd (image ∷ slots) zero each = each.0
slot_at dbd (image ∷ slots) (suc slot) each = slot_at dbd slots slot each.1

image_of_known : (system : System) (stores : List Stored) → map (λ s. s.dbd) stores ≡ system.databases → AllByRecursion (λ s. AreSlots s.dbd s.slots) stores → (d s : ℕ) (known : IsKnownSlot system d s) → is_image known.dbd (image_bytes_at d s stores) ≡ true
image_of_known system stores are valid d s known =
    let of_ = store_of stores system.databases known.place known.dbd are known.found in
    let slots = all_at (λ (x : Stored). AreSlots x.dbd x.slots) stores known.place of_.store valid of_.found in
    let here : slots_of_database d stores ≡ of_.store.slots =
    ap (λ k. slots_of_database k stores) known.is
    ∙ ap (λ k. option_map_or (λ (x : Stored). x.slots) (slice_get stores k) []) (omega arith)
    ∙ ap (λ (o : Option Stored). option_map_or (λ (x : Stored). x.slots) o []) of_.found in
    subst (λ (dbd : Dbd). is_image dbd (image_bytes_at d s stores) ≡ true) of_.is
    (ap (λ (slots : List (List Row)). is_image of_.store.dbd (rows.rows_spelling (slice_index_or slots s []))) here
    ∙ slot_image of_.store.dbd slots.types (slice_index_or of_.store.slots s []) (slot_at of_.store.dbd of_.store.slots s slots.each))

images_known : (system : System) (unit d s : ℕ) (before after : List ℕ) (known : IsKnownSlot system d s) → is_image known.dbd before ≡ true → is_image known.dbd after ≡ true → is_image_of system (record_of.Change unit d s before after) ≡ true
images_known system unit d s before after known first second =
    let some : (d == 0) ≡ false = grind (arith, nat_tests, known.is) in
    let here : dbd_at system d ≡ Some known.dbd =
    ap (λ (b : Bool). if b then None else slice_get system.databases (d - 1)) some
    ∙ ap (λ k. slice_get system.databases k) (omega (arith, known.is))
    ∙ known.found in
    let low : nat_lt s known.dbd.roots ≡ true = grind (arith, nat_tests, known.below) in
    ap (are_images s before after) here ∙ both (nat_lt s known.dbd.roots && is_image known.dbd before) (is_image known.dbd after) (both (nat_lt s known.dbd.roots) (is_image known.dbd before) low first) second

-- ---- a region's unit changes these slots

-- A slot that a region changes is there, and the region has alone what is committed there.
pub record IsMoved (table : EnqueueTable) (region : ℕ) (old : SlotsState) (c : Change) : Type 0 where
  pub there : IsSlotOf old.stores c.db c.slot
  pub alone : HoldsAlone table region (resource_of c.db (image_at c.db c.slot old.committed))

-- The records tell of these slots, each once. All others stand as before, and what is committed stays. What the region has
-- touched then, it had touched or is one of them; what others have stays.
pub record Moves (unit region : ℕ) (table : EnqueueTable) (old new : SlotsState) (records : List Record) (touches : Touches) (cs : List Change) : Type 0 where
  pub told : records ≡ map (move_record unit old new) cs
  pub own : AreOwn cs
  pub each : AllByRecursion (IsMoved table region old) cs
  pub committed : new.committed ≡ old.committed
  pub still : (d s : ℕ) → 1 ≤ d → is_among d s cs ≡ false → image_at d s new.stores ≡ image_at d s old.stores
  pub mine : AllByRecursion (λ c. (is_among c.db c.slot cs ≡ true) ⊎ IsSome (touches unit c.db c.slot)) (touched_in region new)
  pub others : (other : ℕ) → 1 ≤ other → (other ≡ region → ⊥) → touched_in other new ≡ touched_in other old
  pub marks : AreMarked (λ d s. is_among d s cs) (slots_stores old) (slots_stores new)

some_of : (o : Option Touch) (t : Touch) → o ≡ Some t → IsSome o
some_of None t e = absurd cc
some_of (Some x) t e = refl

module _ (system : System) (n : ℕ) (lasting : LastingState) (before after : List (Option Slot)) (was table : EnqueueTable) (old new : SlotsState) (units : List ℕ) (next : ℕ) (life : LifeOnDisk)
    (l : IsLifeOf system lasting before was old units next life) (have : HaveSlots system.databases n old) (had : HaveSlots system.databases n new) (few_sectors : AllByRecursion (λ dbd. dbd.sectors ≤ 8) system.databases)
    (holds : HoldTouched table new) (leave : (other d : ℕ) (image : List Row) → HoldsAlone was other (resource_of d image) → HoldsAlone table other (resource_of d image)) (numbers : AreUnitsNumbered after units next)
    (unit region : ℕ) (least : 1 ≤ region) (found : slice_get units (region - 1) ≡ Some unit) (some : 0 < unit)
    (records : List Record) (cs : List Change) (m : Moves unit region table old new records life.touches cs) (valid : AllByRecursion IsLogRecord records)
    (fits : life.log.place + log_sectors_of (length (life.log.appended ++ flat_map record_spelling records)) ≤ life.log.count) (bytes : IsBytes (flat_map record_spelling records)) where
  abbrev changes : List SlotChange
  changes = moves unit old new cs

  abbrev pub moved : LifeOnDisk
  moved = with_slot_changes unit changes life

  stays : StaysSo life moved
  stays = stays_so unit changes life

  told_so : records_of unit changes ≡ records
  told_so = same_records unit old new cs ∙ sym m.told

  -- ---- the changes may be

  -- another unit's region holds another resource
  not_other : (other d s : ℕ) → other == unit ≡ false → HoldsAlone table region (resource_of d (image_at d s old.committed)) → (o : Option Touch) → life.touches other d s ≡ o → o ≡ None
  not_other other d s apart alone None is = refl
  not_other other d s apart alone (Some t) is =
      let by = l.touched.each other d s t is in
      let same : by.region ≡ region = one_holder table holds.compatible by.region region (resource_of d (image_at d s old.committed)) (leave by.region d (image_at d s old.committed) by.alone) alone in
      let one : Some other ≡ Some unit = sym by.found ∙ ap (λ r. slice_get units (r - 1)) same ∙ found in
      let equal : other == unit ≡ true = eq-eqb other unit cc in
      let clash : true ≡ false = sym equal ∙ apart in absurd cc

  known : (c : Change) → IsMoved table region old c → IsKnownSlot system c.db c.slot
  known c is = known_slot_of system n old have c.db c.slot is.there

  may_be : (c : Change) → IsMoved table region old c → IsLogRecord (move_record unit old new c) → MayBe unit (move_of unit old new c) life
  may_be c is right =
      let slot = known c is in
      record {
        alone = λ other apart. not_other other c.db c.slot apart is.alone (life.touches other c.db c.slot) refl;
        stood = sym (stands_so system old life l.of_system l.stores c.db c.slot slot);
        same = λ none. (
          marked_so system old life l.of_system l.stores c.db c.slot slot ∙ (m.marks.same c.db c.slot (omega (arith, slot.is)) none).0,
          ap (λ (image : List Row). rows.rows_spelling image) (m.marks.same c.db c.slot (omega (arith, slot.is)) none).1,
        );
        is_record = right;
        image = subst (λ (y : System). is_image_of y (move_record unit old new c) ≡ true) (sym l.of_system)
            (images_known system unit c.db c.slot (image_bytes_at c.db c.slot old.stores) (image_bytes_at c.db c.slot new.stores) slot
            (image_of_known system old.stores have.stores have.valid c.db c.slot slot) (image_of_known system new.stores had.stores had.valid c.db c.slot slot));
      }

  all_be : (some : List Change) → AllByRecursion (IsMoved table region old) some → AllByRecursion IsLogRecord (map (move_record unit old new) some) → AllByRecursion (λ c. MayBe unit c life) (moves unit old new some)
  all_be [] each right = tt
  all_be (c ∷ some) each right = (may_be c each.0 right.0, all_be some each.1 right.1)

  own_so : (some : List Change) → AreOwn some → AreOfOwn (moves unit old new some)
  own_so [] own = tt
  own_so (c ∷ some) own = (flipped unit old new some c.db c.slot ∙ own.0, own_so some own.1)

  syncs_yet : life.may_sync unit ≡ true
  syncs_yet = l.syncs.open_yet (region - 1) unit found some

  may_all : MayChangeAll unit changes life
  may_all =
      all_may unit changes life syncs_yet (own_so cs m.own) (all_be cs m.each (subst (λ (rs : List Record). AllByRecursion IsLogRecord rs) m.told valid))
      (subst (λ (rs : List Record). life.log.place + log_sectors_of (length (life.log.appended ++ flat_map record_spelling rs)) ≤ life.log.count) (sym told_so) fits)
      (subst (λ (rs : List Record). IsBytes (flat_map record_spelling rs)) (sym told_so) bytes)

  moved_life : IsLifeOnDisk moved
  moved_life = changes_life unit changes life l.is_life may_all

  -- ---- the slots then

  present_so : (d s : ℕ) → IsKnownSlot system d s → moved.present d s ≡ image_bytes_at d s new.stores
  present_so d s slot =
      present_behind unit (λ d s. image_bytes_at d s new.stores) changes life d s (after_so unit old new cs)
      ∙ by (changes_slot changes d s) refl where
        by : (b : Bool) → changes_slot changes d s ≡ b → (if b then image_bytes_at d s new.stores else life.present d s) ≡ image_bytes_at d s new.stores
        by true e = refl
        by false e =
            stands_so system old life l.of_system l.stores d s slot
            ∙ ap (λ (image : List Row). rows.rows_spelling image) (sym (m.still d s (omega (arith, slot.is)) (sym (flipped unit old new cs d s) ∙ e)))

  known_there : (place number : ℕ) (dbd : Dbd) → slice_get system.databases place ≡ Some dbd → number < dbd.roots → IsKnownSlot system (place + 1) number
  known_there place number dbd found below = record { place = place; is = refl; dbd = dbd; found = found; below = below }

  -- a slot that wasn't changed is marked as before
  marked_still : (d s : ℕ) → 1 ≤ d → is_among d s cs ≡ false → is_marked old.changed d s ≡ is_marked new.changed d s
  marked_still d s low apart = by (is_marked new.changed d s) refl where
    by : (b : Bool) → is_marked new.changed d s ≡ b → is_marked old.changed d s ≡ is_marked new.changed d s
    by false is = (m.marks.same d s low is).0 ∙ sym is
    by true is =
        ⊎_elim
        (λ (was : is_marked old.changed d s ≡ true). was ∙ sym is)
        (λ (among : is_among d s cs ≡ true). let clash : true ≡ false = sym among ∙ apart in absurd cc)
        (m.marks.only d s low is)

  marks_then : (d s : ℕ) → IsKnownSlot system d s → moved.changed d s ≡ is_marked new.changed d s
  marks_then d s slot =
      changed_behind unit (λ d s. is_marked new.changed d s) changes life d s (marked_so_far unit old new cs)
      ∙ by (changes_slot changes d s) refl where
        by : (b : Bool) → changes_slot changes d s ≡ b → (if b then is_marked new.changed d s else life.changed d s) ≡ is_marked new.changed d s
        by true e = refl
        by false e =
            marked_so system old life l.of_system l.stores d s slot
            ∙ marked_still d s (omega (arith, slot.is)) (sym (flipped unit old new cs d s) ∙ e)

  -- ---- what units touched then

  transfer : (other d s : ℕ) → IsTouchedBy was old units other d s → IsTouchedBy table new units other d s
  transfer other d s by = record {
    region = by.region;
    least = by.least;
    found = by.found;
    some = by.some;
    there = stays_there system n n old new have had d s by.there;
    alone = subst (λ (stores : List Stored). HoldsAlone table by.region (resource_of d (image_at d s stores))) (sym m.committed) (leave by.region d (image_at d s old.committed) by.alone);
  }

  mine_so : (d s : ℕ) → IsAmong (IsMoved table region old) d s → IsTouchedBy table new units unit d s
  mine_so d s is = record {
    region = region;
    least = least;
    found = found;
    some = some;
    there = stays_there system n n old new have had d s (subst (λ k. IsSlotOf old.stores d k) is.number (subst (λ k. IsSlotOf old.stores k is.slot.slot) is.database is.holds.there));
    alone =
        subst (λ (stores : List Stored). HoldsAlone table region (resource_of d (image_at d s stores))) (sym m.committed)
        (subst (λ k. HoldsAlone table region (resource_of d (image_at d k old.committed))) is.number
        (subst (λ k. HoldsAlone table region (resource_of k (image_at k is.slot.slot old.committed))) is.database is.holds.alone));
  }

  touched_then : (other d s : ℕ) (t : Touch) → moved.touches other d s ≡ Some t → IsTouchedBy table new units other d s
  touched_then other d s t is = by (other == unit) refl where
    had_touch : (o : Option Touch) → life.touches unit d s ≡ o → is_some o ≡ true → IsTouchedBy table new units unit d s
    had_touch None e h = absurd cc
    had_touch (Some x) e h = transfer unit d s (l.touched.each unit d s x e)

    own : (b : Bool) → changes_slot changes d s ≡ b → (b || is_some (life.touches unit d s)) ≡ true → IsTouchedBy table new units unit d s
    own true e h = mine_so d s (among_holds (IsMoved table region old) d s cs m.each (sym (flipped unit old new cs d s) ∙ e))
    own false e h = had_touch (life.touches unit d s) refl h

    by : (b : Bool) → other == unit ≡ b → IsTouchedBy table new units other d s
    by true e =
        let same : other ≡ unit = eqb-true other unit e in
        subst (λ u. IsTouchedBy table new units u d s) (sym same)
        (own (changes_slot changes d s) refl
        (sym (own_behind unit changes life d s) ∙ ap (λ u. is_some (moved.touches u d s)) (sym same) ∙ some_of (moved.touches other d s) t is))
    by false e = transfer other d s (l.touched.each other d s t (sym (others_behind unit other changes life d s e) ∙ is))

  -- what was touched is touched then
  still_touched : (other d s : ℕ) → IsSome (life.touches other d s) → IsSome (moved.touches other d s)
  still_touched other d s h = by (other == unit) refl where
    either : (a b : Bool) → b ≡ true → a || b ≡ true
    either true b k = refl
    either false b k = k

    by : (b : Bool) → other == unit ≡ b → IsSome (moved.touches other d s)
    by true e =
        let same : other ≡ unit = eqb-true other unit e in
        subst (λ u. IsSome (moved.touches u d s)) (sym same)
        (own_behind unit changes life d s ∙ either (changes_slot changes d s) (is_some (life.touches unit d s)) (subst (λ u. IsSome (life.touches u d s)) same h))
    by false e = ap (λ (o : Option Touch). is_some o) (others_behind unit other changes life d s e) ∙ h

  all_still : (other : ℕ) (slots : List Change) → AllByRecursion (λ c. IsSome (life.touches other c.db c.slot)) slots → AllByRecursion (λ c. IsSome (moved.touches other c.db c.slot)) slots
  all_still other [] all = tt
  all_still other (c ∷ slots) all = (still_touched other c.db c.slot all.0, all_still other slots all.1)

  all_mine : (slots : List Change) → AllByRecursion (λ c. (is_among c.db c.slot cs ≡ true) ⊎ IsSome (life.touches unit c.db c.slot)) slots → AllByRecursion (λ c. IsSome (moved.touches unit c.db c.slot)) slots
  all_mine [] all = tt
  all_mine (c ∷ slots) all = (by all.0, all_mine slots all.1) where
    by : (is_among c.db c.slot cs ≡ true) ⊎ IsSome (life.touches unit c.db c.slot) → IsSome (moved.touches unit c.db c.slot)
    by (inl among) = own_behind unit changes life c.db c.slot ∙ ap (λ b. b || is_some (life.touches unit c.db c.slot)) (flipped unit old new cs c.db c.slot ∙ among)
    by (inr touched) = still_touched unit c.db c.slot touched

  unit_is : unit_of_region units region ≡ unit
  unit_is = Rattle.disk_law.proofs.Recovering.index_found units (region - 1) unit 0 found

  kept_then : (other : ℕ) → 1 ≤ other → AllByRecursion (λ c. IsSome (moved.touches (unit_of_region units other) c.db c.slot)) (touched_in other new)
  kept_then other low = by (same_or_apart other region) where
    by : (other ≡ region) ⊎ (other ≡ region → ⊥) → AllByRecursion (λ c. IsSome (moved.touches (unit_of_region units other) c.db c.slot)) (touched_in other new)
    by (inl same) =
        subst (λ r. AllByRecursion (λ c. IsSome (moved.touches (unit_of_region units r) c.db c.slot)) (touched_in r new)) (sym same)
        (subst (λ u. AllByRecursion (λ c. IsSome (moved.touches u c.db c.slot)) (touched_in region new)) (sym unit_is) (all_mine (touched_in region new) m.mine))
    by (inr apart) =
        subst (λ (slots : List Change). AllByRecursion (λ c. IsSome (moved.touches (unit_of_region units other) c.db c.slot)) slots) (sym (m.others other low apart))
        (all_still (unit_of_region units other) (touched_in other old) (l.touched.kept other low))

  -- ---- the life then

  behind_is : IsLifeOf system lasting after table new units next moved
  behind_is = record {
    of_system = stays.system ∙ l.of_system;
    lasts = stays.lasting ∙ l.lasts;
    names = l.names;
    counted = l.counted;
    is_life = moved_life;
    stores = has_stores system n new had few_sectors moved (stays.system ∙ l.of_system)
        (λ place number dbd found below. present_so (place + 1) number (known_there place number dbd found below))
        (λ place number dbd found below. marks_then (place + 1) number (known_there place number dbd found below));
    committed = λ place number dbd found below.
        ap (λ (b : Bytes). b (place + 1) number) stays.committed
        ∙ l.committed place number dbd found below
        ∙ ap (λ (stores : List Stored). image_bytes_at (place + 1) number stores) (sym m.committed);
    numbers = numbers;
    touched = record { each = touched_then; kept = kept_then };
    syncs = record {
      open_yet = λ place u is some. ap (λ (f : ℕ → Bool). f u) stays.may_sync ∙ l.syncs.open_yet place u is some;
      to_come = λ u above. ap (λ (f : ℕ → Bool). f u) stays.may_sync ∙ l.syncs.to_come u above;
    };
  }

  -- The records are appended, and the life goes on.
  pub moves_on : Continues (flat_map record_spelling records) (IsLifeOf system lasting after table new units next) life
  moves_on = record {
    behind = moved;
    text = stays.text;
    now = stays.now;
    log = log_behind unit changes life ∙ ap (λ (rs : List Record). with_bytes_behind (flat_map record_spelling rs) life.log) told_so;
    goes = goes_by_changes unit changes life may_all;
    is = behind_is;
  }
