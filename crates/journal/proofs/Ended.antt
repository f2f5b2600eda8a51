-- A region's unit ends: what the life says of units and slots then.
use Rattle.std.proofs.Common.{◌≡◌, ◌⊎◌, inl, inr, ℕ, zero, suc, ◌+◌, ◌-◌, ◌<◌, ◌≤◌, Bool, true, false, not, ◌&&◌, List, [], ◌∷◌, refl, sym, ◌∙◌, ap, subst, arith, Some, None, IsSome}
use Rattle.std.specs.Prelude.{Option, ◌==◌, slice_get, slice_index_or, slice_set, if◌then◌else◌}
use Rattle.std.specs.List.{AllByRecursion}
use Rattle.std.specs.Option.{is_some, option_map_or}
use Rattle.std.proofs.lemmas.Bool.{eq-eqb, ne_eqb}
use Rattle.tm_types.specs.declared.dbd.Dbd.{Dbd}
use Rattle.model_data.specs.declared.row.Row.{Row}
use Rattle.model_data.specs.Record as rows
use Rattle.model_system.specs.System.{System}
use Rattle.model_machine.specs.Machine.{LastingState, Slot}
use Rattle.model_data.specs.Table.{EnqueueTable}
use Rattle.seg_store.specs.Slots.{Stored}
use Rattle.unit_work.specs.declared.change.Change.{Change}
use Rattle.unit_work.specs.Changes.{is_seen}
use Rattle.unit_work.specs.Images.{image_at, image_bytes_at, IsSlotOf}
use Rattle.disk_law.specs.CommittedBytes.{Touch, Touches, without_touches, without_sync, synced}
use Rattle.disk_law.specs.Life.{LifeOnDisk}
use Rattle.disk_law.specs.SlotChanges.{put_back, MarksBack}
use Rattle.disk_law.proofs.Changing.{IsKnownSlot}
use Rattle.disk_law.proofs.Recovering.{index_found}
use Rattle.unit_work.specs.Marks.{is_marked}
use Rattle.program_rows.specs.OpenUnits.{HoldsAlone}
use Rattle.program_rows.specs.SlotsState.{SlotsState, HaveSlots, IsTouchedSlot, CommitsSo, GivesUpSo, touched_in, with_touched}
use Rattle.journal.specs.UnitNumbers.{unit_of_region, with_unit}
use Rattle.journal.specs.CarriedLife.{resource_of, HoldTouched, IsTouchedBy, AreTouchedBy, MaySync, IsLifeOf}
use Rattle.journal.proofs.Holding.{one_holder}
use Rattle.journal.proofs.Numbers.{same_or_apart, set_at, IsSetAt, set_else, index_else, index_here}
use Rattle.journal.proofs.Places.{is_among, among_at, all_two, unseen, among_seen}
use Rattle.journal.proofs.Stores.{stands_so, marked_so}

-- ---- lists

pub get_of_index : (xs : List ℕ) (k u : ℕ) → slice_index_or xs k 0 ≡ u → 0 < u → slice_get xs k ≡ Some u
get_of_index [] k u is some = absurd (omega (arith, is, some))
get_of_index (x ∷ xs) zero u is some = ap (λ v. Some v) is
get_of_index (x ∷ xs) (suc k) u is some = get_of_index xs k u is some

-- the slots that a region has touched, where another one's are set
pub touched_else : (slots : SlotsState) (new : List (List Change)) (region other : ℕ) (mine : List Change) → 1 ≤ region → 1 ≤ other → (other ≡ region → ⊥) → new ≡ with_touched region mine slots → slice_index_or new (other - 1) [] ≡ touched_in other slots
touched_else slots new region other mine least low apart is =
    ap (λ (t : List (List Change)). slice_index_or t (other - 1) []) is
    ∙ index_else slots.touched (region - 1) mine (other - 1) [] (λ e. apart (omega (arith, least, low, e)))

-- none is touched where none is set
pub none_touched : (slots : SlotsState) (new : List (List Change)) (region : ℕ) → new ≡ with_touched region [] slots → slice_index_or new (region - 1) [] ≡ []
none_touched slots new region is = ap (λ (t : List (List Change)). slice_index_or t (region - 1) []) is ∙ by (index_here slots.touched (region - 1) [] []) where
  by : (slice_index_or (slice_set slots.touched (region - 1) []) (region - 1) [] ≡ []) ⊎ (slice_index_or (slice_set slots.touched (region - 1) []) (region - 1) [] ≡ []) → slice_index_or (slice_set slots.touched (region - 1) []) (region - 1) [] ≡ []
  by (inl e) = e
  by (inr e) = e

-- ---- touches and units

still : (touches : Touches) (unit one d s : ℕ) (t : Touch) (b : Bool) → (if b then None else touches one d s) ≡ Some t → touches one d s ≡ Some t
still touches unit one d s t true is = absurd cc
still touches unit one d s t false is = is

not_it : (touches : Touches) (one d s : ℕ) (t : Touch) (b : Bool) → (if b then None else touches one d s) ≡ Some t → b ≡ false
not_it touches one d s t true is = absurd cc
not_it touches one d s t false is = refl

-- a region has alone what is committed in a slot that it keeps
pub holds_slot : (table : EnqueueTable) (slots : SlotsState) (region : ℕ) → HoldTouched table slots → 1 ≤ region → AllByRecursion (IsTouchedSlot slots) (touched_in region slots) → (d s : ℕ) → is_among d s (touched_in region slots) ≡ true
    → HoldsAlone table region (resource_of d (image_at d s slots.committed))
holds_slot table slots region holds least each d s among =
    among_at (λ d s. HoldsAlone table region (resource_of d (image_at d s slots.committed))) d s (touched_in region slots)
    (all_two (λ c. HoldsAlone table region (resource_of c.db c.before)) (IsTouchedSlot slots) (λ c. HoldsAlone table region (resource_of c.db (image_at c.db c.slot slots.committed)))
    (λ c alone is. subst (λ (image : List Row). HoldsAlone table region (resource_of c.db image)) is.first alone) (touched_in region slots) (holds.held region least) each)
    among

module _ (system : System) (n : ℕ) (lasting : LastingState) (before : List (Option Slot)) (was table : EnqueueTable) (old : SlotsState) (units : List ℕ) (next : ℕ) (life : LifeOnDisk)
    (l : IsLifeOf system lasting before was old units next life) (have : HaveSlots system.databases n old) (holds : HoldTouched was old)
    (unit region : ℕ) (least : 1 ≤ region) (found : slice_get units (region - 1) ≡ Some unit) (some : 0 < unit) where
  unit_is : unit_of_region units region ≡ unit
  unit_is = index_found units (region - 1) unit 0 found

  -- what the region keeps its unit touched
  keeps_touch : (d s : ℕ) → is_among d s (touched_in region old) ≡ true → IsSome (life.touches unit d s)
  keeps_touch d s among =
      subst (λ u. IsSome (life.touches u d s)) unit_is
      (among_at (λ d s. IsSome (life.touches (unit_of_region units region) d s)) d s (touched_in region old) (l.touched.kept region least) among)

  -- a slot that another region keeps isn't one of which this one holds what is committed
  kept_by_one : (other d s : ℕ) → 1 ≤ other → HoldsAlone was region (resource_of d (image_at d s old.committed)) → is_among d s (touched_in other old) ≡ true → other ≡ region
  kept_by_one other d s low alone among =
      one_holder was holds.compatible other region (resource_of d (image_at d s old.committed))
      (holds_slot was old other holds low (have.touched other).each d s among) alone

  -- what this region doesn't keep of that, none does
  kept_by_none : (d s : ℕ) → HoldsAlone was region (resource_of d (image_at d s old.committed)) → is_among d s (touched_in region old) ≡ false → (other : ℕ) → is_seen d s (touched_in other old) ≡ false
  kept_by_none d s alone none other = unseen d s (touched_in other old) (by other (is_among d s (touched_in other old)) refl) where
    positive : (r : ℕ) → 1 ≤ r → (b : Bool) → is_among d s (touched_in r old) ≡ b → b ≡ false
    positive r low true e =
        let same = kept_by_one r d s low alone e in
        let clash : true ≡ false = sym e ∙ ap (λ k. is_among d s (touched_in k old)) same ∙ none in absurd cc
    positive r low false e = refl

    by : (r : ℕ) (b : Bool) → is_among d s (touched_in r old) ≡ b → b ≡ false
    by zero b e = positive 1 (omega arith) b e
    by (suc r) b e = positive (suc r) (omega arith) b e

  its_region : (d s : ℕ) → (by : IsTouchedBy was old units unit d s) → by.region ≡ region
  its_region d s by = let same = l.numbers.apart (by.region - 1) (region - 1) unit by.found found some in omega (arith, same, by.least, least)

  -- the region has alone what is committed in a slot that the unit touched
  alone_in : (d s : ℕ) (t : Touch) → life.touches unit d s ≡ Some t → HoldsAlone was region (resource_of d (image_at d s old.committed))
  alone_in d s t is =
      let by = l.touched.each unit d s t is in subst (λ r. HoldsAlone was r (resource_of d (image_at d s old.committed))) (its_region d s by) by.alone

  -- a slot that the unit touched and the region doesn't keep stands as it is committed
  pub stands_committed : (d s : ℕ) (t : Touch) → life.touches unit d s ≡ Some t → is_among d s (touched_in region old) ≡ false → image_at d s old.committed ≡ image_at d s old.stores
  stands_committed d s t is none = have.untouched d s (l.touched.each unit d s t is).there.least (kept_by_none d s (alone_in d s t is) none)

  pub committed_so : (d s : ℕ) → IsKnownSlot system d s → life.committed d s ≡ image_bytes_at d s old.committed
  committed_so d s known =
      ap (λ k. life.committed k s) known.is ∙ l.committed known.place s known.dbd known.found known.below ∙ sym (ap (λ k. image_bytes_at k s old.committed) known.is)

  bytes_same : (d s : ℕ) (one other : List Stored) → image_at d s one ≡ image_at d s other → image_bytes_at d s one ≡ image_bytes_at d s other
  bytes_same d s one other is = ap (λ (image : List Row). rows.rows_spelling image) is

  unkept : (d s : ℕ) → life.touches unit d s ≡ None → is_among d s (touched_in region old) ≡ false
  unkept d s none = by (is_among d s (touched_in region old)) refl where
    by : (b : Bool) → is_among d s (touched_in region old) ≡ b → b ≡ false
    by false e = refl
    by true e = let clash : true ≡ false = sym (keeps_touch d s e) ∙ ap (λ (o : Option Touch). is_some o) none in absurd cc

  -- ---- what it has changed is taken back

  module _ (new : SlotsState) (up : GivesUpSo region old new) where
    first_back : (d s : ℕ) → is_among d s (touched_in region old) ≡ true → image_at d s new.stores ≡ image_at d s old.committed
    first_back d s among =
        among_at (λ d s. image_at d s new.stores ≡ image_at d s old.committed) d s (touched_in region old)
        (all_two (λ c. image_at c.db c.slot new.stores ≡ c.before) (IsTouchedSlot old) (λ c. image_at c.db c.slot new.stores ≡ image_at c.db c.slot old.committed) (λ c back is. back ∙ is.first) (touched_in region old) up.each (have.touched region).each)
        among

    others_stand : (d s : ℕ) → 1 ≤ d → is_among d s (touched_in region old) ≡ false → image_at d s new.stores ≡ image_at d s old.stores
    others_stand d s low none = up.others d s low (unseen d s (touched_in region old) none)

    -- the slots of the life are put back so
    pub put_so : (d s : ℕ) → IsKnownSlot system d s → put_back unit life.touches life.present d s ≡ image_bytes_at d s new.stores
    put_so d s known = by (life.touches unit d s) refl where
      kept_or_not : (t : Touch) → life.touches unit d s ≡ Some t → (b : Bool) → is_among d s (touched_in region old) ≡ b → image_at d s old.committed ≡ image_at d s new.stores
      kept_or_not t is true e = sym (first_back d s e)
      kept_or_not t is false e = stands_committed d s t is e ∙ sym (others_stand d s (omega (arith, known.is)) e)

      by : (o : Option Touch) → life.touches unit d s ≡ o → option_map_or (λ (t : Touch). t.first) o (life.present d s) ≡ image_bytes_at d s new.stores
      by None none =
          stands_so system old life l.of_system l.stores d s known
          ∙ bytes_same d s old.stores new.stores (sym (others_stand d s (omega (arith, known.is)) (unkept d s none)))
      by (Some t) is =
          l.is_life.slots.firsts unit d s t is
          ∙ committed_so d s known
          ∙ bytes_same d s old.committed new.stores (kept_or_not t is (is_among d s (touched_in region old)) refl)

    known_there : (place number : ℕ) (dbd : Dbd) → slice_get life.system.databases place ≡ Some dbd → number < dbd.roots → IsKnownSlot system (place + 1) number
    known_there place number dbd found below =
        record { place = place; is = refl; dbd = dbd; found = subst (λ (y : System). slice_get y.databases place ≡ Some dbd) l.of_system found; below = below }

    -- and are marked so
    pub marks_back : MarksBack unit (λ d s. is_marked new.changed d s) life
    marks_back = record {
      same = λ place number dbd found below none.
          let known = known_there place number dbd found below in
          let both = up.marks.same (place + 1) number (omega arith) none in (
            marked_so system old life l.of_system l.stores (place + 1) number known ∙ both.0,
            put_so (place + 1) number known ∙ bytes_same (place + 1) number new.stores old.stores both.1 ∙ sym (stands_so system old life l.of_system l.stores (place + 1) number known),
          );
      only = λ place number dbd found below is none.
          let known = known_there place number dbd found below in
          marked_so system old life l.of_system l.stores (place + 1) number known ∙ by (place + 1) number none (up.marks.only (place + 1) number (omega arith) is);
    } where
      by : (d s : ℕ) → life.touches unit d s ≡ None → (is_marked old.changed d s ≡ true) ⊎ (is_seen d s (touched_in region old) ≡ true) → is_marked old.changed d s ≡ true
      by d s none (inl was_marked) = was_marked
      by d s none (inr seen) = let clash : true ≡ false = sym (among_seen d s (touched_in region old) seen) ∙ unkept d s none in absurd cc

  -- ---- what it has changed is committed

  module _ (new : SlotsState) (commits : CommitsSo region old new) where
    others_committed : (d s : ℕ) → 1 ≤ d → is_among d s (touched_in region old) ≡ false → image_at d s new.committed ≡ image_at d s old.committed
    others_committed d s low none = commits.others d s low (unseen d s (touched_in region old) none)

    pub synced_so : (d s : ℕ) → IsKnownSlot system d s → synced unit life.touches life.committed d s ≡ image_bytes_at d s new.committed
    synced_so d s known = by (life.touches unit d s) refl where
      kept_or_not : (t : Touch) → life.touches unit d s ≡ Some t → (b : Bool) → is_among d s (touched_in region old) ≡ b → image_at d s old.stores ≡ image_at d s new.committed
      kept_or_not t is true e = sym (among_at (λ d s. image_at d s new.committed ≡ image_at d s old.stores) d s (touched_in region old) commits.each e)
      kept_or_not t is false e = sym (stands_committed d s t is e) ∙ sym (others_committed d s (omega (arith, known.is)) e)

      by : (o : Option Touch) → life.touches unit d s ≡ o → option_map_or (λ (t : Touch). t.present) o (life.committed d s) ≡ image_bytes_at d s new.committed
      by None none =
          committed_so d s known ∙ bytes_same d s old.committed new.committed (sym (others_committed d s (omega (arith, known.is)) (unkept d s none)))
      by (Some t) is =
          l.is_life.slots.touched unit d s t is
          ∙ stands_so system old life l.of_system l.stores d s known
          ∙ bytes_same d s old.stores new.committed (kept_or_not t is (is_among d s (touched_in region old)) refl)

    -- what another region holds of what is committed stays
    pub held_committed : (other d s : ℕ) → 1 ≤ other → (other ≡ region → ⊥) → 1 ≤ d → HoldsAlone was other (resource_of d (image_at d s old.committed)) → image_at d s new.committed ≡ image_at d s old.committed
    held_committed other d s low apart some alone = by (is_among d s (touched_in region old)) refl where
      by : (b : Bool) → is_among d s (touched_in region old) ≡ b → image_at d s new.committed ≡ image_at d s old.committed
      by false e = others_committed d s some e
      by true e =
          absurd (apart (one_holder was holds.compatible other region (resource_of d (image_at d s old.committed)) alone (holds_slot was old region holds least (have.touched region).each d s e)))

  -- ---- the units then

  module _ (new : SlotsState) (there : (d s : ℕ) → IsSlotOf old.stores d s → IsSlotOf new.stores d s) (touched : new.touched ≡ with_touched region [] old)
      (leave : (other d : ℕ) (image : List Row) → (other ≡ region → ⊥) → HoldsAlone was other (resource_of d image) → HoldsAlone table other (resource_of d image))
      (committed : (other d s : ℕ) → 1 ≤ other → (other ≡ region → ⊥) → 1 ≤ d → HoldsAlone was other (resource_of d (image_at d s old.committed)) → image_at d s new.committed ≡ image_at d s old.committed)
      (number later : ℕ) (fresh : (number ≡ 0) ⊎ (next ≤ number)) (low : number < later) (more : next ≤ later) where
    not_its : (one d s : ℕ) (by : IsTouchedBy was old units one d s) → one == unit ≡ false → by.region ≡ region → ⊥
    not_its one d s by apart same =
        let is : Some one ≡ Some unit = sym by.found ∙ ap (λ r. slice_get units (r - 1)) same ∙ found in
        let equal : one == unit ≡ true = eq-eqb one unit cc in
        let clash : true ≡ false = sym equal ∙ apart in cc

    stays_touched : (one d s : ℕ) → one == unit ≡ false → IsTouchedBy was old units one d s → IsTouchedBy table new (with_unit region number units) one d s
    stays_touched one d s apart by =
        let other = not_its one d s by apart in
        let same = committed by.region d s by.least other by.there.least by.alone in
        record {
          region = by.region;
          least = by.least;
          found = set_else units (region - 1) number (by.region - 1) (λ e. other (omega (arith, e, least, by.least))) ∙ by.found;
          some = by.some;
          there = there d s by.there;
          alone = subst (λ (image : List Row). HoldsAlone table by.region (resource_of d image)) (sym same) (leave by.region d (image_at d s old.committed) other by.alone);
        }

    units_each : (one d s : ℕ) (t : Touch) → without_touches unit life.touches one d s ≡ Some t → IsTouchedBy table new (with_unit region number units) one d s
    units_each one d s t is =
        stays_touched one d s (not_it life.touches one d s t (one == unit) is) (l.touched.each one d s t (still life.touches unit one d s t (one == unit) is))

    -- the number of another region's unit is another one
    other_number : (other : ℕ) → 1 ≤ other → (other ≡ region → ⊥) → unit_of_region units other == unit ≡ false
    other_number other low apart =
        ne_eqb (unit_of_region units other) unit (λ same.
        let found_there = get_of_index units (other - 1) unit same some in
        let one = l.numbers.apart (other - 1) (region - 1) unit found_there found some in apart (omega (arith, one, low, least)))

    others_kept : (other : ℕ) → unit_of_region units other == unit ≡ false → (slots : List Change) → AllByRecursion (λ c. IsSome (life.touches (unit_of_region units other) c.db c.slot)) slots
        → AllByRecursion (λ c. IsSome (without_touches unit life.touches (unit_of_region units other) c.db c.slot)) slots
    others_kept other apart [] all = tt
    others_kept other apart (c ∷ slots) all =
        (ap (λ b. is_some (if b then None else life.touches (unit_of_region units other) c.db c.slot)) apart ∙ all.0, others_kept other apart slots all.1)

    units_kept : (other : ℕ) → 1 ≤ other → AllByRecursion (λ c. IsSome (without_touches unit life.touches (unit_of_region (with_unit region number units) other) c.db c.slot)) (touched_in other new)
    units_kept other low = by (same_or_apart other region) where
      by : (other ≡ region) ⊎ (other ≡ region → ⊥) → AllByRecursion (λ c. IsSome (without_touches unit life.touches (unit_of_region (with_unit region number units) other) c.db c.slot)) (touched_in other new)
      by (inl same) =
          subst (λ (slots : List Change). AllByRecursion (λ c. IsSome (without_touches unit life.touches (unit_of_region (with_unit region number units) other) c.db c.slot)) slots)
          (sym (none_touched old new.touched region touched) ∙ ap (λ r. touched_in r new) (sym same)) tt
      by (inr apart) =
          subst (λ (slots : List Change). AllByRecursion (λ c. IsSome (without_touches unit life.touches (unit_of_region (with_unit region number units) other) c.db c.slot)) slots)
          (sym (touched_else old new.touched region other [] least low apart touched))
          (subst (λ u. AllByRecursion (λ c. IsSome (without_touches unit life.touches u c.db c.slot)) (touched_in other old))
          (sym (index_else units (region - 1) number (other - 1) 0 (λ e. apart (omega (arith, e, least, low)))))
          (others_kept other (other_number other low apart) (touched_in other old) (l.touched.kept other low)))

    pub units_then : AreTouchedBy table new (with_unit region number units) (without_touches unit life.touches)
    units_then = record { each = units_each; kept = units_kept }

    synced_other : (u : ℕ) → (u ≡ unit → ⊥) → life.may_sync u ≡ true → without_sync unit life.may_sync u ≡ true
    synced_other u apart may = ap (λ b. not b && life.may_sync u) (ne_eqb u unit apart) ∙ may

    pub syncs_then : MaySync (with_unit region number units) later (without_sync unit life.may_sync)
    syncs_then = record { open_yet = open_then; to_come = λ u above. synced_other u (λ e. omega (arith, e, above, more, l.numbers.below (region - 1) unit found)) (l.syncs.to_come u (omega (arith, above, more))) } where
      open_then : (place u : ℕ) → slice_get (with_unit region number units) place ≡ Some u → 0 < u → without_sync unit life.may_sync u ≡ true
      open_then place u is positive = by (set_at units (region - 1) number place u is) (same_or_apart place (region - 1)) where
        fresh_number : (v : ℕ) → u ≡ v → (v ≡ 0) ⊎ (next ≤ v) → without_sync unit life.may_sync u ≡ true
        fresh_number v same (inl none) = absurd (omega (arith, same, none, positive))
        fresh_number v same (inr above) =
            synced_other u (λ e. omega (arith, e, same, above, l.numbers.below (region - 1) unit found)) (l.syncs.to_come u (omega (arith, same, above)))

        by : IsSetAt units (region - 1) number place u → (place ≡ region - 1) ⊎ (place ≡ region - 1 → ⊥) → without_sync unit life.may_sync u ≡ true
        by a (inl same) = fresh_number number (a.here same) fresh
        by a (inr apart) =
            synced_other u
            (λ e. apart (l.numbers.apart place (region - 1) unit (subst (λ v. slice_get units place ≡ Some v) e (a.there apart)) found some))
            (l.syncs.open_yet place u (a.there apart) positive)
