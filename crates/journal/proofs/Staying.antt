-- What leaves the life on the disk as it is: a region takes a message or asks for what it waits for, and victims give up.
use Rattle.std.proofs.Common.{◌≡◌, ◌⊎◌, inl, inr, ℕ, ◌+◌, ◌-◌, ◌≤◌, ◌<◌, Bool, true, List, [], ◌∷◌, Option, Some, None, IsSome, refl, sym, ◌∙◌, ap, subst, arith, append-nil}
use Rattle.std.specs.Prelude.{slice_get, slice_index_or}
use Rattle.std.specs.List.{AllByRecursion}
use Rattle.tm_types.specs.declared.dbd.Dbd.{Dbd}
use Rattle.model_data.specs.declared.row.Row.{Row}
use Rattle.model_system.specs.System.{System}
use Rattle.model_data.specs.Table.{EnqueueTable}
use Rattle.model_machine.specs.Machine.{LastingState, Slot}
use Rattle.log_writer.specs.Writer.{Writer}
use Rattle.seg_store.specs.Slots.{Stored}
use Rattle.unit_work.specs.declared.change.Change.{Change}
use Rattle.unit_work.specs.Images.{image_at, image_bytes_at, IsSlotOf}
use Rattle.disk_law.specs.CommittedBytes.{Touch}
use Rattle.disk_law.specs.Life.{LifeOnDisk}
use Rattle.disk_law.specs.SlotChanges.{with_bytes_behind, life_without_unit}
use Rattle.disk_law.proofs.Changing.{IsKnownSlot, without_life}
use Rattle.disk_law.proofs.OnDisk.{goes_nowhere, goes_by_end}
use Rattle.unit_work.specs.Marks.{is_marked}
use Rattle.program_rows.specs.OpenUnits.{HoldsAlone}
use Rattle.program_rows.specs.SlotsState.{SlotsState, HaveSlots, GivesUpSo, touched_in}
use Rattle.journal.specs.UnitNumbers.{AreUnitsNumbered, unit_of_region, with_unit}
use Rattle.journal.specs.CarriedLife.{resource_of, HoldTouched, IsTouchedBy, IsLifeOf}
use Rattle.journal.specs.LifeByCall.{Continues}
use Rattle.journal.proofs.Ended.{put_so, marks_back, units_then, syncs_then}
use Rattle.journal.proofs.Numbers.{same_or_apart, set_at, IsSetAt, set_else, index_else}
use Rattle.journal.proofs.Stores.{has_stores, stays_there}

-- nothing is appended
pub no_bytes : (log : Writer) → log ≡ with_bytes_behind [] log
no_bytes log = ap (λ (b : List ℕ). record log { appended = b }) (sym (append-nil log.appended))

module _ (system : System) (lasting : LastingState) (before after : List (Option Slot)) (was table : EnqueueTable) (slots : SlotsState) (units : List ℕ) (next : ℕ) (life : LifeOnDisk)
    (l : IsLifeOf system lasting before was slots units next life)
    (leave : (other d : ℕ) (image : List Row) → HoldsAlone was other (resource_of d image) → HoldsAlone table other (resource_of d image)) where
  -- The regions hold no less, and the same have messages.
  pub goes_with : AreUnitsNumbered after units next → IsLifeOf system lasting after table slots units next life
  goes_with numbers = record {
    of_system = l.of_system;
    lasts = l.lasts;
    names = l.names;
    counted = l.counted;
    is_life = l.is_life;
    stores = l.stores;
    committed = l.committed;
    numbers = numbers;
    touched = record {
      each = λ unit d s t is.
          let by = l.touched.each unit d s t is in
          record { region = by.region; least = by.least; found = by.found; some = by.some; there = by.there; alone = leave by.region d (image_at d s slots.committed) by.alone };
      kept = l.touched.kept;
    };
    syncs = l.syncs;
  }

  -- So nothing happens on the disk.
  pub stays_as : AreUnitsNumbered after units next → Continues [] (IsLifeOf system lasting after table slots units next) life
  stays_as numbers = record { behind = life; text = refl; now = refl; log = no_bytes life.log; goes = goes_nowhere life; is = goes_with numbers }

  -- ---- an empty region takes a message

  module _ (region : ℕ) (least : 1 ≤ region) (empty : unit_of_region units region ≡ 0) (numbers : AreUnitsNumbered after (with_unit region next units) (next + 1)) where
    -- it keeps nothing
    none_kept : (some : List Change) → AllByRecursion (λ c. IsSome (life.touches (unit_of_region units region) c.db c.slot)) some → some ≡ []
    none_kept [] all = refl
    none_kept (c ∷ some) all = absurd (by (life.touches (unit_of_region units region) c.db c.slot) refl all.0) where
      by : (o : Option Touch) → life.touches (unit_of_region units region) c.db c.slot ≡ o → IsSome o → ⊥
      by None e h = cc
      by (Some t) e h = omega (arith, (l.touched.each (unit_of_region units region) c.db c.slot t e).some, empty)

    other_region : (unit d s : ℕ) (by : IsTouchedBy was slots units unit d s) → by.region ≡ region → ⊥
    other_region unit d s by same =
        omega (arith, by.some, empty, Rattle.disk_law.proofs.Recovering.index_found units (by.region - 1) unit 0 by.found, ap (λ r. slice_index_or units (r - 1) 0) same)

    each_then : (unit d s : ℕ) (t : Touch) → life.touches unit d s ≡ Some t → IsTouchedBy table slots (with_unit region next units) unit d s
    each_then unit d s t is =
        let by = l.touched.each unit d s t is in
        record {
          region = by.region;
          least = by.least;
          found = set_else units (region - 1) next (by.region - 1) (λ e. other_region unit d s by (omega (arith, e, least, by.least))) ∙ by.found;
          some = by.some;
          there = by.there;
          alone = leave by.region d (image_at d s slots.committed) by.alone;
        }

    kept_then : (other : ℕ) → 1 ≤ other → AllByRecursion (λ c. IsSome (life.touches (unit_of_region (with_unit region next units) other) c.db c.slot)) (touched_in other slots)
    kept_then other low = by (same_or_apart other region) where
      by : (other ≡ region) ⊎ (other ≡ region → ⊥) → AllByRecursion (λ c. IsSome (life.touches (unit_of_region (with_unit region next units) other) c.db c.slot)) (touched_in other slots)
      by (inl same) =
          subst (λ (some : List Change). AllByRecursion (λ c. IsSome (life.touches (unit_of_region (with_unit region next units) other) c.db c.slot)) some)
          (sym (none_kept (touched_in region slots) (l.touched.kept region least)) ∙ ap (λ r. touched_in r slots) (sym same)) tt
      by (inr apart) =
          subst (λ u. AllByRecursion (λ c. IsSome (life.touches u c.db c.slot)) (touched_in other slots))
          (sym (index_else units (region - 1) next (other - 1) 0 (λ e. apart (omega (arith, e, least, low)))))
          (l.touched.kept other low)

    open_then : (place u : ℕ) → slice_get (with_unit region next units) place ≡ Some u → 0 < u → life.may_sync u ≡ true
    open_then place u is positive = by (set_at units (region - 1) next place u is) (same_or_apart place (region - 1)) where
      by : IsSetAt units (region - 1) next place u → (place ≡ region - 1) ⊎ (place ≡ region - 1 → ⊥) → life.may_sync u ≡ true
      by a (inl same) = l.syncs.to_come u (omega (arith, a.here same))
      by a (inr apart) = l.syncs.open_yet place u (a.there apart) positive

    -- Its unit gets the next number.
    pub takes_on : Continues [] (IsLifeOf system lasting after table slots (with_unit region next units) (next + 1)) life
    takes_on = record {
      behind = life;
      text = refl;
      now = refl;
      log = no_bytes life.log;
      goes = goes_nowhere life;
      is = record {
        of_system = l.of_system;
        lasts = l.lasts;
        names = l.names;
        counted = l.counted;
        is_life = l.is_life;
        stores = l.stores;
        committed = l.committed;
        numbers = numbers;
        touched = record { each = each_then; kept = kept_then };
        syncs = record { open_yet = open_then; to_come = λ u above. l.syncs.to_come u (omega (arith, above)) };
      };
    }

-- ---- a victim gives up

module _ (system : System) (n : ℕ) (lasting : LastingState) (before after : List (Option Slot)) (was table : EnqueueTable) (old new : SlotsState) (units : List ℕ) (next : ℕ) (life : LifeOnDisk)
    (l : IsLifeOf system lasting before was old units next life) (have : HaveSlots system.databases n old) (had : HaveSlots system.databases n new) (few_sectors : AllByRecursion (λ dbd. dbd.sectors ≤ 8) system.databases)
    (holds : HoldTouched was old) (unit region : ℕ) (least : 1 ≤ region) (found : slice_get units (region - 1) ≡ Some unit) (some : 0 < unit)
    (leave : (other d : ℕ) (image : List Row) → (other ≡ region → ⊥) → HoldsAlone was other (resource_of d image) → HoldsAlone table other (resource_of d image))
    (numbers : AreUnitsNumbered after (with_unit region 0 units) next) (up : GivesUpSo region old new) where
  abbrev marks : ℕ → ℕ → Bool
  marks = λ d s. is_marked new.changed d s

  abbrev life_up : LifeOnDisk
  life_up = life_without_unit unit marks life

  known_so : (place number : ℕ) (dbd : Dbd) → slice_get system.databases place ≡ Some dbd → number < dbd.roots → IsKnownSlot system (place + 1) number
  known_so place number dbd found_there below = record { place = place; is = refl; dbd = dbd; found = found_there; below = below }

  back : Rattle.disk_law.specs.SlotChanges.MarksBack unit marks life
  back = marks_back system n lasting before was table old units next life l have holds unit region least found some new up

  there_so : (d s : ℕ) → IsSlotOf old.stores d s → IsSlotOf new.stores d s
  there_so d s is = stays_there system n n old new have had d s is

  committed_stays : (other d s : ℕ) → 1 ≤ other → (other ≡ region → ⊥) → 1 ≤ d → HoldsAlone was other (resource_of d (image_at d s old.committed)) → image_at d s new.committed ≡ image_at d s old.committed
  committed_stays other d s low apart p alone = ap (λ (stores : List Stored). image_at d s stores) up.committed

  -- Its unit ends, and its slots are put back.
  pub gives_up : Continues [] (IsLifeOf system lasting after table new (with_unit region 0 units) next) life
  gives_up = record {
    behind = life_up;
    text = refl;
    now = refl;
    log = no_bytes life.log;
    goes = goes_by_end unit marks life back;
    is = record {
      of_system = l.of_system;
      lasts = l.lasts;
      names = l.names;
      counted = l.counted;
      is_life = without_life unit marks life l.is_life back;
      stores = has_stores system n new had few_sectors life_up l.of_system
          (λ place number dbd found_there below. put_so system n lasting before was table old units next life l have holds unit region least found some new up (place + 1) number (known_so place number dbd found_there below))
          (λ place number dbd found_there below. refl);
      committed = λ place number dbd found_there below. l.committed place number dbd found_there below ∙ ap (λ (stores : List Stored). image_bytes_at (place + 1) number stores) (sym up.committed);
      numbers = numbers;
      touched = units_then system n lasting before was table old units next life l have holds unit region least found some new there_so up.touched leave committed_stays 0 next (inl refl) l.numbers.some (omega arith);
      syncs = syncs_then system n lasting before was table old units next life l have holds unit region least found some new there_so up.touched leave committed_stays 0 next (inl refl) l.numbers.some (omega arith);
    };
  }
