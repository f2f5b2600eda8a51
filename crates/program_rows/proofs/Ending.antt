-- The databases at their beginning, and when a region's changes are taken back or stay.
use Rattle.std.proofs.Common.{◌≡◌, ◌≢◌, ℕ, ◌-◌, ◌≤◌, ◌<◌, List, [], ◌∷◌, length, map, refl, sym, ◌∙◌, ap, subst, Option, None, Some, set, get_or, zero, suc, inl, inr, arith, eqb, ◌||◌, Bool, true, false, ⊎_elim}
use Rattle.std.specs.List.{AllByRecursion, slice_get, list_any, IsDistinct}
use Rattle.std.specs.List.Sorted.{IsStrictlySortedBy}
use Rattle.std.specs.Prelude.{replicate}
use Rattle.std.proofs.lemmas.Bool.{cases_eq, false≢true}
use Rattle.std.proofs.lemmas.List.{length-set, length-map}
use Rattle.tm_types.specs.declared.dbd.Dbd.{Dbd}
use Rattle.tm_types.specs.SegTypes.{IsHierarchy}
use Rattle.model_data.specs.Table.{EnqueueTable, empty_table}
use Rattle.model_data.specs.EnqueueRequests.{released}
use Rattle.model_data.specs.Cycle.{IsTableRegion}
use Rattle.pi_enqueue.specs.KeptTable.{IsTableKept}
use Rattle.model_data.proofs.Lists.{all_then}
use Rattle.seg_store.specs.Slots.{Stored, rows_of_slots}
use Rattle.seg_store.specs.ChangedSlots.{AllStores}
use Rattle.seg_store.specs.Stores.{empty_store, empty_stores, no_changed}
use Rattle.seg_store.proofs.SlotRows.{free_slots_valid}
use Rattle.unit_work.specs.declared.change.Change.{Change}
use Rattle.unit_work.specs.Changes.{Changes, no_changes, is_seen}
use Rattle.unit_work.specs.BackOut.{is_touched, backed_out, backs, CanBackOut}
use Rattle.program_rows.specs.DatabasesState.{DatabasesState, RegionRows, no_rows, roots_of, rows_of_stores, database_rows_in, dbds_of, committed_rows, region_at, clean_region, AreRowsOf, IsRegionOf, IsClean}
use Rattle.program_rows.specs.Isolation.{AgreeOnHeld}
use Rattle.program_rows.specs.CallAnswers.{regions_backed, IsBeside, IsCommitted}
use Rattle.program_rows.specs.OpenUnits.{unit_records_of, unit_slots_of, backed_all, seen_by, regions_from, IsOpenUnit, AreUnits, IsRecordTouched, AreTouchedByUnit, AllTouch, was_there}
use Rattle.program_rows.specs.ToldChanges.{back_out_told, back_told, IsToldable}
use Rattle.unit_work.specs.Images.{slots_of_database, image_at}
use Rattle.unit_work.specs.Marks.{is_marked, AreMarked, AreAllMarked}
use Rattle.unit_work.specs.ToldChanges.{ChangesTold, is_told_of}
use Rattle.unit_work.proofs.Marking.{marks_more}
use Rattle.program_rows.specs.SlotsState.{slots_state_of as slots_seen, CallsSo, CommitsSo, GivesUpSo, IsMarkedBack}
use Rattle.program_rows.specs.PlannedChanges.{databases_opened, IsOpenedWhole, IsUnitWhole, AreThere, HasTouched, changed_in, region_slots_in}
use Rattle.program_rows.specs.declared.opened.Opened.{Opened}
use Rattle.program_rows.proofs.Together.{backed_none, get_set, get_set_else, set_twice}
use Rattle.program_rows.proofs.Backed.{AreValid, valid_all, valid_back, dbds_all, backed_dbds, backed_lengths}
use Rattle.program_rows.proofs.Apart.{all_beside, all_good}
use Rattle.program_rows.proofs.BackUnits.{empty_unit, back_units, back_committed, back_others, back_own, keep_units, released_units}
use Rattle.program_rows.proofs.Committing.{sees_then, held_then}
use Rattle.program_rows.proofs.Overlay.{store_rows, store_types}
use Rattle.program_rows.proofs.Seen.{region_is, regions_length, same_list, get_put, get_put_else}
use Rattle.program_rows.proofs.Setting.{unit_records, unit_slots}
use Rattle.program_rows.proofs.Touching.{none_touched_yet, kept_touched, back_touched, released_touched}
use Rattle.program_rows.proofs.ToldBack.{back_changes, back_seen, back_told_of, each_back, toldable}
use Rattle.program_rows.proofs.Untouched.{IsAmong, seen_among, stands_here, stands_else}

-- a region of the databases has a unit, and is one of the table
pub record HasUnit (o : Opened) (region : ℕ) : Type 0 where
  pub least : 1 ≤ region
  pub most : region ≤ length o.units.items
  pub known : IsTableRegion o.table region
  pub within : region - 1 < length (unit_records_of o.units.items)
  pub up : suc (region - 1) ≡ region

pub has_unit : (o : Opened) (d : DatabasesState) (region : ℕ) → IsOpenedWhole o → databases_opened o ≡ d → IsRegionOf d region → HasUnit o region
has_unit o d region h view r = by (subst (λ e. IsRegionOf e region) (sym view) r)
  where
    by : IsRegionOf (databases_opened o) region → HasUnit o region
    by s =
        let count : length (databases_opened o).regions ≡ length (unit_records_of o.units.items) = regions_length 0 (unit_records_of o.units.items) (unit_records_of o.units.items) o.stores.stores in
        let units : length (unit_records_of o.units.items) ≡ length o.units.items = length-map o.units.items (λ (u : Changes). u.records) in
        record {
          least = s.least;
          most = omega (arith, s.most, count, units);
          known = (s.least, omega (arith, s.most, count, h.count));
          within = omega (arith, s.least, s.most, count);
          up = omega (arith, s.least);
        }

pub can_back_out : (o : Opened) (region : ℕ) → IsOpenedWhole o → HasUnit o region → CanBackOut (changed_in region o) o.stores.stores
can_back_out o region h u = (h.each (region - 1) u.within).can

-- how many records a unit has changed, and what its region sees where there are none
pub changes_are : (o : Opened) (d : DatabasesState) (region : ℕ) (us : List Changes) (u : Changes) (n : ℕ) → IsOpenedWhole o → databases_opened o ≡ d → IsRegionOf d region → us ≡ o.units.items → slice_get us (region - 1) ≡ Some u
    → n ≡ length u.records → n ≡ length (region_at region d).changed
changes_are o d region us u n h view r same at e =
    let has = has_unit o d region h view r in
    let own : get_or (unit_records_of o.units.items) (region - 1) [] ≡ u.records = unit_records o.units.items (region - 1) u (ap (λ xs. slice_get xs (region - 1)) (sym same) ∙ at) in
    e
    ∙ (ap length (sym own)
    ∙ (sym (length-map {B = ℕ × List ℕ} (get_or (unit_records_of o.units.items) (region - 1) []) (λ (c : Change). (c.db, c.root)))
    ∙ (ap (λ (x : RegionRows). length x.changed) (sym (region_is (region - 1) (unit_records_of o.units.items) o.stores.stores has.within)) ∙ ap (λ (e : DatabasesState). length (region_at region e).changed) view)))

pub clean_so : (o : Opened) (d : DatabasesState) (region n : ℕ) → IsOpenedWhole o → databases_opened o ≡ d → IsRegionOf d region → n ≡ length (region_at region d).changed → n ≡ 0 → IsClean region d
clean_so o d region n h view r count none = subst (IsClean region) view (by (get_or (unit_records_of o.units.items) (region - 1) []) refl)
  where
    has : HasUnit o region
    has = has_unit o d region h view r

    sees : region_at region (databases_opened o) ≡ record { rows = rows_of_stores (seen_by (region - 1) (unit_records_of o.units.items) o.stores.stores); changed = roots_of (get_or (unit_records_of o.units.items) (region - 1) []) }
    sees = region_is (region - 1) (unit_records_of o.units.items) o.stores.stores has.within

    set_same : (us : List (List Change)) (i : ℕ) → get_or us i [] ≡ [] → set us i [] ≡ us
    set_same [] i e = refl
    set_same (u ∷ us) zero e = ap (λ x. x ∷ us) (sym e)
    set_same (u ∷ us) (suc i) e = ap (λ xs. u ∷ xs) (set_same us i e)

    zero_now : length (region_at region (databases_opened o)).changed ≡ 0
    zero_now = ap (λ (e : DatabasesState). length (region_at region e).changed) view ∙ (sym count ∙ none)

    by : (records : List Change) → get_or (unit_records_of o.units.items) (region - 1) [] ≡ records → IsClean region (databases_opened o)
    by [] e =
        record {
          sees = ap (λ (x : RegionRows). x.rows) sees ∙ ap (λ us. rows_of_stores (backed_all us o.stores.stores)) (set_same (unit_records_of o.units.items) (region - 1) e);
          changed = ap (λ (x : RegionRows). x.changed) sees ∙ ap roots_of e;
        }
    by (c ∷ records) e =
        let some : length (region_at region (databases_opened o)).changed ≡ suc (length (roots_of records)) =
        ap (λ (x : RegionRows). length x.changed) sees ∙ ap (λ rs. length (roots_of rs)) e in
        absurd (omega (arith, zero_now, some))

-- the rows of valid stores are rows of their databases
get_mapped : (stores : List Stored) (i : ℕ) (dbd : Dbd) → slice_get (map (λ (s : Stored). s.dbd) stores) i ≡ Some dbd → (s : Stored) × (slice_get stores i ≡ Some s) × (s.dbd ≡ dbd)
get_mapped [] i dbd e = let clash : (let none : Option Dbd = None in none) ≡ Some dbd = e in absurd (cc)
get_mapped (s ∷ stores) zero dbd e = let same : Some s.dbd ≡ Some dbd = e in (s, refl, cc)
get_mapped (s ∷ stores) (suc i) dbd e = get_mapped stores i dbd e

pub valid_rows : (stores : List Stored) (dbds : List Dbd) → AreValid stores → map (λ (s : Stored). s.dbd) stores ≡ dbds → AreRowsOf dbds (rows_of_stores stores)
valid_rows stores dbds valid e =
    subst (λ ds. AreRowsOf ds (rows_of_stores stores)) e
    (record {
      count = length-map stores (λ (s : Stored). rows_of_slots s.slots) ∙ sym (length-map stores (λ (s : Stored). s.dbd));
      types = λ number dbd at. let found = get_mapped stores (number - 1) dbd at in subst (λ d. IsHierarchy d.types) found.2 (store_types stores (number - 1) found.0 valid found.1);
      each = λ number dbd at.
          let found = get_mapped stores (number - 1) dbd at in
          subst (λ d. Rattle.model_data.specs.Rows.AreRows d (database_rows_in number (rows_of_stores stores))) found.2 (store_rows stores number found.0 valid found.1);
    })

pub committed_are_rows : (o : Opened) → IsOpenedWhole o → AreRowsOf (dbds_of (databases_opened o)) (committed_rows (databases_opened o))
committed_are_rows o h =
    valid_rows (backed_all (unit_records_of o.units.items) o.stores.stores) (dbds_of (databases_opened o))
    (valid_all o.stores.stores (unit_records_of o.units.items) h.valid (all_good (unit_records_of o.units.items) o.stores.stores o.table h) (all_beside (unit_records_of o.units.items) o.stores.stores o.table h))
    (dbds_all o.stores.stores (unit_records_of o.units.items))

module _ (o new : Opened) (h : IsOpenedWhole o) (region : ℕ) (u : HasUnit o region) (units : unit_records_of new.units.items ≡ set (unit_records_of o.units.items) (region - 1) []) where
  us : List (List Change)
  us = unit_records_of o.units.items

  -- the changes are taken back
  module _ (stores : new.stores.stores ≡ backed_out (changed_in region o) o.stores.stores) where
    pub taken_back_units : (table : EnqueueTable) → table ≡ o.table → AreUnits (unit_records_of new.units.items) new.stores.stores table
    taken_back_units table same =
        subst (λ t. AreUnits (unit_records_of new.units.items) new.stores.stores t) (sym same)
        (subst (λ xs. AreUnits xs new.stores.stores o.table) (sym units)
        (subst (λ ss. AreUnits (set (unit_records_of o.units.items) (region - 1) []) ss o.table) (sym stores)
        (back_units (unit_records_of o.units.items) o.stores.stores o.table h (region - 1) u.within)))

    pub taken_back_committed : (databases_opened new).committed ≡ (databases_opened o).committed
    taken_back_committed = (λ i. backed_all (units i) (stores i)) ∙ back_committed (unit_records_of o.units.items) o.stores.stores o.table h (region - 1) u.within

    pub taken_back_dbds : dbds_of (databases_opened new) ≡ dbds_of (databases_opened o)
    taken_back_dbds = ap (map (λ (s : Stored). s.dbd)) stores ∙ backed_dbds (changed_in region o) o.stores.stores

    pub taken_back_regions : (databases_opened new).regions ≡ regions_backed region (databases_opened o)
    taken_back_regions =
        (λ i. regions_from 0 (units i) (units i) (stores i))
        ∙ same_list no_rows (regions_from 0 left left now) (regions_backed region (databases_opened o))
        (regions_length 0 left left now
        ∙ (length-set (unit_records_of o.units.items) (region - 1) []
        ∙ sym (length-set (databases_opened o).regions (region - 1) (clean_region (committed_rows (databases_opened o))) ∙ regions_length 0 (unit_records_of o.units.items) (unit_records_of o.units.items) o.stores.stores)))
        (λ k lt.
        let inside : k < length (unit_records_of o.units.items) = omega (arith, lt, regions_length 0 left left now, length-set (unit_records_of o.units.items) (region - 1) []) in
        ⊎_elim (λ same. own k same) (λ other. others k other inside) (cases_eq k (region - 1)))
      where
        left : List (List Change)
        left = set (unit_records_of o.units.items) (region - 1) []

        now : List Stored
        now = backed_out (changed_in region o) o.stores.stores

        own : (k : ℕ) → k ≡ region - 1 → get_or (regions_from 0 left left now) k no_rows ≡ get_or (regions_backed region (databases_opened o)) k no_rows
        own k same =
            ap (λ n. get_or (regions_from 0 left left now) n no_rows) same
            ∙ (region_is (region - 1) left now (omega (arith, u.within, length-set (unit_records_of o.units.items) (region - 1) []))
            ∙ ((λ i. record {
              rows = rows_of_stores (back_own (unit_records_of o.units.items) o.stores.stores o.table h (region - 1) u.within i);
              changed = roots_of (get_set (unit_records_of o.units.items) (region - 1) [] u.within i);
            })
            ∙ sym (ap (λ n. get_or (regions_backed region (databases_opened o)) n no_rows) same
            ∙ get_put (databases_opened o).regions (region - 1) (clean_region (committed_rows (databases_opened o))) no_rows
            (omega (arith, u.within, regions_length 0 (unit_records_of o.units.items) (unit_records_of o.units.items) o.stores.stores)))))

        others : (k : ℕ) → k ≢ region - 1 → k < length (unit_records_of o.units.items) → get_or (regions_from 0 left left now) k no_rows ≡ get_or (regions_backed region (databases_opened o)) k no_rows
        others k other inside =
            region_is k left now (omega (arith, inside, length-set (unit_records_of o.units.items) (region - 1) []))
            ∙ ((λ i. record {
              rows = rows_of_stores (back_others (unit_records_of o.units.items) o.stores.stores o.table h (region - 1) u.within k other i);
              changed = roots_of (get_set_else (unit_records_of o.units.items) (region - 1) k [] other i);
            })
            ∙ sym (get_put_else (databases_opened o).regions (region - 1) k (clean_region (committed_rows (databases_opened o))) no_rows other ∙ region_is k (unit_records_of o.units.items) o.stores.stores inside))

  -- what the region holds is given up, once its unit has no changes
  pub given_up_units : (stores : List Stored) (old table : EnqueueTable) → AreUnits (unit_records_of new.units.items) stores old → table ≡ released region old → IsTableKept table → AreUnits (unit_records_of new.units.items) stores table
  given_up_units stores old table before same kept =
      let is : table ≡ released (suc (region - 1)) old = same ∙ ap (λ r. released r old) (sym u.up) in
      subst (λ t. AreUnits (unit_records_of new.units.items) stores t) (sym is)
      (released_units (unit_records_of new.units.items) stores old (region - 1) before
      (ap (λ xs. get_or xs (region - 1) []) units ∙ get_set (unit_records_of o.units.items) (region - 1) [] u.within) (subst IsTableKept is kept))

  -- the changes stay
  module _ (stores : new.stores.stores ≡ o.stores.stores) (marked : new.stores.changed ≡ o.stores.changed) where
    pub kept_units : AreUnits (unit_records_of new.units.items) new.stores.stores o.table
    kept_units =
        subst (λ xs. AreUnits xs new.stores.stores o.table) (sym units)
        (subst (λ ss. AreUnits (set (unit_records_of o.units.items) (region - 1) []) ss o.table) (sym stores)
        (keep_units (unit_records_of o.units.items) o.stores.stores o.table h (region - 1) u.within))

    commits_slots : HasTouched o → unit_slots_of new.units.items ≡ set (unit_slots_of o.units.items) (region - 1) [] → CommitsSo region (slots_seen (databases_opened o)) (slots_seen (databases_opened new))
    commits_slots touched slots =
        let committed : (databases_opened new).committed ≡ backed_all (set (unit_records_of o.units.items) (region - 1) []) o.stores.stores = λ i. backed_all (units i) (stores i) in
        record {
          stores = stores;
          changed = marked;
          touched = slots;
          each = all_then (IsRecordTouched o.table o.stores.stores (suc (region - 1)) (changed_in region o)) (λ c. image_at c.db c.slot (databases_opened new).committed ≡ image_at c.db c.slot o.stores.stores) (region_slots_in region o)
              (λ c t. ap (image_at c.db c.slot) committed ∙ stands_here (unit_records_of o.units.items) (unit_slots_of o.units.items) o.stores.stores o.table h touched (region - 1) u.within c t)
              (touched (region - 1) u.within).each;
          others = λ db slot least e. ap (image_at db slot) committed ∙ stands_else (unit_records_of o.units.items) (unit_slots_of o.units.items) o.stores.stores o.table h touched (region - 1) u.within db slot least e;
        }

    pub is_committed : HasTouched o → unit_slots_of new.units.items ≡ set (unit_slots_of o.units.items) (region - 1) [] → new.table ≡ released region o.table → IsCommitted region (databases_opened o) (databases_opened new)
    is_committed touched slots table =
        record {
          stores = stores;
          rows = ap rows_of_stores committed_is ∙ ap (λ (x : RegionRows). x.rows) (sym (region_is (region - 1) (unit_records_of o.units.items) o.stores.stores u.within));
          own = new_region (region - 1) (omega (arith, u.within, length-set (unit_records_of o.units.items) (region - 1) []))
              ∙ ((λ i. record {
                rows = rows_of_stores (backed_all (set_twice (unit_records_of o.units.items) (region - 1) [] [] i) o.stores.stores);
                changed = roots_of (get_set (unit_records_of o.units.items) (region - 1) [] u.within i);
              })
              ∙ ap (λ ss. clean_region (rows_of_stores ss)) (sym committed_is));
          count = regions_length 0 (unit_records_of new.units.items) (unit_records_of new.units.items) new.stores.stores
              ∙ (ap length units ∙ (length-set (unit_records_of o.units.items) (region - 1) [] ∙ sym (regions_length 0 (unit_records_of o.units.items) (unit_records_of o.units.items) o.stores.stores)));
          others = λ other apart least most. beside other apart least (omega (arith, least, most, regions_length 0 (unit_records_of o.units.items) (unit_records_of o.units.items) o.stores.stores));
          touched = slots;
          slots = commits_slots touched slots;
          table = table;
        }
      where
        left : List (List Change)
        left = set (unit_records_of o.units.items) (region - 1) []

        committed_is : (databases_opened new).committed ≡ backed_all (set (unit_records_of o.units.items) (region - 1) []) o.stores.stores
        committed_is = λ i. backed_all (units i) (stores i)

        new_region : (k : ℕ) → k < length (set (unit_records_of o.units.items) (region - 1) [])
            → get_or (databases_opened new).regions k no_rows ≡ record { rows = rows_of_stores (seen_by k (set (unit_records_of o.units.items) (region - 1) []) o.stores.stores); changed = roots_of (get_or (set (unit_records_of o.units.items) (region - 1) []) k []) }
        new_region k lt = (λ i. get_or (regions_from 0 (units i) (units i) (stores i)) k no_rows) ∙ region_is k (set (unit_records_of o.units.items) (region - 1) []) o.stores.stores lt

        beside : (other : ℕ) → (other ≡ region → ⊥) → 1 ≤ other → other - 1 < length (unit_records_of o.units.items) → IsBeside other (databases_opened o) (databases_opened new)
        beside other apart least inside =
            let k_apart : other - 1 ≢ region - 1 = λ e. apart (omega (arith, e, least, u.least)) in
            let number : suc (other - 1) ≡ other = omega (arith, least) in
            let was : region_at other (databases_opened o)
            ≡ record { rows = rows_of_stores (seen_by (other - 1) (unit_records_of o.units.items) o.stores.stores); changed = roots_of (get_or (unit_records_of o.units.items) (other - 1) []) } =
            region_is (other - 1) (unit_records_of o.units.items) o.stores.stores inside in
            record {
              sees = new_region (other - 1) (omega (arith, inside, length-set (unit_records_of o.units.items) (region - 1) []))
                  ∙ ((λ i. record {
                    rows = sees_then (unit_records_of o.units.items) o.stores.stores o.table h (region - 1) u.within (other - 1) inside k_apart i;
                    changed = roots_of (get_set_else (unit_records_of o.units.items) (region - 1) (other - 1) [] k_apart i);
                  })
                  ∙ (λ i. record {
                    rows = Rattle.program_rows.specs.DatabasesState.with_records_from (sym was i).changed (sym was i).rows (rows_of_stores (sym committed_is i));
                    changed = (sym was i).changed;
                  }));
              held = subst (λ r. AgreeOnHeld o.table r (rows_of_stores (backed_all (unit_records_of o.units.items) o.stores.stores)) (committed_rows (databases_opened new))) number
                  (subst (λ ss. AgreeOnHeld o.table (suc (other - 1)) (rows_of_stores (backed_all (unit_records_of o.units.items) o.stores.stores)) (rows_of_stores ss)) (sym committed_is)
                  (held_then (unit_records_of o.units.items) o.stores.stores o.table h (region - 1) u.within (other - 1) inside k_apart));
            }

-- the slots that the units have touched, once one has no changes any more
module _ (o new : Opened) (h : IsOpenedWhole o) (touched : HasTouched o) (region : ℕ) (u : HasUnit o region) (units : unit_records_of new.units.items ≡ set (unit_records_of o.units.items) (region - 1) [])
    (slots : unit_slots_of new.units.items ≡ set (unit_slots_of o.units.items) (region - 1) []) where
  same_count : length (unit_slots_of o.units.items) ≡ length (unit_records_of o.units.items)
  same_count = length-map o.units.items (λ (x : Changes). x.slots) ∙ sym (length-map o.units.items (λ (x : Changes). x.records))

  now_touched : (stores : List Stored) (table : EnqueueTable) → AllTouch (set (unit_records_of o.units.items) (region - 1) []) (set (unit_slots_of o.units.items) (region - 1) []) stores table
      → AllTouch (unit_records_of new.units.items) (unit_slots_of new.units.items) stores table
  now_touched stores table t =
      subst (λ us. AllTouch us (unit_slots_of new.units.items) stores table) (sym units)
      (subst (λ ss. AllTouch (set (unit_records_of o.units.items) (region - 1) []) ss stores table) (sym slots) t)

  pub taken_back_touched : new.stores.stores ≡ backed_out (changed_in region o) o.stores.stores → (table : EnqueueTable) → table ≡ o.table
      → AllTouch (unit_records_of new.units.items) (unit_slots_of new.units.items) new.stores.stores table
  taken_back_touched stores table same =
      subst (λ t. AllTouch (unit_records_of new.units.items) (unit_slots_of new.units.items) new.stores.stores t) (sym same)
      (subst (λ ss. AllTouch (unit_records_of new.units.items) (unit_slots_of new.units.items) ss o.table) (sym stores)
      (now_touched (backed_out (changed_in region o) o.stores.stores) o.table
      (back_touched (unit_records_of o.units.items) (unit_slots_of o.units.items) o.stores.stores o.table h (region - 1) u.within same_count touched)))

  pub kept_touched_so : new.stores.stores ≡ o.stores.stores → AllTouch (unit_records_of new.units.items) (unit_slots_of new.units.items) new.stores.stores o.table
  kept_touched_so stores =
      subst (λ ss. AllTouch (unit_records_of new.units.items) (unit_slots_of new.units.items) ss o.table) (sym stores)
      (now_touched o.stores.stores o.table (kept_touched (unit_records_of o.units.items) (unit_slots_of o.units.items) o.stores.stores o.table h (region - 1) u.within same_count touched))

  pub given_up_touched : (stores : List Stored) (old table : EnqueueTable) → AllTouch (unit_records_of new.units.items) (unit_slots_of new.units.items) stores old → table ≡ released region old
      → AllTouch (unit_records_of new.units.items) (unit_slots_of new.units.items) stores table
  given_up_touched stores old table before same =
      let is : table ≡ released (suc (region - 1)) old = same ∙ ap (λ r. released r old) (sym u.up) in
      subst (λ t. AllTouch (unit_records_of new.units.items) (unit_slots_of new.units.items) stores t) (sym is)
      (released_touched (unit_records_of new.units.items) (unit_slots_of new.units.items) stores old (region - 1)
      (ap (λ xs. get_or xs (region - 1) []) units ∙ get_set (unit_records_of o.units.items) (region - 1) [] u.within)
      (ap (λ xs. get_or xs (region - 1) []) slots ∙ get_set (unit_slots_of o.units.items) (region - 1) [] (omega (arith, u.within, same_count))) before)

-- what ROLB tells is what it makes of the slots
pub back_told_changes : (unit : ℕ) (o new : Opened) (d : DatabasesState) → HasTouched o → databases_opened o ≡ d → (region : ℕ) → HasUnit o region → new.stores.stores ≡ backed_out (changed_in region o) o.stores.stores
    → ChangesTold unit d.stores new.stores.stores (back_told unit region d)
back_told_changes unit o new d touched view region u stores =
    subst (λ (e : DatabasesState). ChangesTold unit e.stores new.stores.stores (back_told unit region e)) view
    (subst (λ ss. ChangesTold unit o.stores.stores ss (back_told unit region (databases_opened o))) (sym stores)
    (back_changes unit o.stores.stores o.table (suc (region - 1)) (changed_in region o) (region_slots_in region o) (touched (region - 1) u.within)))

-- each touched slot is marked behind it, or had no record
each_marked : (table : EnqueueTable) (region : ℕ) (records : List Change) (old new : AllStores) → new.stores ≡ backed_out records old.stores
    → AreMarked (λ db slot. backs records db slot (image_at db slot old.stores)) old new → AreAllMarked (λ db slot. backs records db slot (image_at db slot old.stores)) new
    → (slots : List Change) → AllByRecursion (IsRecordTouched table old.stores region records) slots → AllByRecursion (IsMarkedBack old new) slots
each_marked table region records old new stores marks all slots h = each slots h
  where
    by : (c : Change) → IsRecordTouched table old.stores region records c → (b : Bool) → is_marked new.changed c.db c.slot ≡ b → IsMarkedBack old new c
    by c t true q = inl q
    by c t false q =
        ⊎_elim
        (λ (was : was_there records c.db c.slot ≡ true).
        inl (all.each c.db c.slot t.there.least (ap (λ b. is_touched records c.db (image_at c.db c.slot old.stores) || b) was ∙ or_last (is_touched records c.db (image_at c.db c.slot old.stores)))))
        (λ free. inr (free.0, sym (marks.same c.db c.slot t.there.least q).1 ∙ (ap (image_at c.db c.slot) stores ∙ (t.first ∙ free.0))))
        t.sits
      where
        or_last : (b : Bool) → (b || true) ≡ true
        or_last true = refl
        or_last false = refl

    each : (slots : List Change) → AllByRecursion (IsRecordTouched table old.stores region records) slots → AllByRecursion (IsMarkedBack old new) slots
    each [] h = tt
    each (c ∷ slots) h = (by c h.0 (is_marked new.changed c.db c.slot) refl, each slots h.1)

-- what a back out makes of the slots, with the marks
pub back_slots : (unit : ℕ) (o new : Opened) (d : DatabasesState) → HasTouched o → databases_opened o ≡ d → (region : ℕ) → HasUnit o region → new.stores.stores ≡ backed_out (changed_in region o) o.stores.stores
    → AreMarked (λ db slot. backs (changed_in region o) db slot (image_at db slot o.stores.stores)) o.stores new.stores
    → AreAllMarked (λ db slot. backs (changed_in region o) db slot (image_at db slot o.stores.stores)) new.stores → unit_slots_of new.units.items ≡ set (unit_slots_of o.units.items) (region - 1) []
    → (databases_opened new).committed ≡ (databases_opened o).committed → CallsSo unit region (slots_seen d) (slots_seen (databases_opened new)) (back_told unit region d)
back_slots unit o new d touched view region u stores marks all_marked slots committed =
    subst (λ (e : DatabasesState). CallsSo unit region (slots_seen e) (slots_seen (databases_opened new)) (back_told unit region e)) view
    (record {
      told = back_told_changes unit o new (databases_opened o) touched refl region u stores;
      does = inr (inr (record {
        all = refl;
        each = subst (λ ss. AllByRecursion (λ c. image_at c.db c.slot ss ≡ c.before) (region_slots_in region o)) (sym stores)
            (each_back unit o.stores.stores o.table (suc (region - 1)) (changed_in region o) (region_slots_in region o) (touched (region - 1) u.within).each);
        touched = slots;
        marked = each_marked o.table (suc (region - 1)) (changed_in region o) o.stores new.stores stores marks all_marked (region_slots_in region o) (touched (region - 1) u.within).each;
      }));
      marks = marks_more (λ db slot. backs (changed_in region o) db slot (image_at db slot o.stores.stores)) (λ db slot. list_any (is_told_of db slot) (back_told unit region (databases_opened o)))
          (back_told_of unit o.stores.stores o.table (suc (region - 1)) (changed_in region o) (region_slots_in region o) (touched (region - 1) u.within)) o.stores new.stores marks;
      committed = committed;
    })

pub back_gives_up : (o new : Opened) (d : DatabasesState) → HasTouched o → databases_opened o ≡ d → (region : ℕ) → HasUnit o region → new.stores.stores ≡ backed_out (changed_in region o) o.stores.stores
    → AreMarked (λ db slot. backs (changed_in region o) db slot (image_at db slot o.stores.stores)) o.stores new.stores
    → AreAllMarked (λ db slot. backs (changed_in region o) db slot (image_at db slot o.stores.stores)) new.stores → unit_slots_of new.units.items ≡ set (unit_slots_of o.units.items) (region - 1) []
    → (databases_opened new).committed ≡ (databases_opened o).committed → GivesUpSo region (slots_seen d) (slots_seen (databases_opened new))
back_gives_up o new d touched view region u stores marks all_marked slots committed =
    subst (λ (e : DatabasesState). GivesUpSo region (slots_seen e) (slots_seen (databases_opened new))) view
    (record {
      committed = committed;
      databases = ap (map (λ (s : Stored). s.dbd)) stores ∙ backed_dbds (changed_in region o) o.stores.stores;
      touched = slots;
      each = subst (λ ss. AllByRecursion (λ c. image_at c.db c.slot ss ≡ c.before) (region_slots_in region o)) (sym stores)
          (each_back 0 o.stores.stores o.table (suc (region - 1)) (changed_in region o) (region_slots_in region o) (touched (region - 1) u.within).each);
      others = λ db slot least e. ap (image_at db slot) stores ∙ (touched (region - 1) u.within).others db slot least e;
      marks = marks_more (λ db slot. backs (changed_in region o) db slot (image_at db slot o.stores.stores)) (λ db slot. is_seen db slot (region_slots_in region o))
          (back_seen 0 o.stores.stores o.table (suc (region - 1)) (changed_in region o) (region_slots_in region o) (touched (region - 1) u.within)) o.stores new.stores marks;
      marked = each_marked o.table (suc (region - 1)) (changed_in region o) o.stores new.stores stores marks all_marked (region_slots_in region o) (touched (region - 1) u.within).each;
    })

-- marked slots are there still
pub there_back : (o new : Opened) → IsUnitWhole o → (region : ℕ) (u : HasUnit o region) → new.stores.stores ≡ backed_out (changed_in region o) o.stores.stores
    → AreMarked (λ db slot. backs (changed_in region o) db slot (image_at db slot o.stores.stores)) o.stores new.stores → AreThere new.stores
there_back o new w region u stores marks db slot least e =
    omega (
      arith,
      ap (λ ss. length (slots_of_database db ss)) stores,
      backed_lengths o.stores.stores (changed_in region o) db least,
      ⊎_elim (w.marks db slot least)
          (λ (passes : backs (changed_in region o) db slot (image_at db slot o.stores.stores) ≡ true).
          let seen_there = back_seen 0 o.stores.stores o.table (suc (region - 1)) (changed_in region o) (region_slots_in region o) (w.touched (region - 1) u.within) db slot least passes in
          let among : IsAmong (IsRecordTouched o.table o.stores.stores (suc (region - 1)) (changed_in region o)) db slot =
          seen_among (IsRecordTouched o.table o.stores.stores (suc (region - 1)) (changed_in region o)) db slot (region_slots_in region o) (w.touched (region - 1) u.within).each seen_there in
          subst (λ n. n < length (slots_of_database db o.stores.stores)) among.same_slot
          (subst (λ n. among.change.slot < length (slots_of_database n o.stores.stores)) among.same_db among.is.there.within)) (marks.only db slot least e),
    )

pub there_same : (o : Opened) (stores : AllStores) → IsUnitWhole o → stores ≡ o.stores → AreThere stores
there_same o stores w e = subst AreThere (sym e) w.marks

pub back_toldable : (o : Opened) (d : DatabasesState) (region : ℕ) (us : List Changes) (x : Changes) (slots : List Change) (stores : List Stored) → IsOpenedWhole o → HasTouched o → databases_opened o ≡ d → HasUnit o region
    → us ≡ o.units.items → slice_get us (region - 1) ≡ Some x → slots ≡ x.slots → stores ≡ o.stores.stores → AllByRecursion (λ s. s.dbd.sectors ≤ 8) d.stores
    → AllByRecursion (IsToldable stores) slots
back_toldable o d region xs x slots stores h touched view u same at is same_stores sectors =
    subst (λ (ss : List Stored). AllByRecursion (IsToldable ss) slots) (sym same_stores)
    (subst (λ cs. AllByRecursion (IsToldable o.stores.stores) cs) (unit_slots o.units.items (region - 1) x (ap (λ xs. slice_get xs (region - 1)) (sym same) ∙ at) ∙ sym is)
    (toldable o.stores.stores o.table (suc (region - 1)) (changed_in region o) (region_slots_in region o) h.valid
    (valid_back o.stores.stores (changed_in region o) h.valid (record { can = (h.each (region - 1) u.within).can; once = (h.each (region - 1) u.within).kept.once }))
    (subst (λ (e : DatabasesState). AllByRecursion (λ s. s.dbd.sectors ≤ 8) e.stores) (sym view) sectors) (touched (region - 1) u.within)))

pub back_told_is : (unit : ℕ) (o : Opened) (d : DatabasesState) (region : ℕ) (us : List Changes) (x : Changes) (slots : List Change) (stores : List Stored) → databases_opened o ≡ d
    → us ≡ o.units.items → slice_get us (region - 1) ≡ Some x → slots ≡ x.slots → stores ≡ o.stores.stores → map (back_out_told unit stores) slots ≡ back_told unit region d
back_told_is unit o d region xs x slots stores view same at is same_stores =
    (λ i. map (back_out_told unit (same_stores i)) ((is ∙ sym (unit_slots o.units.items (region - 1) x (ap (λ xs. slice_get xs (region - 1)) (sym same) ∙ at))) i))
    ∙ ap (back_told unit region) view

-- at the beginning nothing is open
module _ (dbds : List Dbd) (regions : ℕ) where
  empty_units : List (List Change)
  empty_units = replicate regions []

  none_backed : (n : ℕ) (stores : List Stored) → backed_all (replicate n []) stores ≡ stores
  none_backed zero stores = refl
  none_backed (suc n) stores = backed_none (backed_all (replicate n []) stores) ∙ none_backed n stores

  none_at : (n i : ℕ) → get_or (replicate n (let none : List Change = [] in none)) i [] ≡ []
  none_at zero i = refl
  none_at (suc n) zero = refl
  none_at (suc n) (suc i) = none_at n i

  none_set : (n i : ℕ) → set (replicate n (let none : List Change = [] in none)) i [] ≡ replicate n []
  none_set zero i = refl
  none_set (suc n) zero = refl
  none_set (suc n) (suc i) = ap (λ us. [] ∷ us) (none_set n i)

  records_none : (n : ℕ) → unit_records_of (replicate n no_changes) ≡ replicate n []
  records_none zero = refl
  records_none (suc n) = ap (λ us. [] ∷ us) (records_none n)

  slots_none : (n : ℕ) → unit_slots_of (replicate n no_changes) ≡ replicate n []
  slots_none zero = refl
  slots_none (suc n) = ap (λ us. [] ∷ us) (slots_none n)

  count_none : (n : ℕ) → length (replicate n (let none : List Change = [] in none)) ≡ n
  count_none zero = refl
  count_none (suc n) = ap (λ m. suc m) (count_none n)

  empty_kept : IsTableKept (empty_table regions)
  unfolding IsStrictlySortedBy IsDistinct
  empty_kept =
      record {
        ascending = tt;
        alone = λ r a b mode e f. let clash : (let none : Option Rattle.tm_types.specs.declared.resource.Mode.Mode = None in none) ≡ Some mode = f in absurd (cc);
        holders = tt;
        upgrading = tt;
        waiting = tt;
        once = tt;
      }

  -- nor where other stores take their place
  module _ (o : Opened) (units : o.units.items ≡ replicate regions no_changes) (good : AreValid o.stores.stores) (compatible : IsTableKept o.table) (regions_are : regions ≡ o.table.regions)
      (numbered : AllByRecursion (λ hold. 1 ≤ hold.0.resource.db) o.table.holds) where
    opens_us : unit_records_of o.units.items ≡ replicate regions []
    opens_us = ap unit_records_of units ∙ records_none regions

    pub opens : IsOpenedWhole o
    opens =
        subst (λ us. AreUnits us o.stores.stores o.table) (sym opens_us)
        (record {
          valid = good;
          compatible = compatible;
          count = count_none regions ∙ regions_are;
          numbered = numbered;
          each = λ place lt.
              subst (IsOpenUnit o.table o.stores.stores (suc place)) (sym (none_at regions place)) (empty_unit o.table o.stores.stores (suc place));
        })

    pub opens_slots : unit_slots_of o.units.items ≡ replicate regions []
    opens_slots = ap unit_slots_of units ∙ slots_none regions

    pub opens_touched : HasTouched o
    opens_touched =
        subst (λ us. AllTouch us (unit_slots_of o.units.items) o.stores.stores o.table) (sym opens_us)
        (subst (λ xs. AllTouch (replicate regions []) xs o.stores.stores o.table) (sym opens_slots)
        (λ place lt.
        subst (λ a. AreTouchedByUnit o.table o.stores.stores (suc place) a (get_or (replicate regions []) place [])) (sym (none_at regions place))
        (subst (λ b. AreTouchedByUnit o.table o.stores.stores (suc place) [] b) (sym (none_at regions place)) (none_touched_yet o.table o.stores.stores (suc place)))))

    pub opens_marks : o.stores.changed ≡ no_changed dbds → AreThere o.stores
    opens_marks changed db slot least e = absurd (false≢true (sym (ap (λ c. is_marked c db slot) changed ∙ none dbds (db - 1)) ∙ e))
      where
        none : (ds : List Dbd) (i : ℕ) → list_any (λ n. eqb n slot) (get_or (no_changed ds) i []) ≡ false
        none [] i = refl
        none (d ∷ ds) zero = refl
        none (d ∷ ds) (suc i) = none ds i

    pub opens_committed : (databases_opened o).committed ≡ o.stores.stores
    opens_committed = ap (λ us. backed_all us o.stores.stores) opens_us ∙ none_backed regions o.stores.stores

    pub opens_regions : (databases_opened o).regions ≡ replicate regions (clean_region (rows_of_stores o.stores.stores))
    opens_regions =
        (λ i. regions_from 0 (opens_us i) (opens_us i) o.stores.stores) ∙ all_opened 0 regions
      where
        all_opened : (n m : ℕ) → regions_from n (replicate m []) (replicate regions []) o.stores.stores ≡ replicate m (clean_region (rows_of_stores o.stores.stores))
        all_opened n zero = refl
        all_opened n (suc m) =
            λ i. record { rows = rows_of_stores ((ap (λ us. backed_all us o.stores.stores) (none_set regions n) ∙ none_backed regions o.stores.stores) i); changed = [] } ∷ all_opened (suc n) m i

  module _ (o : Opened) (types : AllByRecursion (λ dbd. IsHierarchy dbd.types) dbds) (units : o.units.items ≡ replicate regions no_changes) (stores : o.stores.stores ≡ empty_stores dbds)
      (table : o.table ≡ empty_table regions) where
    us_are : unit_records_of o.units.items ≡ replicate regions []
    us_are = ap unit_records_of units ∙ records_none regions

    valid : AreValid (empty_stores dbds)
    valid = each dbds types
      where
        each : (ds : List Dbd) → AllByRecursion (λ dbd. IsHierarchy dbd.types) ds → AreValid (map empty_store ds)
        each [] h = tt
        each (d ∷ ds) h = (free_slots_valid d h.0, each ds h.1)

    pub begins : IsOpenedWhole o
    begins =
        subst (λ us. AreUnits us o.stores.stores o.table) (sym us_are)
        (subst (λ ss. AreUnits (replicate regions []) ss o.table) (sym stores)
        (subst (λ (t : EnqueueTable). AreUnits (replicate regions []) (empty_stores dbds) t) (sym table)
        (record {
          valid = valid;
          compatible = empty_kept;
          count = count_none regions;
          numbered = tt;
          each = λ place lt.
              subst (IsOpenUnit (empty_table regions) (empty_stores dbds) (suc place)) (sym (none_at regions place)) (empty_unit (empty_table regions) (empty_stores dbds) (suc place));
        })))

    pub none_marked : o.stores.changed ≡ no_changed dbds → AreThere o.stores
    none_marked changed db slot least e = absurd (false≢true (sym (ap (λ c. is_marked c db slot) changed ∙ none dbds (db - 1)) ∙ e))
      where
        none : (ds : List Dbd) (i : ℕ) → list_any (λ n. eqb n slot) (get_or (no_changed ds) i []) ≡ false
        none [] i = refl
        none (d ∷ ds) zero = refl
        none (d ∷ ds) (suc i) = none ds i

    pub slots_are : unit_slots_of o.units.items ≡ replicate regions []
    slots_are = ap unit_slots_of units ∙ slots_none regions

    pub begins_touched : HasTouched o
    begins_touched =
        subst (λ us. AllTouch us (unit_slots_of o.units.items) o.stores.stores o.table) (sym us_are)
        (subst (λ xs. AllTouch (replicate regions []) xs o.stores.stores o.table) (sym slots_are)
        (λ place lt.
        subst (λ a. AreTouchedByUnit o.table o.stores.stores (suc place) a (get_or (replicate regions []) place [])) (sym (none_at regions place))
        (subst (λ b. AreTouchedByUnit o.table o.stores.stores (suc place) [] b) (sym (none_at regions place)) (none_touched_yet o.table o.stores.stores (suc place)))))

    pub begins_committed : (databases_opened o).committed ≡ empty_stores dbds
    begins_committed = (λ i. backed_all (us_are i) (stores i)) ∙ none_backed regions (empty_stores dbds)

    pub begins_regions : (databases_opened o).regions ≡ replicate regions (clean_region (rows_of_stores (empty_stores dbds)))
    begins_regions =
        (λ i. regions_from 0 (us_are i) (us_are i) (stores i)) ∙ all_clean 0 regions
      where
        all_clean : (n m : ℕ) → regions_from n (replicate m []) (replicate regions []) (empty_stores dbds) ≡ replicate m (clean_region (rows_of_stores (empty_stores dbds)))
        all_clean n zero = refl
        all_clean n (suc m) =
            λ i. record { rows = rows_of_stores ((ap (λ us. backed_all us (empty_stores dbds)) (none_set regions n) ∙ none_backed regions (empty_stores dbds)) i); changed = [] } ∷ all_clean (suc n) m i
