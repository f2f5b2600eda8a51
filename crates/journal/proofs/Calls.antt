-- A region's call changes slots as it tells.
use Rattle.std.proofs.Common.{◌≡◌, ◌⊎◌, inl, inr, ⊎_elim, ℕ, zero, suc, ◌-◌, ◌≤◌, ◌<◌, Bool, true, false, ◌||◌, ◌&&◌, nat_lt, List, [], ◌∷◌, length, map, Option, Some, IsSome, refl, sym, ◌∙◌, ap, subst, arith}
use Rattle.std.specs.Prelude.{slice_get, slice_index_or, slice_set, ◌==◌, if◌then◌else◌}
use Rattle.std.specs.List.{list_any, flat_map, AllByRecursion}
use Rattle.std.proofs.lemmas.Bool.{eq-eqb}
use Rattle.std.proofs.lemmas.Bool.Decides.{nat_tests}
use Rattle.model_data.specs.declared.row.Row.{Row}
use Rattle.model_data.specs.Record as rows
use Rattle.model_system.specs.System.{System}
use Rattle.model_data.specs.Table.{EnqueueTable}
use Rattle.model_machine.specs.Machine.{LastingState, Slot}
use Rattle.log_records.specs.declared.record.Record.{Record}
use Rattle.log_records.specs.declared.record.Record.TheVariants as record_of
use Rattle.log_records.specs.RecordSpelling.{record_spelling}
use Rattle.seg_store.specs.Slots.{Stored}
use Rattle.unit_work.specs.declared.change.Change.{Change}
use Rattle.unit_work.specs.Changes.{is_slot_before, is_slot, with_slot}
use Rattle.unit_work.specs.Images.{image_at, image_bytes_at}
use Rattle.unit_work.specs.ToldChanges.{is_told_of, IsChangeTold}
use Rattle.disk_law.specs.Life.{LifeOnDisk}
use Rattle.unit_work.specs.Marks.{is_marked, AreMarked}
use Rattle.unit_work.specs.Changes.{ChangesAscend}
use Rattle.program_rows.specs.OpenUnits.{HoldsAlone}
use Rattle.program_rows.specs.ToldChanges.{back_out_told}
use Rattle.program_rows.specs.SlotsState.{SlotsState, HaveSlots, IsTouchedSlot, CallsSo, ChangesNone, ChangesOne, TakesBack, slots_stores, touched_in}
use Rattle.journal.specs.UnitNumbers.{AreUnitsNumbered}
use Rattle.journal.specs.CarriedLife.{resource_of, HoldTouched, IsLifeOf}
use Rattle.journal.specs.LifeByCall.{Continues}
use Rattle.journal.proofs.Ended.{holds_slot, none_touched, touched_else}
use Rattle.journal.proofs.Inputs.{HasRoom}
use Rattle.journal.proofs.Moves.{move_record, AreOwn, IsMoved, Moves, moves_on}
use Rattle.journal.proofs.Places.{is_among, all_two}
use Rattle.journal.proofs.Staying.{stays_as}

-- ---- the slots that a region keeps, with one more

index_set : {A : Type 0} (xs : List A) (i : ℕ) (x d : A) → i < length xs → slice_index_or (slice_set xs i x) i d ≡ x
index_set [] i x d low = absurd (omega (arith, low))
index_set (y ∷ xs) zero x d low = refl
index_set (y ∷ xs) (suc i) x d low = index_set xs i x d (omega (arith, low))

same_slot : (c : Change) → is_slot c.db c.slot c ≡ true
same_slot c = rw (eq-eqb c.db c.db refl, eq-eqb c.slot c.slot refl) refl

with_among : (c : Change) (slots : List Change) → is_among c.db c.slot (with_slot c slots) ≡ true
with_among c [] = ap (λ b. b || false) (same_slot c)
with_among c (x ∷ slots) = by (is_slot_before c.db c.slot x) (is_slot c.db c.slot x) refl (with_among c slots) where
  second : (a b : Bool) → b ≡ true → a || b ≡ true
  second true b h = refl
  second false b h = h

  by : (before here : Bool) → is_slot c.db c.slot x ≡ here → is_among c.db c.slot (with_slot c slots) ≡ true
      → is_among c.db c.slot (if before then x ∷ with_slot c slots else (if here then record x { root = c.root } ∷ slots else c ∷ x ∷ slots)) ≡ true
  by true here e later = second (is_slot c.db c.slot x) (is_among c.db c.slot (with_slot c slots)) later
  by false true e later = ap (λ b. b || is_among c.db c.slot slots) e
  by false false e later = ap (λ b. b || is_among c.db c.slot (x ∷ slots)) (same_slot c)

-- a fact on slots holds of all with one more where it holds of that
all_with : (P : ℕ → ℕ → Type 0) (c : Change) (slots : List Change) → P c.db c.slot → AllByRecursion (λ x. P x.db x.slot) slots → AllByRecursion (λ x. P x.db x.slot) (with_slot c slots)
all_with P c [] here all = (here, tt)
all_with P c (x ∷ slots) here all = by (is_slot_before c.db c.slot x) (is_slot c.db c.slot x) (all_with P c slots here all.1) where
  by : (before same : Bool) → AllByRecursion (λ x. P x.db x.slot) (with_slot c slots) → AllByRecursion (λ x. P x.db x.slot) (if before then x ∷ with_slot c slots else (if same then record x { root = c.root } ∷ slots else c ∷ x ∷ slots))
  by true same later = (all.0, later)
  by false true later = all
  by false false later = (here, all)

-- ---- slots in their order are apart

behind_apart : (c d : Change) → is_slot_before d.db d.slot c ≡ true → is_slot c.db c.slot d ≡ false
behind_apart c d before = by (d.db == c.db) (d.slot == c.slot) refl refl where
  by : (a b : Bool) → d.db == c.db ≡ a → d.slot == c.slot ≡ b → a && b ≡ false
  by true true e f =
      absurd (let same : d.db ≡ c.db = Rattle.std.proofs.lemmas.Bool.eqb-true d.db c.db e in
      let equal : d.slot ≡ c.slot = Rattle.std.proofs.lemmas.Bool.eqb-true d.slot c.slot f in
      not_before c.db d.db c.slot d.slot same equal before) where
        not_before : (a b s t : ℕ) → b ≡ a → t ≡ s → nat_lt a b || ((a == b) && nat_lt s t) ≡ true → ⊥
        not_before a b s t same equal h = grind (arith, nat_tests, same, equal, h)
  by true false e f = refl
  by false b e f = refl

none_among : (c : Change) (slots : List Change) → AllByRecursion (λ d. is_slot_before d.db d.slot c ≡ true) slots → is_among c.db c.slot slots ≡ false
none_among c [] all = refl
none_among c (d ∷ slots) all = ap (λ b. b || is_among c.db c.slot slots) (behind_apart c d all.0) ∙ none_among c slots all.1

pub ascend_own : (slots : List Change) → ChangesAscend slots → AreOwn slots
ascend_own [] are = tt
ascend_own (c ∷ slots) are = (none_among c slots are.0, ascend_own slots are.1)

-- ---- what is told

told_among : (unit : ℕ) (old new : SlotsState) (cs : List Change) (d s : ℕ) → list_any (is_told_of d s) (map (move_record unit old new) cs) ≡ is_among d s cs
told_among unit old new [] d s = refl
told_among unit old new (c ∷ cs) d s = ap (λ b. is_slot d s c || b) (told_among unit old new cs d s)

told_back : (unit : ℕ) (old new : SlotsState) (cs : List Change) → AllByRecursion (λ c. image_at c.db c.slot new.stores ≡ c.before) cs → map (back_out_told unit old.stores) cs ≡ map (move_record unit old new) cs
told_back unit old new [] all = refl
told_back unit old new (c ∷ cs) all =
    ap (λ (image : List Row). record_of.Change unit c.db c.slot (image_bytes_at c.db c.slot old.stores) (rows.rows_spelling image) ∷ map (back_out_told unit old.stores) cs) (sym all.0)
    ∙ ap (λ (rs : List Record). move_record unit old new c ∷ rs) (told_back unit old new cs all.1)

module _ (system : System) (n : ℕ) (lasting : LastingState) (before after : List (Option Slot)) (was table : EnqueueTable) (old new : SlotsState) (units : List ℕ) (next : ℕ) (life : LifeOnDisk)
    (l : IsLifeOf system lasting before was old units next life) (have : HaveSlots system.databases n old) (had : HaveSlots system.databases n new) (few_sectors : AllByRecursion (λ dbd. dbd.sectors ≤ 8) system.databases)
    (held : HoldTouched was old) (holds : HoldTouched table new) (leave : (other d : ℕ) (image : List Row) → HoldsAlone was other (resource_of d image) → HoldsAlone table other (resource_of d image)) (numbers : AreUnitsNumbered after units next)
    (unit region : ℕ) (least : 1 ≤ region) (most : region ≤ n) (found : slice_get units (region - 1) ≡ Some unit) (some : 0 < unit)
    (records : List Record) (calls : CallsSo unit region old new records) where
  -- the slots that are told of
  module _ (cs : List Change) (are : records ≡ map (move_record unit old new) cs) where
    among_told : (d s : ℕ) → list_any (is_told_of d s) records ≡ is_among d s cs
    among_told d s = ap (λ (rs : List Record). list_any (is_told_of d s) rs) are ∙ told_among unit old new cs d s

    others_stand : (d s : ℕ) → 1 ≤ d → is_among d s cs ≡ false → image_at d s new.stores ≡ image_at d s old.stores
    others_stand d s low none = calls.told.others d s low (among_told d s ∙ none)

    marks_so : AreMarked (λ d s. is_among d s cs) (slots_stores old) (slots_stores new)
    marks_so = record {
      only = λ d s low is. ⊎_elim (λ (h : is_marked old.changed d s ≡ true). inl h) (λ (h : list_any (is_told_of d s) records ≡ true). inr (sym (among_told d s) ∙ h)) (calls.marks.only d s low is);
      same = calls.marks.same;
    }

  -- one slot
  one_moves : (o : ChangesOne unit region old new records) → Moves unit region table old new records life.touches (o.slot ∷ [])
  one_moves o =
      let c : Change = o.slot in
      let are : records ≡ map (move_record unit old new) (c ∷ []) =
      o.one ∙ ap (λ (image : List Row). record_of.Change unit c.db c.slot (rows.rows_spelling image) (image_bytes_at c.db c.slot new.stores) ∷ []) o.stood in
      let its : touched_in region new ≡ with_slot c (touched_in region old) =
      ap (λ (t : List (List Change)). slice_index_or t (region - 1) []) o.touched ∙ index_set old.touched (region - 1) (with_slot c (touched_in region old)) [] (omega (arith, least, most, have.count)) in
      let among : is_among c.db c.slot (touched_in region new) ≡ true = ap (λ (cs : List Change). is_among c.db c.slot cs) its ∙ with_among c (touched_in region old) in
      let told = subst (λ (rs : List Record). AllByRecursion (IsChangeTold unit old.stores new.stores) rs) are calls.told.each in
      record {
        told = are;
        own = (refl, tt);
        each = (
          record {
            there = told.0.there;
            alone = subst (λ (stores : List Stored). HoldsAlone table region (resource_of c.db (image_at c.db c.slot stores))) calls.committed
                (holds_slot table new region holds least (had.touched region).each c.db c.slot among);
          },
          tt,
        );
        committed = calls.committed;
        still = others_stand (c ∷ []) are;
        mine = subst (λ (slots : List Change). AllByRecursion (λ x. (is_among x.db x.slot (c ∷ []) ≡ true) ⊎ IsSome (life.touches unit x.db x.slot)) slots) (sym its)
            (all_with (λ d s. (is_among d s (c ∷ []) ≡ true) ⊎ IsSome (life.touches unit d s)) c (touched_in region old) (inl (ap (λ b. b || false) (same_slot c)))
            (all_touched (touched_in region old) (subst (λ u. AllByRecursion (λ x. IsSome (life.touches u x.db x.slot)) (touched_in region old)) (Rattle.disk_law.proofs.Recovering.index_found units (region - 1) unit 0 found) (l.touched.kept region least))));
        others = λ other low apart. touched_else old new.touched region other (with_slot c (touched_in region old)) least low apart o.touched;
        marks = marks_so (c ∷ []) are;
      } where
        all_touched : (slots : List Change) → AllByRecursion (λ x. IsSome (life.touches unit x.db x.slot)) slots → AllByRecursion (λ x. (is_among x.db x.slot (o.slot ∷ []) ≡ true) ⊎ IsSome (life.touches unit x.db x.slot)) slots
        all_touched [] all = tt
        all_touched (x ∷ slots) all = (inr all.0, all_touched slots all.1)

  -- all slots that the region has touched
  back_moves : TakesBack unit region old new records → Moves unit region table old new records life.touches (touched_in region old)
  back_moves b =
      let are : records ≡ map (move_record unit old new) (touched_in region old) = b.all ∙ told_back unit old new (touched_in region old) b.each in
      record {
        told = are;
        own = ascend_own (touched_in region old) (have.touched region).ascend;
        each =
            all_two (λ c. HoldsAlone was region (resource_of c.db c.before)) (IsTouchedSlot old) (IsMoved table region old)
            (λ c alone is. record { there = is.there; alone = leave region c.db (image_at c.db c.slot old.committed) (subst (λ (image : List Row). HoldsAlone was region (resource_of c.db image)) is.first alone) })
            (touched_in region old) (held.held region least) (have.touched region).each;
        committed = calls.committed;
        still = others_stand (touched_in region old) are;
        mine = subst (λ (slots : List Change). AllByRecursion (λ x. (is_among x.db x.slot (touched_in region old) ≡ true) ⊎ IsSome (life.touches unit x.db x.slot)) slots) (sym (none_touched old new.touched region b.touched)) tt;
        others = λ other low apart. touched_else old new.touched region other [] least low apart b.touched;
        marks = marks_so (touched_in region old) are;
      }

  -- What the call tells is appended, and the life goes on.
  pub call_goes : HasRoom records life → Continues (flat_map record_spelling records) (IsLifeOf system lasting after table new units next) life
  call_goes room = by calls.does where
    nothing : ChangesNone old new records → Continues (flat_map record_spelling records) (IsLifeOf system lasting after table new units next) life
    nothing none =
        subst (λ (rs : List Record). Continues (flat_map record_spelling rs) (IsLifeOf system lasting after table new units next) life) (sym none.none)
        (subst (λ (slots : SlotsState). Continues [] (IsLifeOf system lasting after table slots units next) life) (sym none.same)
        (stays_as system lasting before after was table old units next life l leave numbers))

    moved : (cs : List Change) → Moves unit region table old new records life.touches cs → Continues (flat_map record_spelling records) (IsLifeOf system lasting after table new units next) life
    moved cs m =
        moves_on system n lasting before after was table old new units next life l have had few_sectors holds leave numbers unit region least found some records cs m room.valid room.fits room.bytes

    by : ChangesNone old new records ⊎ (ChangesOne unit region old new records ⊎ TakesBack unit region old new records) → Continues (flat_map record_spelling records) (IsLifeOf system lasting after table new units next) life
    by (inl none) = nothing none
    by (inr (inl one)) = moved (one.slot ∷ []) (one_moves one)
    by (inr (inr back)) = moved (touched_in region old) (back_moves back)
