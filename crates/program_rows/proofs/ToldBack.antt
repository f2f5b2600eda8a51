-- What is told of slots: what backing out a unit makes of those that it touched, and that their images are short enough.
use Rattle.std.proofs.Common.{◌≡◌, ℕ, ◌-◌, ◌<◌, ◌≤◌, ◌∷◌, [], List, length, map, refl, sym, ◌∙◌, ap, subst, Bool, true, false, cond, Option, None, Some, arith, get_or, ◌||◌, ◌⊎◌, ⊎_elim}
use Rattle.std.specs.List.{AllByRecursion, slice_get, list_any}
use Rattle.std.specs.Option.{option_map_or}
use Rattle.std.proofs.lemmas.Bool.{false≢true, ltb-false}
use Rattle.std.proofs.lemmas.Option.{slice_get_within, slice_get-get_or}
use Rattle.tm_types.specs.declared.dbd.Dbd.{Dbd}
use Rattle.model_data.specs.declared.row.Row.{Row}
use Rattle.model_data.specs.Record.{rows_spelling, record_limit}
use Rattle.model_data.specs.Rows.{passes_roots, passes_length}
use Rattle.model_data.proofs.Lists.{all_then}
use Rattle.model_data.specs.Table.{EnqueueTable}
use Rattle.seg_rows.specs.RowsRefused.{set_refusal}
use Rattle.seg_store.specs.Slots.{Stored, AreSlots, IsSlot}
use Rattle.unit_work.specs.declared.change.Change.{Change}
use Rattle.unit_work.specs.Changes.{is_slot_before, is_slot, is_seen}
use Rattle.unit_work.specs.BackOut.{backed_out, backs}
use Rattle.unit_work.specs.Images.{slots_of_database, image_at, image_bytes_at, IsSlotOf}
use Rattle.unit_work.specs.ToldChanges.{is_told_of, IsChangeTold, ChangesTold}
use Rattle.program_rows.specs.OpenUnits.{IsRecordTouched, AreTouchedByUnit}
use Rattle.program_rows.specs.ToldChanges.{back_out_told, IsToldable}
use Rattle.program_rows.proofs.Backed.{AreValid, all_there, backed_dbds, backed_lengths}

-- nothing has changed
pub stays_told : (unit : ℕ) (old new : List Stored) → new ≡ old → ChangesTold unit old new []
stays_told unit old new e =
    record { each = tt; others = λ database slot least q. ap (image_at database slot) e; databases = ap (map (λ (s : Stored). s.dbd)) e }

module _ (unit : ℕ) (stores : List Stored) (table : EnqueueTable) (region : ℕ) (records : List Change) where
  each_told : (slots : List Change) → AllByRecursion (IsRecordTouched table stores region records) slots
      → AllByRecursion (IsChangeTold unit stores (backed_out records stores)) (map (back_out_told unit stores) slots)
  each_told [] h = tt
  each_told (s ∷ slots) h = (record { by = refl; there = h.0.there; before = refl; after = ap rows_spelling (sym h.0.first) }, each_told slots h.1)

  -- a slot of which nothing is told isn't among them
  none_seen : (db slot : ℕ) (slots : List Change) → list_any (is_told_of db slot) (map (back_out_told unit stores) slots) ≡ false → is_seen db slot slots ≡ false
  none_seen db slot [] e = refl
  none_seen db slot (s ∷ slots) e = by (is_slot_before db slot s) (is_slot db slot s) refl refl (none_seen db slot slots)
    where
      by : (b a : Bool) → is_slot_before db slot s ≡ b → is_slot db slot s ≡ a → (list_any (is_told_of db slot) (map (back_out_told unit stores) slots) ≡ false → is_seen db slot slots ≡ false)
          → is_seen db slot (s ∷ slots) ≡ false
      by b true p q rec = absurd (false≢true (sym e ∙ ap (λ x. x || list_any (is_told_of db slot) (map (back_out_told unit stores) slots)) q))
      by true false p q rec =
          ap (λ x. cond x (is_seen db slot slots) (is_slot db slot s)) p
          ∙ rec (sym (ap (λ x. x || list_any (is_told_of db slot) (map (back_out_told unit stores) slots)) q) ∙ e)
      by false false p q rec = ap (λ x. cond x (is_seen db slot slots) (is_slot db slot s)) p ∙ q

  pub back_changes : (slots : List Change) → AreTouchedByUnit table stores region records slots → ChangesTold unit stores (backed_out records stores) (map (back_out_told unit stores) slots)
  back_changes slots t =
      record {
        each = each_told slots t.each;
        others = λ db slot least e. t.others db slot least (none_seen db slot slots e);
        databases = backed_dbds records stores;
      }

  -- a slot that the unit sets when it is backed out is told of
  seen_told : (db slot : ℕ) (slots : List Change) → is_seen db slot slots ≡ true → list_any (is_told_of db slot) (map (back_out_told unit stores) slots) ≡ true
  seen_told db slot slots e = by (list_any (is_told_of db slot) (map (back_out_told unit stores) slots)) refl
    where
      by : (b : Bool) → list_any (is_told_of db slot) (map (back_out_told unit stores) slots) ≡ b → list_any (is_told_of db slot) (map (back_out_told unit stores) slots) ≡ true
      by true q = q
      by false q = absurd (false≢true (sym (none_seen db slot slots q) ∙ e))

  pub back_seen : (slots : List Change) → AreTouchedByUnit table stores region records slots → (db slot : ℕ) → 1 ≤ db → backs records db slot (image_at db slot stores) ≡ true → is_seen db slot slots ≡ true
  back_seen slots t db slot least e = by (is_seen db slot slots) refl
    where
      by : (b : Bool) → is_seen db slot slots ≡ b → is_seen db slot slots ≡ true
      by true q = q
      by false q = absurd (false≢true (sym (t.idle db slot least q) ∙ e))

  pub back_told_of : (slots : List Change) → AreTouchedByUnit table stores region records slots → (db slot : ℕ) → 1 ≤ db → backs records db slot (image_at db slot stores) ≡ true
      → list_any (is_told_of db slot) (map (back_out_told unit stores) slots) ≡ true
  back_told_of slots t db slot least e = seen_told db slot slots (back_seen slots t db slot least e)

  pub each_back : (slots : List Change) → AllByRecursion (IsRecordTouched table stores region records) slots → AllByRecursion (λ c. image_at c.db c.slot (backed_out records stores) ≡ c.before) slots
  each_back [] h = tt
  each_back (c ∷ slots) h = (h.0.first, each_back slots h.1)

-- an image in a slot is short enough
pub short_image : (dbd : Dbd) (slots : List (List Row)) (slot : ℕ) (image : List Row) → AreSlots dbd slots → dbd.sectors ≤ 8 → slice_get slots slot ≡ Some image → length (rows_spelling image) ≤ 32000
short_image dbd slots slot image valid sectors at = ⊎_elim (λ none. omega (arith, ap (λ rows. length (rows_spelling rows)) none)) (λ r. omega (arith, r.within, sectors)) in_slot
  where
    in_slot : IsSlot dbd image
    in_slot = all_there (IsSlot dbd) slots slot image valid.each at

-- and so is one that the store takes
pub short_edit : (dbd : Dbd) (root : List ℕ) (image rows : List Row) → dbd.sectors ≤ 8 → set_refusal dbd root image rows ≡ None → length (rows_spelling image) ≤ 32000
short_edit dbd root image rows sectors e = by (passes_roots dbd root image rows) (passes_length dbd image) refl e
  where
    by : (a b : Bool) → passes_length dbd image ≡ b → cond a (Some Rattle.seg_rows.specs.declared.rows.RowsRefused.TheVariants.RootLimit) (cond b (Some Rattle.seg_rows.specs.declared.rows.RowsRefused.TheVariants.RecordTooLong) None) ≡ None
        → length (rows_spelling image) ≤ 32000
    by true b q h = absurd (cc)
    by false true q h = absurd (cc)
    by false false q h = omega (arith, ltb-false (record_limit dbd) (length (rows_spelling image)) q, sectors)

-- the stores of databases of one sector
module _ (stores : List Stored) (valid : AreValid stores) (sectors : AllByRecursion (λ s. s.dbd.sectors ≤ 8) stores) where
  pub short_at : (db slot : ℕ) → IsSlotOf stores db slot → (db ≤ length stores) × (length (image_bytes_at db slot stores) ≤ 32000)
  short_at db slot there = by (slice_get stores (db - 1)) refl
    where
      by : (o : Option Stored) → slice_get stores (db - 1) ≡ o → (db ≤ length stores) × (length (image_bytes_at db slot stores) ≤ 32000)
      by None e =
          let none : slots_of_database db stores ≡ [] = ap (λ x. option_map_or (λ (s : Stored). s.slots) x []) e in
          absurd (omega (arith, there.within, ap length none))
      by (Some s) e =
          let is : slots_of_database db stores ≡ s.slots = ap (λ x. option_map_or (λ (s : Stored). s.slots) x []) e in
          let inside : slot < length s.slots = subst (λ xs. slot < length xs) is there.within in
          let at : slice_get s.slots slot ≡ Some (get_or s.slots slot []) = slice_get-get_or s.slots slot [] inside in
          let short : length (rows_spelling (get_or s.slots slot [])) ≤ 32000 =
          short_image s.dbd s.slots slot (get_or s.slots slot []) (all_there (λ (x : Stored). AreSlots x.dbd x.slots) stores (db - 1) s valid e)
          (all_there (λ (x : Stored). x.dbd.sectors ≤ 8) stores (db - 1) s sectors e) at in (
            omega (arith, slice_get_within stores (db - 1) s e, there.least),
            subst (λ xs. length (rows_spelling (get_or xs slot [])) ≤ 32000) (sym is) short,
          )

-- the same once a unit was backed out
pub same_sectors : (old new : List Stored) → map (λ (s : Stored). s.dbd) new ≡ map (λ (s : Stored). s.dbd) old → AllByRecursion (λ s. s.dbd.sectors ≤ 8) old → AllByRecursion (λ s. s.dbd.sectors ≤ 8) new
same_sectors [] [] e h = tt
same_sectors [] (t ∷ new) e h = let clash : t.dbd ∷ map (λ (s : Stored). s.dbd) new ≡ [] = e in absurd (cc)
same_sectors (s ∷ old) [] e h = tt
same_sectors (s ∷ old) (t ∷ new) e h =
    let both : t.dbd ∷ map (λ (x : Stored). x.dbd) new ≡ s.dbd ∷ map (λ (x : Stored). x.dbd) old = e in
    let head : t.dbd ≡ s.dbd = cc in
    let tail : map (λ (x : Stored). x.dbd) new ≡ map (λ (x : Stored). x.dbd) old = cc in
    (subst (λ (d : Dbd). d.sectors ≤ 8) (sym head) h.0, same_sectors old new tail h.1)

pub toldable : (stores : List Stored) (table : EnqueueTable) (region : ℕ) (records slots : List Change) → AreValid stores → AreValid (backed_out records stores)
    → AllByRecursion (λ s. s.dbd.sectors ≤ 8) stores → AreTouchedByUnit table stores region records slots → AllByRecursion (IsToldable stores) slots
toldable stores table region records slots valid then_valid sectors t =
    all_then (IsRecordTouched table stores region records) (IsToldable stores) slots
    (λ s x.
    let now = short_at stores valid sectors s.db s.slot x.there in
    let later = short_at (backed_out records stores) then_valid (same_sectors stores (backed_out records stores) (backed_dbds records stores) sectors) s.db s.slot
    (record { least = x.there.least; within = subst (λ n. s.slot < n) (sym (backed_lengths stores records s.db x.there.least)) x.there.within }) in
    record {
      there = x.there;
      known = now.0;
      present = now.1;
      first = subst (λ rows. length (rows_spelling rows) ≤ 32000) x.first later.1;
    }) t.each
