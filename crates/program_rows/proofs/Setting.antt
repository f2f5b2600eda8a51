-- What a record that is set leaves of the databases, and to which abend an edit leads.
use Rattle.std.proofs.Common.{◌≡◌, ℕ, ◌-◌, ◌≤◌, ◌++◌, ◌∷◌, [], List, length, map, zero, suc, refl, sym, ◌∙◌, ap, subst, Bool, true, false, cond, Option, None, Some, arith, get_or, set, leb, not, ◌&&◌, ◌||◌, eqb}
use Rattle.std.specs.List.{slice_get}
use Rattle.std.specs.Option.{option_map}
use Rattle.std.specs.Prelude.{IfSome}
use Rattle.std.proofs.lemmas.List.{map-set, length-map}
use Rattle.std.proofs.lemmas.Map.Text.{is_eq-slice_cmp}
use Rattle.std.proofs.lemmas.Option.{slice_get_within}
use Rattle.tm_types.specs.declared.dbd.Dbd.{Dbd}
use Rattle.tm_types.specs.declared.abend.AbendCode.{AbendCode}
use Rattle.model_data.specs.declared.call.RowsLimit.{RowsLimit}
use Rattle.model_data.specs.Data as dat
use Rattle.model_data.specs.Data.{with_changed_root, limit_abend_by, limit_abend}
use Rattle.seg_rows.specs.RowsRefused.{set_refusal}
use Rattle.seg_store.specs.Slots.{Stored, rows_of_slots}
use Rattle.unit_work.specs.declared.change.Change.{Change}
use Rattle.unit_work.specs.Changes.{Changes, is_record_changed, with_change, is_full}
use Rattle.dli_calls.specs.declared.planned.Edit.{Edit}
use Rattle.dli_calls.specs.CallPlan.{limit_of}
use Rattle.program_rows.specs.DatabasesState.{roots_of, rows_of_stores, database_rows_in}
use Rattle.program_rows.specs.OpenUnits.{unit_records_of, unit_slots_of}

-- the store of a number, its rows and its database
rows_there : (stores : List Stored) (i : ℕ) (s : Stored) → slice_get stores i ≡ Some s → get_or (rows_of_stores stores) i [] ≡ rows_of_slots s.slots
rows_there [] i s e = let clash : None ≡ Some s = e in absurd (cc)
rows_there (x ∷ stores) zero s e = let same : Some x ≡ Some s = e in let parts : x ≡ s = cc in ap (λ (y : Stored). rows_of_slots y.slots) parts
rows_there (x ∷ stores) (suc i) s e = rows_there stores i s e

pub rows_at_is : (number : ℕ) (stores : List Stored) (s : Stored) → slice_get stores (number - 1) ≡ Some s → database_rows_in number (rows_of_stores stores) ≡ rows_of_slots s.slots
rows_at_is number stores s e = rows_there stores (number - 1) s e

pub dbd_there : (stores : List Stored) (i : ℕ) (s : Stored) (dbd : Dbd) → slice_get stores i ≡ Some s → slice_get (map (λ (x : Stored). x.dbd) stores) i ≡ Some dbd → s.dbd ≡ dbd
dbd_there [] i s dbd e f = let clash : None ≡ Some s = e in absurd (cc)
dbd_there (x ∷ stores) zero s dbd e f =
    let same : Some x ≡ Some s = e in
    let parts : x ≡ s = cc in
    let there : Some x.dbd ≡ Some dbd = f in
    let whole : x.dbd ≡ dbd = cc in
    ap (λ (y : Stored). y.dbd) (sym parts) ∙ whole
dbd_there (x ∷ stores) (suc i) s dbd e f = dbd_there stores i s dbd e f

pub is_stored : (number : ℕ) (stores : List Stored) (dbd : Dbd) → 1 ≤ number → slice_get (map (λ (x : Stored). x.dbd) stores) (number - 1) ≡ Some dbd → number ≤ length stores
is_stored number stores dbd least e =
    omega (arith, slice_get_within (map (λ (x : Stored). x.dbd) stores) (number - 1) dbd e, length-map stores (λ (x : Stored). x.dbd), least)

pub dbds_stay : (stores : List Stored) (i : ℕ) (s new : Stored) → slice_get stores i ≡ Some s → new.dbd ≡ s.dbd → map (λ (x : Stored). x.dbd) (set stores i new) ≡ map (λ (x : Stored). x.dbd) stores
dbds_stay [] i s new e d = refl
dbds_stay (x ∷ stores) zero s new e d =
    let same : Some x ≡ Some s = e in
    let parts : x ≡ s = cc in
    ap (λ y. y ∷ map (λ (x : Stored). x.dbd) stores) (d ∙ ap (λ (y : Stored). y.dbd) (sym parts))
dbds_stay (x ∷ stores) (suc i) s new e d = ap (λ ys. x.dbd ∷ ys) (dbds_stay stores i s new e d)

-- the changed records are those of the definition
changed_same : (number : ℕ) (root : List ℕ) (records : List Change) → dat.is_root_changed number root (roots_of records) ≡ is_record_changed number root records
changed_same number root [] = refl
changed_same number root (c ∷ records) = λ t. (eqb c.db number && sym (is_eq-slice_cmp c.root root) t) || changed_same number root records t

roots_push : (records : List Change) (c : Change) → roots_of (records ++ c ∷ []) ≡ roots_of records ++ (c.db, c.root) ∷ []
roots_push [] c = refl
roots_push (x ∷ records) c = ap (λ ys. (x.db, x.root) ∷ ys) (roots_push records c)

pub changed_push : (c : Change) (records : List Change) → roots_of (with_change c records) ≡ with_changed_root c.db (Some c.root) (roots_of records)
changed_push c records = by (is_record_changed c.db c.root records) refl
  where
    by : (b : Bool) → is_record_changed c.db c.root records ≡ b → roots_of (with_change c records) ≡ with_changed_root c.db (Some c.root) (roots_of records)
    by true q =
        ap (λ b. roots_of (cond b records (records ++ c ∷ []))) q
        ∙ sym (ap (λ b. cond b (roots_of records) (roots_of records ++ (c.db, c.root) ∷ [])) (changed_same c.db c.root records ∙ q))
    by false q =
        ap (λ b. roots_of (cond b records (records ++ c ∷ []))) q
        ∙ (roots_push records c
        ∙ sym (ap (λ b. cond b (roots_of records) (roots_of records ++ (c.db, c.root) ∷ [])) (changed_same c.db c.root records ∙ q)))

pub taken : {A : Type 0} (P : A → Type 0) (o : Option A) (x : A) → o ≡ Some x → IfSome o P → P x
taken P o x e h = subst (λ o. IfSome o P) e h

-- one record too many, by the definition
full_same : (number : ℕ) (root : List ℕ) (records : List Change)
    → (not (dat.is_root_changed number root (roots_of records)) && leb 32 (length (roots_of records))) ≡ is_full number root records
full_same number root records =
    (λ t. not (changed_same number root records t) && leb 32 (length-map {B = ℕ × List ℕ} records (λ (c : Change). (c.db, c.root)) t))
    ∙ by (is_record_changed number root records) (leb 32 (length records))
  where
    by : (a b : Bool) → (not a && b) ≡ cond a false b
    by true b = refl
    by false b = refl

-- the abend of an edit, of a unit with these records over these stores
abbrev pub abend_in : ℕ → Dbd → Edit → List Change → List Stored → Option AbendCode
abend_in number dbd e records stores = limit_abend_by number (roots_of records) (Some e.root) (limit_of (set_refusal dbd e.root e.image (database_rows_in number (rows_of_stores stores))))

pub full_abend : (number : ℕ) (dbd : Dbd) (e : Edit) (records : List Change) (stores : List Stored) → is_full number e.root records ≡ true
    → abend_in number dbd e records stores ≡ Some (record { number = 900 })
full_abend number dbd e records stores full =
    ap (λ b. cond b (Some (record { number = 900 })) (option_map limit_abend (limit_of (set_refusal dbd e.root e.image (database_rows_in number (rows_of_stores stores))))))
    (full_same number e.root records ∙ full)

-- else the limit of the database
pub limit_is : (number : ℕ) (dbd : Dbd) (e : Edit) (records : List Change) (stores : List Stored) (s : Stored) (o : Option RowsLimit) → is_full number e.root records ≡ false
    → slice_get stores (number - 1) ≡ Some s → limit_of (set_refusal dbd e.root e.image (rows_of_slots s.slots)) ≡ o
    → abend_in number dbd e records stores ≡ option_map limit_abend o
limit_is number dbd e records stores s o room at limit =
    ap (λ b. cond b (Some (record { number = 900 })) (option_map limit_abend (limit_of (set_refusal dbd e.root e.image (database_rows_in number (rows_of_stores stores))))))
    (full_same number e.root records ∙ room)
    ∙ ap (option_map limit_abend) (ap (λ rows. limit_of (set_refusal dbd e.root e.image rows)) (rows_at_is number stores s at) ∙ limit)

-- the records of a unit that is there
pub unit_records : (units : List Changes) (i : ℕ) (u : Changes) → slice_get units i ≡ Some u → get_or (unit_records_of units) i [] ≡ u.records
unit_records [] i u e = let clash : None ≡ Some u = e in absurd (cc)
unit_records (x ∷ units) zero u e = let same : Some x ≡ Some u = e in let parts : x ≡ u = cc in ap (λ (y : Changes). y.records) parts
unit_records (x ∷ units) (suc i) u e = unit_records units i u e

pub unit_slots : (units : List Changes) (i : ℕ) (u : Changes) → slice_get units i ≡ Some u → get_or (unit_slots_of units) i [] ≡ u.slots
unit_slots [] i u e = let clash : None ≡ Some u = e in absurd (cc)
unit_slots (x ∷ units) zero u e = let same : Some x ≡ Some u = e in let parts : x ≡ u = cc in ap (λ (y : Changes). y.slots) parts
unit_slots (x ∷ units) (suc i) u e = unit_slots units i u e

-- the records after one unit is another
pub records_put : (units : List Changes) (i : ℕ) (u : Changes) → unit_records_of (set units i u) ≡ set (unit_records_of units) i u.records
records_put units i u = map-set (λ (x : Changes). x.records) units i u

pub slots_put : (units : List Changes) (i : ℕ) (u : Changes) → unit_slots_of (set units i u) ≡ set (unit_slots_of units) i u.slots
slots_put units i u = map-set (λ (x : Changes). x.slots) units i u

-- a unit that is put back where it was
pub put_back : {A : Type 0} (xs : List A) (i : ℕ) (x y : A) → slice_get xs i ≡ Some x → set (set xs i y) i x ≡ xs
put_back [] i x y e = refl
put_back (z ∷ xs) zero x y e = let same : Some z ≡ Some x = e in let parts : z ≡ x = cc in ap (λ w. w ∷ xs) (sym parts)
put_back (z ∷ xs) (suc i) x y e = ap (λ ws. z ∷ ws) (put_back xs i x y e)

pub put_twice : {A : Type 0} (xs : List A) (i : ℕ) (x y : A) → set (set xs i y) i x ≡ set xs i x
put_twice [] i x y = refl
put_twice (z ∷ xs) zero x y = refl
put_twice (z ∷ xs) (suc i) x y = ap (λ ws. z ∷ ws) (put_twice xs i x y)
