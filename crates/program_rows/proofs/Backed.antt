-- What backing out units leaves in stores: slots of the databases, records that none of them has changed, and the roots where each of their records stays.
use Rattle.std.proofs.Common.{◌≡◌, ◌≢◌, ℕ, ◌+◌, ◌-◌, ◌<◌, ◌≤◌, ◌∷◌, [], List, length, map, zero, suc, refl, sym, ◌∙◌, ap, subst, true, false, Option, None, Some, arith, get_or, ◌⊎◌, inl, inr, ⊎_elim}
use Rattle.std.specs.List.{AllByRecursion, slice_get}
use Rattle.std.specs.Option.{option_map_or}
use Rattle.std.proofs.lemmas.Bool.{false≢true}
use Rattle.model_data.specs.declared.row.Row.{Row}
use Rattle.model_data.specs.Record.{IsRecord}
use Rattle.model_data.specs.Rows.{record_of, roots}
use Rattle.seg_store.specs.Slots.{Stored, has_root, is_slot_free, AreSlots, rows_of_slots}
use Rattle.unit_work.specs.declared.change.Change.{Change}
use Rattle.unit_work.specs.Changes.{is_record_changed, AreRecordsOnce}
use Rattle.unit_work.specs.BackOut.{cleared_slot, cleared, backed_out, IsStored, CanGoBack, CanBackOut}
use Rattle.program_rows.specs.DatabasesState.{rows_of_stores, database_rows_in}
use Rattle.program_rows.specs.OpenUnits.{backed_all, StaysInSlot, was_there}
use Rattle.unit_work.specs.Images.{slots_of_database, image_at}
use Rattle.program_rows.proofs.Slotwise.{each_slot, each_store, back, backed_is, each_there, slots_at_each, slots_at_length, image_at_each, dbds_each}
use Rattle.program_rows.proofs.Beside.{AreRooted, AreBeside, idle_back}
use Rattle.program_rows.proofs.Aside.{goes, can_rooted, cleared_where, slots_there, was_there_own}
use Rattle.program_rows.proofs.Together.{AreAllBeside, beside_all, can_all}
use Rattle.program_rows.proofs.Restored.{Restores, restored_slots, restored_record}
use Rattle.program_rows.proofs.RootsStay.{Stays, restored_roots}

-- a unit that can be backed out, and keeps each record once
pub record IsGood (stores : List Stored) (records : List Change) : Type 0 where
  pub can : CanBackOut records stores
  pub once : AreRecordsOnce records

abbrev pub AreValid : List Stored → Type 0
AreValid stores = AllByRecursion (λ s. AreSlots s.dbd s.slots) stores

pub all_there : {A : Type 0} (P : A → Type 0) (xs : List A) (i : ℕ) (x : A) → AllByRecursion P xs → slice_get xs i ≡ Some x → P x
all_there P [] i x h e = let clash : None ≡ Some x = e in absurd (cc)
all_there P (y ∷ xs) zero x h e = let same : Some y ≡ Some x = e in let parts : y ≡ x = cc in subst P parts h.0
all_there P (y ∷ xs) (suc i) x h e = all_there P xs i x h.1 e

-- the rows of the database of a number
rows_get : (stores : List Stored) (i : ℕ) → get_or (rows_of_stores stores) i [] ≡ rows_of_slots (option_map_or (λ (s : Stored). s.slots) (slice_get stores i) [])
rows_get [] i = refl
rows_get (s ∷ stores) zero = refl
rows_get (s ∷ stores) (suc i) = rows_get stores i

pub rows_in_is : (db : ℕ) (stores : List Stored) → database_rows_in db (rows_of_stores stores) ≡ rows_of_slots (slots_of_database db stores)
rows_in_is db stores = rows_get stores (db - 1)

-- what backing out a unit needs of the store of a number
pub restores : (stores : List Stored) (records : List Change) (db : ℕ) (s : Stored) → 1 ≤ db → IsGood stores records → slice_get stores (db - 1) ≡ Some s → Restores s.dbd records db s.slots
restores stores records db s least good at =
    record {
      cleared = λ m lt e.
          ap (λ xs. cleared_slot records db (get_or xs m [])) (sym (slots_there db stores s at)) ∙ cleared_where records stores db m good.can e;
      before = before records good.can.fits good.can.stored;
      once = good.once;
    }
  where
    before : (rs : List Change) → AllByRecursion (CanGoBack (cleared records stores)) rs → AllByRecursion (IsStored stores) rs
        → AllByRecursion (λ c. c.db ≡ db → (c.before ≡ []) ⊎ IsRecord s.dbd c.root c.before) rs
    before [] f t = tt
    before (c ∷ rs) f t = (
      λ d. ⊎_elim (λ e. inl e)
          (λ g.
          let both : Some g.s ≡ Some s = sym g.at ∙ (ap (λ n. slice_get stores (n - 1)) d ∙ at) in
          let same : g.s ≡ s = cc in
          inr (subst (λ (x : Stored). IsRecord x.dbd c.root c.before) same g.valid)) (goes records stores c t.0.least f.0),
      before rs f.1 t.1,
    )

pub backed_there : (stores : List Stored) (records : List Change) (db : ℕ) (s : Stored) → 1 ≤ db → slice_get stores (db - 1) ≡ Some s
    → slice_get (backed_out records stores) (db - 1) ≡ Some (record { dbd = s.dbd; slots = each_slot (back records) db 0 s.slots })
backed_there stores records db s least at = ap (λ ss. slice_get ss (db - 1)) (backed_is records stores) ∙ each_there (back records) db stores s least at

pub backed_slots_at : (stores : List Stored) (records : List Change) (db : ℕ) → 1 ≤ db → slots_of_database db (backed_out records stores) ≡ each_slot (back records) db 0 (slots_of_database db stores)
backed_slots_at stores records db least = ap (slots_of_database db) (backed_is records stores) ∙ slots_at_each (back records) db stores least

pub backed_dbds : (records : List Change) (stores : List Stored) → map (λ (s : Stored). s.dbd) (backed_out records stores) ≡ map (λ (s : Stored). s.dbd) stores
backed_dbds records stores = ap (map (λ (s : Stored). s.dbd)) (backed_is records stores) ∙ dbds_each (back records) 1 stores

pub backed_lengths : (stores : List Stored) (records : List Change) (db : ℕ) → 1 ≤ db → length (slots_of_database db (backed_out records stores)) ≡ length (slots_of_database db stores)
backed_lengths stores records db least = ap (λ ss. length (slots_of_database db ss)) (backed_is records stores) ∙ slots_at_length (back records) db stores least

-- the stores are slots of their databases again
pub valid_back : (stores : List Stored) (records : List Change) → AreValid stores → IsGood stores records → AreValid (backed_out records stores)
valid_back stores records valid good =
    subst AreValid (sym (backed_is records stores))
    (by 1 stores (λ i s e.
    let place : (1 + i) - 1 ≡ i = omega arith in
    let at : slice_get stores ((1 + i) - 1) ≡ Some s = ap (slice_get stores) place ∙ e in
    restored_slots s.dbd records (1 + i) s.slots (restores stores records (1 + i) s (omega arith) good at) (all_there (λ (x : Stored). AreSlots x.dbd x.slots) stores i s valid e)))
  where
    by : (n : ℕ) (ss : List Stored) → ((i : ℕ) (s : Stored) → slice_get ss i ≡ Some s → AreSlots s.dbd (each_slot (back records) (n + i) 0 s.slots)) → AreValid (each_store (back records) n ss)
    by n [] h = tt
    by n (s ∷ ss) h =
        let here : n + 0 ≡ n = omega arith in (
          subst (λ k. AreSlots s.dbd (each_slot (back records) k 0 s.slots)) here (h 0 s refl),
          by (suc n) ss (λ i x e. let next : n + suc i ≡ suc n + i = omega arith in subst (λ k. AreSlots x.dbd (each_slot (back records) k 0 x.slots)) next (h (suc i) x e)),
        )

-- a fact of the store of a number, or of none
by_store : (P : List (List Row) → Type 0) (stores : List Stored) (db : ℕ) → P [] → ((s : Stored) → slice_get stores (db - 1) ≡ Some s → P s.slots) → P (slots_of_database db stores)
by_store P stores db none some = by (slice_get stores (db - 1)) refl
  where
    by : (o : Option Stored) → slice_get stores (db - 1) ≡ o → P (slots_of_database db stores)
    by None e = subst (λ o. P (option_map_or (λ (s : Stored). s.slots) o [])) (sym e) none
    by (Some s) e = subst (λ o. P (option_map_or (λ (x : Stored). x.slots) o [])) (sym e) (some s e)

-- a record that the unit hasn't changed is as it was
pub record_back : (stores : List Stored) (records : List Change) (db : ℕ) (key : List ℕ) → 1 ≤ db → AreValid stores → IsGood stores records → is_record_changed db key records ≡ false
    → record_of key (database_rows_in db (rows_of_stores (backed_out records stores))) ≡ record_of key (database_rows_in db (rows_of_stores stores))
record_back stores records db key least valid good e =
    ap (record_of key) (rows_in_is db (backed_out records stores))
    ∙ (ap (λ xs. record_of key (rows_of_slots xs)) (backed_slots_at stores records db least)
    ∙ (by_store (λ xs. record_of key (rows_of_slots (each_slot (back records) db 0 xs)) ≡ record_of key (rows_of_slots xs)) stores db refl
    (λ s at. restored_record s.dbd records db s.slots (restores stores records db s least good at) (all_there (λ (x : Stored). AreSlots x.dbd x.slots) stores (db - 1) s valid at) key e)
    ∙ ap (record_of key) (sym (rows_in_is db stores))))

free_some : (image : List Row) → image ≢ [] → is_slot_free image ≡ false
free_some [] h = absurd (h refl)
free_some (row ∷ image) h = refl

-- and where each of its records stays in its slot, the roots are as they were
pub roots_back : (stores : List Stored) (records : List Change) (db : ℕ) → 1 ≤ db → AreValid stores → IsGood stores records → AllByRecursion (λ c. c.db ≡ db → StaysInSlot stores c) records
    → roots (database_rows_in db (rows_of_stores (backed_out records stores))) ≡ roots (database_rows_in db (rows_of_stores stores))
roots_back stores records db least valid good stay =
    ap roots (rows_in_is db (backed_out records stores))
    ∙ (ap (λ xs. roots (rows_of_slots xs)) (backed_slots_at stores records db least)
    ∙ (by_store (λ xs. roots (rows_of_slots (each_slot (back records) db 0 xs)) ≡ roots (rows_of_slots xs)) stores db refl
    (λ s at.
    restored_roots s.dbd records db s.slots (restores stores records db s least good at) (all_there (λ (x : Stored). AreSlots x.dbd x.slots) stores (db - 1) s valid at)
    (in_slots s at records stay) (rooted records stay (can_rooted records stores good.can)))
    ∙ ap roots (sym (rows_in_is db stores))))
  where
    in_slots : (s : Stored) → slice_get stores (db - 1) ≡ Some s → (rs : List Change) → AllByRecursion (λ c. c.db ≡ db → StaysInSlot stores c) rs → AllByRecursion (λ c. c.db ≡ db → Stays s.slots c) rs
    in_slots s at [] h = tt
    in_slots s at (c ∷ rs) h = (
      λ d.
          record {
            was = free_some c.before (h.0 d).was;
            is = ap (λ xs. has_root c.root (get_or xs c.slot [])) (sym (slots_there db stores s at)) ∙ (ap (λ n. has_root c.root (image_at n c.slot stores)) (sym d) ∙ (h.0 d).is);
          },
      in_slots s at rs h.1,
    )

    rooted : (rs : List Change) → AllByRecursion (λ c. c.db ≡ db → StaysInSlot stores c) rs → AreRooted rs → AllByRecursion (λ c. c.db ≡ db → has_root c.root c.before ≡ true) rs
    rooted [] h r = tt
    rooted (c ∷ rs) h r = (λ d. ⊎_elim (λ none. absurd ((h.0 d).was none)) (λ has. has) r.0, rooted rs h.1 r.1)

-- where a record of a unit was, one beside it leaves the image
pub image_where : (stores : List Stored) (a b : List Change) (db slot : ℕ) → 1 ≤ db → slot < length (slots_of_database db stores) → AreBeside stores a b → was_there a db slot ≡ true
    → image_at db slot (backed_out b stores) ≡ image_at db slot stores
image_where stores a b db slot least lt beside used =
    ap (image_at db slot) (backed_is b stores)
    ∙ (image_at_each (back b) db slot stores least lt
    ∙ ⊎_elim (λ idle. absurd (false≢true (sym idle.unused ∙ used))) (λ idle. idle_back b db slot (image_at db slot stores) idle) (beside.apart db slot least lt))

-- all of these units
pub lengths_all : (stores : List Stored) (units : List (List Change)) (db : ℕ) → 1 ≤ db → length (slots_of_database db (backed_all units stores)) ≡ length (slots_of_database db stores)
lengths_all stores [] db least = refl
lengths_all stores (b ∷ units) db least = backed_lengths (backed_all units stores) b db least ∙ lengths_all stores units db least

pub dbds_all : (stores : List Stored) (units : List (List Change)) → map (λ (s : Stored). s.dbd) (backed_all units stores) ≡ map (λ (s : Stored). s.dbd) stores
dbds_all stores [] = refl
dbds_all stores (b ∷ units) = backed_dbds b (backed_all units stores) ∙ dbds_all stores units

pub images_where : (stores : List Stored) (a : List Change) (units : List (List Change)) (db slot : ℕ) → 1 ≤ db → slot < length (slots_of_database db stores)
    → AllByRecursion (AreBeside stores a) units → AreAllBeside stores units → was_there a db slot ≡ true → image_at db slot (backed_all units stores) ≡ image_at db slot stores
images_where stores a [] db slot least lt h all used = refl
images_where stores a (b ∷ units) db slot least lt h all used =
    image_where (backed_all units stores) a b db slot least (omega (arith, lengths_all stores units db least, lt)) (beside_all stores a b units h.0 h.1 all.0 all.1) used
    ∙ images_where stores a units db slot least lt h.1 all.1 used

pub good_all : (stores : List Stored) (a : List Change) (units : List (List Change)) → IsGood stores a → AllByRecursion (AreBeside stores a) units → AreAllBeside stores units → IsGood (backed_all units stores) a
good_all stores a units good h all = record { can = can_all stores a units good.can h all; once = good.once }

pub valid_all : (stores : List Stored) (units : List (List Change)) → AreValid stores → AllByRecursion (IsGood stores) units → AreAllBeside stores units → AreValid (backed_all units stores)
valid_all stores [] valid good all = valid
valid_all stores (b ∷ units) valid good all =
    valid_back (backed_all units stores) b (valid_all stores units valid good.1 all.1) (good_all stores b units good.0 all.0 all.1)

-- a record that none has changed is as it was
pub record_all : (stores : List Stored) (units : List (List Change)) (db : ℕ) (key : List ℕ) → 1 ≤ db → AreValid stores → AllByRecursion (IsGood stores) units → AreAllBeside stores units
    → AllByRecursion (λ a. is_record_changed db key a ≡ false) units → record_of key (database_rows_in db (rows_of_stores (backed_all units stores))) ≡ record_of key (database_rows_in db (rows_of_stores stores))
record_all stores [] db key least valid good all none = refl
record_all stores (b ∷ units) db key least valid good all none =
    record_back (backed_all units stores) b db key least (valid_all stores units valid good.1 all.1) (good_all stores b units good.0 all.0 all.1) none.0
    ∙ record_all stores units db key least valid good.1 all.1 none.1

-- a record that stays in its slot does so once others are backed out
pub stay_all : (stores : List Stored) (a : List Change) (units : List (List Change)) (db : ℕ) → 1 ≤ db → IsGood stores a → AllByRecursion (AreBeside stores a) units → AreAllBeside stores units
    → AllByRecursion (λ c. c.db ≡ db → StaysInSlot stores c) a → AllByRecursion (λ c. c.db ≡ db → StaysInSlot (backed_all units stores) c) a
stay_all stores a units db least good h all stay = each a stay (was_there_own a) good.can.fits good.can.stored
  where
    each : (rs : List Change) → AllByRecursion (λ c. c.db ≡ db → StaysInSlot stores c) rs → AllByRecursion (λ c. is_slot_free c.before ≡ false → was_there a c.db c.slot ≡ true) rs
        → AllByRecursion (CanGoBack (cleared a stores)) rs → AllByRecursion (IsStored stores) rs → AllByRecursion (λ c. c.db ≡ db → StaysInSlot (backed_all units stores) c) rs
    each [] s u f t = tt
    each (c ∷ rs) s u f t = (
      λ d.
          let st : StaysInSlot stores c = s.0 d in
          ⊎_elim (λ none. absurd (st.was none))
          (λ g.
          let within : c.slot < length (slots_of_database c.db stores) = subst (λ xs. c.slot < length xs) (sym (slots_there c.db stores g.s g.at)) g.within in
          record {
            was = st.was;
            is = ap (has_root c.root) (images_where stores a units c.db c.slot t.0.least within h all (u.0 (free_some c.before st.was))) ∙ st.is;
          }) (goes a stores c t.0.least f.0),
      each rs s.1 u.1 f.1 t.1,
    )

pub roots_all : (stores : List Stored) (units : List (List Change)) (db : ℕ) → 1 ≤ db → AreValid stores → AllByRecursion (IsGood stores) units → AreAllBeside stores units
    → AllByRecursion (λ a. AllByRecursion (λ c. c.db ≡ db → StaysInSlot stores c) a) units → roots (database_rows_in db (rows_of_stores (backed_all units stores))) ≡ roots (database_rows_in db (rows_of_stores stores))
roots_all stores [] db least valid good all stay = refl
roots_all stores (b ∷ units) db least valid good all stay =
    roots_back (backed_all units stores) b db least (valid_all stores units valid good.1 all.1) (good_all stores b units good.0 all.0 all.1) (stay_all stores b units db least good.0 all.0 all.1 stay.0)
    ∙ roots_all stores units db least valid good.1 all.1 stay.1
