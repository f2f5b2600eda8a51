-- A unit can still be backed out after changes in slots where it is idle.
use Rattle.std.proofs.Common.{◌≡◌, ℕ, ◌+◌, ◌-◌, ◌<◌, ◌≤◌, ◌∷◌, [], List, length, map, zero, suc, refl, sym, ◌∙◌, ap, subst, Bool, true, false, cond, Option, None, Some, arith, get_or, eqb, ◌&&◌, ◌||◌, not, ◌⊎◌, inl, inr, ⊎_elim}
use Rattle.std.specs.List.{AllByRecursion, slice_get}
use Rattle.std.specs.Option.{option_map_or}
use Rattle.std.proofs.lemmas.Bool.{false≢true, eqb-true, eq-eqb}
use Rattle.std.proofs.lemmas.List.{length-map}
use Rattle.model_data.specs.declared.row.Row.{Row}
use Rattle.model_data.specs.Record.{IsRecord}
use Rattle.model_data.proofs.Lists.{all_then}
use Rattle.seg_store.specs.Slots.{Stored, has_root, is_slot_free, slot_of_root}
use Rattle.seg_store.proofs.Places as places
use Rattle.seg_store.proofs.SlotRows.{record_has}
use Rattle.unit_work.specs.declared.change.Change.{Change}
use Rattle.unit_work.specs.Changes.{is_record_changed}
use Rattle.unit_work.specs.BackOut.{is_touched, was_in, cleared_slot, cleared_slots, cleared_from, cleared, backed_out, IsStored, FitsStore, FitsOption, CanGoBack, CanBackOut}
use Rattle.unit_work.specs.Images.{slots_of_database, image_at}
use Rattle.program_rows.proofs.Slotwise.{back, backed_is, image_at_each, slots_at_length, dbds_each}
use Rattle.program_rows.proofs.Beside.{IsIdle, AreRooted, AreBeside, idle_back, idle_stays, touched_is, all_changed}
use Rattle.program_rows.specs.OpenUnits.{was_there}
use Rattle.program_rows.proofs.Bools.{left_of, right_of}

-- the store of a number, among cleared stores
pub at_cleared : (records : List Change) (n i m : ℕ) (stores : List Stored) (s : Stored) → m ≡ n + i → slice_get stores i ≡ Some s
    → slice_get (cleared_from records n stores) i ≡ Some (record { dbd = s.dbd; slots = cleared_slots records m s.slots })
at_cleared records n i m [] s e g = let clash : None ≡ Some s = g in absurd (cc)
at_cleared records n zero m (x ∷ stores) s e g =
    let same : Some x ≡ Some s = g in
    let parts : x ≡ s = cc in
    let here : n ≡ m = omega arith in
    λ t. Some (record { dbd = (parts t).dbd; slots = cleared_slots records (here t) (parts t).slots })
at_cleared records n (suc i) m (x ∷ stores) s e g = at_cleared records (suc n) i m stores s (omega arith) g

none_cleared : (records : List Change) (n i : ℕ) (stores : List Stored) → slice_get stores i ≡ None → slice_get (cleared_from records n stores) i ≡ None
none_cleared records n i [] g = refl
none_cleared records n zero (x ∷ stores) g = let clash : Some x ≡ None = g in absurd (cc)
none_cleared records n (suc i) (x ∷ stores) g = none_cleared records (suc n) i stores g

-- a slot that is free once it is cleared, and such a slot
free_within : (records : List Change) (db : ℕ) (xs : List (List Row)) (m : ℕ) → slice_get (cleared_slots records db xs) m ≡ Some [] → (m < length xs) × (cleared_slot records db (get_or xs m []) ≡ [])
free_within records db [] m e = let clash : None ≡ Some [] = e in absurd (cc)
free_within records db (x ∷ xs) zero e = let same : Some (cleared_slot records db x) ≡ Some [] = e in (omega arith, cc)
free_within records db (x ∷ xs) (suc m) e = let rec = free_within records db xs m e in (omega (arith, rec.0), rec.1)

free_there : (records : List Change) (db : ℕ) (xs : List (List Row)) (m : ℕ) → m < length xs → cleared_slot records db (get_or xs m []) ≡ [] → slice_get (cleared_slots records db xs) m ≡ Some []
free_there records db [] m lt e = absurd (omega arith)
free_there records db (x ∷ xs) zero lt e = ap Some e
free_there records db (x ∷ xs) (suc m) lt e = free_there records db xs m (omega arith) e

-- no record of the unit is in slots that it has cleared
pub cleared_new : (records : List Change) (db : ℕ) (root : List ℕ) (xs : List (List Row)) → is_record_changed db root records ≡ true → slot_of_root root (cleared_slots records db xs) ≡ None
cleared_new records db root [] e = refl
cleared_new records db root (x ∷ xs) e =
    places.none_cons (has_root root) (cleared_slot records db x) (cleared_slots records db xs) (gone (has_root root x) refl) (cleared_new records db root xs e)
  where
    either : (b : Bool) → has_root root x ≡ false → has_root root (cond b [] x) ≡ false
    either true h = refl
    either false h = h

    gone : (b : Bool) → has_root root x ≡ b → has_root root (cleared_slot records db x) ≡ false
    gone true h = ap (λ b. has_root root (cond b [] x)) (touched_is records db root x h ∙ e)
    gone false h = either (is_touched records db x) h

-- the record of a change goes back into its slot
pub record Goes (records : List Change) (stores : List Stored) (c : Change) : Type 0 where
  pub s : Stored
  pub at : slice_get stores (c.db - 1) ≡ Some s
  pub valid : IsRecord s.dbd c.root c.before
  pub within : c.slot < length s.slots
  pub free : cleared_slot records c.db (get_or s.slots c.slot []) ≡ []

pub goes : (records : List Change) (stores : List Stored) (c : Change) → 1 ≤ c.db → CanGoBack (cleared records stores) c → (c.before ≡ []) ⊎ Goes records stores c
goes records stores c least h = ⊎_elim (λ e. inl e) (λ f. inr (by (slice_get stores (c.db - 1)) refl f)) h
  where
    by : (o : Option Stored) → slice_get stores (c.db - 1) ≡ o → FitsOption (slice_get (cleared records stores) (c.db - 1)) c → Goes records stores c
    by None e f = absurd (subst (λ (o : Option Stored). FitsOption o c) (none_cleared records 1 (c.db - 1) stores e) f)
    by (Some s) e f =
        let fits : FitsStore (record { dbd = s.dbd; slots = cleared_slots records c.db s.slots }) c =
        subst (λ (o : Option Stored). FitsOption o c) (at_cleared records 1 (c.db - 1) c.db stores s (omega (arith, least)) e) f in
        let inside = free_within records c.db s.slots c.slot fits.free in
        record { s = s; at = e; valid = fits.valid; within = inside.0; free = inside.1 }

pub can_go : (records : List Change) (stores : List Stored) (c : Change) → 1 ≤ c.db → is_record_changed c.db c.root records ≡ true → (c.before ≡ []) ⊎ Goes records stores c
    → CanGoBack (cleared records stores) c
can_go records stores c least own h = ⊎_elim (λ e. inl e) (λ g. inr (fits g)) h
  where
    fits : Goes records stores c → FitsOption (slice_get (cleared records stores) (c.db - 1)) c
    fits g =
        let it : FitsStore (record { dbd = g.s.dbd; slots = cleared_slots records c.db g.s.slots }) c =
        record { valid = g.valid; free = free_there records c.db g.s.slots c.slot g.within g.free; new = cleared_new records c.db c.root g.s.slots own } in
        subst (λ (o : Option Stored). FitsOption o c) (sym (at_cleared records 1 (c.db - 1) c.db stores g.s (omega (arith, least)) g.at)) it

-- an image before a change has its root
pub are_rooted : (records all : List Change) (stores : List Stored) → AllByRecursion (CanGoBack (cleared all stores)) records → AllByRecursion (IsStored stores) records → AreRooted records
are_rooted [] all stores h g = tt
are_rooted (c ∷ records) all stores h g = (
  ⊎_elim (λ e. inl e) (λ f. inr (record_has f.s.dbd.types c.root c.before f.valid.whole)) (goes all stores c g.0.least h.0),
  are_rooted records all stores h.1 g.1,
)

pub can_rooted : (records : List Change) (stores : List Stored) → CanBackOut records stores → AreRooted records
can_rooted records stores can = are_rooted records records stores can.fits can.stored

-- the slots of a store that is there
pub slots_there : (db : ℕ) (stores : List Stored) (s : Stored) → slice_get stores (db - 1) ≡ Some s → slots_of_database db stores ≡ s.slots
slots_there db stores s e = ap (λ o. option_map_or (λ (x : Stored). x.slots) o []) e

-- what it takes to have been in a slot
pub record WasIn (db slot : ℕ) (c : Change) : Type 0 where
  pub database : c.db ≡ db
  pub place : c.slot ≡ slot
  pub some : is_slot_free c.before ≡ false

pub was_in_is : (db slot : ℕ) (c : Change) → was_in db slot c ≡ true → WasIn db slot c
was_in_is db slot c e =
    let rest : (eqb c.slot slot && not (is_slot_free c.before)) ≡ true = right_of (eqb c.db db) _ e in
    record {
      database = eqb-true c.db db (left_of (eqb c.db db) _ e);
      place = eqb-true c.slot slot (left_of (eqb c.slot slot) _ rest);
      some = turn (is_slot_free c.before) (right_of (eqb c.slot slot) _ rest);
    }
  where
    turn : (b : Bool) → not b ≡ true → b ≡ false
    turn true h = absurd (false≢true h)
    turn false h = refl

pub free_none : (image : List Row) → image ≡ [] → is_slot_free image ≡ true
free_none image e = ap is_slot_free e

-- where the record of a change was, its unit leaves nothing once it is cleared
pub cleared_where : (records : List Change) (stores : List Stored) (db slot : ℕ) → CanBackOut records stores → was_there records db slot ≡ true
    → cleared_slot records db (image_at db slot stores) ≡ []
cleared_where records stores db slot can h = by records can.fits can.stored h
  where
    one : (c : Change) → was_in db slot c ≡ true → IsStored stores c → CanGoBack (cleared records stores) c → cleared_slot records db (image_at db slot stores) ≡ []
    one c e st g =
        let was = was_in_is db slot c e in
        ⊎_elim (λ none. absurd (false≢true (sym was.some ∙ free_none c.before none)))
        (λ f. subst (λ n. cleared_slot records n (image_at n slot stores) ≡ []) was.database
        (subst (λ m. cleared_slot records c.db (image_at c.db m stores) ≡ []) was.place
        (ap (λ xs. cleared_slot records c.db (get_or xs c.slot [])) (slots_there c.db stores f.s f.at) ∙ f.free)))
        (goes records stores c st.least g)

    by : (rs : List Change) → AllByRecursion (CanGoBack (cleared records stores)) rs → AllByRecursion (IsStored stores) rs → was_there rs db slot ≡ true
        → cleared_slot records db (image_at db slot stores) ≡ []
    by [] f s e = absurd (false≢true e)
    by (c ∷ rs) f s e = each (was_in db slot c) refl (by rs f.1 s.1)
      where
        each : (b : Bool) → was_in db slot c ≡ b → (was_there rs db slot ≡ true → cleared_slot records db (image_at db slot stores) ≡ []) → cleared_slot records db (image_at db slot stores) ≡ []
        each true q rec = one c q s.0 f.0
        each false q rec = rec (sym (ap (λ b. b || was_there rs db slot) q) ∙ e)

-- stores with the same databases and as many slots, in which only slots have changed where the unit is idle
pub record ChangesAside (records : List Change) (old new : List Stored) : Type 0 where
  pub dbds : map (λ (s : Stored). s.dbd) new ≡ map (λ (s : Stored). s.dbd) old
  pub lengths : (db : ℕ) → 1 ≤ db → length (slots_of_database db new) ≡ length (slots_of_database db old)
  pub images : (db slot : ℕ) → 1 ≤ db → slot < length (slots_of_database db old)
      → (image_at db slot new ≡ image_at db slot old) ⊎ (IsIdle records db slot (image_at db slot old) × IsIdle records db slot (image_at db slot new))

-- the store of a number in stores with the same databases
pub same_there : (old new : List Stored) (i : ℕ) (s : Stored) → map (λ (x : Stored). x.dbd) new ≡ map (λ (x : Stored). x.dbd) old → slice_get old i ≡ Some s
    → (t : Stored) × (slice_get new i ≡ Some t) × (t.dbd ≡ s.dbd)
same_there [] new i s e g = let clash : None ≡ Some s = g in absurd (cc)
same_there (x ∷ old) [] i s e g = let clash : [] ≡ x.dbd ∷ map (λ (y : Stored). y.dbd) old = e in absurd (cc)
same_there (x ∷ old) (t ∷ new) zero s e g =
    let both : t.dbd ∷ map (λ (y : Stored). y.dbd) new ≡ x.dbd ∷ map (λ (y : Stored). y.dbd) old = e in
    let same : Some x ≡ Some s = g in
    let parts : x ≡ s = cc in
    let heads : t.dbd ≡ x.dbd = cc in
    (t, refl, heads ∙ ap (λ (y : Stored). y.dbd) parts)
same_there (x ∷ old) (t ∷ new) (suc i) s e g =
    let both : t.dbd ∷ map (λ (y : Stored). y.dbd) new ≡ x.dbd ∷ map (λ (y : Stored). y.dbd) old = e in
    let tails : map (λ (y : Stored). y.dbd) new ≡ map (λ (y : Stored). y.dbd) old = cc in
    same_there old new i s tails g

pub was_there_own : (records : List Change) → AllByRecursion (λ c. is_slot_free c.before ≡ false → was_there records c.db c.slot ≡ true) records
was_there_own records = each records
  where
    own : (c : Change) → is_slot_free c.before ≡ false → was_in c.db c.slot c ≡ true
    own c some = λ t. eq-eqb c.db c.db refl t && (eq-eqb c.slot c.slot refl t && not (some t))

    or_true : (b : Bool) → (b || true) ≡ true
    or_true true = refl
    or_true false = refl

    shift : (x : Change) (rest cs : List Change) → AllByRecursion (λ c. is_slot_free c.before ≡ false → was_there rest c.db c.slot ≡ true) cs
        → AllByRecursion (λ c. is_slot_free c.before ≡ false → was_there (x ∷ rest) c.db c.slot ≡ true) cs
    shift x rest [] h = tt
    shift x rest (c ∷ cs) h = (λ some. ap (λ b. was_in c.db c.slot x || b) (h.0 some) ∙ or_true (was_in c.db c.slot x), shift x rest cs h.1)

    each : (rs : List Change) → AllByRecursion (λ c. is_slot_free c.before ≡ false → was_there rs c.db c.slot ≡ true) rs
    each [] = tt
    each (c ∷ rs) = (λ some. ap (λ b. b || was_there rs c.db c.slot) (own c some), shift c rs rs (each rs))

-- it can still be backed out
pub can_aside : (records : List Change) (old new : List Stored) → CanBackOut records old → ChangesAside records old new → CanBackOut records new
can_aside records old new can aside =
    record {
      stored = all_then (IsStored old) (IsStored new) records (λ c h. record { least = h.least; most = omega (arith, h.most, count) }) can.stored;
      fits = fits records can.fits can.stored (all_changed records) (was_there_own records);
      apart = can.apart;
    }
  where
    count : length new ≡ length old
    count = sym (length-map new (λ (s : Stored). s.dbd)) ∙ (ap length aside.dbds ∙ length-map old (λ (s : Stored). s.dbd))

    one : (c : Change) → 1 ≤ c.db → is_slot_free c.before ≡ false → was_there records c.db c.slot ≡ true → Goes records old c → Goes records new c
    one c least some used g =
        let there = same_there old new (c.db - 1) g.s aside.dbds g.at in
        let old_slots : slots_of_database c.db old ≡ g.s.slots = slots_there c.db old g.s g.at in
        let new_slots : slots_of_database c.db new ≡ there.0.slots = slots_there c.db new there.0 there.1 in
        let within_old : c.slot < length (slots_of_database c.db old) = subst (λ xs. c.slot < length xs) (sym old_slots) g.within in
        let within_new : c.slot < length (slots_of_database c.db new) = subst (λ n. c.slot < n) (sym (aside.lengths c.db least)) within_old in
        let same : image_at c.db c.slot new ≡ image_at c.db c.slot old =
        ⊎_elim (λ e. e) (λ idle. absurd (false≢true (sym idle.0.unused ∙ used))) (aside.images c.db c.slot least within_old) in
        record {
          s = there.0;
          at = there.1;
          valid = subst (λ d. IsRecord d c.root c.before) (sym there.2) g.valid;
          within = subst (λ xs. c.slot < length xs) new_slots within_new;
          free = ap (λ xs. cleared_slot records c.db (get_or xs c.slot [])) (sym new_slots)
              ∙ (ap (cleared_slot records c.db) same ∙ (ap (λ xs. cleared_slot records c.db (get_or xs c.slot [])) old_slots ∙ g.free));
        }

    either : (c : Change) → 1 ≤ c.db → (is_slot_free c.before ≡ false → was_there records c.db c.slot ≡ true) → (b : Bool) → is_slot_free c.before ≡ b → (c.before ≡ []) ⊎ Goes records old c
        → (c.before ≡ []) ⊎ Goes records new c
    either c least used b q h = ⊎_elim (λ e. inl e) (λ g. inr (one c least (some g) (used (some g)) g)) h
      where
        some : Goes records old c → is_slot_free c.before ≡ false
        some g = by c.before refl
          where
            by : (image : List Row) → c.before ≡ image → is_slot_free c.before ≡ false
            by [] e = absurd (g.valid.whole.some e)
            by (row ∷ image) e = ap is_slot_free e

    fits : (rs : List Change) → AllByRecursion (CanGoBack (cleared records old)) rs → AllByRecursion (IsStored old) rs → AllByRecursion (λ c. is_record_changed c.db c.root records ≡ true) rs
        → AllByRecursion (λ c. is_slot_free c.before ≡ false → was_there records c.db c.slot ≡ true) rs → AllByRecursion (CanGoBack (cleared records new)) rs
    fits [] f s o u = tt
    fits (c ∷ rs) f s o u = (
      can_go records new c s.0.least o.0 (either c s.0.least u.0 (is_slot_free c.before) refl (goes records old c s.0.least f.0)),
      fits rs f.1 s.1 o.1 u.1,
    )

-- another unit that is backed out beside it changes slots aside
pub aside_back : (stores : List Stored) (a b : List Change) → AreBeside stores a b → ChangesAside a stores (backed_out b stores)
aside_back stores a b h =
    record {
      dbds = ap (map (λ (s : Stored). s.dbd)) (backed_is b stores) ∙ dbds_each (back b) 1 stores;
      lengths = λ db least. ap (λ ss. length (slots_of_database db ss)) (backed_is b stores) ∙ slots_at_length (back b) db stores least;
      images = λ db slot least lt.
          let new : image_at db slot (backed_out b stores) ≡ back b db slot (image_at db slot stores) =
          ap (image_at db slot) (backed_is b stores) ∙ image_at_each (back b) db slot stores least lt in
          ⊎_elim
          (λ idle. inr (idle, subst (IsIdle a db slot) (sym new) (idle_stays a b db slot (image_at db slot stores) h.turned h.rooted_b idle)))
          (λ idle. inl (new ∙ idle_back b db slot (image_at db slot stores) idle)) (h.apart db slot least lt);
    }
