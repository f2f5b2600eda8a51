-- Units whose records are others, and that touch no slot together, are backed out in any order.
use Rattle.std.proofs.Common.{◌≡◌, ℕ, ◌<◌, ◌≤◌, ◌∷◌, [], List, length, refl, sym, ◌∙◌, ap, subst, Bool, true, false, cond, eqb, ◌&&◌, ◌||◌, ◌⊎◌, ⊎_elim}
use Rattle.std.specs.List.{AllByRecursion}
use Rattle.std.specs.Ordering.{is_eq}
use Rattle.std.proofs.lemmas.Bool.{false≢true, eq-eqb, eqb-true}
use Rattle.std.proofs.lemmas.Cmp.{tied_itself}
use Rattle.model_data.specs.declared.row.Row.{Row}
use Rattle.model_data.proofs.Order.{key_total}
use Rattle.seg_store.specs.Slots.{Stored, has_root}
use Rattle.seg_store.proofs.SlotRows.{rooted}
use Rattle.unit_work.specs.declared.change.Change.{Change}
use Rattle.unit_work.specs.Changes.{is_change_of_record, is_record_changed}
use Rattle.unit_work.specs.BackOut.{is_touched, was_in, backed_slot, cleared_slot, backed_out}
use Rattle.unit_work.specs.Images.{slots_of_database, image_at}
use Rattle.program_rows.specs.OpenUnits.{was_there}
use Rattle.program_rows.proofs.Slotwise.{back, each_store, backed_is, twice, alike}
use Rattle.program_rows.proofs.Bools.{or_left, or_right}

-- the image is of none of these records, and none was in the slot
pub record IsIdle (records : List Change) (db slot : ℕ) (image : List Row) : Type 0 where
  pub untouched : is_touched records db image ≡ false
  pub unused : was_there records db slot ≡ false

-- an image before a change has the root of the record, where it has rows
abbrev pub AreRooted : List Change → Type 0
AreRooted records = AllByRecursion (λ c. (c.before ≡ []) ⊎ (has_root c.root c.before ≡ true)) records

-- no record is changed by both
abbrev pub AreOthers : List Change → List Change → Type 0
AreOthers a b = (db : ℕ) (root : List ℕ) → is_record_changed db root a ≡ true → is_record_changed db root b ≡ false

-- in each slot one of both is idle
abbrev pub AreApartIn : List Stored → List Change → List Change → Type 0
AreApartIn stores a b =
    (db slot : ℕ) → 1 ≤ db → slot < length (slots_of_database db stores) → IsIdle a db slot (image_at db slot stores) ⊎ IsIdle b db slot (image_at db slot stores)

-- an idle unit leaves the image
pub idle_back : (records : List Change) (db slot : ℕ) (image : List Row) → IsIdle records db slot image → back records db slot image ≡ image
idle_back records db slot image h =
    ap (backed_slot records db slot) (ap (λ b. cond b [] image) h.untouched) ∙ none_in records h.unused
  where
    none_in : (rs : List Change) → was_there rs db slot ≡ false → backed_slot rs db slot image ≡ image
    none_in [] e = refl
    none_in (c ∷ rs) e =
        ap (λ b. cond b c.before (backed_slot rs db slot image)) (or_left (was_in db slot c) (was_there rs db slot) e)
        ∙ none_in rs (or_right (was_in db slot c) (was_there rs db slot) e)

-- what holds of the image, and of each image before a change, holds of what is put back
pub back_has : (P : List Row → Type 0) (records : List Change) (db slot : ℕ) (image : List Row) → P image → AllByRecursion (λ c. c.db ≡ db → P c.before) records
    → P (backed_slot records db slot image)
back_has P [] db slot image p h = p
back_has P (c ∷ records) db slot image p h = by (was_in db slot c) refl (back_has P records db slot image p h.1)
  where
    left : (a b : Bool) → (a && b) ≡ true → a ≡ true
    left true b e = refl
    left false b e = absurd (false≢true e)

    by : (b : Bool) → was_in db slot c ≡ b → P (backed_slot records db slot image) → P (cond b c.before (backed_slot records db slot image))
    by true e rec = h.0 (eqb-true c.db db (left (eqb c.db db) _ e))
    by false e rec = rec

pub cleared_has : (P : List Row → Type 0) (records : List Change) (db : ℕ) (image : List Row) → P image → P [] → P (cleared_slot records db image)
cleared_has P records db image p none = by (is_touched records db image)
  where
    by : (b : Bool) → P (cond b [] image)
    by true = none
    by false = p

-- an image is touched by the unit that has changed its record
pub touched_is : (records : List Change) (db : ℕ) (root : List ℕ) (image : List Row) → has_root root image ≡ true → is_touched records db image ≡ is_record_changed db root records
touched_is [] db root image h = refl
touched_is (c ∷ records) db root image h = λ t. (eqb c.db db && rooted root image h c.root t) || touched_is records db root image h t

pub none_touched : (records : List Change) (db : ℕ) → is_touched records db [] ≡ false
none_touched [] db = refl
none_touched (c ∷ records) db = by (eqb c.db db) (none_touched records db)
  where
    by : (b : Bool) → is_touched records db [] ≡ false → (b && false) || is_touched records db [] ≡ false
    by true e = e
    by false e = e

-- each change is among them
pub all_changed : (records : List Change) → AllByRecursion (λ c. is_record_changed c.db c.root records ≡ true) records
all_changed records = each records (λ c. or_here c)
  where
    own : (c : Change) → is_change_of_record c.db c.root c ≡ true
    own c = λ t. eq-eqb c.db c.db refl t && ap is_eq (tied_itself key_total c.root) t

    or_here : (c : Change) → (rest : List Change) → is_record_changed c.db c.root (c ∷ rest) ≡ true
    or_here c rest = ap (λ b. b || is_record_changed c.db c.root rest) (own c)

    later : (c x : Change) (rest : List Change) → is_record_changed c.db c.root rest ≡ true → is_record_changed c.db c.root (x ∷ rest) ≡ true
    later c x rest e = ap (λ b. is_change_of_record c.db c.root x || b) e ∙ by (is_change_of_record c.db c.root x)
      where
        by : (b : Bool) → (b || true) ≡ true
        by true = refl
        by false = refl

    shift : (x : Change) (rest : List Change) (cs : List Change) → AllByRecursion (λ c. is_record_changed c.db c.root rest ≡ true) cs → AllByRecursion (λ c. is_record_changed c.db c.root (x ∷ rest) ≡ true) cs
    shift x rest [] h = tt
    shift x rest (c ∷ cs) h = (later c x rest h.0, shift x rest cs h.1)

    each : (rs : List Change) → ((c : Change) → (rest : List Change) → is_record_changed c.db c.root (c ∷ rest) ≡ true) → AllByRecursion (λ c. is_record_changed c.db c.root rs ≡ true) rs
    each [] f = tt
    each (c ∷ rs) f = (f c rs, shift c rs rs (each rs f))

-- an image that one unit hasn't touched it hasn't touched after another was backed out
pub untouched_back : (a b : List Change) (db slot : ℕ) (image : List Row) → AreOthers b a → AreRooted b → is_touched a db image ≡ false → is_touched a db (back b db slot image) ≡ false
untouched_back a b db slot image others rooted_b e =
    back_has (λ x. is_touched a db x ≡ false) b db slot (cleared_slot b db image)
    (cleared_has (λ x. is_touched a db x ≡ false) b db image e (none_touched a db))
    (each b rooted_b (all_changed b))
  where
    each : (rs : List Change) → AreRooted rs → AllByRecursion (λ c. is_record_changed c.db c.root b ≡ true) rs → AllByRecursion (λ c. c.db ≡ db → is_touched a db c.before ≡ false) rs
    each [] r h = tt
    each (c ∷ rs) r h = (
      λ d. ⊎_elim (λ none. ap (is_touched a db) none ∙ none_touched a db)
          (λ has. touched_is a db c.root c.before has ∙ others db c.root (subst (λ n. is_record_changed n c.root b ≡ true) d h.0)) r.0,
      each rs r.1 h.1,
    )

pub idle_stays : (a b : List Change) (db slot : ℕ) (image : List Row) → AreOthers b a → AreRooted b → IsIdle a db slot image → IsIdle a db slot (back b db slot image)
idle_stays a b db slot image others rooted_b h = record { untouched = untouched_back a b db slot image others rooted_b h.untouched; unused = h.unused }

-- two units side by side
pub record AreBeside (stores : List Stored) (a b : List Change) : Type 0 where
  pub others : AreOthers a b
  pub turned : AreOthers b a
  pub rooted_a : AreRooted a
  pub rooted_b : AreRooted b
  pub apart : AreApartIn stores a b

-- are backed out in any order
pub swap : (stores : List Stored) (a b : List Change) → AreBeside stores a b → backed_out a (backed_out b stores) ≡ backed_out b (backed_out a stores)
swap stores a b h =
    ap (backed_out a) (backed_is b stores)
    ∙ (backed_is a (each_store (back b) 1 stores)
    ∙ (twice (back a) (back b) 1 stores
    ∙ (alike (λ d m x. back a d m (back b d m x)) (λ d m x. back b d m (back a d m x)) stores
    (λ db slot least lt. ⊎_elim (λ idle. first db slot (image_at db slot stores) idle) (λ idle. second db slot (image_at db slot stores) idle) (h.apart db slot least lt))
    ∙ sym (ap (backed_out b) (backed_is a stores) ∙ (backed_is b (each_store (back a) 1 stores) ∙ twice (back b) (back a) 1 stores)))))
  where
    first : (db slot : ℕ) (image : List Row) → IsIdle a db slot image → back a db slot (back b db slot image) ≡ back b db slot (back a db slot image)
    first db slot image idle =
        idle_back a db slot (back b db slot image) (idle_stays a b db slot image h.turned h.rooted_b idle) ∙ sym (ap (back b db slot) (idle_back a db slot image idle))

    second : (db slot : ℕ) (image : List Row) → IsIdle b db slot image → back a db slot (back b db slot image) ≡ back b db slot (back a db slot image)
    second db slot image idle =
        ap (back a db slot) (idle_back b db slot image idle) ∙ sym (idle_back b db slot (back a db slot image) (idle_stays b a db slot image h.others h.rooted_a idle))
