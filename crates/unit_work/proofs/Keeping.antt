-- Changes that are kept once, and slots in their order.
use Rattle.std.proofs.Common.{◌≡◌, ℕ, ◌+◌, ◌≤◌, ◌<◌, ◌++◌, ◌∷◌, [], List, length, suc, refl, sym, ◌∙◌, ap, Bool, true, false, cond, Option, None, Some, arith, get_or, set, leb, ◌||◌, ◌&&◌, not, subst}
use Rattle.std.specs.List.{AllByRecursion, prefix_len, slice_get, insert, list_any}
use Rattle.std.proofs.lemmas.Bool.{false≢true, leb-false}
use Rattle.std.proofs.lemmas.List.{length_push}
use Rattle.model_data.proofs.Lists.{all_append, all_front, all_back}
use Rattle.model_data.specs.declared.row.Row.{Row}
use Rattle.unit_work.specs.declared.change.Change.{Change}
use Rattle.unit_work.specs.ReadyTouch.{image_to_come, with_image}
use Rattle.std.specs.Prelude.{IfSome, if◌then◌else◌}
use Rattle.unit_work.specs.Changes.{is_change_of_record, is_record_changed, is_slot_before, is_slot, is_seen, with_change, with_slot, AreOther, Pairs, AreChangesKept, is_full}

-- how many slots go before this one
abbrev pub place_in : ℕ → ℕ → List Change → ℕ
place_in db slot slots = prefix_len (is_slot_before db slot) slots

place_here : (db slot : ℕ) (s : Change) (slots : List Change) (b : Bool) → is_slot_before db slot s ≡ b → place_in db slot (s ∷ slots) ≡ cond b (suc (place_in db slot slots)) 0
place_here db slot s slots b e =
    let more : 1 + place_in db slot slots ≡ suc (place_in db slot slots) = omega arith in
    ap (λ n. cond (is_slot_before db slot s) n 0) more ∙ ap (λ c. cond c (suc (place_in db slot slots)) 0) e

-- what stands at the place tells whether the slot is there
abbrev pub seen_at : ℕ → ℕ → Option Change → Bool
seen_at db slot None = false
seen_at db slot (Some s) = is_slot db slot s

pub seen_is : (db slot : ℕ) (slots : List Change) → is_seen db slot slots ≡ seen_at db slot (slice_get slots (place_in db slot slots))
seen_is db slot [] = refl
seen_is db slot (s ∷ slots) = by (is_slot_before db slot s) refl (seen_is db slot slots)
  where
    by : (b : Bool) → is_slot_before db slot s ≡ b → is_seen db slot slots ≡ seen_at db slot (slice_get slots (place_in db slot slots))
        → is_seen db slot (s ∷ slots) ≡ seen_at db slot (slice_get (s ∷ slots) (place_in db slot (s ∷ slots)))
    by true e rec =
        ap (λ b. cond b (is_seen db slot slots) (is_slot db slot s)) e
        ∙ (rec ∙ sym (ap (λ p. seen_at db slot (slice_get (s ∷ slots) p)) (place_here db slot s slots true e)))
    by false e rec =
        ap (λ b. cond b (is_seen db slot slots) (is_slot db slot s)) e
        ∙ sym (ap (λ p. seen_at db slot (slice_get (s ∷ slots) p)) (place_here db slot s slots false e))

pub seen_within : (db slot : ℕ) (slots : List Change) → is_seen db slot slots ≡ true → place_in db slot slots < length slots
seen_within db slot [] e = absurd (false≢true e)
seen_within db slot (s ∷ slots) e = by (is_slot_before db slot s) refl (seen_within db slot slots)
  where
    by : (b : Bool) → is_slot_before db slot s ≡ b → (is_seen db slot slots ≡ true → place_in db slot slots < length slots) → place_in db slot (s ∷ slots) < suc (length slots)
    by true q rec =
        omega (arith, place_here db slot s slots true q, rec (sym (ap (λ b. cond b (is_seen db slot slots) (is_slot db slot s)) q) ∙ e))
    by false q rec = omega (arith, place_here db slot s slots false q)

pub place_within : (db slot : ℕ) (slots : List Change) → place_in db slot slots ≤ length slots
place_within db slot [] = omega arith
place_within db slot (s ∷ slots) =
    elim (is_slot_before db slot s) as (λ b. cond b (1 + place_in db slot slots) 0 ≤ suc (length slots)) [
      | true ↦ omega (arith, place_within db slot slots)
      | false ↦ omega arith
    ]

-- a slot that is there gets the root, at its place
pub slot_again : (c : Change) (slots : List Change) (d : Change) → is_seen c.db c.slot slots ≡ true
    → set slots (place_in c.db c.slot slots) (record (get_or slots (place_in c.db c.slot slots) d) { root = c.root }) ≡ with_slot c slots
slot_again c [] d e = absurd (false≢true e)
slot_again c (s ∷ slots) d e = by (is_slot_before c.db c.slot s) refl (slot_again c slots d)
  where
    put : ℕ → List Change
    put p = set (s ∷ slots) p (record (get_or (s ∷ slots) p d) { root = c.root })

    goes : Bool → Bool → List Change
    goes b a = cond b (s ∷ with_slot c slots) (cond a (record s { root = c.root } ∷ slots) (c ∷ s ∷ slots))

    by : (b : Bool) → is_slot_before c.db c.slot s ≡ b
        → (is_seen c.db c.slot slots ≡ true → set slots (place_in c.db c.slot slots) (record (get_or slots (place_in c.db c.slot slots) d) { root = c.root }) ≡ with_slot c slots)
        → put (place_in c.db c.slot (s ∷ slots)) ≡ goes (is_slot_before c.db c.slot s) (is_slot c.db c.slot s)
    by true q rec =
        ap put (place_here c.db c.slot s slots true q)
        ∙ (ap (λ xs. s ∷ xs) (rec (sym (ap (λ b. cond b (is_seen c.db c.slot slots) (is_slot c.db c.slot s)) q) ∙ e))
        ∙ sym (ap (λ b. goes b (is_slot c.db c.slot s)) q))
    by false q rec =
        let own : is_slot c.db c.slot s ≡ true = sym (ap (λ b. cond b (is_seen c.db c.slot slots) (is_slot c.db c.slot s)) q) ∙ e in
        ap put (place_here c.db c.slot s slots false q)
        ∙ sym (ap (λ b. goes b (is_slot c.db c.slot s)) q ∙ ap (λ a. goes false a) own)

-- a new one goes in at its place
pub slot_new : (c : Change) (slots : List Change) → is_seen c.db c.slot slots ≡ false → insert slots (place_in c.db c.slot slots) c ≡ with_slot c slots
slot_new c [] e = refl
slot_new c (s ∷ slots) e = by (is_slot_before c.db c.slot s) refl (slot_new c slots)
  where
    goes : Bool → Bool → List Change
    goes b a = cond b (s ∷ with_slot c slots) (cond a (record s { root = c.root } ∷ slots) (c ∷ s ∷ slots))

    by : (b : Bool) → is_slot_before c.db c.slot s ≡ b → (is_seen c.db c.slot slots ≡ false → insert slots (place_in c.db c.slot slots) c ≡ with_slot c slots)
        → insert (s ∷ slots) (place_in c.db c.slot (s ∷ slots)) c ≡ goes (is_slot_before c.db c.slot s) (is_slot c.db c.slot s)
    by true q rec =
        ap (λ p. insert (s ∷ slots) p c) (place_here c.db c.slot s slots true q)
        ∙ (ap (λ xs. s ∷ xs) (rec (sym (ap (λ b. cond b (is_seen c.db c.slot slots) (is_slot c.db c.slot s)) q) ∙ e))
        ∙ sym (ap (λ b. goes b (is_slot c.db c.slot s)) q))
    by false q rec =
        let other : is_slot c.db c.slot s ≡ false = sym (ap (λ b. cond b (is_seen c.db c.slot slots) (is_slot c.db c.slot s)) q) ∙ e in
        ap (λ p. insert (s ∷ slots) p c) (place_here c.db c.slot s slots false q)
        ∙ sym (ap (λ b. goes b (is_slot c.db c.slot s)) q ∙ ap (λ a. goes false a) other)

-- where there is a first image, another one changes nothing
pub slot_image : (db slot : ℕ) (root : List ℕ) (image : List Row) (slots : List Change) (b : Bool) → is_seen db slot slots ≡ b
    → with_slot (record { db = db; slot = slot; root = root; before = cond b [] image }) slots ≡ with_slot (record { db = db; slot = slot; root = root; before = image }) slots
slot_image db slot root image slots false e = refl
slot_image db slot root image [] true e = absurd (false≢true e)
slot_image db slot root image (s ∷ slots) true e = by (is_slot_before db slot s) refl (slot_image db slot root image slots true)
  where
    c : List Row → Change
    c before = record { db = db; slot = slot; root = root; before = before }

    goes : List Row → Bool → Bool → List Change
    goes before b a = cond b (s ∷ with_slot (c before) slots) (cond a (record s { root = root } ∷ slots) (c before ∷ s ∷ slots))

    by : (b : Bool) → is_slot_before db slot s ≡ b → (is_seen db slot slots ≡ true → with_slot (c []) slots ≡ with_slot (c image) slots)
        → goes [] (is_slot_before db slot s) (is_slot db slot s) ≡ goes image (is_slot_before db slot s) (is_slot db slot s)
    by true q rec =
        ap (λ b. goes [] b (is_slot db slot s)) q
        ∙ (ap (λ xs. s ∷ xs) (rec (sym (ap (λ b. cond b (is_seen db slot slots) (is_slot db slot s)) q) ∙ e)) ∙ sym (ap (λ b. goes image b (is_slot db slot s)) q))
    by false q rec =
        let own : is_slot db slot s ≡ true = sym (ap (λ b. cond b (is_seen db slot slots) (is_slot db slot s)) q) ∙ e in
        ap (λ b. goes [] b (is_slot db slot s)) q
        ∙ (ap (λ a. goes [] false a) own ∙ sym (ap (λ b. goes image b (is_slot db slot s)) q ∙ ap (λ a. goes image false a) own))

-- the image that is to come is that of the record
pub image_came : (moves : Bool) (own slot : Change) (image : List Row) → IfSome (image_to_come moves own) (λ i. i ≡ image) → with_image moves image slot ≡ with_image moves own.before slot
image_came true own slot image h = ap (λ (i : List Row). record slot { before = i }) (sym h)
image_came false own slot image h = refl

pub image_ready : (known seen moves : Bool) (image first : List Row) → moves ≡ (not known && not seen) → first ≡ cond known [] image → IfSome (if moves then Some first else None) (λ i. i ≡ image)
image_ready known seen moves image first m e = subst (λ b. IfSome (if b then Some first else None) (λ i. i ≡ image)) (sym m) (by known seen e)
  where
    by : (k s : Bool) → first ≡ cond k [] image → IfSome (if not k && not s then Some first else None) (λ i. i ≡ image)
    by true s e = tt
    by false true e = tt
    by false false e = e

-- the slot's image is to come where it has none and the record has none, and is its own where the record has one
pub slot_ready : (db slot : ℕ) (root : List ℕ) (image first touched : List Row) (slots : List Change) (known seen moves : Bool) → moves ≡ (not known && not seen) → seen ≡ is_seen db slot slots
    → first ≡ cond known [] image → touched ≡ cond (not known) [] image
    → with_slot (with_image moves first (record { db = db; slot = slot; root = root; before = touched })) slots ≡ with_slot (record { db = db; slot = slot; root = root; before = image }) slots
slot_ready db slot root image first touched slots known seen moves m s e f =
    ap (λ b. with_slot (with_image b first (change touched)) slots) m ∙ by known seen s e f
  where
    change : List Row → Change
    change before = record { db = db; slot = slot; root = root; before = before }

    by : (k t : Bool) → t ≡ is_seen db slot slots → first ≡ cond k [] image → touched ≡ cond (not k) [] image → with_slot (with_image (not k && not t) first (change touched)) slots ≡ with_slot (change image) slots
    by true t s e f = ap (λ (i : List Row). with_slot (change i) slots) f
    by false true s e f = ap (λ (i : List Row). with_slot (change i) slots) f ∙ slot_image db slot root image slots true (sym s)
    by false false s e f = ap (λ (i : List Row). with_slot (change i) slots) e

pub change_image : (db slot : ℕ) (root : List ℕ) (image : List Row) (records : List Change)
    → with_change (record { db = db; slot = slot; root = root; before = cond (is_record_changed db root records) [] image }) records
    ≡ with_change (record { db = db; slot = slot; root = root; before = image }) records
change_image db slot root image records =
    elim (is_record_changed db root records) as (λ b. cond b records (records ++ record { db = db; slot = slot; root = root; before = cond b [] image } ∷ [])
    ≡ cond b records (records ++ record { db = db; slot = slot; root = root; before = image } ∷ [])) [
      | true ↦ refl
      | false ↦ refl
    ]

-- a test that no element passes
pub none_pass : {A : Type 0} (test : A → Bool) (xs : List A) → list_any test xs ≡ false → AllByRecursion (λ x. test x ≡ false) xs
none_pass test [] e = tt
none_pass test (x ∷ xs) e = by (test x) refl (none_pass test xs)
  where
    by : (b : Bool) → test x ≡ b → (list_any test xs ≡ false → AllByRecursion (λ y. test y ≡ false) xs) → AllByRecursion (λ y. test y ≡ false) (x ∷ xs)
    by true q rec = absurd (false≢true (sym e ∙ ap (λ b. b || list_any test xs) q))
    by false q rec = (q, rec (sym (ap (λ b. b || list_any test xs) q) ∙ e))

pub pairs_push : (R : Change → Change → Type 0) (xs : List Change) (c : Change) → Pairs R xs → AllByRecursion (λ x. R x c) xs → Pairs R (xs ++ c ∷ [])
pairs_push R [] c p h = (tt, tt)
pairs_push R (x ∷ xs) c p h = (all_append (R x) xs (c ∷ []) p.0 (h.0, tt), pairs_push R xs c p.1 h.1)

pub pairs_last : (R : Change → Change → Type 0) (xs : List Change) (c : Change) → Pairs R (xs ++ c ∷ []) → Pairs R xs × AllByRecursion (λ x. R x c) xs
pairs_last R [] c p = (tt, tt)
pairs_last R (x ∷ xs) c p =
    let rec = pairs_last R xs c p.1 in
    ((all_front (R x) xs (c ∷ []) p.0, rec.0), ((all_back (R x) xs (c ∷ []) p.0).0, rec.1))

pub kept_touch : (c : Change) (records new : List Change) → AreChangesKept records → is_full c.db c.root records ≡ false → new ≡ with_change c records → AreChangesKept new
kept_touch c records new h room e = subst AreChangesKept (sym e) (by (is_record_changed c.db c.root records) refl)
  where
    by : (b : Bool) → is_record_changed c.db c.root records ≡ b → AreChangesKept (with_change c records)
    by true q = subst (λ b. AreChangesKept (cond b records (records ++ c ∷ []))) (sym q) h
    by false q =
        let less : leb 32 (length records) ≡ false = sym (ap (λ b. cond b false (leb 32 (length records))) q) ∙ room in
        subst (λ b. AreChangesKept (cond b records (records ++ c ∷ []))) (sym q)
        (record {
          once = pairs_push AreOther records c h.once (none_pass (is_change_of_record c.db c.root) records q);
          few = omega (arith, leb-false 32 (length records) less, length_push records c, h.few);
        })
