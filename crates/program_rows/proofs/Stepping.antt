-- A record that is set, with its image before kept, leaves what backing out would leave.
use Rattle.std.proofs.Common.{◌≡◌, ◌≢◌, ℕ, ◌+◌, ◌-◌, ◌<◌, ◌++◌, ◌∷◌, [], List, length, zero, suc, refl, sym, ◌∙◌, ap, subst, Bool, true, false, cond, Option, None, Some, arith, set, ◌||◌, ◌&&◌, not, eqb, ◌⊎◌, inl, inr, ⊎_elim}
use Rattle.std.specs.List.{AllByRecursion, slice_get, list_any}
use Rattle.std.specs.Ordering.{is_eq}
use Rattle.std.specs.Option.{unwrap_or}
use Rattle.std.proofs.lemmas.Bool.{false≢true, eq-eqb, ne_eqb, eqb-true, cases_eq}
use Rattle.std.proofs.lemmas.List.{length-set, set-set}
use Rattle.std.proofs.lemmas.Option.{slice_get_within}
use Rattle.std.proofs.lemmas.Cmp.{tied_itself}
use Rattle.tm_types.specs.declared.dbd.Dbd.{Dbd}
use Rattle.model_data.specs.declared.row.Row.{Row}
use Rattle.model_data.specs.Path.{root_of}
use Rattle.model_data.specs.Record.{IsRecord}
use Rattle.model_data.specs.Rows.{record_of, IsImage}
use Rattle.model_data.proofs.Lists.{all_then, all_append}
use Rattle.model_data.proofs.Order.{key_total}
use Rattle.seg_store.specs.Slots.{Stored, has_root, is_slot_free, image_root, AtMostOne, IsSlot, AreSlots, slot_of_root, slot_for, lowest_free, first_slot_of, rows_of_slots}
use Rattle.seg_store.proofs.Places as places
use Rattle.seg_store.proofs.SlotRows.{slots_record, record_has, same_key, set_itself, free_at, record_none}
use Rattle.unit_work.specs.declared.change.Change.{Change}
use Rattle.unit_work.specs.Changes.{is_change_of_record, is_record_changed, with_change, Pairs}
use Rattle.unit_work.specs.BackOut.{is_touched, cleared_slot, cleared_slots, cleared_from, backed_from, cleared, backed_out, IsStored, FitsStore, FitsOption, CanGoBack, AreInOtherSlots, CanBackOut, with_image_back, with_back, with_record_back}
use Rattle.unit_work.proofs.Keeping.{pairs_push}
use Rattle.unit_work.proofs.Backing.{get_set_other, get_set_same, next_back}
use Rattle.program_rows.proofs.Bools.{left_of, right_of, no_right}
use Rattle.program_rows.proofs.Aside.{at_cleared}
use Rattle.program_rows.proofs.Beside.{touched_is}

-- no rows, or a record of this root
abbrev pub Own : List ℕ → List Row → Type 0
Own root image = (image ≡ []) ⊎ (has_root root image ≡ true)

either_none : {A : Type 0} (b : Bool) (x : List A) → x ≡ [] → cond b [] x ≡ []
either_none true x e = refl
either_none false x e = e

or_none : (b : Bool) → (b || false) ≡ b
or_none true = refl
or_none false = refl

-- a test of one element more
pub any_push : {A : Type 0} (test : A → Bool) (xs : List A) (x : A) → list_any test (xs ++ x ∷ []) ≡ (list_any test xs || test x)
any_push test [] x = or_none (test x)
any_push test (y ∷ xs) x = by (test y) (any_push test xs x)
  where
    by : (b : Bool) → list_any test (xs ++ x ∷ []) ≡ (list_any test xs || test x) → (b || list_any test (xs ++ x ∷ [])) ≡ ((b || list_any test xs) || test x)
    by true e = refl
    by false e = e

all_get : {A : Type 0} (P : A → Type 0) (xs : List A) (i : ℕ) (x : A) → AllByRecursion P xs → slice_get xs i ≡ Some x → P x
all_get P [] i x h e = let clash : None ≡ Some x = e in absurd (cc)
all_get P (y ∷ xs) zero x h e = let same : Some y ≡ Some x = e in let parts : y ≡ x = cc in subst P parts h.0
all_get P (y ∷ xs) (suc i) x h e = all_get P xs i x h.1 e

-- whether an image is touched, with one change more
touched_apart : (c : Change) (records : List Change) (db : ℕ) (image : List Row) → (eqb c.db db && has_root c.root image) ≡ false
    → is_touched (with_change c records) db image ≡ is_touched records db image
touched_apart c records db image e = by (is_record_changed c.db c.root records) refl
  where
    by : (b : Bool) → is_record_changed c.db c.root records ≡ b → is_touched (with_change c records) db image ≡ is_touched records db image
    by true q = ap (λ b. is_touched (cond b records (records ++ c ∷ [])) db image) q
    by false q =
        ap (λ b. is_touched (cond b records (records ++ c ∷ [])) db image) q
        ∙ (any_push (λ x. eqb x.db db && has_root x.root image) records c
        ∙ (ap (λ b. is_touched records db image || b) e ∙ or_none (is_touched records db image)))

changed_now : (c : Change) (records : List Change) → is_record_changed c.db c.root (with_change c records) ≡ true
changed_now c records = by (is_record_changed c.db c.root records) refl
  where
    itself : is_change_of_record c.db c.root c ≡ true
    itself = λ t. eq-eqb c.db c.db refl t && ap is_eq (tied_itself key_total c.root) t

    or_true : (b : Bool) → (b || true) ≡ true
    or_true true = refl
    or_true false = refl

    by : (b : Bool) → is_record_changed c.db c.root records ≡ b → is_record_changed c.db c.root (with_change c records) ≡ true
    by true q = ap (λ b. is_record_changed c.db c.root (cond b records (records ++ c ∷ []))) q ∙ q
    by false q =
        ap (λ b. is_record_changed c.db c.root (cond b records (records ++ c ∷ []))) q
        ∙ (any_push (is_change_of_record c.db c.root) records c
        ∙ (ap (λ b. is_record_changed c.db c.root records || b) itself ∙ or_true (is_record_changed c.db c.root records)))

-- the image of a changed record is cleared, and that of another isn't
pub own_gone : (records : List Change) (db : ℕ) (root : List ℕ) (image : List Row) → is_record_changed db root records ≡ true → Own root image → cleared_slot records db image ≡ []
own_gone records db root image q own =
    ⊎_elim (λ e. either_none (is_touched records db image) image e) (λ h. ap (λ b. cond b [] image) (touched_is records db root image h ∙ q)) own

own_stays : (records : List Change) (db : ℕ) (root : List ℕ) (image : List Row) → is_record_changed db root records ≡ false → Own root image → cleared_slot records db image ≡ image
own_stays records db root image q own =
    ⊎_elim (λ e. either_none (is_touched records db image) image e ∙ sym e) (λ h. ap (λ b. cond b [] image) (touched_is records db root image h ∙ q)) own

-- the slots without the changed records, with one change more
apart_slots : (c : Change) (records : List Change) (db : ℕ) (xs : List (List Row))
    → ((k : ℕ) (y : List Row) → slice_get xs k ≡ Some y → (eqb c.db db && has_root c.root y) ≡ false)
    → cleared_slots (with_change c records) db xs ≡ cleared_slots records db xs
apart_slots c records db [] h = refl
apart_slots c records db (x ∷ xs) h =
    λ t. cond (touched_apart c records db x (h 0 x refl) t) [] x ∷ apart_slots c records db xs (λ k y e. h (suc k) y e) t

other_db : (c : Change) (db : ℕ) (y : List Row) → c.db ≢ db → (eqb c.db db && has_root c.root y) ≡ false
other_db c db y other = ap (λ b. b && has_root c.root y) (ne_eqb c.db db other)

other_root : (c : Change) (db : ℕ) (y : List Row) → has_root c.root y ≡ false → (eqb c.db db && has_root c.root y) ≡ false
other_root c db y e = ap (λ b. eqb c.db db && b) e ∙ no_right (eqb c.db db)

own_slots : (c : Change) (records : List Change) (db : ℕ) (xs : List (List Row)) (i : ℕ) (image : List Row) → c.db ≡ db → Own c.root image → i < length xs
    → ((k : ℕ) (y : List Row) → k ≢ i → slice_get xs k ≡ Some y → has_root c.root y ≡ false)
    → cleared_slots (with_change c records) db (set xs i image) ≡ set (cleared_slots records db xs) i []
own_slots c records db [] i image d own lt h = absurd (omega arith)
own_slots c records db (x ∷ xs) zero image d own lt h =
    λ t. own_gone (with_change c records) db c.root image (subst (λ n. is_record_changed n c.root (with_change c records) ≡ true) d (changed_now c records)) own t
    ∷ apart_slots c records db xs (λ k y e. other_root c db y (h (suc k) y (λ q. absurd (omega arith)) e)) t
own_slots c records db (x ∷ xs) (suc i) image d own lt h =
    λ t. cond (touched_apart c records db x (other_root c db x (h 0 x (λ q. absurd (omega arith)) refl)) t) [] x
    ∷ own_slots c records db xs i image d own (omega arith) (λ k y ne e. h (suc k) y (λ q. ne (omega arith)) e) t

later_stores : (c : Change) (records : List Change) (n : ℕ) (stores : List Stored) → c.db < n → cleared_from (with_change c records) n stores ≡ cleared_from records n stores
later_stores c records n [] lt = refl
later_stores c records n (s ∷ stores) lt =
    λ t. record { dbd = s.dbd; slots = apart_slots c records n s.slots (λ k y e. other_db c n y (λ q. absurd (omega arith))) t } ∷ later_stores c records (suc n) stores (omega arith) t

-- what is found in the slots of a database
pub record HasSlot (c : Change) (s : Stored) : Type 0 where
  pub at : slice_get s.slots c.slot ≡ Some c.before
  pub own : Own c.root c.before
  pub others : (k : ℕ) (y : List Row) → k ≢ c.slot → slice_get s.slots k ≡ Some y → has_root c.root y ≡ false
  pub whole : (c.before ≡ []) ⊎ IsRecord s.dbd c.root c.before

-- a store without the changed records, and this slot free
abbrev pub freed : Change → List Change → Stored → Stored
freed c records s = record { dbd = s.dbd; slots = set (cleared_slots records c.db s.slots) c.slot [] }

step_cleared : (c : Change) (records : List Change) (n i : ℕ) (stores : List Stored) (s new : Stored) (image : List Row) → c.db ≡ n + i → slice_get stores i ≡ Some s → HasSlot c s
    → new.dbd ≡ s.dbd → new.slots ≡ set s.slots c.slot image → Own c.root image
    → cleared_from (with_change c records) n (set stores i new) ≡ set (cleared_from records n stores) i (freed c records s)
step_cleared c records n i [] s new image e g has d w own = let clash : None ≡ Some s = g in absurd (cc)
step_cleared c records n zero (x ∷ stores) s new image e g has d w own =
    let here : c.db ≡ n = omega arith in
    let slots : cleared_slots (with_change c records) n new.slots ≡ set (cleared_slots records c.db s.slots) c.slot [] =
    ap (cleared_slots (with_change c records) n) w
    ∙ (own_slots c records n s.slots c.slot image here own (slice_get_within s.slots c.slot c.before has.at) has.others
    ∙ ap (λ m. set (cleared_slots records m s.slots) c.slot []) (sym here)) in
    λ k. record { dbd = d k; slots = slots k } ∷ later_stores c records (suc n) stores (omega arith) k
step_cleared c records n (suc i) (x ∷ stores) s new image e g has d w own =
    λ k. record { dbd = x.dbd; slots = apart_slots c records n x.slots (λ m y q. other_db c n y (λ q. absurd (omega arith))) k }
    ∷ step_cleared c records (suc n) i stores s new image (omega arith) g has d w own k

slot_cleared : (records : List Change) (db : ℕ) (xs : List (List Row)) (i : ℕ) (y : List Row) → slice_get xs i ≡ Some y → slice_get (cleared_slots records db xs) i ≡ Some (cleared_slot records db y)
slot_cleared records db [] i y e = let clash : None ≡ Some y = e in absurd (cc)
slot_cleared records db (x ∷ xs) zero y e = let same : Some x ≡ Some y = e in let parts : x ≡ y = cc in ap (λ z. Some (cleared_slot records db z)) parts
slot_cleared records db (x ∷ xs) (suc i) y e = slot_cleared records db xs i y e

cleared_length : (records : List Change) (db : ℕ) (xs : List (List Row)) → length (cleared_slots records db xs) ≡ length xs
cleared_length records db [] = refl
cleared_length records db (x ∷ xs) = ap (λ n. suc n) (cleared_length records db xs)

-- no slot has this root, once the one that may have it is free
none_rooted : (records : List Change) (db : ℕ) (root : List ℕ) (xs : List (List Row)) (i : ℕ) → ((k : ℕ) (y : List Row) → k ≢ i → slice_get xs k ≡ Some y → has_root root y ≡ false)
    → slot_of_root root (set (cleared_slots records db xs) i []) ≡ None
none_rooted records db root [] i h = refl
none_rooted records db root (x ∷ xs) zero h = places.none_cons (has_root root) [] (cleared_slots records db xs) refl (rest xs (λ k y e. h (suc k) y (λ q. absurd (omega arith)) e))
  where
    gone : (b : Bool) (y : List Row) → has_root root y ≡ false → has_root root (cond b [] y) ≡ false
    gone true y e = refl
    gone false y e = e

    rest : (ys : List (List Row)) → ((k : ℕ) (y : List Row) → slice_get ys k ≡ Some y → has_root root y ≡ false) → slot_of_root root (cleared_slots records db ys) ≡ None
    rest [] g = refl
    rest (y ∷ ys) g = places.none_cons (has_root root) (cleared_slot records db y) (cleared_slots records db ys) (gone (is_touched records db y) y (g 0 y refl)) (rest ys (λ k z e. g (suc k) z e))
none_rooted records db root (x ∷ xs) (suc i) h =
    places.none_cons (has_root root) (cleared_slot records db x) (set (cleared_slots records db xs) i []) (gone (is_touched records db x) x (h 0 x (λ q. absurd (omega arith)) refl))
    (none_rooted records db root xs i (λ k y ne e. h (suc k) y (λ q. ne (omega arith)) e))
  where
    gone : (b : Bool) (y : List Row) → has_root root y ≡ false → has_root root (cond b [] y) ≡ false
    gone true y e = refl
    gone false y e = e

-- the other slots than the one with this root don't have it
others_apart : (root : List ℕ) (xs : List (List Row)) (i : ℕ) → AtMostOne (has_root root) xs → slot_of_root root xs ≡ Some i → (k : ℕ) (y : List Row) → k ≢ i → slice_get xs k ≡ Some y → has_root root y ≡ false
others_apart root [] i one e k y ne g = let clash : None ≡ Some y = g in absurd (cc)
others_apart root (x ∷ xs) zero one e zero y ne g = absurd (ne refl)
others_apart root (x ∷ xs) zero one e (suc k) y ne g = places.none_passes (has_root root) xs (one.0 (places.first_head (has_root root) x xs e)) k y g
others_apart root (x ∷ xs) (suc i) one e zero y ne g =
    let same : Some x ≡ Some y = g in
    let parts : x ≡ y = cc in
    ap (has_root root) (sym parts) ∙ places.later_head (has_root root) x xs i e
others_apart root (x ∷ xs) (suc i) one e (suc k) y ne g = others_apart root xs i one.1 (places.later_tail (has_root root) x xs i e) k y (λ q. ne (ap (λ n. suc n) q)) g

rooted_is : (root : List ℕ) (image : List Row) → has_root root image ≡ true → image_root image ≡ root
rooted_is root [] e = absurd (false≢true e)
rooted_is root (row ∷ image) e = same_key root (root_of row.path) e

-- the slot that a record takes
pub has_slot : (db : ℕ) (root : List ℕ) (slot : ℕ) (s : Stored) → AreSlots s.dbd s.slots → slot_for root s.slots ≡ Some slot
    → HasSlot (record { db = db; slot = slot; root = root; before = record_of root (rows_of_slots s.slots) }) s
has_slot db root slot s valid e = by (slot_of_root root s.slots) refl
  where
    by : (o : Option ℕ) → slot_of_root root s.slots ≡ o → HasSlot (record { db = db; slot = slot; root = root; before = record_of root (rows_of_slots s.slots) }) s
    by None q =
        let low : lowest_free s.slots ≡ Some slot = sym (ap (λ o. first_slot_of o (lowest_free s.slots)) q) ∙ e in
        let none : record_of root (rows_of_slots s.slots) ≡ [] = record_none s.dbd s.slots root valid q in
        record {
          at = free_at s.slots slot low ∙ ap Some (sym none);
          own = inl none;
          others = λ k y ne g. places.none_passes (has_root root) s.slots q k y g;
          whole = inl none;
        }
    by (Some j) q =
        let same : Some j ≡ Some slot = sym (ap (λ o. first_slot_of o (lowest_free s.slots)) q) ∙ e in
        let there : slot_of_root root s.slots ≡ Some slot = q ∙ same in
        let found = places.place_passes (has_root root) s.slots slot there in
        let is : record_of root (rows_of_slots s.slots) ≡ found.0 =
        slots_record s.dbd s.slots root valid.each ∙ ap (λ o. unwrap_or o []) (places.find_at (has_root root) s.slots slot there ∙ found.1) in
        let at : slice_get s.slots slot ≡ Some (record_of root (rows_of_slots s.slots)) = found.1 ∙ ap Some (sym is) in
        let has : has_root root (record_of root (rows_of_slots s.slots)) ≡ true = ap (has_root root) is ∙ found.2 in
        record {
          at = at;
          own = inr has;
          others = others_apart root s.slots slot (valid.apart root) there;
          whole = ⊎_elim (λ none. inl none)
              (λ r. inr (subst (λ k. IsRecord s.dbd k (record_of root (rows_of_slots s.slots))) (rooted_is root (record_of root (rows_of_slots s.slots)) has) r))
              (all_get (IsSlot s.dbd) s.slots slot (record_of root (rows_of_slots s.slots)) valid.each at);
        }

pub own_image : (dbd : Dbd) (root : List ℕ) (image : List Row) → IsImage dbd root image → Own root image
own_image dbd root image h = ⊎_elim (λ e. inl e) (λ r. inr (record_has dbd.types root image r)) h

-- what one record that is set leaves
pub record Steps (c : Change) (records : List Change) (old new : List Stored) : Type 0 where
  pub committed : backed_out (with_change c records) new ≡ backed_out records old
  pub can : CanBackOut (with_change c records) new

module _ (c : Change) (records : List Change) (i : ℕ) (stores : List Stored) (s : Stored) (at : c.db ≡ 1 + i) (g : slice_get stores i ≡ Some s) (has : HasSlot c s) (can : CanBackOut records stores) where
  slots : List (List Row)
  slots = cleared_slots records c.db s.slots

  -- the store without the changed records
  clear : Stored
  clear = record { dbd = s.dbd; slots = cleared_slots records c.db s.slots }

  place : c.db - 1 ≡ i
  place = omega arith

  old_at : slice_get (cleared records stores) i ≡ Some (record { dbd = s.dbd; slots = cleared_slots records c.db s.slots })
  old_at = at_cleared records 1 i c.db stores s at g

  within : c.slot < length (cleared_slots records c.db s.slots)
  within = omega (arith, cleared_length records c.db s.slots, slice_get_within s.slots c.slot c.before has.at)

  slot_at : slice_get (cleared_slots records c.db s.slots) c.slot ≡ Some (cleared_slot records c.db c.before)
  slot_at = slot_cleared records c.db s.slots c.slot c.before has.at

  -- where the slot is free already, nothing is to be freed
  freed_already : cleared_slot records c.db c.before ≡ [] → set (cleared records stores) i (freed c records s) ≡ cleared records stores
  freed_already e =
      ap (λ xs. set (cleared records stores) i (record { dbd = s.dbd; slots = xs })) (set_itself (cleared_slots records c.db s.slots) c.slot [] (slot_at ∙ ap Some e))
      ∙ set_itself (cleared records stores) i (record { dbd = s.dbd; slots = cleared_slots records c.db s.slots }) old_at

  stored_push : (new : List Stored) → length new ≡ length stores → (b : Bool) → AllByRecursion (IsStored new) (cond b records (records ++ c ∷ []))
  stored_push new same true = all_then (IsStored stores) (IsStored new) records (λ x h. record { least = h.least; most = omega (arith, h.most, same) }) can.stored
  stored_push new same false =
      all_append (IsStored new) records (c ∷ []) (all_then (IsStored stores) (IsStored new) records (λ x h. record { least = h.least; most = omega (arith, h.most, same) }) can.stored)
      (record { least = omega arith; most = omega (arith, same, slice_get_within stores i s g) }, tt)

  -- the record that is put back first
  back_is : is_record_changed c.db c.root records ≡ false → with_record_back c (set (cleared records stores) i (freed c records s)) ≡ cleared records stores
  back_is q =
      let all = cleared records stores in
      let ys = cleared_slots records c.db s.slots in
      let there : slice_get ys c.slot ≡ Some c.before = slot_at ∙ ap Some (own_stays records c.db c.root c.before q has.own) in
      let one : slice_get (set all i (freed c records s)) (c.db - 1) ≡ Some (freed c records s) = ap (slice_get (set all i (freed c records s))) place ∙ get_set_same all i (freed c records s) (slice_get_within all i _ old_at) in
      let same : with_image_back c (freed c records s) ≡ record { dbd = s.dbd; slots = ys } = by (is_slot_free c.before) refl there in
      ap (λ o. with_back c o (set all i (freed c records s))) one
      ∙ (ap (λ k. set (set all i (freed c records s)) k (with_image_back c (freed c records s))) place
      ∙ (ap (set (set all i (freed c records s)) i) same
      ∙ (set-set all i (freed c records s) (record { dbd = s.dbd; slots = ys })
      ∙ set_itself all i (record { dbd = s.dbd; slots = ys }) old_at)))
    where
      free_none : (image : List Row) → is_slot_free image ≡ true → image ≡ []
      free_none [] e = refl
      free_none (row ∷ image) e = absurd (false≢true e)

      by : (b : Bool) → is_slot_free c.before ≡ b → slice_get (cleared_slots records c.db s.slots) c.slot ≡ Some c.before
          → with_image_back c (freed c records s) ≡ record { dbd = s.dbd; slots = cleared_slots records c.db s.slots }
      by true e there =
          ap (λ b. record { dbd = s.dbd; slots = cond b (set (cleared_slots records c.db s.slots) c.slot []) (set (set (cleared_slots records c.db s.slots) c.slot []) c.slot c.before) }) e
          ∙ ap (λ xs. record { dbd = s.dbd; slots = xs }) (set_itself (cleared_slots records c.db s.slots) c.slot [] (there ∙ ap Some (free_none c.before e)))
      by false e there =
          ap (λ b. record { dbd = s.dbd; slots = cond b (set (cleared_slots records c.db s.slots) c.slot []) (set (set (cleared_slots records c.db s.slots) c.slot []) c.slot c.before) }) e
          ∙ ap (λ xs. record { dbd = s.dbd; slots = xs }) (set-set (cleared_slots records c.db s.slots) c.slot [] c.before ∙ set_itself (cleared_slots records c.db s.slots) c.slot c.before there)

  -- a record that could go back still can
  fits_still : (x : Change) → FitsStore (record { dbd = s.dbd; slots = cleared_slots records c.db s.slots }) x → FitsStore (freed c records s) x
  fits_still x f =
      record {
        valid = f.valid;
        free = ⊎_elim
            (λ same. ap (slice_get (set (cleared_slots records c.db s.slots) c.slot [])) same ∙ get_set_same (cleared_slots records c.db s.slots) c.slot [] within)
            (λ other. get_set_other (cleared_slots records c.db s.slots) c.slot x.slot [] other ∙ f.free) (cases_eq x.slot c.slot);
        new = (places.set_apart (has_root x.root) (cleared_slots records c.db s.slots) c.slot (cleared_slot records c.db c.before) [] slot_at
            (places.none_passes (has_root x.root) (cleared_slots records c.db s.slots) f.new c.slot (cleared_slot records c.db c.before) slot_at) refl).0 ∙ f.new;
      }

  go_still : (x : Change) → CanGoBack (cleared records stores) x → CanGoBack (set (cleared records stores) i (freed c records s)) x
  go_still x h = ⊎_elim (λ e. inl e) (λ f. inr (⊎_elim (λ same. here same f) (λ other. there other f) (cases_eq (x.db - 1) i))) h
    where
      there : x.db - 1 ≢ i → FitsOption (slice_get (cleared records stores) (x.db - 1)) x → FitsOption (slice_get (set (cleared records stores) i (freed c records s)) (x.db - 1)) x
      there other f = subst (λ (o : Option Stored). FitsOption o x) (sym (get_set_other (cleared records stores) i (x.db - 1) (freed c records s) other)) f

      here : x.db - 1 ≡ i → FitsOption (slice_get (cleared records stores) (x.db - 1)) x → FitsOption (slice_get (set (cleared records stores) i (freed c records s)) (x.db - 1)) x
      here same f =
          let one : FitsOption (Some (record { dbd = s.dbd; slots = cleared_slots records c.db s.slots })) x =
          subst (λ (o : Option Stored). FitsOption o x) (ap (slice_get (cleared records stores)) same ∙ old_at) f in
          subst (λ (o : Option Stored). FitsOption o x)
          (sym (ap (slice_get (set (cleared records stores) i (freed c records s))) same
          ∙ get_set_same (cleared records stores) i (freed c records s) (slice_get_within (cleared records stores) i _ old_at)))
          (fits_still x one)

  -- the new record can go back
  goes_new : CanGoBack (set (cleared records stores) i (freed c records s)) c
  goes_new =
      ⊎_elim (λ e. inl e)
      (λ w. inr (subst (λ (o : Option Stored). FitsOption o c)
      (sym (ap (slice_get (set (cleared records stores) i (freed c records s))) place
      ∙ get_set_same (cleared records stores) i (freed c records s) (slice_get_within (cleared records stores) i _ old_at)))
      (fits_new w))) has.whole
    where
      fits_new : IsRecord s.dbd c.root c.before → FitsStore (freed c records s) c
      fits_new w =
          record {
            valid = w;
            free = get_set_same (cleared_slots records c.db s.slots) c.slot [] within;
            new = none_rooted records c.db c.root s.slots c.slot has.others;
          }

  -- and the records that were there were in other slots
  apart_new : is_record_changed c.db c.root records ≡ false → (x : Change) → CanGoBack (cleared records stores) x → AreInOtherSlots x c
  apart_new q x h was = ⊎_elim (λ e. e) (λ f. absurd (clash f)) h
    where
      parts : (eqb c.db x.db && (eqb c.slot x.slot && not (is_slot_free c.before))) ≡ true
      parts = was

      clash : FitsOption (slice_get (cleared records stores) (x.db - 1)) x → ⊥
      clash f =
          let db : c.db ≡ x.db = eqb-true c.db x.db (left_of (eqb c.db x.db) _ parts) in
          let both : (eqb c.slot x.slot && not (is_slot_free c.before)) ≡ true = right_of (eqb c.db x.db) _ parts in
          let slot : c.slot ≡ x.slot = eqb-true c.slot x.slot (left_of (eqb c.slot x.slot) _ both) in
          let some : not (is_slot_free c.before) ≡ true = right_of (eqb c.slot x.slot) _ both in
          let one : FitsOption (Some (record { dbd = s.dbd; slots = cleared_slots records c.db s.slots })) x =
          subst (λ (o : Option Stored). FitsOption o x) (ap (λ n. slice_get (cleared records stores) (n - 1)) (sym db) ∙ (ap (slice_get (cleared records stores)) place ∙ old_at)) f in
          let fits : FitsStore (record { dbd = s.dbd; slots = cleared_slots records c.db s.slots }) x = one in
          let there : slice_get (cleared_slots records c.db s.slots) c.slot ≡ Some c.before = slot_at ∙ ap Some (own_stays records c.db c.root c.before q has.own) in
          let both' : Some c.before ≡ Some [] = sym there ∙ (ap (slice_get (cleared_slots records c.db s.slots)) slot ∙ fits.free) in
          let none : c.before ≡ [] = cc in
          false≢true (sym (ap (λ b. not (is_slot_free b)) none) ∙ some)

  pub steps : (new : Stored) (image : List Row) → new.dbd ≡ s.dbd → new.slots ≡ set s.slots c.slot image → Own c.root image → Steps c records stores (set stores i new)
  steps new image d w own = by (is_record_changed c.db c.root records) refl
    where
      whole : cleared (with_change c records) (set stores i new) ≡ set (cleared records stores) i (freed c records s)
      whole = step_cleared c records 1 i stores s new image at g has d w own

      by : (b : Bool) → is_record_changed c.db c.root records ≡ b → Steps c records stores (set stores i new)
      by true q =
          let same : with_change c records ≡ records = ap (λ b. cond b records (records ++ c ∷ [])) q in
          let all : cleared (with_change c records) (set stores i new) ≡ cleared records stores = whole ∙ freed_already (own_gone records c.db c.root c.before q has.own) in
          record {
            committed = λ t. backed_from (same t) 1 (all t);
            can = record {
              stored = subst (λ rs. AllByRecursion (IsStored (set stores i new)) rs) (sym same) (stored_push (set stores i new) (length-set stores i new) true);
              fits = subst (λ ks. AllByRecursion (CanGoBack ks) (with_change c records)) (sym all) (subst (λ rs. AllByRecursion (CanGoBack (cleared records stores)) rs) (sym same) can.fits);
              apart = subst (Pairs AreInOtherSlots) (sym same) can.apart;
            };
          }
      by false q =
          let same : with_change c records ≡ records ++ c ∷ [] = ap (λ b. cond b records (records ++ c ∷ [])) q in
          let kept = set (cleared records stores) i (freed c records s) in
          let stored : IsStored (set (cleared records stores) i (freed c records s)) c =
          record { least = omega arith; most = omega (arith, length-set (cleared records stores) i (freed c records s), slice_get_within (cleared records stores) i _ old_at) } in
          record {
            committed = (λ t. backed_from (same t) 1 (whole t))
                ∙ (next_back records c (set (cleared records stores) i (freed c records s)) stored goes_new (is_slot_free c.before) refl
                ∙ ap (backed_from records 1) (back_is q));
            can = record {
              stored = subst (λ rs. AllByRecursion (IsStored (set stores i new)) rs) (sym same) (stored_push (set stores i new) (length-set stores i new) false);
              fits = subst (λ ks. AllByRecursion (CanGoBack ks) (with_change c records)) (sym whole)
                  (subst (λ rs. AllByRecursion (CanGoBack (set (cleared records stores) i (freed c records s))) rs) (sym same)
                  (all_append (CanGoBack (set (cleared records stores) i (freed c records s))) records (c ∷ [])
                  (all_then (CanGoBack (cleared records stores)) (CanGoBack (set (cleared records stores) i (freed c records s))) records go_still can.fits) (goes_new, tt)));
              apart = subst (Pairs AreInOtherSlots) (sym same) (pairs_push AreInOtherSlots records c can.apart (all_then (CanGoBack (cleared records stores)) (λ x. AreInOtherSlots x c) records (apart_new q) can.fits));
            };
          }
