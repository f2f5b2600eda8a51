-- The slots of a database after a unit was backed out: they are slots again, and the records that it hasn't changed are as they were.
use Rattle.std.proofs.Common.{◌≡◌, ℕ, ◌+◌, ◌-◌, ◌<◌, ◌∷◌, [], List, length, zero, suc, refl, sym, ◌∙◌, ap, subst, Bool, true, false, cond, None, Some, arith, get_or, eqb, ◌&&◌, ◌||◌, ◌⊎◌, inl, inr, ⊎_elim}
use Rattle.std.specs.List.{AllByRecursion, find}
use Rattle.std.specs.Option.{option_map, unwrap_or}
use Rattle.std.specs.Ordering.{is_eq}
use Rattle.std.proofs.lemmas.Bool.{false≢true, eq-eqb, eqb-true}
use Rattle.std.proofs.lemmas.Cmp.{tied_itself}
use Rattle.tm_types.specs.declared.dbd.Dbd.{Dbd}
use Rattle.model_data.specs.declared.row.Row.{Row}
use Rattle.model_data.specs.Path.{key_cmp}
use Rattle.model_data.specs.Record.{IsRecord}
use Rattle.model_data.specs.Rows.{record_of}
use Rattle.model_data.proofs.Lists.{all_then}
use Rattle.model_data.proofs.Order.{key_total}
use Rattle.seg_store.specs.Slots.{has_root, place_of, AtMostOne, IsSlot, AreSlots, rows_of_slots}
use Rattle.seg_store.proofs.Places as places
use Rattle.seg_store.proofs.SlotRows.{slots_record, rooted, same_key, record_has, record_image_root}
use Rattle.unit_work.specs.declared.change.Change.{Change}
use Rattle.unit_work.specs.Changes.{is_change_of_record, is_record_changed, AreOther, AreRecordsOnce}
use Rattle.unit_work.specs.BackOut.{is_touched, was_in, backed_slot, cleared_slot}
use Rattle.program_rows.proofs.Slotwise.{each_slot, back, slots_length}
use Rattle.program_rows.proofs.Beside.{back_has, cleared_has, touched_is}
use Rattle.program_rows.specs.OpenUnits.{was_there}
use Rattle.program_rows.proofs.Aside.{was_in_is}
use Rattle.program_rows.proofs.Bools.{or_left, or_right}

-- what backing out needs of the slots of one database
pub record Restores (dbd : Dbd) (records : List Change) (db : ℕ) (slots : List (List Row)) : Type 0 where
  pub cleared : (m : ℕ) → m < length slots → was_there records db m ≡ true → cleared_slot records db (get_or slots m []) ≡ []
  pub before : AllByRecursion (λ c. c.db ≡ db → (c.before ≡ []) ⊎ IsRecord dbd c.root c.before) records
  pub once : AreRecordsOnce records

-- an image of this root is of no other
other_has : (root key : List ℕ) (image : List Row) → (image ≡ []) ⊎ (has_root root image ≡ true) → is_eq (key_cmp root key) ≡ false → has_root key image ≡ false
other_has root key image h e = ⊎_elim (λ none. ap (has_root key) none) (λ has. by (has_root key image) refl has) h
  where
    by : (b : Bool) → has_root key image ≡ b → has_root root image ≡ true → has_root key image ≡ false
    by true q has = absurd (false≢true (sym e ∙ (sym (rooted key image q root) ∙ has)))
    by false q has = q

before_rooted : (dbd : Dbd) (c : Change) → (c.before ≡ []) ⊎ IsRecord dbd c.root c.before → (c.before ≡ []) ⊎ (has_root c.root c.before ≡ true)
before_rooted dbd c h = ⊎_elim (λ e. inl e) (λ r. inr (record_has dbd.types c.root c.before r.whole)) h

-- what is put back for other records isn't of this root
none_back : (dbd : Dbd) (records : List Change) (db m : ℕ) (key : List ℕ) (image : List Row) → is_record_changed db key records ≡ false
    → AllByRecursion (λ c. c.db ≡ db → (c.before ≡ []) ⊎ IsRecord dbd c.root c.before) records → has_root key image ≡ false → has_root key (backed_slot records db m image) ≡ false
none_back dbd records db m key image e before h = back_has (λ x. has_root key x ≡ false) records db m image h (each records e before)
  where
    each : (rs : List Change) → is_record_changed db key rs ≡ false → AllByRecursion (λ c. c.db ≡ db → (c.before ≡ []) ⊎ IsRecord dbd c.root c.before) rs
        → AllByRecursion (λ c. c.db ≡ db → has_root key c.before ≡ false) rs
    each [] q b = tt
    each (c ∷ rs) q b = (
      λ d. other_has c.root key c.before (before_rooted dbd c (b.0 d))
          (sym (ap (λ t. t && is_eq (key_cmp c.root key)) (eq-eqb c.db db d)) ∙ or_left (is_change_of_record db key c) (is_record_changed db key rs) q),
      each rs (or_right (is_change_of_record db key c) (is_record_changed db key rs) q) b.1,
    )

-- an image that is left alone for a root: the same, or of that root neither before nor after
abbrev pub IsLeft : List ℕ → List Row → List Row → Type 0
IsLeft key old new = (new ≡ old) ⊎ ((has_root key old ≡ false) × (has_root key new ≡ false))

module _ (f : ℕ → ℕ → List Row → List Row) (key : List ℕ) where
  find_left : (db n : ℕ) (xs : List (List Row)) → ((m : ℕ) → m < length xs → IsLeft key (get_or xs m []) (f db (n + m) (get_or xs m []))) → find (has_root key) (each_slot f db n xs) ≡ find (has_root key) xs
  find_left db n [] h = refl
  find_left db n (x ∷ xs) h =
      let here : n + 0 ≡ n = omega arith in
      let first : IsLeft key x (f db n x) = subst (λ k. IsLeft key x (f db k x)) here (h 0 (omega arith)) in
      let rest : find (has_root key) (each_slot f db (suc n) xs) ≡ find (has_root key) xs =
      find_left db (suc n) xs (λ m lt. let next : n + suc m ≡ suc n + m = omega arith in subst (λ k. IsLeft key (get_or xs m []) (f db k (get_or xs m []))) next (h (suc m) (omega arith))) in
      ap (λ o. cond (has_root key (f db n x)) (Some (f db n x)) o) rest
      ∙ ⊎_elim (λ same. ap (λ y. cond (has_root key y) (Some y) (find (has_root key) xs)) same)
      (λ none. ap (λ b. cond b (Some (f db n x)) (find (has_root key) xs)) none.1 ∙ sym (ap (λ b. cond b (Some x) (find (has_root key) xs)) none.0)) first

  place_left : (db n : ℕ) (xs : List (List Row)) → ((m : ℕ) → m < length xs → IsLeft key (get_or xs m []) (f db (n + m) (get_or xs m [])))
      → place_of (has_root key) (each_slot f db n xs) ≡ place_of (has_root key) xs
  place_left db n [] h = refl
  place_left db n (x ∷ xs) h =
      let here : n + 0 ≡ n = omega arith in
      let first : IsLeft key x (f db n x) = subst (λ k. IsLeft key x (f db k x)) here (h 0 (omega arith)) in
      let rest : place_of (has_root key) (each_slot f db (suc n) xs) ≡ place_of (has_root key) xs =
      place_left db (suc n) xs (λ m lt. let next : n + suc m ≡ suc n + m = omega arith in subst (λ k. IsLeft key (get_or xs m []) (f db k (get_or xs m []))) next (h (suc m) (omega arith))) in
      let test : has_root key (f db n x) ≡ has_root key x = ⊎_elim (λ same. ap (has_root key) same) (λ none. none.1 ∙ sym none.0) first in
      λ t. cond (test t) (Some 0) (option_map (λ k. suc k) (rest t))

  one_left : (db n : ℕ) (xs : List (List Row)) → ((m : ℕ) → m < length xs → IsLeft key (get_or xs m []) (f db (n + m) (get_or xs m []))) → AtMostOne (has_root key) xs
      → AtMostOne (has_root key) (each_slot f db n xs)
  one_left db n [] h one = tt
  one_left db n (x ∷ xs) h one =
      let here : n + 0 ≡ n = omega arith in
      let first : IsLeft key x (f db n x) = subst (λ k. IsLeft key x (f db k x)) here (h 0 (omega arith)) in
      let test : has_root key (f db n x) ≡ has_root key x = ⊎_elim (λ same. ap (has_root key) same) (λ none. none.1 ∙ sym none.0) first in (
        λ e. place_left db (suc n) xs (later h) ∙ one.0 (sym test ∙ e),
        one_left db (suc n) xs (later h) one.1,
      )
    where
      later : ((m : ℕ) → m < length (x ∷ xs) → IsLeft key (get_or (x ∷ xs) m []) (f db (n + m) (get_or (x ∷ xs) m [])))
          → (m : ℕ) → m < length xs → IsLeft key (get_or xs m []) (f db (suc n + m) (get_or xs m []))
      later g m lt = let next : n + suc m ≡ suc n + m = omega arith in subst (λ k. IsLeft key (get_or xs m []) (f db k (get_or xs m []))) next (g (suc m) (omega arith))

-- where no record was in the slot, nothing is put back
pub none_put : (records : List Change) (db m : ℕ) (image : List Row) → was_there records db m ≡ false → backed_slot records db m image ≡ image
none_put [] db m image e = refl
none_put (c ∷ records) db m image e =
    ap (λ b. cond b c.before (backed_slot records db m image)) (or_left (was_in db m c) (was_there records db m) e)
    ∙ none_put records db m image (or_right (was_in db m c) (was_there records db m) e)

-- what every place of a list has
none_by : (test : List Row → Bool) (xs : List (List Row)) → ((m : ℕ) → m < length xs → test (get_or xs m []) ≡ false) → place_of test xs ≡ None
none_by test [] h = refl
none_by test (x ∷ xs) h = places.none_cons test x xs (h 0 (omega arith)) (none_by test xs (λ m lt. h (suc m) (omega arith)))

one_by : (test : List Row → Bool) (xs : List (List Row)) (place : ℕ) → ((m : ℕ) → m < length xs → test (get_or xs m []) ≡ true → m ≡ place) → AtMostOne test xs
one_by test [] place h = tt
one_by test (x ∷ xs) place h = (
  λ e. none_by test xs (λ m lt. by (test (get_or xs m [])) (test (get_or xs m [])) refl (λ q. let at : 0 ≡ place = h 0 (omega arith) e in let clash : suc m ≡ place = h (suc m) (omega arith) q in absurd (omega arith))),
  one_by test xs (place - 1) (λ m lt e. let at : suc m ≡ place = h (suc m) (omega arith) e in omega arith),
)
  where
    by : (b y : Bool) → y ≡ b → (y ≡ true → ⊥) → y ≡ false
    by true y e f = absurd (f e)
    by false y e f = e

each_at : (f : ℕ → ℕ → List Row → List Row) (db n m : ℕ) (xs : List (List Row)) → m < length xs → get_or (each_slot f db n xs) m [] ≡ f db (n + m) (get_or xs m [])
each_at f db n m [] lt = absurd (omega arith)
each_at f db n zero (x ∷ xs) lt = let here : n ≡ n + 0 = omega arith in ap (λ k. f db k x) here
each_at f db n (suc m) (x ∷ xs) lt = let next : suc n + m ≡ n + suc m = omega arith in each_at f db (suc n) m xs (omega arith) ∙ ap (λ k. f db k (get_or xs m [])) next

all_at : (P : List Row → Type 0) (xs : List (List Row)) (m : ℕ) → AllByRecursion P xs → m < length xs → P (get_or xs m [])
all_at P [] m h lt = absurd (omega arith)
all_at P (x ∷ xs) zero h lt = h.0
all_at P (x ∷ xs) (suc m) h lt = all_at P xs m h.1 (omega arith)

all_each : (P : List Row → Type 0) (f : ℕ → ℕ → List Row → List Row) (db n : ℕ) (xs : List (List Row)) → ((m : ℕ) (x : List Row) → P x → P (f db m x)) → AllByRecursion P xs
    → AllByRecursion P (each_slot f db n xs)
all_each P f db n [] h g = tt
all_each P f db n (x ∷ xs) h g = (h n x g.0, all_each P f db (suc n) xs h g.1)

module _ (dbd : Dbd) (records : List Change) (db : ℕ) (slots : List (List Row)) (facts : Restores dbd records db slots) where
  -- an image isn't of a record that the unit hasn't changed and that is gone once it is cleared
  gone_before : (key : List ℕ) (image : List Row) → is_record_changed db key records ≡ false → cleared_slot records db image ≡ [] → has_root key image ≡ false
  gone_before key image e gone = by (has_root key image) refl
    where
      by : (b : Bool) → has_root key image ≡ b → has_root key image ≡ false
      by false q = q
      by true q =
          let same : cleared_slot records db image ≡ image = ap (λ b. cond b [] image) (touched_is records db key image q ∙ e) in
          absurd (false≢true (ap (has_root key) (sym gone ∙ same) ∙ q))

  -- each slot is left alone for a record that isn't changed
  slot_left : (key : List ℕ) → is_record_changed db key records ≡ false → (m : ℕ) → m < length slots → IsLeft key (get_or slots m []) (back records db m (get_or slots m []))
  slot_left key e m lt = by (was_there records db m) refl (is_touched records db (get_or slots m [])) refl
    where
      by : (b : Bool) → was_there records db m ≡ b → (c : Bool) → is_touched records db (get_or slots m []) ≡ c → IsLeft key (get_or slots m []) (back records db m (get_or slots m []))
      by true q c t =
          let gone : cleared_slot records db (get_or slots m []) ≡ [] = facts.cleared m lt q in
          inr (
            gone_before key (get_or slots m []) e gone,
            none_back dbd records db m key (cleared_slot records db (get_or slots m [])) e facts.before (ap (has_root key) gone),
          )
      by false q true t =
          let gone : cleared_slot records db (get_or slots m []) ≡ [] = ap (λ b. cond b [] (get_or slots m [])) t in
          inr (
            gone_before key (get_or slots m []) e gone,
            ap (has_root key) (none_put records db m (cleared_slot records db (get_or slots m [])) q ∙ gone),
          )
      by false q false t = inl (none_put records db m (cleared_slot records db (get_or slots m [])) q ∙ ap (λ b. cond b [] (get_or slots m [])) t)

  left_all : (key : List ℕ) → is_record_changed db key records ≡ false → (m : ℕ) → m < length slots → IsLeft key (get_or slots m []) (back records db (0 + m) (get_or slots m []))
  left_all key e m lt = let here : m ≡ 0 + m = omega arith in subst (λ k. IsLeft key (get_or slots m []) (back records db k (get_or slots m []))) here (slot_left key e m lt)

  abbrev pub restored : List (List Row)
  restored = each_slot (back records) db 0 slots

  -- a slot that a record is put back into
  module _ (key : List ℕ) where
    others_none : (c : Change) (rs : List Change) → c.db ≡ db → is_eq (key_cmp c.root key) ≡ true → AllByRecursion (AreOther c) rs → is_record_changed db key rs ≡ false
    others_none c [] d e h = refl
    others_none c (x ∷ rs) d e h = λ t. one t || others_none c rs d e h.1 t
      where
        same : c.root ≡ key
        same = sym (same_key c.root key e)

        one : is_change_of_record db key x ≡ false
        one = by (is_change_of_record db key x) refl
          where
            left : (a b : Bool) → (a && b) ≡ true → a ≡ true
            left true b q = refl
            left false b q = absurd (false≢true q)

            right : (a b : Bool) → (a && b) ≡ true → b ≡ true
            right true b q = q
            right false b q = absurd (false≢true q)

            by : (b : Bool) → is_change_of_record db key x ≡ b → is_change_of_record db key x ≡ false
            by false q = q
            by true q =
                let database : x.db ≡ db = eqb-true x.db db (left (eqb x.db db) _ q) in
                let root : x.root ≡ key = sym (same_key x.root key (right (eqb x.db db) _ q)) in
                let both : is_change_of_record x.db x.root c ≡ true = λ t. eq-eqb c.db x.db (d ∙ sym database) t && (ap (λ k. is_eq (key_cmp c.root k)) (root ∙ sym same) ∙ ap is_eq (tied_itself key_total c.root)) t in
                absurd (false≢true (sym h.0 ∙ both))

    own_place : (rs : List Change) → Rattle.unit_work.specs.Changes.Pairs AreOther rs → AllByRecursion (λ c. c.db ≡ db → (c.before ≡ []) ⊎ IsRecord dbd c.root c.before) rs
        → (place : ℕ) × ((m : ℕ) (image : List Row) → has_root key image ≡ false → has_root key (backed_slot rs db m image) ≡ true → m ≡ place)
    own_place [] once before = (0, λ m image e q. absurd (false≢true (sym e ∙ q)))
    own_place (c ∷ rs) once before = by (is_change_of_record db key c) refl (own_place rs once.1 before.1)
      where
        Place : ℕ → Type 0
        Place place = (m : ℕ) (image : List Row) → has_root key image ≡ false → has_root key (backed_slot (c ∷ rs) db m image) ≡ true → m ≡ place

        left : (a b : Bool) → (a && b) ≡ true → a ≡ true
        left true b q = refl
        left false b q = absurd (false≢true q)

        right : (a b : Bool) → (a && b) ≡ true → b ≡ true
        right true b q = q
        right false b q = absurd (false≢true q)

        by : (b : Bool) → is_change_of_record db key c ≡ b
            → ((place : ℕ) × ((m : ℕ) (image : List Row) → has_root key image ≡ false → has_root key (backed_slot rs db m image) ≡ true → m ≡ place))
            → (place : ℕ) × ((m : ℕ) (image : List Row) → has_root key image ≡ false → has_root key (backed_slot (c ∷ rs) db m image) ≡ true → m ≡ place)
        by true q rec = (
          c.slot,
          λ m image e h. here m image e h (was_in db m c) refl,
        )
          where
            rest : is_record_changed db key rs ≡ false
            rest = others_none c rs (eqb-true c.db db (left (eqb c.db db) _ q)) (right (eqb c.db db) _ q) once.0

            here : (m : ℕ) (image : List Row) → has_root key image ≡ false → has_root key (backed_slot (c ∷ rs) db m image) ≡ true → (b : Bool) → was_in db m c ≡ b → m ≡ c.slot
            here m image e h true w = sym (was_in_is db m c w).place
            here m image e h false w =
                absurd (false≢true (sym (none_back dbd rs db m key image rest before.1 e) ∙ (ap (has_root key) (sym (ap (λ b. cond b c.before (backed_slot rs db m image)) w)) ∙ h)))
        by false q rec = (
          rec.0,
          λ m image e h. here m image e h (was_in db m c) refl,
        )
          where
            here : (m : ℕ) (image : List Row) → has_root key image ≡ false → has_root key (backed_slot (c ∷ rs) db m image) ≡ true → (b : Bool) → was_in db m c ≡ b → m ≡ rec.0
            here m image e h false w = rec.1 m image e (ap (has_root key) (sym (ap (λ b. cond b c.before (backed_slot rs db m image)) w)) ∙ h)
            here m image e h true w =
                let was = was_in_is db m c w in
                let has : has_root key c.before ≡ true = ap (has_root key) (sym (ap (λ b. cond b c.before (backed_slot rs db m image)) w)) ∙ h in
                let other : is_eq (key_cmp c.root key) ≡ false = sym (ap (λ t. t && is_eq (key_cmp c.root key)) (eq-eqb c.db db was.database)) ∙ q in
                absurd (false≢true (sym (other_has c.root key c.before (before_rooted dbd c (before.0 was.database)) other) ∙ has))

  module _ (valid : AreSlots dbd slots) where
    -- each slot has no rows or a record
    restored_each : AllByRecursion (IsSlot dbd) restored
    restored_each =
        all_each (IsSlot dbd) (back records) db 0 slots
        (λ m x h. back_has (IsSlot dbd) records db m (cleared_slot records db x) (cleared_has (IsSlot dbd) records db x h (inl refl))
        (all_then (λ (c : Change). c.db ≡ db → (c.before ≡ []) ⊎ IsRecord dbd c.root c.before) (λ (c : Change). c.db ≡ db → IsSlot dbd c.before) records
        (λ c g d. ⊎_elim (λ e. inl e) (λ r. inr (subst (λ k. IsRecord dbd k c.before) (sym (record_image_root dbd.types c.root c.before r.whole)) r)) (g d)) facts.before)) valid.each

    -- the slots are slots of the database again
    pub restored_slots : AreSlots dbd restored
    restored_slots =
        record {
          types = valid.types;
          count = slots_length (back records) db 0 slots ∙ valid.count;
          each = restored_each;
          apart = λ key. by key (is_record_changed db key records) refl;
        }
      where
        by : (key : List ℕ) (b : Bool) → is_record_changed db key records ≡ b → AtMostOne (has_root key) restored
        by key false e = one_left (back records) key db 0 slots (left_all key e) (valid.apart key)
        by key true e =
            let place = own_place key records facts.once facts.before in
            one_by (has_root key) restored place.0
            (λ m lt h.
            let within : m < length slots = omega (arith, slots_length (back records) db 0 slots, lt) in
            let here : 0 + m ≡ m = omega arith in
            let is : get_or restored m [] ≡ back records db m (get_or slots m []) = each_at (back records) db 0 m slots within ∙ ap (λ k. back records db k (get_or slots m [])) here in
            place.1 m (cleared_slot records db (get_or slots m [])) (gone (get_or slots m []) (has_root key (get_or slots m [])) refl) (ap (has_root key) (sym is) ∙ h))
          where
            either : (image : List Row) (b : Bool) → has_root key image ≡ false → has_root key (cond b [] image) ≡ false
            either image true q = refl
            either image false q = q

            gone : (image : List Row) (b : Bool) → has_root key image ≡ b → has_root key (cleared_slot records db image) ≡ false
            gone image true q = ap (λ b. has_root key (cond b [] image)) (touched_is records db key image q ∙ e)
            gone image false q = either image (is_touched records db image) q

    -- a record that isn't changed is as it was
    pub restored_record : (key : List ℕ) → is_record_changed db key records ≡ false → record_of key (rows_of_slots restored) ≡ record_of key (rows_of_slots slots)
    restored_record key e =
        slots_record dbd restored key restored_each
        ∙ (ap (λ o. unwrap_or o []) (find_left (back records) key db 0 slots (left_all key e))
        ∙ sym (slots_record dbd slots key valid.each))
