-- The slots that count as changed once one of them is set, and once a unit is backed out.
use Rattle.std.proofs.Common.{◌≡◌, ◌≢◌, ℕ, ◌-◌, ◌<◌, ◌≤◌, ◌++◌, ◌∷◌, [], List, length, zero, suc, refl, sym, ◌∙◌, ap, subst, Bool, true, false, cond, Option, None, Some, arith, get_or, set, ltb, eqb, not, ◌+◌, ◌||◌, ◌&&◌, ◌⊎◌, inl, inr, ⊎_elim}
use Rattle.std.specs.Prelude.{IsTrue}
use Rattle.std.specs.List.{slice_get, list_any}
use Rattle.std.specs.Option.{option_map_or}
use Rattle.std.proofs.lemmas.Bool.{false≢true, eqb-true, eq-eqb, cases_eq}
use Rattle.std.proofs.lemmas.List.Folds.{list_any_at}
use Rattle.std.proofs.lemmas.Option.{slice_get-get_or, slice_get_within}
use Rattle.model_data.specs.declared.row.Row.{Row}
use Rattle.seg_store.specs.Slots.{Stored, has_root, is_slot_free, slot_of_root, with_root}
use Rattle.seg_store.specs.ChangedSlots.{Kept, AllStores, stored, with_number, with_changed_number}
use Rattle.seg_store.specs.Stores.{IsStoreOf, with_store}
use Rattle.seg_store.proofs.Places.{place_passes}
use Rattle.seg_store.proofs.SlotRows.{root_there, root_absent}
use Rattle.unit_work.specs.Images.{image_at}
use Rattle.unit_work.specs.Marks.{is_marked, AreMarked, AreAllMarked}
use Rattle.unit_work.specs.declared.change.Change.{Change}
use Rattle.unit_work.specs.BackOut.{is_touched, was_in, backs, cleared_slots, cleared_from, cleared}
use Rattle.unit_work.proofs.Backing.{get_set_other, get_set_same, nothing_touched, was_not_there}

-- a number among numbers with one more
pub marked_more : (n slot : ℕ) (xs : List ℕ) → list_any (λ m. eqb m slot) (with_number n xs) ≡ (eqb n slot || list_any (λ m. eqb m slot) xs)
marked_more n slot [] = refl
marked_more n slot (x ∷ xs) = by (ltb x n) (eqb x n) refl (marked_more n slot xs)
  where
    two : (a b c : Bool) → (a || (b || c)) ≡ (b || (a || c))
    two true true c = refl
    two true false c = refl
    two false b c = refl

    twice : (a c : Bool) → (a || c) ≡ (a || (a || c))
    twice true c = refl
    twice false c = refl

    by : (b a : Bool) → eqb x n ≡ a → list_any (λ m. eqb m slot) (with_number n xs) ≡ (eqb n slot || list_any (λ m. eqb m slot) xs)
        → list_any (λ m. eqb m slot) (cond b (x ∷ with_number n xs) (cond a (x ∷ xs) (n ∷ x ∷ xs))) ≡ (eqb n slot || (eqb x slot || list_any (λ m. eqb m slot) xs))
    by true a q rec = ap (λ r. eqb x slot || r) rec ∙ two (eqb x slot) (eqb n slot) (list_any (λ m. eqb m slot) xs)
    by false true q rec =
        twice (eqb x slot) (list_any (λ m. eqb m slot) xs) ∙ ap (λ k. eqb k slot || (eqb x slot || list_any (λ m. eqb m slot) xs)) (eqb-true x n q)
    by false false q rec = refl

or_false : (a b : Bool) → (a || b) ≡ false → (a ≡ false) × (b ≡ false)
or_false true b e = absurd (false≢true (sym e))
or_false false b e = (refl, e)

or_true : (a b : Bool) → (a || b) ≡ true → (a ≡ true) ⊎ (b ≡ true)
or_true true b e = inl refl
or_true false b e = inr e

-- an element after a change of one, with a default
get_other : {A : Type 0} (xs : List A) (i k : ℕ) (x d : A) → k ≢ i → get_or (set xs i x) k d ≡ get_or xs k d
get_other [] i k x d other = refl
get_other (y ∷ xs) zero zero x d other = absurd (other refl)
get_other (y ∷ xs) zero (suc k) x d other = refl
get_other (y ∷ xs) (suc i) zero x d other = refl
get_other (y ∷ xs) (suc i) (suc k) x d other = get_other xs i k x d (λ e. other (ap (λ n. suc n) e))

get_same : {A : Type 0} (xs : List A) (i : ℕ) (x d : A) → i < length xs → get_or (set xs i x) i d ≡ x
get_same [] i x d lt = absurd (omega arith)
get_same (y ∷ xs) zero x d lt = refl
get_same (y ∷ xs) (suc i) x d lt = get_same xs i x d (omega arith)

get_there : {A : Type 0} (xs : List A) (i : ℕ) (x d : A) → slice_get xs i ≡ Some x → get_or xs i d ≡ x
get_there xs i x d e =
    let both : Some (get_or xs i d) ≡ Some x = sym (slice_get-get_or xs i d (slice_get_within xs i x e)) ∙ e in
    cc

-- ---- steps, one after another

module _ (passes : ℕ → ℕ → Bool) where
  pub marks_none : (all : AllStores) → AreMarked passes all all
  marks_none all = record { only = λ d s least e. inl e; same = λ d s least e. (e, refl) }

  pub marks_then : (a b c : AllStores) → AreMarked passes a b → AreMarked passes b c → AreMarked passes a c
  marks_then a b c h g =
      record {
        only = λ d s least e. ⊎_elim (λ m. h.only d s least m) (λ p. inr p) (g.only d s least e);
        same = λ d s least e.
            let later = g.same d s least e in
            let earlier = h.same d s least later.0 in
            (earlier.0, later.1 ∙ earlier.1);
      }

  pub marks_more : (wider : ℕ → ℕ → Bool) → ((d s : ℕ) → 1 ≤ d → passes d s ≡ true → wider d s ≡ true) → (a b : AllStores) → AreMarked passes a b → AreMarked wider a b
  marks_more wider all a b h = record { only = λ d s least e. ⊎_elim (λ m. inl m) (λ p. inr (all d s least p)) (h.only d s least e); same = h.same }

  -- a slot that is marked stays so
  pub marked_stays : (a b : AllStores) → AreMarked passes a b → (d s : ℕ) → 1 ≤ d → is_marked a.changed d s ≡ true → is_marked b.changed d s ≡ true
  marked_stays a b h d s least e = by (is_marked b.changed d s) refl
    where
      by : (m : Bool) → is_marked b.changed d s ≡ m → is_marked b.changed d s ≡ true
      by true q = q
      by false q = absurd (false≢true (sym (h.same d s least q).0 ∙ e))

  -- a store is changed
  module _ (all : AllStores) (db : ℕ) (s t : Kept) (least : 1 ≤ db) (of : IsStoreOf all db s) where
    -- the others stay
    else_marked : (d slot : ℕ) → 1 ≤ d → d ≢ db → is_marked (with_store all db t).changed d slot ≡ is_marked all.changed d slot
    else_marked d slot positive other =
        ap (list_any (λ m. eqb m slot)) (get_other all.changed (db - 1) (d - 1) t.changed [] (λ e. let same : d ≡ db = omega (arith, e, positive, least) in other same))

    else_image : (d slot : ℕ) → 1 ≤ d → d ≢ db → image_at d slot (with_store all db t).stores ≡ image_at d slot all.stores
    else_image d slot positive other =
        ap (λ o. get_or (option_map_or (λ (x : Stored). x.slots) o []) slot [])
        (get_set_other all.stores (db - 1) (d - 1) (stored t) (λ e. let same : d ≡ db = omega (arith, e, positive, least) in other same))

    own_new : (slot : ℕ) → is_marked (with_store all db t).changed db slot ≡ list_any (λ m. eqb m slot) t.changed
    own_new slot = ap (list_any (λ m. eqb m slot)) (get_same all.changed (db - 1) t.changed [] (slice_get_within all.changed (db - 1) s.changed of.changed_is))

    own_old : (slot : ℕ) → is_marked all.changed db slot ≡ list_any (λ m. eqb m slot) s.changed
    own_old slot = ap (list_any (λ m. eqb m slot)) (get_there all.changed (db - 1) s.changed [] of.changed_is)

    pub image_new : (slot : ℕ) → image_at db slot (with_store all db t).stores ≡ get_or t.slots slot []
    image_new slot =
        ap (λ o. get_or (option_map_or (λ (x : Stored). x.slots) o []) slot [])
        (get_set_same all.stores (db - 1) (stored t) (slice_get_within all.stores (db - 1) (stored s) of.stored_is))

    pub image_old : (slot : ℕ) → image_at db slot all.stores ≡ get_or s.slots slot []
    image_old slot = ap (λ o. get_or (option_map_or (λ (x : Stored). x.slots) o []) slot []) of.stored_is

    -- nothing is set
    pub marks_same : t.changed ≡ s.changed → t.slots ≡ s.slots → AreMarked passes all (with_store all db t)
    marks_same changed slots =
        record {
          only = λ d k positive e. inl (sym (marked d k positive) ∙ e);
          same = λ d k positive e. (sym (marked d k positive) ∙ e, image d k positive);
        }
      where
        marked : (d k : ℕ) → 1 ≤ d → is_marked (with_store all db t).changed d k ≡ is_marked all.changed d k
        marked d k positive =
            ⊎_elim
            (λ (e : d ≡ db). subst (λ n. is_marked (with_store all db t).changed n k ≡ is_marked all.changed n k) (sym e) (own_new k ∙ (ap (list_any (λ m. eqb m k)) changed ∙ sym (own_old k))))
            (λ other. else_marked d k positive other) (cases_eq d db)

        image : (d k : ℕ) → 1 ≤ d → image_at d k (with_store all db t).stores ≡ image_at d k all.stores
        image d k positive =
            ⊎_elim
            (λ (e : d ≡ db). subst (λ n. image_at n k (with_store all db t).stores ≡ image_at n k all.stores) (sym e) (image_new k ∙ (ap (λ xs. get_or xs k []) slots ∙ sym (image_old k))))
            (λ other. else_image d k positive other) (cases_eq d db)

    -- a slot that is set counts as changed
    pub set_marked : (slot : ℕ) → t.changed ≡ with_number slot s.changed → is_marked (with_store all db t).changed db slot ≡ true
    set_marked slot changed =
        own_new slot
        ∙ (ap (list_any (λ m. eqb m slot)) changed ∙ (marked_more slot slot s.changed ∙ ap (λ b. b || list_any (λ m. eqb m slot) s.changed) (eq-eqb slot slot refl)))

    -- a slot is set that passes
    module _ (slot : ℕ) (changed : t.changed ≡ with_number slot s.changed) (image : List Row) (slots : t.slots ≡ set s.slots slot image) where
      now_marked : (k : ℕ) → is_marked (with_store all db t).changed db k ≡ (eqb slot k || is_marked all.changed db k)
      now_marked k =
          own_new k ∙ (ap (list_any (λ m. eqb m k)) changed ∙ (marked_more slot k s.changed ∙ ap (λ b. eqb slot k || b) (sym (own_old k))))

      pub image_else : (k : ℕ) → k ≢ slot → image_at db k (with_store all db t).stores ≡ image_at db k all.stores
      image_else k other = image_new k ∙ (ap (λ xs. get_or xs k []) slots ∙ (get_other s.slots slot k image [] other ∙ sym (image_old k)))

      pub marks_one : passes db slot ≡ true → AreMarked passes all (with_store all db t)
      marks_one passes_here =
          record {
            only = λ d k positive e. ⊎_elim
                (λ (here : d ≡ db). subst (λ n. (is_marked all.changed n k ≡ true) ⊎ (passes n k ≡ true)) (sym here)
                (own_only k (sym (now_marked k) ∙ subst (λ n. is_marked (with_store all db t).changed n k ≡ true) here e)))
                (λ other. inl (sym (else_marked d k positive other) ∙ e)) (cases_eq d db);
            same = λ d k positive e. ⊎_elim
                (λ (here : d ≡ db). subst (λ n. (is_marked all.changed n k ≡ false) × (image_at n k (with_store all db t).stores ≡ image_at n k all.stores)) (sym here)
                (own_same k (sym (now_marked k) ∙ subst (λ n. is_marked (with_store all db t).changed n k ≡ false) here e)))
                (λ other. (sym (else_marked d k positive other) ∙ e, else_image d k positive other)) (cases_eq d db);
          }
        where
          own_only : (k : ℕ) → (eqb slot k || is_marked all.changed db k) ≡ true → (is_marked all.changed db k ≡ true) ⊎ (passes db k ≡ true)
          own_only k e =
              ⊎_elim (λ here. inr (ap (passes db) (sym (eqb-true slot k here)) ∙ passes_here)) (λ m. inl m) (or_true (eqb slot k) (is_marked all.changed db k) e)

          own_same : (k : ℕ) → (eqb slot k || is_marked all.changed db k) ≡ false → (is_marked all.changed db k ≡ false) × (image_at db k (with_store all db t).stores ≡ image_at db k all.stores)
          own_same k e =
              let both = or_false (eqb slot k) (is_marked all.changed db k) e in
              (both.1, image_else k (λ here. false≢true (sym both.0 ∙ eq-eqb slot k (sym here))))

-- ---- a record is removed

-- an image in a slot is as it was, or gone
abbrev pub ArePartly : AllStores → AllStores → Type 0
ArePartly old new = (d k : ℕ) → 1 ≤ d → (image_at d k new.stores ≡ []) ⊎ (image_at d k new.stores ≡ image_at d k old.stores)

-- the record of a change in the list, from stores in which a part is gone already
module _ (first all : AllStores) (records : List Change) (db : ℕ) (root : List ℕ) (s t : Kept) (least : 1 ≤ db) (of : IsStoreOf all db s)
    (among : (image : List Row) → has_root root image ≡ true → is_touched records db image ≡ true) (partly : ArePartly first all)
    (changed : t.changed ≡ with_changed_number (slot_of_root root s.slots) s.changed) (slots : t.slots ≡ with_root root [] s.slots) where
  abbrev passing : ℕ → ℕ → Bool
  passing d k = is_touched records d (image_at d k first.stores)

  here : (n : ℕ) → slot_of_root root s.slots ≡ Some n → passing db n ≡ true
  here n e =
      let found = place_passes (has_root root) s.slots n e in
      let image : image_at db n all.stores ≡ found.0 = image_old passing all db s t least of n ∙ get_there s.slots n found.0 [] found.1 in
      ⊎_elim
      (λ none. absurd (false≢true (ap (has_root root) (sym none ∙ image) ∙ found.2)))
      (λ same. among (image_at db n first.stores) (ap (has_root root) (sym same ∙ image) ∙ found.2)) (partly db n least)

  pub removed_marks : AreMarked passing all (with_store all db t)
  removed_marks = by (slot_of_root root s.slots) refl
    where
      by : (o : Option ℕ) → slot_of_root root s.slots ≡ o → AreMarked passing all (with_store all db t)
      by None e = marks_same passing all db s t least of (changed ∙ ap (λ o. with_changed_number o s.changed) e) (slots ∙ root_absent root s.slots e)
      by (Some n) e = marks_one passing all db s t least of n (changed ∙ ap (λ o. with_changed_number o s.changed) e) [] (slots ∙ root_there root [] s.slots n e) (here n e)

  pub removed_partly : ArePartly first (with_store all db t)
  removed_partly d k positive =
      ⊎_elim
      (λ (same : d ≡ db). subst (λ n. (image_at n k (with_store all db t).stores ≡ []) ⊎ (image_at n k (with_store all db t).stores ≡ image_at n k first.stores)) (sym same)
      (by (slot_of_root root s.slots) refl))
      (λ other. ⊎_elim (λ none. inl (else_image passing all db s t least of d k positive other ∙ none)) (λ was. inr (else_image passing all db s t least of d k positive other ∙ was)) (partly d k positive))
      (cases_eq d db)
    where
      stays : image_at db k (with_store all db t).stores ≡ image_at db k all.stores → (image_at db k (with_store all db t).stores ≡ []) ⊎ (image_at db k (with_store all db t).stores ≡ image_at db k first.stores)
      stays same = ⊎_elim (λ none. inl (same ∙ none)) (λ was. inr (same ∙ was)) (partly db k least)

      by : (o : Option ℕ) → slot_of_root root s.slots ≡ o → (image_at db k (with_store all db t).stores ≡ []) ⊎ (image_at db k (with_store all db t).stores ≡ image_at db k first.stores)
      by None e = stays (image_new passing all db s t least of k ∙ (ap (λ xs. get_or xs k []) (slots ∙ root_absent root s.slots e) ∙ sym (image_old passing all db s t least of k)))
      by (Some n) e =
          ⊎_elim
          (λ (at : k ≡ n).
          let found = place_passes (has_root root) s.slots n e in
          inl (image_new passing all db s t least of k
          ∙ (ap (λ xs. get_or xs k []) (slots ∙ root_there root [] s.slots n e)
          ∙ (ap (λ j. get_or (set s.slots n []) j []) at ∙ get_same s.slots n [] [] (slice_get_within s.slots n found.0 found.1)))))
          (λ other. stays (image_else passing all db s t least of n (changed ∙ ap (λ o. with_changed_number o s.changed) e) [] (slots ∙ root_there root [] s.slots n e) k other)) (cases_eq k n)

pub partly_none : (all : AllStores) → ArePartly all all
partly_none all d k least = inr refl

pub marks_first : (first mid last : AllStores) (records : List Change) → AreMarked (λ d k. is_touched records d (image_at d k first.stores)) first mid
    → AreMarked (λ d k. list_any (was_in d k) records) mid last → AreMarked (λ d k. backs records d k (image_at d k first.stores)) first last
marks_first first mid last records h g =
    marks_then (λ d k. backs records d k (image_at d k first.stores)) first mid last
    (marks_more (λ d k. is_touched records d (image_at d k first.stores)) (λ d k. backs records d k (image_at d k first.stores))
    (λ d k least e. ap (λ b. b || list_any (was_in d k) records) e) first mid h)
    (marks_more (λ d k. list_any (was_in d k) records) (λ d k. backs records d k (image_at d k first.stores))
    (λ d k least e. ap (λ b. is_touched records d (image_at d k first.stores) || b) e ∙ or_last (is_touched records d (image_at d k first.stores))) mid last g)
  where
    or_last : (b : Bool) → (b || true) ≡ true
    or_last true = refl
    or_last false = refl

-- the images without the changed records
cleared_image : (records : List Change) (db : ℕ) (slots : List (List Row)) (k : ℕ) → is_touched records db (get_or slots k []) ≡ true → get_or (cleared_slots records db slots) k [] ≡ []
cleared_image records db [] k e = absurd (false≢true (sym (nothing_touched records db) ∙ e))
cleared_image records db (image ∷ slots) zero e = ap (λ b. cond b [] image) e
cleared_image records db (image ∷ slots) (suc k) e = cleared_image records db slots k e

cleared_at : (records : List Change) (n i : ℕ) (stores : List Stored) (k d : ℕ) → d ≡ n + i
    → is_touched records d (get_or (option_map_or (λ (x : Stored). x.slots) (slice_get stores i) []) k []) ≡ true
    → get_or (option_map_or (λ (x : Stored). x.slots) (slice_get (cleared_from records n stores) i) []) k [] ≡ []
cleared_at records n i [] k d at e = absurd (false≢true (sym (nothing_touched records d) ∙ e))
cleared_at records n zero (s ∷ stores) k d at e =
    let here : d ≡ n = omega (arith, at) in
    cleared_image records n s.slots k (subst (λ m. is_touched records m (get_or s.slots k []) ≡ true) here e)
cleared_at records n (suc i) (s ∷ stores) k d at e = cleared_at records (suc n) i stores k d (omega (arith, at)) e

-- The changed records are removed: where one was, none is, so its slot is marked.
pub all_removed : (first last : AllStores) (records : List Change) → last.stores ≡ cleared records first.stores → AreMarked (λ d k. is_touched records d (image_at d k first.stores)) first last
    → AreAllMarked (λ d k. is_touched records d (image_at d k first.stores)) last
all_removed first last records gone h = record { each = λ d k least e. by d k least e (is_marked last.changed d k) refl }
  where
    by : (d k : ℕ) → 1 ≤ d → is_touched records d (image_at d k first.stores) ≡ true → (b : Bool) → is_marked last.changed d k ≡ b → is_marked last.changed d k ≡ true
    by d k least e true q = q
    by d k least e false q =
        let none : image_at d k last.stores ≡ [] = ap (image_at d k) gone ∙ cleared_at records 1 (d - 1) first.stores k d (omega (arith, least)) e in
        absurd (false≢true (sym (nothing_touched records d) ∙ (ap (is_touched records d) (sym none ∙ (h.same d k least q).1) ∙ e)))

-- so are the slots of all that are put back behind that
pub all_first : (first mid last : AllStores) (records : List Change) → AreAllMarked (λ d k. is_touched records d (image_at d k first.stores)) mid
    → AreMarked (λ d k. list_any (was_in d k) records) mid last → AreAllMarked (λ d k. list_any (was_in d k) records) last
    → AreAllMarked (λ d k. backs records d k (image_at d k first.stores)) last
all_first first mid last records h g all = record {
  each = λ d k least e. ⊎_elim
      (λ removed. marked_stays (λ d k. list_any (was_in d k) records) mid last g d k least (h.each d k least removed))
      (λ back. all.each d k least back)
      (or_true (is_touched records d (image_at d k first.stores)) (list_any (was_in d k) records) e);
}

-- ---- a record is put back

-- its slot is marked
pub back_marked : (all : AllStores) (c : Change) (s t : Kept) → 1 ≤ c.db → IsStoreOf all c.db s → t.changed ≡ with_number c.slot s.changed
    → AreAllMarked (λ d k. was_in d k c) (with_store all c.db t)
back_marked all c s t least of changed = record { each = λ d k positive e. by d k (eqb c.db d) refl (eqb c.slot k) refl e }
  where
    by : (d k : ℕ) (a : Bool) → eqb c.db d ≡ a → (b : Bool) → eqb c.slot k ≡ b → was_in d k c ≡ true → is_marked (with_store all c.db t).changed d k ≡ true
    by d k true p true q e =
        subst (λ n. is_marked (with_store all c.db t).changed n k ≡ true) (eqb-true c.db d p)
        (subst (λ n. is_marked (with_store all c.db t).changed c.db n ≡ true) (eqb-true c.slot k q) (set_marked (λ d k. true) all c.db s t least of c.slot changed))
    by d k true p false q e = absurd (false≢true (sym (λ i. p i && (q i && not (is_slot_free c.before))) ∙ e))
    by d k false p b q e = absurd (false≢true (sym (ap (λ x. x && (eqb c.slot k && not (is_slot_free c.before))) p) ∙ e))

-- one that wasn't there has none
pub back_no_mark : (all : AllStores) (c : Change) → c.before ≡ [] → AreAllMarked (λ d k. was_in d k c) all
back_no_mark all c none = record { each = λ d k least e. absurd (false≢true (sym (was_not_there c d k (ap is_slot_free none)) ∙ e)) }

-- each slot in which one of these was is marked, or its record is still to be put back
abbrev pub AreToMark : List Change → List Change → AllStores → Type 0
AreToMark records left all = (d k : ℕ) → 1 ≤ d → list_any (was_in d k) records ≡ true → (list_any (was_in d k) left ≡ true) ⊎ (is_marked all.changed d k ≡ true)

any_split : (test : Change → Bool) (front : List Change) (c : Change) → list_any test (front ++ c ∷ []) ≡ true → (list_any test front ≡ true) ⊎ (test c ≡ true)
any_split test [] c e = ⊎_elim (λ own. inr own) (λ none. absurd (false≢true none)) (or_true (test c) false e)
any_split test (x ∷ front) c e =
    ⊎_elim
    (λ own. inl (ap (λ b. b || list_any test front) own))
    (λ later. ⊎_elim (λ f. inl (ap (λ b. test x || b) f ∙ or_last (test x))) (λ own. inr own) (any_split test front c later))
    (or_true (test x) (list_any test (front ++ c ∷ [])) e)
  where
    or_last : (b : Bool) → (b || true) ≡ true
    or_last true = refl
    or_last false = refl

pub next_to_mark : (records left front : List Change) (c : Change) (mid last : AllStores) → left ≡ front ++ c ∷ [] → AreToMark records left mid
    → AreMarked (λ d k. was_in d k c) mid last → AreAllMarked (λ d k. was_in d k c) last → AreToMark records front last
next_to_mark records left front c mid last is h g all d k least e =
    ⊎_elim
    (λ still. ⊎_elim (λ f. inl f) (λ own. inr (all.each d k least own)) (any_split (was_in d k) front c (subst (λ xs. list_any (was_in d k) xs ≡ true) is still)))
    (λ m. inr (marked_stays (λ d k. was_in d k c) mid last g d k least m))
    (h d k least e)

pub none_to_mark : (records left : List Change) (all : AllStores) → left ≡ [] → AreToMark records left all → AreAllMarked (λ d k. list_any (was_in d k) records) all
none_to_mark records left all none h = record {
  each = λ d k least e. ⊎_elim (λ still. absurd (false≢true (subst (λ xs. list_any (was_in d k) xs ≡ true) none still))) (λ m. m) (h d k least e);
}

pub not_free : (image : List Row) (b : Bool) → (image ≡ [] → IsTrue b) → b ≡ false → is_slot_free image ≡ false
not_free [] b h e = absurd (false≢true (sym e ∙ h refl))
not_free (row ∷ image) b h e = refl

-- an element at the end is one of them, and all before it are too
pub any_last : (test : Change → Bool) (front : List Change) (c : Change) → test c ≡ true → list_any test (front ++ c ∷ []) ≡ true
any_last test [] c e = ap (λ b. b || false) e
any_last test (x ∷ front) c e = ap (λ b. test x || b) (any_last test front c e) ∙ or_last (test x)
  where
    or_last : (b : Bool) → (b || true) ≡ true
    or_last true = refl
    or_last false = refl

pub any_front : (test : Change → Bool) (front : List Change) (c : Change) → list_any test front ≡ true → list_any test (front ++ c ∷ []) ≡ true
any_front test [] c e = absurd (false≢true e)
any_front test (x ∷ front) c e = by (test x) (any_front test front c) e
  where
    by : (b : Bool) → (list_any test front ≡ true → list_any test (front ++ c ∷ []) ≡ true) → (b || list_any test front) ≡ true → (b || list_any test (front ++ c ∷ [])) ≡ true
    by true rec g = refl
    by false rec g = rec g

-- the record of a change among these
pub among_these : (records : List Change) (index db : ℕ) (c d : Change) → index < length records → c ≡ get_or records index d → c.db ≡ db
    → (image : List Row) → has_root c.root image ≡ true → is_touched records db image ≡ true
among_these records index db c d lt is same image has =
    list_any_at (λ x. eqb x.db db && has_root x.root image) records index d lt
    (ap (λ (x : Change). eqb x.db db && has_root x.root image) (sym is) ∙ (λ t. eq-eqb c.db db same t && has t))
