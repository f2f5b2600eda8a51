-- Backing out a unit whose records all were there and still are, each in its slot, leaves the roots.
use Rattle.std.proofs.Common.{◌≡◌, ℕ, ◌+◌, ◌<◌, ◌∷◌, [], List, length, zero, suc, refl, sym, ◌∙◌, ap, subst, Bool, true, false, cond, arith, get_or, eqb, ◌&&◌, ◌||◌, not, ◌⊎◌, inl, inr, ⊎_elim}
use Rattle.std.specs.List.{AllByRecursion}
use Rattle.std.specs.Map.{keys_of}
use Rattle.std.specs.BTreeMap.{insert_entry}
use Rattle.std.specs.Ordering.{match_ordering}
use Rattle.std.specs.declared.cmp.Ordering.{Ordering}
use Rattle.std.specs.declared.cmp.Ordering.TheVariants.{Less, Equal, Greater}
use Rattle.std.proofs.lemmas.Bool.{false≢true, eq-eqb, eqb-true}
use Rattle.std.proofs.lemmas.Option.{slice_get-get_or}
use Rattle.tm_types.specs.declared.dbd.Dbd.{Dbd}
use Rattle.model_data.specs.declared.row.Row.{Row}
use Rattle.model_data.specs.Path.{key_cmp, root_of}
use Rattle.model_data.specs.Rows.{roots}
use Rattle.seg_store.specs.Slots.{has_root, is_slot_free, AtMostOne, AreSlots, rows_of_slots}
use Rattle.seg_store.proofs.Places as places
use Rattle.seg_store.proofs.SlotRows.{entries_of, put_entry, slots_roots, same_key}
use Rattle.unit_work.specs.declared.change.Change.{Change}
use Rattle.unit_work.specs.BackOut.{is_touched, was_in, backed_slot, cleared_slot}
use Rattle.program_rows.proofs.Slotwise.{each_slot, back}
use Rattle.program_rows.specs.OpenUnits.{was_there}
use Rattle.program_rows.proofs.Aside.{was_in_is}
use Rattle.program_rows.proofs.Restored.{Restores, none_put, restored_slots}

-- a record that was there and still is, in its slot of these
pub record Stays (slots : List (List Row)) (c : Change) : Type 0 where
  pub was : is_slot_free c.before ≡ false
  pub is : has_root c.root (get_or slots c.slot []) ≡ true

-- two images are of one root, or one image
abbrev pub HaveOneRoot : List Row → List Row → Type 0
HaveOneRoot x y = (y ≡ x) ⊎ ((root : List ℕ) × (has_root root x ≡ true) × (has_root root y ≡ true))

keys_insert : (key : List ℕ) (v w : List Row) (es fs : List (List ℕ × List Row)) → keys_of es ≡ keys_of fs → keys_of (insert_entry key_cmp es key v) ≡ keys_of (insert_entry key_cmp fs key w)
keys_insert key v w [] [] e = refl
keys_insert key v w [] (f ∷ fs) e = let clash : [] ≡ f.0 ∷ keys_of fs = e in absurd (cc)
keys_insert key v w (d ∷ es) [] e = let clash : d.0 ∷ keys_of es ≡ [] = e in absurd (cc)
keys_insert key v w (d ∷ es) (f ∷ fs) e =
    let both : d.0 ∷ keys_of es ≡ f.0 ∷ keys_of fs = e in
    let head : d.0 ≡ f.0 = cc in
    let tail : keys_of es ≡ keys_of fs = cc in
    by (key_cmp key d.0) refl head tail (keys_insert key v w es fs tail)
  where
    left : Ordering → List (List ℕ × List Row)
    left o = match_ordering o ((key, v) ∷ d ∷ es) ((d.0, v) ∷ es) (d ∷ insert_entry key_cmp es key v)

    right : Ordering → List (List ℕ × List Row)
    right o = match_ordering o ((key, w) ∷ f ∷ fs) ((f.0, w) ∷ fs) (f ∷ insert_entry key_cmp fs key w)

    alike : (o : Ordering) → d.0 ≡ f.0 → keys_of es ≡ keys_of fs → keys_of (insert_entry key_cmp es key v) ≡ keys_of (insert_entry key_cmp fs key w) → keys_of (left o) ≡ keys_of (right o)
    alike Less h t rec = λ i. key ∷ h i ∷ t i
    alike Equal h t rec = λ i. h i ∷ t i
    alike Greater h t rec = λ i. h i ∷ rec i

    by : (o : Ordering) → key_cmp key d.0 ≡ o → d.0 ≡ f.0 → keys_of es ≡ keys_of fs → keys_of (insert_entry key_cmp es key v) ≡ keys_of (insert_entry key_cmp fs key w)
        → keys_of (left (key_cmp key d.0)) ≡ keys_of (right (key_cmp key f.0))
    by o q h t rec = alike (key_cmp key d.0) h t rec ∙ ap (λ k. keys_of (right (key_cmp key k))) h

keys_put : (x y : List Row) (es fs : List (List ℕ × List Row)) → HaveOneRoot x y → keys_of fs ≡ keys_of es → keys_of (put_entry y fs) ≡ keys_of (put_entry x es)
keys_put x y es fs h e = ⊎_elim (λ same. ap (λ z. keys_of (put_entry z fs)) same ∙ alone x) (λ g. pair x y g.0 g.1 g.2) h
  where
    alone : (z : List Row) → keys_of (put_entry z fs) ≡ keys_of (put_entry z es)
    alone [] = e
    alone (row ∷ rows) = keys_insert (root_of row.path) (row ∷ rows) (row ∷ rows) fs es e

    pair : (a b : List Row) (root : List ℕ) → has_root root a ≡ true → has_root root b ≡ true → keys_of (put_entry b fs) ≡ keys_of (put_entry a es)
    pair [] b root p q = absurd (false≢true p)
    pair (r ∷ rs) [] root p q = absurd (false≢true q)
    pair (r ∷ rs) (s ∷ ss) root p q =
        let one : root_of s.path ≡ root_of r.path = same_key root (root_of s.path) q ∙ sym (same_key root (root_of r.path) p) in
        ap (λ k. keys_of (insert_entry key_cmp fs k (s ∷ ss))) one ∙ keys_insert (root_of r.path) (s ∷ ss) (r ∷ rs) fs es e

keys_each : (f : ℕ → ℕ → List Row → List Row) (db n : ℕ) (xs : List (List Row)) → ((m : ℕ) → m < length xs → HaveOneRoot (get_or xs m []) (f db (n + m) (get_or xs m [])))
    → keys_of (entries_of (each_slot f db n xs)) ≡ keys_of (entries_of xs)
keys_each f db n [] h = refl
keys_each f db n (x ∷ xs) h =
    let here : n + 0 ≡ n = omega arith in
    keys_put x (f db n x) (entries_of xs) (entries_of (each_slot f db (suc n) xs)) (subst (λ k. HaveOneRoot x (f db k x)) here (h 0 (omega arith)))
    (keys_each f db (suc n) xs (λ m lt. let next : n + suc m ≡ suc n + m = omega arith in subst (λ k. HaveOneRoot (get_or xs m []) (f db k (get_or xs m []))) next (h (suc m) (omega arith))))

-- a place whose image passes lies within, and at most one does
within_by : (test : List Row → Bool) (xs : List (List Row)) (m : ℕ) → test [] ≡ false → test (get_or xs m []) ≡ true → m < length xs
within_by test [] m none e = absurd (false≢true (sym none ∙ e))
within_by test (x ∷ xs) zero none e = omega arith
within_by test (x ∷ xs) (suc m) none e = let rec = within_by test xs m none e in omega arith

pub one_place : (test : List Row → Bool) (xs : List (List Row)) (i k : ℕ) → test [] ≡ false → AtMostOne test xs → test (get_or xs i []) ≡ true → test (get_or xs k []) ≡ true → i ≡ k
one_place test [] i k none one p q = absurd (false≢true (sym none ∙ p))
one_place test (x ∷ xs) zero zero none one p q = refl
one_place test (x ∷ xs) zero (suc k) none one p q =
    absurd (false≢true (sym (places.none_passes test xs (one.0 p) k (get_or xs k []) (slice_get-get_or xs k [] (within_by test xs k none q))) ∙ q))
one_place test (x ∷ xs) (suc i) zero none one p q =
    absurd (false≢true (sym (places.none_passes test xs (one.0 q) i (get_or xs i []) (slice_get-get_or xs i [] (within_by test xs i none p))) ∙ p))
one_place test (x ∷ xs) (suc i) (suc k) none one p q = ap (λ n. suc n) (one_place test xs i k none one.1 p q)

module _ (dbd : Dbd) (records : List Change) (db : ℕ) (slots : List (List Row)) (facts : Restores dbd records db slots) (valid : AreSlots dbd slots)
    (stays : AllByRecursion (λ c. c.db ≡ db → Stays slots c) records) (rooted : AllByRecursion (λ c. c.db ≡ db → has_root c.root c.before ≡ true) records) where
  -- what is put back into a slot has the root that is there
  put_root : (rs : List Change) (m : ℕ) (image : List Row) → AllByRecursion (λ c. c.db ≡ db → Stays slots c) rs → AllByRecursion (λ c. c.db ≡ db → has_root c.root c.before ≡ true) rs
      → was_there rs db m ≡ true → (root : List ℕ) × (has_root root (get_or slots m []) ≡ true) × (has_root root (backed_slot rs db m image) ≡ true)
  put_root [] m image s r e = absurd (false≢true e)
  put_root (c ∷ rs) m image s r e = by (was_in db m c) refl (put_root rs m image s.1 r.1)
    where
      by : (b : Bool) → was_in db m c ≡ b
          → (was_there rs db m ≡ true → (root : List ℕ) × (has_root root (get_or slots m []) ≡ true) × (has_root root (backed_slot rs db m image) ≡ true))
          → (root : List ℕ) × (has_root root (get_or slots m []) ≡ true) × (has_root root (backed_slot (c ∷ rs) db m image) ≡ true)
      by true q rec =
          let was = was_in_is db m c q in (
            c.root,
            ap (λ k. has_root c.root (get_or slots k [])) (sym was.place) ∙ (s.0 was.database).is,
            ap (λ b. has_root c.root (cond b c.before (backed_slot rs db m image))) q ∙ r.0 was.database,
          )
      by false q rec =
          let found = rec (sym (ap (λ b. b || was_there rs db m) q) ∙ e) in (
            found.0,
            found.1,
            ap (λ b. has_root found.0 (cond b c.before (backed_slot rs db m image))) q ∙ found.2,
          )

  -- an image that the unit has touched stands where its record was
  touched_where : (rs : List Change) (m : ℕ) → AllByRecursion (λ c. c.db ≡ db → Stays slots c) rs → is_touched rs db (get_or slots m []) ≡ true → was_there rs db m ≡ true
  touched_where [] m s e = absurd (false≢true e)
  touched_where (c ∷ rs) m s e = by (eqb c.db db && has_root c.root (get_or slots m [])) refl (touched_where rs m s.1)
    where
      left : (a b : Bool) → (a && b) ≡ true → a ≡ true
      left true b q = refl
      left false b q = absurd (false≢true q)

      right : (a b : Bool) → (a && b) ≡ true → b ≡ true
      right true b q = q
      right false b q = absurd (false≢true q)

      or_true : (b : Bool) → (b || true) ≡ true
      or_true true = refl
      or_true false = refl

      by : (b : Bool) → (eqb c.db db && has_root c.root (get_or slots m [])) ≡ b → (is_touched rs db (get_or slots m []) ≡ true → was_there rs db m ≡ true) → was_there (c ∷ rs) db m ≡ true
      by true q rec =
          let database : c.db ≡ db = eqb-true c.db db (left (eqb c.db db) _ q) in
          let here : has_root c.root (get_or slots m []) ≡ true = right (eqb c.db db) _ q in
          let st : Stays slots c = s.0 database in
          let same : c.slot ≡ m = one_place (has_root c.root) slots c.slot m refl (valid.apart c.root) st.is here in
          let was : was_in db m c ≡ true = λ t. eq-eqb c.db db database t && (eq-eqb c.slot m same t && not (st.was t)) in
          ap (λ b. b || was_there rs db m) was
      by false q rec = ap (λ b. was_in db m c || b) (rec (sym (ap (λ b. b || is_touched rs db (get_or slots m [])) q) ∙ e)) ∙ or_true (was_in db m c)

  slot_root : (m : ℕ) → m < length slots → HaveOneRoot (get_or slots m []) (back records db m (get_or slots m []))
  slot_root m lt = by (was_there records db m) refl (is_touched records db (get_or slots m [])) refl
    where
      by : (b : Bool) → was_there records db m ≡ b → (c : Bool) → is_touched records db (get_or slots m []) ≡ c → HaveOneRoot (get_or slots m []) (back records db m (get_or slots m []))
      by true q c t = inr (put_root records m (cleared_slot records db (get_or slots m [])) stays rooted q)
      by false q true t = absurd (false≢true (sym q ∙ touched_where records m stays t))
      by false q false t = inl (none_put records db m (cleared_slot records db (get_or slots m [])) q ∙ ap (λ b. cond b [] (get_or slots m [])) t)

  pub restored_roots : roots (rows_of_slots (each_slot (back records) db 0 slots)) ≡ roots (rows_of_slots slots)
  restored_roots =
      slots_roots dbd (each_slot (back records) db 0 slots) (restored_slots dbd records db slots facts valid)
      ∙ (keys_each (back records) db 0 slots
      (λ m lt. let here : m ≡ 0 + m = omega arith in subst (λ k. HaveOneRoot (get_or slots m []) (back records db k (get_or slots m []))) here (slot_root m lt))
      ∙ sym (slots_roots dbd slots valid))
