-- What units leave of the slots that others have touched, and what is committed of a slot.
use Rattle.std.proofs.Common.{◌≡◌, ◌≢◌, ℕ, ◌<◌, ◌≤◌, ◌∷◌, [], List, length, suc, refl, sym, ◌∙◌, ap, subst, Bool, true, false, cond, None, arith, get_or, set, ⊎_elim}
use Rattle.std.specs.List.{AllByRecursion}
use Rattle.std.proofs.lemmas.Bool.{false≢true, cases_eq, cases_lt}
use Rattle.std.proofs.lemmas.List.{length-set}
use Rattle.model_data.specs.Table.{EnqueueTable}
use Rattle.pi_enqueue.specs.KeptTable.{IsTableKept}
use Rattle.seg_store.specs.Slots.{Stored}
use Rattle.unit_work.specs.declared.change.Change.{Change}
use Rattle.unit_work.specs.Changes.{is_slot_before, is_slot, is_seen}
use Rattle.unit_work.specs.BackOut.{is_touched, backed_out, backs}
use Rattle.unit_work.specs.Images.{slots_of_database, image_at}
use Rattle.program_rows.specs.OpenUnits.{HoldsAlone, backed_all, IsOpenUnit, AreUnits, was_there, IsRecordTouched, AllTouch}
use Rattle.program_rows.proofs.Slotwise.{back}
use Rattle.program_rows.proofs.Beside.{IsIdle, idle_back, none_touched}
use Rattle.program_rows.proofs.Backed.{backed_lengths, lengths_all}
use Rattle.program_rows.proofs.Apart.{free_where, units_beside, all_beside, all_rooted}
use Rattle.program_rows.proofs.Together.{push, all_by, get_set, get_set_else}
use Rattle.program_rows.proofs.BackUnits.{back_committed}
use Rattle.unit_work.proofs.Ordered.{same_is}
use Rattle.program_rows.proofs.Bools.{or_left, or_right}
use Rattle.program_rows.proofs.Touching.{back_at, past}

-- where all units are idle, backing them out leaves the image
pub images_idle : (stores : List Stored) (units : List (List Change)) (db slot : ℕ) → 1 ≤ db → slot < length (slots_of_database db stores)
    → AllByRecursion (λ u. IsIdle u db slot (image_at db slot stores)) units → image_at db slot (backed_all units stores) ≡ image_at db slot stores
images_idle stores [] db slot least lt h = refl
images_idle stores (u ∷ units) db slot least lt h =
    back_at u (backed_all units stores) db slot least (omega (arith, lengths_all stores units db least, lt))
    ∙ (ap (back u db slot) (images_idle stores units db slot least lt h.1) ∙ idle_back u db slot (image_at db slot stores) h.0)

-- stores that are alike in a slot are so once units are backed out
pub images_same : (one other : List Stored) (units : List (List Change)) (db slot : ℕ) → 1 ≤ db → length (slots_of_database db one) ≡ length (slots_of_database db other)
    → image_at db slot one ≡ image_at db slot other → image_at db slot (backed_all units one) ≡ image_at db slot (backed_all units other)
images_same one other [] db slot least lengths e = e
images_same one other (u ∷ units) db slot least lengths e =
    let first : length (slots_of_database db (backed_all units one)) ≡ length (slots_of_database db one) = lengths_all one units db least in
    let second : length (slots_of_database db (backed_all units other)) ≡ length (slots_of_database db other) = lengths_all other units db least in
    ⊎_elim
    (λ (lt : slot < length (slots_of_database db one)).
    back_at u (backed_all units one) db slot least (omega (arith, lt, first))
    ∙ (ap (back u db slot) (images_same one other units db slot least lengths e)
    ∙ sym (back_at u (backed_all units other) db slot least (omega (arith, lt, second, lengths)))))
    (λ (le : length (slots_of_database db one) ≤ slot).
    past (slots_of_database db (backed_out u (backed_all units one))) slot (omega (arith, le, first, backed_lengths (backed_all units one) u db least))
    ∙ sym (past (slots_of_database db (backed_out u (backed_all units other))) slot (omega (arith, le, second, lengths, backed_lengths (backed_all units other) u db least))))
    (cases_lt slot (length (slots_of_database db one)))

-- another unit is idle in a slot that this one has touched
module _ (table : EnqueueTable) (stores : List Stored) (compatible : IsTableKept table) (i k : ℕ) (a b : List Change)
    (unit_a : IsOpenUnit table stores i a) (unit_b : IsOpenUnit table stores k b) (other : i ≢ k) where
  pub idle_beside : (c : Change) → IsRecordTouched table stores i a c → IsIdle b c.db c.slot (image_at c.db c.slot stores)
  idle_beside c t =
      ⊎_elim mine (λ theirs. theirs) ((units_beside table stores compatible i k a b unit_a unit_b other).apart c.db c.slot t.there.least t.there.within)
    where
      unused : image_at c.db c.slot stores ≡ [] → HoldsAlone table i (record { db = c.db; root = None }) → (w : Bool) → was_there b c.db c.slot ≡ w → was_there b c.db c.slot ≡ false
      unused none seq false q = q
      unused none seq true q = absurd (other (compatible.alone _ i k _ seq (free_where table stores k b c.db c.slot unit_b.sits q none)))

      mine : IsIdle a c.db c.slot (image_at c.db c.slot stores) → IsIdle b c.db c.slot (image_at c.db c.slot stores)
      mine m =
          ⊎_elim
          (λ w. absurd (false≢true (sym m.unused ∙ w)))
          (λ p.
          let none : image_at c.db c.slot stores ≡ [] =
          sym (idle_back a c.db c.slot (image_at c.db c.slot stores) m) ∙ (sym (back_at a stores c.db c.slot t.there.least t.there.within) ∙ (t.first ∙ p.0)) in
          record { untouched = ap (is_touched b c.db) none ∙ none_touched b c.db; unused = unused none p.1 (was_there b c.db c.slot) refl }) t.sits

  -- so both haven't touched one
  pub touched_apart : (c d : Change) → IsRecordTouched table stores i a c → IsRecordTouched table stores k b d → c.db ≡ d.db → c.slot ≡ d.slot → ⊥
  touched_apart c d t u same_db same_slot =
      let idle_b : IsIdle b d.db d.slot (image_at d.db d.slot stores) =
      subst (λ n. IsIdle b n d.slot (image_at n d.slot stores)) same_db (subst (λ n. IsIdle b c.db n (image_at c.db n stores)) same_slot (idle_beside c t)) in
      ⊎_elim
      (λ w. absurd (false≢true (sym idle_b.unused ∙ w)))
      (λ theirs.
      ⊎_elim
      (λ w.
      let used : was_there a d.db d.slot ≡ true = sym (λ j. was_there a (same_db j) (same_slot j)) ∙ w in
      clash d u used theirs)
      (λ ours. absurd (other (compatible.alone _ i k _ (subst (λ n. HoldsAlone table i (record { db = n; root = None })) same_db ours.1) theirs.1))) t.sits) u.sits
    where
      clash : (d : Change) → IsRecordTouched table stores k b d → was_there a d.db d.slot ≡ true → (d.before ≡ []) × HoldsAlone table k (record { db = d.db; root = None }) → ⊥
      clash d u used theirs =
          ⊎_elim
          (λ (idle : IsIdle a d.db d.slot (image_at d.db d.slot stores)). false≢true (sym idle.unused ∙ used))
          (λ (idle : IsIdle b d.db d.slot (image_at d.db d.slot stores)).
          let none : image_at d.db d.slot stores ≡ [] =
          sym (idle_back b d.db d.slot (image_at d.db d.slot stores) idle) ∙ (sym (back_at b stores d.db d.slot u.there.least u.there.within) ∙ (u.first ∙ theirs.0)) in
          other (compatible.alone _ i k _ (free_where table stores i a d.db d.slot unit_a.sits used none) theirs.1))
          ((units_beside table stores compatible i k a b unit_a unit_b other).apart d.db d.slot u.there.least u.there.within)

-- a slot that is among these is one of them
pub record IsAmong (P : Change → Type 0) (db slot : ℕ) : Type 0 where
  pub change : Change
  pub is : P change
  pub same_db : change.db ≡ db
  pub same_slot : change.slot ≡ slot

pub seen_among : (P : Change → Type 0) (db slot : ℕ) (slots : List Change) → AllByRecursion P slots → is_seen db slot slots ≡ true → IsAmong P db slot
seen_among P db slot [] h e = absurd (false≢true e)
seen_among P db slot (s ∷ slots) h e = by (is_slot_before db slot s) refl (seen_among P db slot slots h.1)
  where
    by : (b : Bool) → is_slot_before db slot s ≡ b → (is_seen db slot slots ≡ true → IsAmong P db slot) → IsAmong P db slot
    by true q rec = rec (sym (ap (λ b. cond b (is_seen db slot slots) (is_slot db slot s)) q) ∙ e)
    by false q rec =
        let here = same_is s.db s.slot db slot (sym (ap (λ b. cond b (is_seen db slot slots) (is_slot db slot s)) q) ∙ e) in
        record { change = s; is = h.0; same_db = here.0; same_slot = here.1 }

-- the units of the regions
module _ (units slots : List (List Change)) (stores : List Stored) (table : EnqueueTable) (h : AreUnits units stores table) (touched : AllTouch units slots stores table) where
  module _ (place : ℕ) (lt : place < length units) where
    others_idle : (c : Change) → IsRecordTouched table stores (suc place) (get_or units place []) c → AllByRecursion (λ u. IsIdle u c.db c.slot (image_at c.db c.slot stores)) (set units place [])
    others_idle c t =
        all_by (λ u. IsIdle u c.db c.slot (image_at c.db c.slot stores)) (set units place [])
        (λ k inside.
        ⊎_elim
        (λ same. subst (λ u. IsIdle u c.db c.slot (image_at c.db c.slot stores)) (sym (ap (λ n. get_or (set units place []) n []) same ∙ get_set units place [] lt)) (record { untouched = refl; unused = refl }))
        (λ other.
        let known : k < length units = omega (arith, inside, length-set units place []) in
        subst (λ u. IsIdle u c.db c.slot (image_at c.db c.slot stores)) (sym (get_set_else units place k [] other))
        (idle_beside table stores h.compatible (suc place) (suc k) (get_or units place []) (get_or units k []) (h.each place lt) (h.each k known)
        (λ e. other (omega (arith, e))) c t)) (cases_eq k place))

    -- what the unit has touched stands as it is once the others are backed out
    pub stands_here : (c : Change) → IsRecordTouched table stores (suc place) (get_or units place []) c → image_at c.db c.slot (backed_all (set units place []) stores) ≡ image_at c.db c.slot stores
    stands_here c t = images_idle stores (set units place []) c.db c.slot t.there.least t.there.within (others_idle c t)

    -- all else as it is committed
    pub stands_else : (db slot : ℕ) → 1 ≤ db → is_seen db slot (get_or slots place []) ≡ false → image_at db slot (backed_all (set units place []) stores) ≡ image_at db slot (backed_all units stores)
    stands_else db slot least e =
        images_same stores (backed_out (get_or units place []) stores) (set units place []) db slot least (sym (backed_lengths stores (get_or units place []) db least))
        (sym ((touched place lt).others db slot least e))
        ∙ ap (image_at db slot) (back_committed units stores table h place lt)

    -- the first image is the committed one
    pub first_here : (c : Change) → IsRecordTouched table stores (suc place) (get_or units place []) c → c.before ≡ image_at c.db c.slot (backed_all units stores)
    first_here c t =
        let within : c.slot < length (slots_of_database c.db (backed_all (set units place []) stores)) = omega (arith, lengths_all stores (set units place []) c.db t.there.least, t.there.within) in
        sym (ap (image_at c.db c.slot) (push stores units place lt (all_rooted units stores table h) (all_beside units stores table h))
        ∙ (back_at (get_or units place []) (backed_all (set units place []) stores) c.db c.slot t.there.least within
        ∙ (ap (back (get_or units place []) c.db c.slot) (stands_here c t)
        ∙ (sym (back_at (get_or units place []) stores c.db c.slot t.there.least t.there.within) ∙ t.first))))

  -- two units haven't touched one slot
  pub units_apart : (i k : ℕ) → i < length units → k < length units → (db slot : ℕ) → is_seen db slot (get_or slots i []) ≡ true → is_seen db slot (get_or slots k []) ≡ true → i ≡ k
  units_apart i k first second db slot e f =
      ⊎_elim (λ same. same)
      (λ other.
      let a : IsAmong (IsRecordTouched table stores (suc i) (get_or units i [])) db slot = seen_among (IsRecordTouched table stores (suc i) (get_or units i [])) db slot (get_or slots i []) (touched i first).each e in
      let b : IsAmong (IsRecordTouched table stores (suc k) (get_or units k [])) db slot = seen_among (IsRecordTouched table stores (suc k) (get_or units k [])) db slot (get_or slots k []) (touched k second).each f in
      absurd (touched_apart table stores h.compatible (suc i) (suc k) (get_or units i []) (get_or units k []) (h.each i first) (h.each k second) (λ q. other (omega (arith, q)))
      a.change b.change a.is b.is (a.same_db ∙ sym b.same_db) (a.same_slot ∙ sym b.same_slot))) (cases_eq i k)

  -- a slot that none has touched is committed as it stands
  pub stands_untouched : (db slot : ℕ) → 1 ≤ db → ((k : ℕ) → k < length units → is_seen db slot (get_or slots k []) ≡ false) → image_at db slot (backed_all units stores) ≡ image_at db slot stores
  stands_untouched db slot least none =
      ⊎_elim
      (λ (lt : slot < length (slots_of_database db stores)).
      images_idle stores units db slot least lt
      (all_by (λ u. IsIdle u db slot (image_at db slot stores)) units
      (λ k inside.
      let idle : backs (get_or units k []) db slot (image_at db slot stores) ≡ false = (touched k inside).idle db slot least (none k inside) in
      record {
        untouched = or_left (is_touched (get_or units k []) db (image_at db slot stores)) (was_there (get_or units k []) db slot) idle;
        unused = or_right (is_touched (get_or units k []) db (image_at db slot stores)) (was_there (get_or units k []) db slot) idle;
      })))
      (λ (le : length (slots_of_database db stores) ≤ slot).
      past (slots_of_database db (backed_all units stores)) slot (omega (arith, le, lengths_all stores units db least)) ∙ sym (past (slots_of_database db stores) slot le)) (cases_lt slot (length (slots_of_database db stores)))
