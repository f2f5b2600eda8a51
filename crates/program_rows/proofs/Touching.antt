-- The slots that units have touched, once one of them has set a record, was backed out or stays, and once regions hold more or release all.
use Rattle.std.proofs.Common.{◌≡◌, ◌≢◌, ℕ, ◌+◌, ◌-◌, ◌<◌, ◌≤◌, ◌++◌, ◌∷◌, [], List, length, suc, zero, refl, sym, ◌∙◌, ap, subst, Bool, true, false, cond, None, arith, get_or, set, not, eqb, ◌&&◌, ◌||◌, ◌⊎◌, inl, inr, ⊎_elim}
use Rattle.std.proofs.lemmas.Bool.{false≢true, cases_eq, cases_lt, eq-eqb, ne_eqb}
use Rattle.std.proofs.lemmas.Option.{slice_get-get_or}
use Rattle.std.proofs.lemmas.List.{length-set}
use Rattle.model_data.specs.declared.row.Row.{Row}
use Rattle.model_data.proofs.Lists.{all_then}
use Rattle.tm_types.specs.declared.resource.Resource.{Resource}
use Rattle.model_data.specs.Table.{EnqueueTable}
use Rattle.model_data.specs.EnqueueRequests.{released}
use Rattle.seg_store.specs.Slots.{Stored, has_root, is_slot_free}
use Rattle.unit_work.specs.declared.change.Change.{Change}
use Rattle.unit_work.specs.Changes.{AreSlotsInOrder, is_record_changed, is_seen, with_change, with_slot, is_full}
use Rattle.unit_work.specs.BackOut.{is_touched, was_in, backed_slot, cleared_slot, backed_out, backs}
use Rattle.unit_work.specs.Images.{slots_of_database, image_at}
use Rattle.program_rows.specs.OpenUnits.{HoldsAlone, AreUnits, was_there, IsRecordTouched, AreTouchedByUnit, AllTouch}
use Rattle.program_rows.proofs.Slotwise.{back, backed_is, image_at_each}
use Rattle.program_rows.proofs.Beside.{IsIdle, idle_back, none_touched}
use Rattle.program_rows.proofs.Aside.{ChangesAside, aside_back, slots_there}
use Rattle.program_rows.proofs.Apart.{free_where}
use Rattle.program_rows.proofs.Backed.{backed_lengths}
use Rattle.program_rows.proofs.Together.{backed_none, get_set, get_set_else}
use Rattle.program_rows.proofs.OneSlot.{OneSlot, one_aside}
use Rattle.program_rows.proofs.Stepping.{any_push, own_gone}
use Rattle.program_rows.proofs.SetUnits.{Follows, IsSetIn, some_or_none, has, one, stepped, idle_was, idle_image}
use Rattle.program_rows.proofs.BackUnits.{beside_mine, some_free}
use Rattle.program_rows.proofs.Holders.{held_released}
use Rattle.unit_work.proofs.Ordered.{all_with, seen_with}
use Rattle.program_rows.proofs.Bools.{no_right, or_left, or_right, or_true}

pub past : (xs : List (List Row)) (m : ℕ) → length xs ≤ m → get_or xs m [] ≡ []
past [] m le = refl
past (x ∷ xs) zero le = absurd (omega arith)
past (x ∷ xs) (suc m) le = past xs m (omega arith)

-- the image that backing a unit out leaves in a slot
pub back_at : (records : List Change) (stores : List Stored) (db slot : ℕ) → 1 ≤ db → slot < length (slots_of_database db stores)
    → image_at db slot (backed_out records stores) ≡ back records db slot (image_at db slot stores)
back_at records stores db slot least lt = ap (image_at db slot) (backed_is records stores) ∙ image_at_each (back records) db slot stores least lt

-- a free slot where none of the records was stays free
pub back_free : (records : List Change) (db slot : ℕ) → was_there records db slot ≡ false → back records db slot [] ≡ []
back_free records db slot unused = idle_back records db slot [] (record { untouched = none_touched records db; unused = unused })

-- a unit that has changed nothing has touched nothing
pub none_touched_yet : (table : EnqueueTable) (stores : List Stored) (region : ℕ) → AreTouchedByUnit table stores region [] []
none_touched_yet table stores region = record { each = tt; order = record { ascend = tt; few = omega arith }; idle = λ db slot least e. refl; others = λ db slot least e. ap (image_at db slot) (backed_none stores) }

-- changes aside of a unit leave what it has touched, where free slots of a database stay free whose sequence it has alone
module _ (table then_table : EnqueueTable) (region : ℕ) (records slots : List Change) (old new : List Stored) (aside : ChangesAside records old new)
    (alone : (r : Resource) → HoldsAlone table region r → HoldsAlone then_table region r)
    (free : (db slot : ℕ) → 1 ≤ db → slot < length (slots_of_database db old) → image_at db slot old ≡ [] → HoldsAlone table region (record { db = db; root = None }) → image_at db slot new ≡ []) where
  within_new : (db slot : ℕ) → 1 ≤ db → slot < length (slots_of_database db old) → slot < length (slots_of_database db new)
  within_new db slot least lt = subst (λ n. slot < n) (sym (aside.lengths db least)) lt

  one_stays : (s : Change) → IsRecordTouched table old region records s → IsRecordTouched then_table new region records s
  one_stays s t =
      record {
        there = record { least = t.there.least; within = within_new s.db s.slot t.there.least t.there.within };
        first = ⊎_elim same idle (aside.images s.db s.slot t.there.least t.there.within);
        sits = ⊎_elim (λ w. inl w) (λ p. inr (p.0, alone (record { db = s.db; root = None }) p.1)) t.sits;
      }
    where
      now : image_at s.db s.slot (backed_out records new) ≡ back records s.db s.slot (image_at s.db s.slot new)
      now = back_at records new s.db s.slot t.there.least (within_new s.db s.slot t.there.least t.there.within)

      was_back : image_at s.db s.slot (backed_out records old) ≡ back records s.db s.slot (image_at s.db s.slot old)
      was_back = back_at records old s.db s.slot t.there.least t.there.within

      same : image_at s.db s.slot new ≡ image_at s.db s.slot old → image_at s.db s.slot (backed_out records new) ≡ s.before
      same e = now ∙ (ap (back records s.db s.slot) e ∙ (sym was_back ∙ t.first))

      idle : IsIdle records s.db s.slot (image_at s.db s.slot old) × IsIdle records s.db s.slot (image_at s.db s.slot new) → image_at s.db s.slot (backed_out records new) ≡ s.before
      idle i =
          ⊎_elim (λ w. absurd (false≢true (sym i.0.unused ∙ w)))
          (λ p.
          let was : image_at s.db s.slot old ≡ [] = sym (idle_back records s.db s.slot (image_at s.db s.slot old) i.0) ∙ (sym was_back ∙ (t.first ∙ p.0)) in
          now ∙ (idle_back records s.db s.slot (image_at s.db s.slot new) i.1 ∙ (free s.db s.slot t.there.least t.there.within was p.1 ∙ sym p.0))) t.sits

  pub stays_touched : AreTouchedByUnit table old region records slots → AreTouchedByUnit then_table new region records slots
  stays_touched h =
      record {
        each = all_then (IsRecordTouched table old region records) (IsRecordTouched then_table new region records) slots one_stays h.each;
        order = h.order;
        idle = idle;
        others = others;
      }
    where
      idle : (db slot : ℕ) → 1 ≤ db → is_seen db slot slots ≡ false → backs records db slot (image_at db slot new) ≡ false
      idle db slot least e =
          ⊎_elim
          (λ lt.
          ⊎_elim (λ same. ap (backs records db slot) same ∙ h.idle db slot least e) (λ i. (λ t. i.1.untouched t || i.1.unused t)) (aside.images db slot least lt))
          (λ le.
          ap (backs records db slot) (past (slots_of_database db new) slot (omega (arith, le, aside.lengths db least)))
          ∙ (λ t. none_touched records db t || or_right (is_touched records db (image_at db slot old)) (was_there records db slot) (h.idle db slot least e) t))
          (cases_lt slot (length (slots_of_database db old)))

      others : (db slot : ℕ) → 1 ≤ db → is_seen db slot slots ≡ false → image_at db slot (backed_out records new) ≡ image_at db slot new
      others db slot least e =
          ⊎_elim
          (λ lt.
          let now = back_at records new db slot least (within_new db slot least lt) in
          ⊎_elim
          (λ same. now ∙ (ap (back records db slot) same ∙ (sym (back_at records old db slot least lt) ∙ (h.others db slot least e ∙ sym same))))
          (λ i. now ∙ idle_back records db slot (image_at db slot new) i.1) (aside.images db slot least lt))
          (λ le.
          past (slots_of_database db (backed_out records new)) slot (omega (arith, le, aside.lengths db least, backed_lengths new records db least))
          ∙ sym (past (slots_of_database db new) slot (omega (arith, le, aside.lengths db least)))) (cases_lt slot (length (slots_of_database db old)))

-- with no change of the stores
pub follows_touched : (table then_table : EnqueueTable) (region : ℕ) (records slots : List Change) (stores : List Stored)
    → ((r : Resource) → HoldsAlone table region r → HoldsAlone then_table region r) → AreTouchedByUnit table stores region records slots → AreTouchedByUnit then_table stores region records slots
follows_touched table then_table region records slots stores alone h =
    record {
      each = all_then (IsRecordTouched table stores region records) (IsRecordTouched then_table stores region records) slots
          (λ s t. record { there = t.there; first = t.first; sits = ⊎_elim (λ w. inl w) (λ p. inr (p.0, alone (record { db = s.db; root = None }) p.1)) t.sits }) h.each;
      order = h.order;
      idle = h.idle;
      others = h.others;
    }

-- a record that was in a slot still is among one more
was_more : (c : Change) (records : List Change) (db slot : ℕ) → was_there records db slot ≡ true → was_there (with_change c records) db slot ≡ true
was_more c records db slot w = by (is_record_changed c.db c.root records)
  where
    by : (b : Bool) → was_there (cond b records (records ++ c ∷ [])) db slot ≡ true
    by true = w
    by false = any_push (was_in db slot) records c ∙ ap (λ b. b || was_in db slot c) w

-- a unit sets a record
module _ (units slots : List (List Change)) (stores : List Stored) (table after : EnqueueTable) (h : AreUnits units stores table) (f : Follows table after) (place : ℕ) (lt : place < length units)
    (c : Change) (s new : Stored) (image : List Row) (i : IsSetIn after (suc place) c stores s new image) (room : is_full c.db c.root (get_or units place []) ≡ false)
    (touched : AllTouch units slots stores table) where
  mine : List Change
  mine = get_or units place []

  own_slots : List Change
  own_slots = get_or slots place []

  is_one : OneSlot c.db c.slot c.before image stores (set stores (c.db - 1) new)
  is_one = one units stores table after h f place lt c s new image i room

  -- what is backed out is as it was
  same_back : backed_out (with_change c (get_or units place [])) (set stores (c.db - 1) new) ≡ backed_out (get_or units place []) stores
  same_back = (stepped units stores table after h f place lt c s new image i room).committed

  within : (db slot : ℕ) → 1 ≤ db → slot < length (slots_of_database db stores) → slot < length (slots_of_database db (set stores (c.db - 1) new))
  within db slot least q = subst (λ n. slot < n) (sym (is_one.lengths db least)) q

  -- where the record is changed already, that of another change was in its slot
  was_used : is_seen c.db c.slot (get_or slots place []) ≡ false → c.before ≢ [] → is_record_changed c.db c.root (get_or units place []) ≡ true
      → (b : Bool) → was_there (get_or units place []) c.db c.slot ≡ b → was_there (get_or units place []) c.db c.slot ≡ true
  was_used e some changed true q = q
  was_used e some changed false q =
      let gone : cleared_slot (get_or units place []) c.db c.before ≡ [] =
      own_gone (get_or units place []) c.db c.root c.before changed (has units stores table after h f place lt c s new image i room).own in
      let cleared_none : cleared_slot (get_or units place []) c.db [] ≡ [] = ap (λ b. cond b [] []) (none_touched (get_or units place []) c.db) in
      let none : c.before ≡ [] =
      sym is_one.before
      ∙ (sym ((touched place lt).others c.db c.slot i.least e)
      ∙ (back_at (get_or units place []) stores c.db c.slot i.least is_one.within
      ∙ (ap (back (get_or units place []) c.db c.slot) is_one.before
      ∙ (ap (backed_slot (get_or units place []) c.db c.slot) (gone ∙ sym cleared_none) ∙ back_free (get_or units place []) c.db c.slot q)))) in
      absurd (some none)

  fresh_used : is_seen c.db c.slot (get_or slots place []) ≡ false → c.before ≢ [] → was_there (with_change c (get_or units place [])) c.db c.slot ≡ true
  fresh_used e some = by (is_record_changed c.db c.root (get_or units place [])) refl
    where
      own : was_in c.db c.slot c ≡ true
      own = λ t. eq-eqb c.db c.db refl t && (eq-eqb c.slot c.slot refl t && not (some_free c.before some t))

      by : (b : Bool) → is_record_changed c.db c.root (get_or units place []) ≡ b → was_there (cond b (get_or units place []) (get_or units place [] ++ c ∷ [])) c.db c.slot ≡ true
      by true q = was_used e some q (was_there (get_or units place []) c.db c.slot) refl
      by false q =
          any_push (was_in c.db c.slot) (get_or units place []) c ∙ (ap (λ b. was_there (get_or units place []) c.db c.slot || b) own ∙ or_true (was_there (get_or units place []) c.db c.slot))

  -- what stands in another slot is of another record
  else_root : (db slot : ℕ) → 1 ≤ db → (c.db ≡ db → c.slot ≡ slot → ⊥) → (eqb c.db db && has_root c.root (image_at db slot stores)) ≡ false
  else_root db slot least apart =
      ⊎_elim
      (λ (d : db ≡ c.db).
      let other : slot ≢ c.slot = λ q. apart (sym d) (sym q) in
      let store : slots_of_database c.db stores ≡ s.slots = slots_there c.db stores s i.at in
      let at_slot : image_at db slot stores ≡ get_or s.slots slot [] = ap (λ n. image_at n slot stores) d ∙ ap (λ xs. get_or xs slot []) store in
      let none : has_root c.root (image_at db slot stores) ≡ false =
      ap (has_root c.root) at_slot
      ∙ ⊎_elim
      (λ (inside : slot < length s.slots). (has units stores table after h f place lt c s new image i room).others slot (get_or s.slots slot []) other (slice_get-get_or s.slots slot [] inside))
      (λ (le : length s.slots ≤ slot). ap (has_root c.root) (past s.slots slot le)) (cases_lt slot (length s.slots)) in
      ap (λ b. eqb c.db db && b) none ∙ no_right (eqb c.db db))
      (λ other. ap (λ b. b && has_root c.root (image_at db slot stores)) (ne_eqb c.db db (λ q. other (sym q)))) (cases_eq db c.db)

  else_was : (db slot : ℕ) → (c.db ≡ db → c.slot ≡ slot → ⊥) → was_in db slot c ≡ false
  else_was db slot apart =
      ⊎_elim
      (λ (d : c.db ≡ db). ap (λ b. eqb c.db db && (b && not (is_slot_free c.before))) (ne_eqb c.slot slot (apart d)) ∙ no_right (eqb c.db db))
      (λ other. ap (λ b. b && (eqb c.slot slot && not (is_slot_free c.before))) (ne_eqb c.db db other)) (cases_eq c.db db)

  still_idle : (db slot : ℕ) → 1 ≤ db → is_seen db slot (get_or slots place []) ≡ false → (c.db ≡ db → c.slot ≡ slot → ⊥)
      → (b : Bool) → backs (cond b (get_or units place []) (get_or units place [] ++ c ∷ [])) db slot (image_at db slot stores) ≡ false
  still_idle db slot least e apart true = (touched place lt).idle db slot least e
  still_idle db slot least e apart false =
      let idle = (touched place lt).idle db slot least e in
      let untouched : is_touched (get_or units place []) db (image_at db slot stores) ≡ false = or_left (is_touched (get_or units place []) db (image_at db slot stores)) (was_there (get_or units place []) db slot) idle in
      let unused : was_there (get_or units place []) db slot ≡ false = or_right (is_touched (get_or units place []) db (image_at db slot stores)) (was_there (get_or units place []) db slot) idle in
      let touched_more : is_touched (get_or units place [] ++ c ∷ []) db (image_at db slot stores) ≡ false =
      any_push (λ x. eqb x.db db && has_root x.root (image_at db slot stores)) (get_or units place []) c ∙ (λ t. untouched t || else_root db slot least apart t) in
      let was_more_than : was_there (get_or units place [] ++ c ∷ []) db slot ≡ false =
      any_push (was_in db slot) (get_or units place []) c ∙ (λ t. unused t || else_was db slot apart t) in
      λ t. touched_more t || was_more_than t

  touched_own : AreSlotsInOrder (with_slot c (get_or slots place [])) → AreTouchedByUnit after (set stores (c.db - 1) new) (suc place) (with_change c (get_or units place [])) (with_slot c (get_or slots place []))
  touched_own order =
      record {
        each = all_with (IsRecordTouched after (set stores (c.db - 1) new) (suc place) (with_change c (get_or units place [])))
            (λ x root t. record { there = t.there; first = t.first; sits = t.sits }) c (get_or slots place [])
            (all_then (IsRecordTouched table stores (suc place) (get_or units place [])) (IsRecordTouched after (set stores (c.db - 1) new) (suc place) (with_change c (get_or units place [])))
            (get_or slots place [])
            (λ x t. record {
              there = record { least = t.there.least; within = within x.db x.slot t.there.least t.there.within };
              first = ap (image_at x.db x.slot) same_back ∙ t.first;
              sits = ⊎_elim (λ w. inl (was_more c (get_or units place []) x.db x.slot w)) (λ p. inr (p.0, f.alone (suc place) (record { db = x.db; root = None }) p.1)) t.sits;
            }) (touched place lt).each)
            (λ e. record {
              there = record { least = i.least; within = within c.db c.slot i.least is_one.within };
              first = ap (image_at c.db c.slot) same_back ∙ ((touched place lt).others c.db c.slot i.least e ∙ is_one.before);
              sits = ⊎_elim (λ none. inr (none, i.comes (inl none))) (λ some. inl (fresh_used e some)) (some_or_none c.before);
            });
        order = order;
        idle = λ db slot least e.
            let found = seen_with db slot c (get_or slots place []) e in
            ap (backs (with_change c (get_or units place [])) db slot) (is_one.else db slot least (λ d p. found.1 (sym d) (sym p)))
            ∙ still_idle db slot least found.0 found.1 (is_record_changed c.db c.root (get_or units place []));
        others = λ db slot least e.
            let found = seen_with db slot c (get_or slots place []) e in
            ap (image_at db slot) same_back
            ∙ ((touched place lt).others db slot least found.0 ∙ sym (is_one.else db slot least (λ d p. found.1 (sym d) (sym p))));
      }

  touched_else : (k : ℕ) → k < length units → k ≢ place → AreTouchedByUnit after (set stores (c.db - 1) new) (suc k) (get_or units k []) (get_or slots k [])
  touched_else k inside other =
      stays_touched table after (suc k) (get_or units k []) (get_or slots k []) stores (set stores (c.db - 1) new)
      (one_aside c.db c.slot c.before image stores (set stores (c.db - 1) new) is_one (get_or units k [])
      (idle_was units stores table after h f place lt c s new image i room k inside other) (idle_image units stores table after h f place lt c s new image i room k inside other))
      (f.alone (suc k)) free (touched k inside)
    where
      free : (db slot : ℕ) → 1 ≤ db → slot < length (slots_of_database db stores) → image_at db slot stores ≡ [] → HoldsAlone table (suc k) (record { db = db; root = None })
          → image_at db slot (set stores (c.db - 1) new) ≡ []
      free db slot least inside none seq =
          ⊎_elim
          (λ d. ⊎_elim
          (λ p.
          let before : c.before ≡ [] = sym is_one.before ∙ ((λ t. image_at (sym d t) (sym p t) stores) ∙ none) in
          let theirs : HoldsAlone after (suc k) (record { db = c.db; root = None }) =
          subst (λ n. HoldsAlone after (suc k) (record { db = n; root = None })) d (f.alone (suc k) (record { db = db; root = None }) seq) in
          let clash : suc k ≡ suc place = f.kept.alone _ (suc k) (suc place) _ theirs (i.comes (inl before)) in
          absurd (other (omega (arith, clash))))
          (λ apart. is_one.else db slot least (λ d' p. apart p) ∙ none) (cases_eq slot c.slot))
          (λ apart. is_one.else db slot least (λ d p. apart d) ∙ none) (cases_eq db c.db)

  -- the units have touched so much again
  pub set_touched : AreSlotsInOrder (with_slot c (get_or slots place [])) → length slots ≡ length units
      → AllTouch (set units place (with_change c (get_or units place []))) (set slots place (with_slot c (get_or slots place []))) (set stores (c.db - 1) new) after
  set_touched order count k inside =
      let known : k < length units = omega (arith, inside, length-set units place (with_change c (get_or units place []))) in
      ⊎_elim
      (λ same.
      subst (λ n. AreTouchedByUnit after (set stores (c.db - 1) new) (suc n) (get_or (set units place (with_change c (get_or units place []))) n []) (get_or (set slots place (with_slot c (get_or slots place []))) n [])) (sym same)
      (subst (λ a. AreTouchedByUnit after (set stores (c.db - 1) new) (suc place) a (get_or (set slots place (with_slot c (get_or slots place []))) place [])) (sym (get_set units place (with_change c (get_or units place [])) lt))
      (subst (λ b. AreTouchedByUnit after (set stores (c.db - 1) new) (suc place) (with_change c (get_or units place [])) b) (sym (get_set slots place (with_slot c (get_or slots place [])) (omega (arith, lt, count))))
      (touched_own order))))
      (λ other.
      subst (λ a. AreTouchedByUnit after (set stores (c.db - 1) new) (suc k) a (get_or (set slots place (with_slot c (get_or slots place []))) k [])) (sym (get_set_else units place k (with_change c (get_or units place [])) other))
      (subst (λ b. AreTouchedByUnit after (set stores (c.db - 1) new) (suc k) (get_or units k []) b) (sym (get_set_else slots place k (with_slot c (get_or slots place [])) other))
      (touched_else k known other))) (cases_eq k place)

-- the changes of a unit are taken back, or stay
module _ (units slots : List (List Change)) (stores : List Stored) (table : EnqueueTable) (h : AreUnits units stores table) (place : ℕ) (lt : place < length units) (count : length slots ≡ length units)
    (touched : AllTouch units slots stores table) where
  -- the others touch so much in stores where the unit has changed nothing
  without : (now : List Stored) → ((k : ℕ) → k < length units → k ≢ place → AreTouchedByUnit table now (suc k) (get_or units k []) (get_or slots k []))
      → AllTouch (set units place []) (set slots place []) now table
  without now others k inside =
      ⊎_elim
      (λ same.
      subst (λ n. AreTouchedByUnit table now (suc n) (get_or (set units place []) n []) (get_or (set slots place []) n [])) (sym same)
      (subst (λ a. AreTouchedByUnit table now (suc place) a (get_or (set slots place []) place [])) (sym (get_set units place [] lt))
      (subst (λ b. AreTouchedByUnit table now (suc place) [] b) (sym (get_set slots place [] (omega (arith, lt, count)))) (none_touched_yet table now (suc place)))))
      (λ other.
      subst (λ a. AreTouchedByUnit table now (suc k) a (get_or (set slots place []) k [])) (sym (get_set_else units place k [] other))
      (subst (λ b. AreTouchedByUnit table now (suc k) (get_or units k []) b) (sym (get_set_else slots place k [] other)) (others k (omega (arith, inside, length-set units place [])) other)))
      (cases_eq k place)

  pub kept_touched : AllTouch (set units place []) (set slots place []) stores table
  kept_touched = without stores (λ k inside other. touched k inside)

  pub back_touched : AllTouch (set units place []) (set slots place []) (backed_out (get_or units place []) stores) table
  back_touched =
      without (backed_out (get_or units place []) stores)
      (λ k inside other.
      stays_touched table table (suc k) (get_or units k []) (get_or slots k []) stores (backed_out (get_or units place []) stores)
      (aside_back stores (get_or units k []) (get_or units place []) (beside_mine units stores table h place lt k inside other)) (λ r a. a) (free k inside other) (touched k inside))
    where
      free : (k : ℕ) → k < length units → k ≢ place → (db slot : ℕ) → 1 ≤ db → slot < length (slots_of_database db stores) → image_at db slot stores ≡ [] → HoldsAlone table (suc k) (record { db = db; root = None })
          → image_at db slot (backed_out (get_or units place []) stores) ≡ []
      free k inside other db slot least within none seq =
          back_at (get_or units place []) stores db slot least within ∙ (ap (back (get_or units place []) db slot) none ∙ by (was_there (get_or units place []) db slot) refl)
        where
          by : (b : Bool) → was_there (get_or units place []) db slot ≡ b → back (get_or units place []) db slot [] ≡ []
          by true q =
              let ours = free_where table stores (suc place) (get_or units place []) db slot (h.each place lt).sits q none in
              let clash : suc k ≡ suc place = h.compatible.alone _ (suc k) (suc place) _ seq ours in
              absurd (other (omega (arith, clash)))
          by false q = back_free (get_or units place []) db slot q

-- a region has released all
pub released_touched : (units slots : List (List Change)) (stores : List Stored) (table : EnqueueTable) (place : ℕ) → get_or units place [] ≡ [] → get_or slots place [] ≡ []
    → AllTouch units slots stores table → AllTouch units slots stores (released (suc place) table)
released_touched units slots stores table place none none_slots touched k inside =
    ⊎_elim
    (λ same.
    subst (λ n. AreTouchedByUnit (released (suc place) table) stores (suc n) (get_or units n []) (get_or slots n [])) (sym same)
    (subst (λ a. AreTouchedByUnit (released (suc place) table) stores (suc place) a (get_or slots place [])) (sym none)
    (subst (λ b. AreTouchedByUnit (released (suc place) table) stores (suc place) [] b) (sym none_slots) (none_touched_yet (released (suc place) table) stores (suc place)))))
    (λ other.
    let apart : suc k ≢ suc place = λ e. other (omega (arith, e)) in
    follows_touched table (released (suc place) table) (suc k) (get_or units k []) (get_or slots k []) stores (λ r a. held_released (suc k) (suc place) r table.holds apart ∙ a) (touched k inside))
    (cases_eq k place)
