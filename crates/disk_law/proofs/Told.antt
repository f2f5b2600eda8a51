-- A snapshot with the records of the slots that open units keep tells of what they touched.
use Rattle.std.proofs.Common.{◌≡◌, ◌⊎◌, inl, inr, ℕ, ◌+◌, ◌<◌, Bool, true, false, List, [], ◌∷◌, ◌++◌, map, refl, sym, ◌∙◌, ap, subst, Some, None}
use Rattle.std.specs.Prelude.{Option, if◌then◌else◌, ◌==◌, filter, find, slice_get}
use Rattle.std.specs.List.{AllByRecursion}
use Rattle.std.specs.Option.{option_map}
use Rattle.std.proofs.lemmas.Bool.{eq-eqb, eqb-true}
use Rattle.std.proofs.lemmas.List.Elements.{filter-append}
use Rattle.tm_types.specs.declared.dbd.Dbd.{Dbd}
use Rattle.model_data.specs.Record as rows
use Rattle.log_records.specs.declared.record.Record.{Record}
use Rattle.log_records.specs.declared.record.Record.TheVariants as record_of
use Rattle.model_image.specs.Slots.{is_change_of}
use Rattle.unit_work.specs.declared.change.Change.{Change}
use Rattle.unit_work.specs.Changes.{is_slot}
use Rattle.disk_law.specs.CommittedBytes.{Bytes, Touch, Touches, changes_of_slot, IsTouchTold, TellsTouches}
use Rattle.image_law.proofs.Bools.{first_of, second_of}
use Rattle.disk_law.specs.Life.{LifeOnDisk, IsLifeOnDisk}
use Rattle.disk_law.proofs.Recovering.{all_at}
use Rattle.disk_law.specs.LifeCheckpoint.{Forgets}
use Rattle.disk_law.specs.KeptUnits.{KeptUnit, touch_of, kept_touches, slot_record, slot_records, AreSlotsOnce, HaveNumbers, KeepTouches}

-- ---- the slots of one unit

-- the slot that is found is this one
found_slot : (d s : ℕ) (slots : List Change) (c : Change) → find (is_slot d s) slots ≡ Some c → (c.db ≡ d) × (c.slot ≡ s)
found_slot d s [] c found = cc
found_slot d s (x ∷ slots) c found = by_first (is_slot d s x) refl found (found_slot d s slots c) where
  by_first : (b : Bool) → is_slot d s x ≡ b → (if b then Some x else find (is_slot d s) slots) ≡ Some c → (find (is_slot d s) slots ≡ Some c → (c.db ≡ d) × (c.slot ≡ s)) → (c.db ≡ d) × (c.slot ≡ s)
  by_first true is e later =
      let same : x ≡ c = cc in
      subst (λ (y : Change). (y.db ≡ d) × (y.slot ≡ s)) same (eqb-true x.db d (first_of (x.db == d) (x.slot == s) is), eqb-true x.slot s (second_of (x.db == d) (x.slot == s) is))
  by_first false is e later = later e

-- what holds of all holds of it
found_holds : (P : Change → Type 0) (test : Change → Bool) (slots : List Change) (c : Change) → AllByRecursion P slots → find test slots ≡ Some c → P c
found_holds P test [] c all found = cc
found_holds P test (x ∷ slots) c all found = by_first (test x) found (found_holds P test slots c all.1) where
  by_first : (b : Bool) → (if b then Some x else find test slots) ≡ Some c → (find test slots ≡ Some c → P c) → P c
  by_first true e later = let same : x ≡ c = cc in subst P same all.0
  by_first false e later = later e

module _ (unit : ℕ) (present : Bytes) (d s : ℕ) where
  abbrev records_at : List Change → List Record
  records_at slots = filter (is_change_of d s) (map (slot_record unit present) slots)

  none_at : (slots : List Change) → find (is_slot d s) slots ≡ None → records_at slots ≡ []
  none_at [] none = refl
  none_at (x ∷ slots) none = by_first (is_slot d s x) none (none_at slots) where
    by_first : (b : Bool) → (if b then Some x else find (is_slot d s) slots) ≡ None → (find (is_slot d s) slots ≡ None → records_at slots ≡ []) → (if b then slot_record unit present x ∷ records_at slots else records_at slots) ≡ []
    by_first true e later = cc
    by_first false e later = later e

  one_at : (slots : List Change) (c : Change) → AreSlotsOnce slots → find (is_slot d s) slots ≡ Some c → records_at slots ≡ slot_record unit present c ∷ []
  one_at [] c once found = cc
  one_at (x ∷ slots) c once found = by_first (is_slot d s x) refl found (one_at slots c once.1) where
    by_first : (b : Bool) → is_slot d s x ≡ b → (if b then Some x else find (is_slot d s) slots) ≡ Some c → (find (is_slot d s) slots ≡ Some c → records_at slots ≡ slot_record unit present c ∷ []) →
        (if b then slot_record unit present x ∷ records_at slots else records_at slots) ≡ slot_record unit present c ∷ []
    by_first true is e later =
        let same : x ≡ c = cc in
        let db : x.db ≡ d = eqb-true x.db d (first_of (x.db == d) (x.slot == s) is) in
        let slot : x.slot ≡ s = eqb-true x.slot s (second_of (x.db == d) (x.slot == s) is) in
        let none : find (is_slot d s) slots ≡ None = sym (ap (λ k. find (is_slot k x.slot) slots) db ∙ ap (λ k. find (is_slot d k) slots) slot) ∙ once.0 in
        ap (λ (rs : List Record). slot_record unit present x ∷ rs) (none_at slots none) ∙ ap (λ (y : Change). slot_record unit present y ∷ []) same
    by_first false is e later = later e

-- ---- the slots of all units

-- what a unit keeps of a slot
abbrev kept_by : Bytes → KeptUnit → ℕ → ℕ → Option Touch
kept_by present u d s = option_map (touch_of present) (find (is_slot d s) u.slots)

-- a unit that keeps something is one of them
numbered : (present : Bytes) (number : ℕ) (units : List KeptUnit) (unit d s : ℕ) (t : Touch) → AllByRecursion (λ v. number == v.number ≡ false) units → kept_touches present units unit d s ≡ Some t → number == unit ≡ false
numbered present number [] unit d s t apart is = cc
numbered present number (u ∷ units) unit d s t apart is = by_first (u.number == unit) refl is (numbered present number units unit d s t apart.1) where
  by_first : (b : Bool) → u.number == unit ≡ b → (if b then kept_by present u d s else kept_touches present units unit d s) ≡ Some t → (kept_touches present units unit d s ≡ Some t → number == unit ≡ false) → number == unit ≡ false
  by_first true same e later = subst (λ k. number == k ≡ false) (eqb-true u.number unit same) apart.0
  by_first false same e later = later e

-- what holds of each slot that is kept is true of what is told: it is what the unit touched
kept_is : (life : LifeOnDisk) (units : List KeptUnit) → AllByRecursion (λ u. AllByRecursion (λ c. life.touches u.number c.db c.slot ≡ Some (touch_of life.present c)) u.slots) units →
    (unit d s : ℕ) (t : Touch) → kept_touches life.present units unit d s ≡ Some t → life.touches unit d s ≡ Some t
kept_is life [] each unit d s t is = cc
kept_is life (u ∷ units) each unit d s t is = by_first (u.number == unit) refl is (kept_is life units each.1 unit d s t) where
  by_found : u.number ≡ unit → (o : Option Change) → find (is_slot d s) u.slots ≡ o → option_map (touch_of life.present) o ≡ Some t → life.touches unit d s ≡ Some t
  by_found same None found e = cc
  by_found same (Some c) found e =
      let place = found_slot d s u.slots c found in
      let is_touch : life.touches u.number c.db c.slot ≡ Some (touch_of life.present c) =
      found_holds (λ c. life.touches u.number c.db c.slot ≡ Some (touch_of life.present c)) (is_slot d s) u.slots c each.0 found in
      sym (ap (λ k. life.touches k c.db c.slot) same ∙ ap (λ k. life.touches unit k c.slot) place.0 ∙ ap (life.touches unit d) place.1) ∙ is_touch ∙ e

  by_first : (b : Bool) → u.number == unit ≡ b → (if b then kept_by life.present u d s else kept_touches life.present units unit d s) ≡ Some t → (kept_touches life.present units unit d s ≡ Some t → life.touches unit d s ≡ Some t) → life.touches unit d s ≡ Some t
  by_first true same e later = by_found (eqb-true u.number unit same) (find (is_slot d s) u.slots) refl e
  by_first false same e later = later e

module _ (life : LifeOnDisk) (l : IsLifeOnDisk life) where
  abbrev Keep : List KeptUnit → Type 0
  Keep units = AllByRecursion (λ u. AllByRecursion (λ c. life.touches u.number c.db c.slot ≡ Some (touch_of life.present c)) u.slots) units

  abbrev all_at_slot : List KeptUnit → ℕ → ℕ → List Record
  all_at_slot units d s = filter (is_change_of d s) (slot_records life.present units)

  first_unit : (u : KeptUnit) (units : List KeptUnit) (d s : ℕ) → all_at_slot (u ∷ units) d s ≡ records_at u.number life.present d s u.slots ++ all_at_slot units d s
  first_unit u units d s = filter-append (is_change_of d s) (map (slot_record u.number life.present) u.slots) (slot_records life.present units)

  -- two units that keep one slot are one
  no_two : (u : KeptUnit) (unit d s : ℕ) (t : Touch) (c : Change) → AllByRecursion (λ c. life.touches u.number c.db c.slot ≡ Some (touch_of life.present c)) u.slots → find (is_slot d s) u.slots ≡ Some c → life.touches unit d s ≡ Some t → u.number == unit ≡ false → ⊥
  no_two u unit d s t c each found is apart =
      let place = found_slot d s u.slots c found in
      let its : life.touches u.number d s ≡ Some (touch_of life.present c) =
      sym (ap (λ k. life.touches u.number k c.slot) place.0 ∙ ap (life.touches u.number d) place.1)
      ∙ found_holds (λ c. life.touches u.number c.db c.slot ≡ Some (touch_of life.present c)) (is_slot d s) u.slots c each found in
      let same : u.number == unit ≡ true = eq-eqb u.number unit (l.slots.apart u.number unit d s (touch_of life.present c) t its is) in
      let clash : true ≡ false = sym same ∙ apart in cc

  -- a slot that another unit touched has no record of these
  none_of_others : (units : List KeptUnit) (unit d s : ℕ) (t : Touch) → Keep units → AllByRecursion (λ v. unit == v.number ≡ false) units → life.touches unit d s ≡ Some t → all_at_slot units d s ≡ []
  none_of_others [] unit d s t keep apart is = refl
  none_of_others (u ∷ units) unit d s t keep apart is =
      first_unit u units d s
      ∙ ap (λ (rs : List Record). rs ++ all_at_slot units d s) (none_at u.number life.present d s u.slots (by_found (find (is_slot d s) u.slots) refl))
      ∙ none_of_others units unit d s t keep.1 apart.1 is where
        other : u.number == unit ≡ false
        other = by_test (u.number == unit) refl where
          by_test : (b : Bool) → u.number == unit ≡ b → b ≡ false
          by_test false e = refl
          by_test true e = let clash : true ≡ false = sym (eq-eqb unit u.number (sym (eqb-true u.number unit e))) ∙ apart.0 in cc

        by_found : (o : Option Change) → find (is_slot d s) u.slots ≡ o → o ≡ None
        by_found None found = refl
        by_found (Some c) found = absurd (no_two u unit d s t c keep.0 found is other)

  -- each slot that is kept has its record, and no other
  told_all : (units : List KeptUnit) → HaveNumbers units → AllByRecursion (λ u. AreSlotsOnce u.slots) units → Keep units → (unit d s : ℕ) (t : Touch) → kept_touches life.present units unit d s ≡ Some t →
      all_at_slot units d s ≡ record_of.Change unit d s t.first t.present ∷ []
  told_all [] numbers once keep unit d s t is = cc
  told_all (u ∷ units) numbers once keep unit d s t is = by_first (u.number == unit) refl is (told_all units numbers.1 once.1 keep.1 unit d s t) where
    touched : life.touches unit d s ≡ Some t
    touched = kept_is life (u ∷ units) keep unit d s t is

    its_record : (c : Change) → u.number ≡ unit → c.db ≡ d → c.slot ≡ s → touch_of life.present c ≡ t → slot_record u.number life.present c ≡ record_of.Change unit d s t.first t.present
    its_record c number db slot same =
        ap (λ k. record_of.Change k c.db c.slot (rows.rows_spelling c.before) (life.present c.db c.slot)) number
        ∙ ap (λ (x : Touch). record_of.Change unit c.db c.slot x.first x.present) same
        ∙ ap (λ k. record_of.Change unit k c.slot t.first t.present) db
        ∙ ap (λ k. record_of.Change unit d k t.first t.present) slot

    by_own : u.number ≡ unit → (o : Option Change) → find (is_slot d s) u.slots ≡ o → option_map (touch_of life.present) o ≡ Some t → all_at_slot (u ∷ units) d s ≡ record_of.Change unit d s t.first t.present ∷ []
    by_own same None found e = cc
    by_own same (Some c) found e =
        let place = found_slot d s u.slots c found in
        let touch : touch_of life.present c ≡ t = cc in
        let others : all_at_slot units d s ≡ [] = none_of_others units unit d s t keep.1 (subst (λ k. AllByRecursion (λ (v : KeptUnit). k == v.number ≡ false) units) same numbers.0) touched in
        first_unit u units d s
        ∙ ap (λ (rs : List Record). rs ++ all_at_slot units d s) (one_at u.number life.present d s u.slots c once.0 found)
        ∙ ap (λ (rs : List Record). slot_record u.number life.present c ∷ rs) others
        ∙ ap (λ (r : Record). r ∷ []) (its_record c same place.0 place.1 touch)

    by_others : u.number == unit ≡ false → (o : Option Change) → find (is_slot d s) u.slots ≡ o → all_at_slot units d s ≡ record_of.Change unit d s t.first t.present ∷ [] → all_at_slot (u ∷ units) d s ≡ record_of.Change unit d s t.first t.present ∷ []
    by_others apart (Some c) found rest = absurd (no_two u unit d s t c keep.0 found touched apart)
    by_others apart None found rest =
        first_unit u units d s
        ∙ ap (λ (rs : List Record). rs ++ all_at_slot units d s) (none_at u.number life.present d s u.slots found)
        ∙ rest

    by_first : (b : Bool) → u.number == unit ≡ b → (if b then kept_by life.present u d s else kept_touches life.present units unit d s) ≡ Some t →
        (kept_touches life.present units unit d s ≡ Some t → all_at_slot units d s ≡ record_of.Change unit d s t.first t.present ∷ []) → all_at_slot (u ∷ units) d s ≡ record_of.Change unit d s t.first t.present ∷ []
    by_first true same e later = by_own (eqb-true u.number unit same) (find (is_slot d s) u.slots) refl e
    by_first false same e later = by_others same (find (is_slot d s) u.slots) refl (later e)

  -- a slot has no record, or some unit keeps it
  pub record IsKeptBy (units : List KeptUnit) (d s : ℕ) : Type 0 where
    pub unit : ℕ
    pub touch : Touch
    pub is : kept_touches life.present units unit d s ≡ Some touch

  some_or_none : (units : List KeptUnit) → HaveNumbers units → (d s : ℕ) → (all_at_slot units d s ≡ []) ⊎ IsKeptBy units d s
  some_or_none [] numbers d s = inl refl
  some_or_none (u ∷ units) numbers d s = by_found (find (is_slot d s) u.slots) refl (some_or_none units numbers.1 d s) where
    in_first : (o : Option Change) (c : Change) → o ≡ Some c → (b : Bool) → b ≡ true → (more : Option Touch) → (if b then option_map (touch_of life.present) o else more) ≡ Some (touch_of life.present c)
    in_first o c is true e more = ap (λ (x : Option Change). option_map (touch_of life.present) x) is
    in_first o c is false e more = cc

    in_later : (b : Bool) → b ≡ false → (o more : Option Touch) (t : Touch) → more ≡ Some t → (if b then o else more) ≡ Some t
    in_later true e o more t is = cc
    in_later false e o more t is = is

    by_found : (o : Option Change) → find (is_slot d s) u.slots ≡ o → (all_at_slot units d s ≡ []) ⊎ IsKeptBy units d s → (all_at_slot (u ∷ units) d s ≡ []) ⊎ IsKeptBy (u ∷ units) d s
    by_found (Some c) found later = inr (record { unit = u.number; touch = touch_of life.present c; is = in_first (find (is_slot d s) u.slots) c found (u.number == u.number) (eq-eqb u.number u.number refl) (kept_touches life.present units u.number d s) })
    by_found None found (inl none) =
        inl (first_unit u units d s ∙ ap (λ (rs : List Record). rs ++ all_at_slot units d s) (none_at u.number life.present d s u.slots found) ∙ none)
    by_found None found (inr k) =
        inr (record { unit = k.unit; touch = k.touch; is = in_later (u.number == k.unit) (numbered life.present u.number units k.unit d s k.touch numbers.0 k.is) (kept_by life.present u d s) (kept_touches life.present units k.unit d s) k.touch k.is })

  module _ (units : List KeptUnit) (k : KeepTouches life units) where
    abbrev kept : Touches
    kept = kept_touches life.present units

    -- Records whose changes are those of the kept slots tell of what the units keep.
    pub tells_touches : (told : List Record) → ((d s : ℕ) → changes_of_slot told d s ≡ changes_of_slot (slot_records life.present units) d s) → TellsTouches told kept
    tells_touches told same = record {
      each = λ d s. by_kept d s (some_or_none units k.numbers d s);
      all = λ unit d s t is. same d s ∙ told_all units k.numbers k.once k.each unit d s t is;
    } where
      by_kept : (d s : ℕ) → (all_at_slot units d s ≡ []) ⊎ IsKeptBy units d s → (changes_of_slot told d s ≡ []) ⊎ ((unit : ℕ) × (t : Touch) × IsTouchTold told kept unit d s t)
      by_kept d s (inl none) = inl (same d s ∙ none)
      by_kept d s (inr by) = inr (by.unit, by.touch, (by.is, same d s ∙ told_all units k.numbers k.once k.each by.unit d s by.touch by.is))

    -- ---- what they keep no more stands as it is committed

    -- whether one of the first units touched a slot
    some_touched : (some : List KeptUnit) (d s : ℕ) → AllByRecursion (λ u. life.touches u.number d s ≡ None) some ⊎ ((unit : ℕ) × (t : Touch) × (life.touches unit d s ≡ Some t))
    some_touched [] d s = inl tt
    some_touched (u ∷ some) d s = by_touch (life.touches u.number d s) refl (some_touched some d s) where
      by_touch : (o : Option Touch) → life.touches u.number d s ≡ o → AllByRecursion (λ u. life.touches u.number d s ≡ None) some ⊎ ((unit : ℕ) × (t : Touch) × (life.touches unit d s ≡ Some t)) →
          AllByRecursion (λ u. life.touches u.number d s ≡ None) (u ∷ some) ⊎ ((unit : ℕ) × (t : Touch) × (life.touches unit d s ≡ Some t))
      by_touch (Some t) is later = inr (u.number, t, is)
      by_touch None none (inl rest) = inl (none, rest)
      by_touch None none (inr touched) = inr touched

    none_touches : (d s : ℕ) → AllByRecursion (λ u. life.touches u.number d s ≡ None) units → (unit : ℕ) → life.touches unit d s ≡ None
    none_touches d s none unit = by_touch (life.touches unit d s) refl where
      by_touch : (o : Option Touch) → life.touches unit d s ≡ o → o ≡ None
      by_touch None is = refl
      by_touch (Some t) is =
          let open_unit = k.only unit d s t is in
          let its : life.touches open_unit.unit.number d s ≡ None = all_at (λ (u : KeptUnit). life.touches u.number d s ≡ None) units open_unit.place open_unit.unit none open_unit.found in
          let clash : Some t ≡ None = sym is ∙ ap (λ n. life.touches n d s) (sym open_unit.is) ∙ its in cc

    untouched_stands : (place number : ℕ) (dbd : Dbd) → slice_get life.system.databases place ≡ Some dbd → number < dbd.roots → ((unit : ℕ) → kept unit (place + 1) number ≡ None) →
        AllByRecursion (λ u. life.touches u.number (place + 1) number ≡ None) units ⊎ ((unit : ℕ) × (t : Touch) × (life.touches unit (place + 1) number ≡ Some t)) → life.committed (place + 1) number ≡ life.present (place + 1) number
    untouched_stands place number dbd found below none (inl all) = l.slots.untouched place number dbd found below (none_touches (place + 1) number all)
    untouched_stands place number dbd found below none (inr touched) =
        sym (l.slots.firsts touched.0 (place + 1) number touched.1 touched.2)
        ∙ k.rest touched.0 (place + 1) number touched.1 touched.2 (none touched.0)
        ∙ l.slots.touched touched.0 (place + 1) number touched.1 touched.2

    -- So a life may go on with what they keep.
    pub forgets : Forgets life kept
    forgets = record {
      kept = kept_is life units k.each;
      slots = record {
        firsts = λ unit d s t is. l.slots.firsts unit d s t (kept_is life units k.each unit d s t is);
        apart = λ unit other d s t u first second. l.slots.apart unit other d s t u (kept_is life units k.each unit d s t first) (kept_is life units k.each other d s u second);
        touched = λ unit d s t is. l.slots.touched unit d s t (kept_is life units k.each unit d s t is);
        untouched = λ place number dbd found below none. untouched_stands place number dbd found below none (some_touched units (place + 1) number);
      };
    }
