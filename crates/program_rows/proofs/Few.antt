-- A unit of few records has touched few slots that had or have one.
use Rattle.std.proofs.Common.{◌≡◌, ◌≢◌, ℕ, ◌+◌, ◌-◌, ◌≤◌, ◌∷◌, [], List, length, zero, suc, refl, sym, ◌∙◌, ap, Bool, true, false, cond, None, arith, get_or, eqb, ◌&&◌, ◌||◌, ⊎_elim, sum_by}
use Rattle.std.specs.List.{AllByRecursion, list_any}
use Rattle.std.proofs.lemmas.Bool.{false≢true, eqb-true}
use Rattle.std.proofs.lemmas.List.Sums.{sum_by-cons}
use Rattle.model_data.specs.declared.row.Row.{Row}
use Rattle.model_data.specs.Table.{EnqueueTable}
use Rattle.seg_store.specs.Slots.{Stored, AtMostOne, has_root, is_slot_free, place_of}
use Rattle.seg_store.proofs.Places.{none_head, none_tail}
use Rattle.unit_work.specs.declared.change.Change.{Change}
use Rattle.unit_work.specs.Changes.{Pairs, ChangesAscend, is_slot_before}
use Rattle.unit_work.specs.BackOut.{is_touched, was_in, CanBackOut}
use Rattle.unit_work.specs.Images.{slots_of_database, image_at}
use Rattle.program_rows.specs.SlotsState.{image_records_in}
use Rattle.program_rows.specs.OpenUnits.{was_there, IsRecordTouched}
use Rattle.program_rows.proofs.Aside.{cleared_where}
use Rattle.program_rows.proofs.Beside.{idle_back}
use Rattle.program_rows.proofs.Bools.{left_of, right_of}
use Rattle.program_rows.proofs.Touching.{back_at}
use Rattle.unit_work.proofs.Ordered.{less_is, never_itself}

-- weights of slots, where those that weigh have a record of their own
module _ (matches : Change → Change → Bool) where
  -- a record matches one slot at most
  abbrev pub MatchOnce : Change → List Change → Type 0
  MatchOnce r slots = Pairs (λ c d. matches r c ≡ true → matches r d ≡ true → ⊥) slots

  abbrev lighter : (Change → ℕ) → Change → Change → ℕ
  lighter w r c = cond (matches r c) 0 (w c)

  none_lighter : (w : Change → ℕ) (r c : Change) (slots : List Change) → matches r c ≡ true → AllByRecursion (λ d. matches r c ≡ true → matches r d ≡ true → ⊥) slots
      → sum_by w slots ≡ sum_by (lighter w r) slots
  none_lighter w r c [] e h = refl
  none_lighter w r c (d ∷ slots) e h =
      let none : matches r d ≡ false = by (matches r d) refl in
      let same : lighter w r d ≡ w d = ap (λ b. cond b 0 (w d)) none in
      omega (arith, same, none_lighter w r c slots e h.1, sum_by-cons w d slots, sum_by-cons (lighter w r) d slots)
    where
      by : (b : Bool) → matches r d ≡ b → matches r d ≡ false
      by false q = q
      by true q = absurd (h.0 e q)

  one_lighter : (w : Change → ℕ) (r : Change) (slots : List Change) → ((c : Change) → w c ≤ 1) → MatchOnce r slots → sum_by w slots ≤ 1 + sum_by (lighter w r) slots
  one_lighter w r [] small h = omega arith
  one_lighter w r (c ∷ slots) small h = by (one_lighter w r slots small h.1) (matches r c) refl
    where
      by : sum_by w slots ≤ 1 + sum_by (lighter w r) slots → (b : Bool) → matches r c ≡ b → sum_by w (c ∷ slots) ≤ 1 + sum_by (lighter w r) (c ∷ slots)
      by rest true q =
          let zero_here : lighter w r c ≡ 0 = ap (λ b. cond b 0 (w c)) q in
          omega (arith, small c, zero_here, none_lighter w r c slots q h.0, sum_by-cons w c slots, sum_by-cons (lighter w r) c slots)
      by rest false q =
          let same : lighter w r c ≡ w c = ap (λ b. cond b 0 (w c)) q in
          omega (arith, same, rest, sum_by-cons w c slots, sum_by-cons (lighter w r) c slots)

  no_weight : (w : Change → ℕ) (cs : List Change) → AllByRecursion (λ c. 1 ≤ w c → false ≡ true) cs → sum_by w cs ≤ 0
  no_weight w [] h = omega arith
  no_weight w (c ∷ cs) h = by (no_weight w cs h.1) (w c) refl
    where
      by : sum_by w cs ≤ 0 → (n : ℕ) → w c ≡ n → sum_by w (c ∷ cs) ≤ 0
      by rest zero e = omega (arith, e, rest, sum_by-cons w c cs)
      by rest (suc n) e = absurd (false≢true (h.0 (omega (arith, e))))

  pub few_matches : (records slots : List Change) (w : Change → ℕ) → ((c : Change) → w c ≤ 1) → AllByRecursion (λ c. 1 ≤ w c → list_any (λ r. matches r c) records ≡ true) slots
      → AllByRecursion (λ r. MatchOnce r slots) records → sum_by w slots ≤ length records
  few_matches [] slots w small have once = no_weight w slots have
  few_matches (r ∷ records) slots w small have once =
      omega (arith, one_lighter w r slots small once.0, few_matches records slots (lighter w r) light (rest slots have) once.1)
    where
      light : (c : Change) → lighter w r c ≤ 1
      light c = by (matches r c)
        where
          by : (b : Bool) → cond b 0 (w c) ≤ 1
          by true = omega arith
          by false = small c

      rest : (cs : List Change) → AllByRecursion (λ c. 1 ≤ w c → list_any (λ x. matches x c) (r ∷ records) ≡ true) cs
          → AllByRecursion (λ c. 1 ≤ lighter w r c → list_any (λ x. matches x c) records ≡ true) cs
      rest [] h = tt
      rest (c ∷ cs) h = (by (matches r c) refl h.0, rest cs h.1)
        where
          by : (b : Bool) → matches r c ≡ b → (1 ≤ w c → (matches r c || list_any (λ x. matches x c) records) ≡ true) → 1 ≤ lighter w r c → list_any (λ x. matches x c) records ≡ true
          by true q g heavy = let zero_here : lighter w r c ≡ 0 = ap (λ b. cond b 0 (w c)) q in absurd (omega (arith, heavy, zero_here))
          by false q g heavy =
              let same : lighter w r c ≡ w c = ap (λ b. cond b 0 (w c)) q in
              sym (ap (λ b. b || list_any (λ x. matches x c) records) q) ∙ g (omega (arith, heavy, same))

small_image : (image : List Row) → image_records_in image ≤ 1
small_image [] = omega arith
small_image (row ∷ image) = omega arith

some_image : (image : List Row) → 1 ≤ image_records_in image → is_slot_free image ≡ false
some_image [] h = absurd (omega (arith, h))
some_image (row ∷ image) h = refl

-- ---- those that had a record

abbrev had : Change → Change → Bool
had r c = was_in c.db c.slot r

had_once : (r : Change) (slots : List Change) → ChangesAscend slots → MatchOnce had r slots
had_once r [] h = tt
had_once r (c ∷ slots) h = (each slots h.0, had_once r slots h.1)
  where
    each : (ds : List Change) → AllByRecursion (λ d. is_slot_before d.db d.slot c ≡ true) ds → AllByRecursion (λ d. had r c ≡ true → had r d ≡ true → ⊥) ds
    each [] g = tt
    each (d ∷ ds) g = (one, each ds g.1)
      where
        one : had r c ≡ true → had r d ≡ true → ⊥
        one e f =
            let db_c : r.db ≡ c.db = eqb-true r.db c.db (left_of (eqb r.db c.db) _ e) in
            let db_d : r.db ≡ d.db = eqb-true r.db d.db (left_of (eqb r.db d.db) _ f) in
            let slot_c : r.slot ≡ c.slot = eqb-true r.slot c.slot (left_of (eqb r.slot c.slot) _ (right_of (eqb r.db c.db) _ e)) in
            let slot_d : r.slot ≡ d.slot = eqb-true r.slot d.slot (left_of (eqb r.slot d.slot) _ (right_of (eqb r.db d.db) _ f)) in
            never_itself c.db c.slot d.db d.slot (less_is c.db c.slot d.db d.slot g.0) (sym db_c ∙ db_d) (sym slot_c ∙ slot_d)

all_once : (matches : Change → Change → Bool) (slots : List Change) → ((r : Change) → MatchOnce matches r slots) → (records : List Change) → AllByRecursion (λ r. MatchOnce matches r slots) records
all_once matches slots f [] = tt
all_once matches slots f (r ∷ records) = (f r, all_once matches slots f records)

-- where none passes, that at a place doesn't
missing : {A : Type 0} (test : A → Bool) (xs : List A) → place_of test xs ≡ None → (k : ℕ) {d : A} → test d ≡ false → test (get_or xs k d) ≡ false
missing test [] none k last = last
missing test (x ∷ xs) none zero last = none_head test x xs none
missing test (x ∷ xs) none (suc k) last = missing test xs (none_tail test x xs none) k last

-- the place where the only element passes
only_one : {A : Type 0} (test : A → Bool) (xs : List A) → AtMostOne test xs → (i k : ℕ) {d : A} → test d ≡ false → test (get_or xs i d) ≡ true → test (get_or xs k d) ≡ true → i ≡ k
only_one test [] h i k none e f = absurd (false≢true (sym none ∙ e))
only_one test (x ∷ xs) h zero zero none e f = refl
only_one test (x ∷ xs) h zero (suc k) none e f = absurd (false≢true (sym (missing test xs (h.0 e) k none) ∙ f))
only_one test (x ∷ xs) h (suc i) zero none e f = absurd (false≢true (sym (missing test xs (h.0 f) i none) ∙ e))
only_one test (x ∷ xs) h (suc i) (suc k) none e f = ap (λ n. suc n) (only_one test xs h.1 i k none e f)

module _ (table : EnqueueTable) (stores : List Stored) (region : ℕ) (records : List Change) (can : CanBackOut records stores) where
  had_all : (slots : List Change) → AllByRecursion (IsRecordTouched table stores region records) slots → AllByRecursion (λ c. 1 ≤ image_records_in c.before → list_any (λ r. had r c) records ≡ true) slots
  had_all [] h = tt
  had_all (c ∷ slots) h =
      (λ some. ⊎_elim (λ was. was) (λ p. absurd (false≢true (sym (some_image c.before some) ∙ ap is_slot_free p.0))) h.0.sits, had_all slots h.1)

  pub few_had : (slots : List Change) → ChangesAscend slots → AllByRecursion (IsRecordTouched table stores region records) slots → sum_by (λ c. image_records_in c.before) slots ≤ length records
  few_had slots ascend h =
      few_matches had records slots (λ c. image_records_in c.before) (λ c. small_image c.before) (had_all slots h) (all_once had slots (λ r. had_once r slots ascend) records)

  -- ---- those that have one

  abbrev has : Change → Change → Bool
  has r c = eqb r.db c.db && has_root r.root (image_at c.db c.slot stores)

  -- a record in a touched slot is a changed one
  own_record : (c : Change) → IsRecordTouched table stores region records c → is_slot_free (image_at c.db c.slot stores) ≡ false → is_touched records c.db (image_at c.db c.slot stores) ≡ true
  own_record c t some = by (is_touched records c.db (image_at c.db c.slot stores)) refl
    where
      gone : image_at c.db c.slot stores ≡ [] → ⊥
      gone none = false≢true (sym some ∙ ap is_slot_free none)

      by : (b : Bool) → is_touched records c.db (image_at c.db c.slot stores) ≡ b → is_touched records c.db (image_at c.db c.slot stores) ≡ true
      by true q = q
      by false q = used (was_there records c.db c.slot) refl
        where
          used : (w : Bool) → was_there records c.db c.slot ≡ w → is_touched records c.db (image_at c.db c.slot stores) ≡ true
          used true w =
              absurd (gone (sym (ap (λ t. cond t [] (image_at c.db c.slot stores)) q) ∙ cleared_where records stores c.db c.slot can w))
          used false w =
              ⊎_elim
              (λ was. absurd (false≢true (sym w ∙ was)))
              (λ p. absurd (gone (sym (idle_back records c.db c.slot (image_at c.db c.slot stores) (record { untouched = q; unused = w }))
              ∙ (sym (back_at records stores c.db c.slot t.there.least t.there.within) ∙ (t.first ∙ p.0))))) t.sits

  has_all : (slots : List Change) → AllByRecursion (IsRecordTouched table stores region records) slots
      → AllByRecursion (λ c. 1 ≤ image_records_in (image_at c.db c.slot stores) → list_any (λ r. has r c) records ≡ true) slots
  has_all [] h = tt
  has_all (c ∷ slots) h = (λ some. own_record c h.0 (some_image (image_at c.db c.slot stores) some), has_all slots h.1)

  module _ (valid : (db : ℕ) (root : List ℕ) → 1 ≤ db → AtMostOne (has_root root) (slots_of_database db stores)) where
    has_once : (r : Change) (slots : List Change) → AllByRecursion (IsRecordTouched table stores region records) slots → ChangesAscend slots → MatchOnce has r slots
    has_once r [] t h = tt
    has_once r (c ∷ slots) t h = (each slots h.0, has_once r slots t.1 h.1)
      where
        each : (ds : List Change) → AllByRecursion (λ d. is_slot_before d.db d.slot c ≡ true) ds → AllByRecursion (λ d. has r c ≡ true → has r d ≡ true → ⊥) ds
        each [] g = tt
        each (d ∷ ds) g = (one, each ds g.1)
          where
            one : has r c ≡ true → has r d ≡ true → ⊥
            one e f =
                let db_c : r.db ≡ c.db = eqb-true r.db c.db (left_of (eqb r.db c.db) _ e) in
                let db_d : r.db ≡ d.db = eqb-true r.db d.db (left_of (eqb r.db d.db) _ f) in
                let root_c : has_root r.root (get_or (slots_of_database c.db stores) c.slot []) ≡ true = right_of (eqb r.db c.db) _ e in
                let root_d : has_root r.root (get_or (slots_of_database c.db stores) d.slot []) ≡ true =
                ap (λ n. has_root r.root (get_or (slots_of_database n stores) d.slot [])) (sym db_c ∙ db_d) ∙ right_of (eqb r.db d.db) _ f in
                never_itself c.db c.slot d.db d.slot (less_is c.db c.slot d.db d.slot g.0) (sym db_c ∙ db_d)
                (only_one (has_root r.root) (slots_of_database c.db stores) (valid c.db r.root t.0.there.least) c.slot d.slot refl root_c root_d)

    pub few_have : (slots : List Change) → ChangesAscend slots → AllByRecursion (IsRecordTouched table stores region records) slots
        → sum_by (λ c. image_records_in (image_at c.db c.slot stores)) slots ≤ length records
    few_have slots ascend h =
        few_matches has records slots (λ c. image_records_in (image_at c.db c.slot stores)) (λ c. small_image (image_at c.db c.slot stores)) (has_all slots h)
        (all_once has slots (λ r. has_once r slots h ascend) records)
