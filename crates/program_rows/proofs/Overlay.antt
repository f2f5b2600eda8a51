-- Records of one list of rows in another.
use Rattle.std.proofs.Common.{◌≡◌, ◌≢◌, ℕ, ◌-◌, ◌<◌, ◌≤◌, ◌∷◌, [], List, length, map, suc, refl, sym, ◌∙◌, ap, subst, Bool, true, false, cond, Some, arith, get_or, set, eqb, ◌&&◌, ◌||◌, ◌⊎◌, ⊎_elim}
use Rattle.std.specs.List.{AllByRecursion, slice_get}
use Rattle.std.specs.List.Sorted.{IsStrictlySortedBy}
use Rattle.std.specs.Ordering.{is_eq}
use Rattle.std.specs.declared.cmp.Ordering.TheVariants.{Equal}
use Rattle.std.proofs.lemmas.Bool.{false≢true, cases_eq, eq-eqb, eqb-true}
use Rattle.std.proofs.lemmas.List.{length-set, length-map}
use Rattle.std.proofs.lemmas.Option.{slice_get_within}
use Rattle.tm_types.specs.declared.dbd.Dbd.{Dbd}
use Rattle.tm_types.specs.SegTypes.{IsHierarchy}
use Rattle.model_data.specs.declared.row.Row.{Row}
use Rattle.model_data.specs.Path.{key_cmp, IsPath}
use Rattle.model_data.specs.Record.{IsUnder}
use Rattle.model_data.specs.Row.{IsRow, row_cmp}
use Rattle.model_data.specs.Rows.{record_of, with_record, roots, AreRows}
use Rattle.model_data.proofs.Lists.{all_then}
use Rattle.model_data.proofs.Prefixes.{none_under}
use Rattle.model_data.proofs.Records.{record_rooted, with_record_itself, with_record_other}
use Rattle.model_data.proofs.Whole.{record_is, with_record_rows}
use Rattle.seg_store.specs.Slots.{Stored, AreSlots, rows_of_slots}
use Rattle.seg_store.proofs.SlotRows.{slots_are_rows, same_key}
use Rattle.unit_work.specs.declared.change.Change.{Change}
use Rattle.unit_work.specs.Changes.{is_change_of_record, is_record_changed}
use Rattle.row_search.proofs.Keys.{by_records, flat_same, by_keys, roots_ascending}
use Rattle.dli_calls.proofs.Keys.{rooted_here}
use Rattle.program_rows.specs.DatabasesState.{roots_of, rows_of_stores, database_rows_in, with_records_from}
use Rattle.program_rows.proofs.Aside.{slots_there, same_there}
use Rattle.program_rows.proofs.Backed.{AreValid, all_there, rows_in_is}
use Rattle.program_rows.proofs.Seen.{same_list, get_put, get_put_else}

-- rows in order, each a row among these
pub record AreOrdered (dbd : Dbd) (rows : List Row) : Type 0 where
  pub ascending : IsStrictlySortedBy row_cmp rows
  pub each : AllByRecursion (IsRow dbd.types rows) rows

-- rows of a database are any ordered rows that have the same records
pub ordered_same : (dbd : Dbd) → IsHierarchy dbd.types → (a b : List Row) → AreRows dbd a → AreOrdered dbd b → ((key : List ℕ) → record_of key a ≡ record_of key b) → a ≡ b
ordered_same dbd all a b va ob same =
    by_records dbd all a va
    ∙ (flat_same (λ key. record_of key a) (λ key. record_of key b) (roots a) (each (roots a))
    ∙ sym (by_keys dbd.types all (roots a) b (roots_ascending dbd all a va) ob.ascending
    (all_then (IsRow dbd.types b) (λ r. IsPath dbd.types r.path) b (λ r h. h.path) ob.each) (rooted_here dbd all a va b same)))
  where
    each : (keys : List (List ℕ)) → AllByRecursion (λ key. record_of key a ≡ record_of key b) keys
    each [] = tt
    each (key ∷ keys) = (same key, each keys)

record_under : (dbd : Dbd) (rows : List Row) (root : List ℕ) → AreRows dbd rows → IsUnder dbd.types root (record_of root rows)
record_under dbd rows root valid = by (record_of root rows) refl
  where
    by : (record' : List Row) → record_of root rows ≡ record' → IsUnder dbd.types root (record_of root rows)
    by [] e = subst (IsUnder dbd.types root) (sym e) (none_under dbd.types root)
    by (row ∷ record') e = (record_is dbd rows root valid (λ none. let clash : [] ≡ row ∷ record' = sym none ∙ e in absurd (cc))).whole.under

-- the rows of the store of a number
pub store_rows : (stores : List Stored) (db : ℕ) (s : Stored) → AreValid stores → slice_get stores (db - 1) ≡ Some s → AreRows s.dbd (database_rows_in db (rows_of_stores stores))
store_rows stores db s valid at =
    subst (AreRows s.dbd) (sym (rows_in_is db stores ∙ ap rows_of_slots (slots_there db stores s at)))
    (slots_are_rows s.dbd s.slots (all_there (λ (x : Stored). AreSlots x.dbd x.slots) stores (db - 1) s valid at))

pub store_types : (stores : List Stored) (i : ℕ) (s : Stored) → AreValid stores → slice_get stores i ≡ Some s → IsHierarchy s.dbd.types
store_types stores i s valid at = (all_there (λ (x : Stored). AreSlots x.dbd x.slots) stores i s valid at).types

module _ (from to : List Stored) (valid_from : AreValid from) (valid_to : AreValid to) (dbds : map (λ (s : Stored). s.dbd) from ≡ map (λ (s : Stored). s.dbd) to) where
  over : List Change → List (List Row)
  over records = with_records_from (roots_of records) (rows_of_stores from) (rows_of_stores to)

  over_length : (records : List Change) → length (with_records_from (roots_of records) (rows_of_stores from) (rows_of_stores to)) ≡ length (rows_of_stores to)
  over_length [] = refl
  over_length (c ∷ records) =
      length-set (with_records_from (roots_of records) (rows_of_stores from) (rows_of_stores to)) (c.db - 1)
      (with_record c.root (record_of c.root (database_rows_in c.db (rows_of_stores from))) (database_rows_in c.db (with_records_from (roots_of records) (rows_of_stores from) (rows_of_stores to))))
      ∙ over_length records

  module _ (db : ℕ) (least : 1 ≤ db) (t : Stored) (at : slice_get to (db - 1) ≡ Some t) where
    inside : (records : List Change) → db - 1 < length (with_records_from (roots_of records) (rows_of_stores from) (rows_of_stores to))
    inside records = omega (arith, over_length records, length-map to (λ (s : Stored). rows_of_slots s.slots), slice_get_within to (db - 1) t at)

    source : (s : Stored) × (slice_get from (db - 1) ≡ Some s) × (s.dbd ≡ t.dbd)
    source = same_there to from (db - 1) t dbds at

    from_rows : AreRows t.dbd (database_rows_in db (rows_of_stores from))
    from_rows = subst (λ d. AreRows d (database_rows_in db (rows_of_stores from))) source.2 (store_rows from db source.0 valid_from source.1)

    -- the rows once one record more is from the first list
    next_here : (c : Change) (records : List Change) → c.db ≡ db
        → database_rows_in db (with_records_from (roots_of (c ∷ records)) (rows_of_stores from) (rows_of_stores to))
        ≡ with_record c.root (record_of c.root (database_rows_in db (rows_of_stores from))) (database_rows_in db (with_records_from (roots_of records) (rows_of_stores from) (rows_of_stores to)))
    next_here c records e =
        subst (λ n. database_rows_in db (set (with_records_from (roots_of records) (rows_of_stores from) (rows_of_stores to)) (n - 1)
        (with_record c.root (record_of c.root (database_rows_in n (rows_of_stores from))) (database_rows_in n (with_records_from (roots_of records) (rows_of_stores from) (rows_of_stores to)))))
        ≡ with_record c.root (record_of c.root (database_rows_in db (rows_of_stores from))) (database_rows_in db (with_records_from (roots_of records) (rows_of_stores from) (rows_of_stores to)))) (sym e)
        (get_put (with_records_from (roots_of records) (rows_of_stores from) (rows_of_stores to)) (db - 1)
        (with_record c.root (record_of c.root (database_rows_in db (rows_of_stores from))) (database_rows_in db (with_records_from (roots_of records) (rows_of_stores from) (rows_of_stores to)))) [] (inside records))

    next_else : (c : Change) (records : List Change) → 1 ≤ c.db → c.db ≢ db
        → database_rows_in db (with_records_from (roots_of (c ∷ records)) (rows_of_stores from) (rows_of_stores to)) ≡ database_rows_in db (with_records_from (roots_of records) (rows_of_stores from) (rows_of_stores to))
    next_else c records some other =
        get_put_else (with_records_from (roots_of records) (rows_of_stores from) (rows_of_stores to)) (c.db - 1) (db - 1)
        (with_record c.root (record_of c.root (database_rows_in c.db (rows_of_stores from))) (database_rows_in c.db (with_records_from (roots_of records) (rows_of_stores from) (rows_of_stores to)))) []
        (λ e. other (omega (arith, e, least, some)))

    over_ordered : (records : List Change) → AllByRecursion (λ c. 1 ≤ c.db) records → AreOrdered t.dbd (database_rows_in db (with_records_from (roots_of records) (rows_of_stores from) (rows_of_stores to)))
    over_ordered [] some = let valid = store_rows to db t valid_to at in record { ascending = valid.ascending; each = valid.each }
    over_ordered (c ∷ records) some = ⊎_elim (λ same. here same (over_ordered records some.1)) (λ other. subst (AreOrdered t.dbd) (sym (next_else c records some.0 other)) (over_ordered records some.1)) (cases_eq c.db db)
      where
        here : c.db ≡ db → AreOrdered t.dbd (database_rows_in db (with_records_from (roots_of records) (rows_of_stores from) (rows_of_stores to)))
            → AreOrdered t.dbd (database_rows_in db (with_records_from (roots_of (c ∷ records)) (rows_of_stores from) (rows_of_stores to)))
        here e o =
            let both =
            with_record_rows t.dbd.types (store_types to (db - 1) t valid_to at) c.root (record_of c.root (database_rows_in db (rows_of_stores from))) (database_rows_in db (with_records_from (roots_of records) (rows_of_stores from) (rows_of_stores to)))
            o.each o.ascending (record_under t.dbd (database_rows_in db (rows_of_stores from)) c.root from_rows) in
            subst (AreOrdered t.dbd) (sym (next_here c records e)) (record { ascending = both.0; each = both.1 })

    over_record : (records : List Change) (key : List ℕ) → AllByRecursion (λ c. 1 ≤ c.db) records
        → record_of key (database_rows_in db (with_records_from (roots_of records) (rows_of_stores from) (rows_of_stores to)))
        ≡ cond (is_record_changed db key records) (record_of key (database_rows_in db (rows_of_stores from))) (record_of key (database_rows_in db (rows_of_stores to)))
    over_record [] key some = refl
    over_record (c ∷ records) key some = by (is_change_of_record db key c) refl (over_record records key some.1)
      where
        left : (a b : Bool) → (a && b) ≡ true → a ≡ true
        left true b e = refl
        left false b e = absurd (false≢true e)

        right : (a b : Bool) → (a && b) ≡ true → b ≡ true
        right true b e = e
        right false b e = absurd (false≢true e)

        rest : List (List Row)
        rest = with_records_from (roots_of records) (rows_of_stores from) (rows_of_stores to)

        by : (b : Bool) → is_change_of_record db key c ≡ b
            → record_of key (database_rows_in db (with_records_from (roots_of records) (rows_of_stores from) (rows_of_stores to)))
            ≡ cond (is_record_changed db key records) (record_of key (database_rows_in db (rows_of_stores from))) (record_of key (database_rows_in db (rows_of_stores to)))
            → record_of key (database_rows_in db (with_records_from (roots_of (c ∷ records)) (rows_of_stores from) (rows_of_stores to)))
            ≡ cond (is_change_of_record db key c || is_record_changed db key records) (record_of key (database_rows_in db (rows_of_stores from))) (record_of key (database_rows_in db (rows_of_stores to)))
        by true q rec =
            let database : c.db ≡ db = eqb-true c.db db (left (eqb c.db db) _ q) in
            let root : c.root ≡ key = sym (same_key c.root key (right (eqb c.db db) _ q)) in
            ap (record_of key) (next_here c records database)
            ∙ (subst (λ k. record_of k (with_record c.root (record_of c.root (database_rows_in db (rows_of_stores from))) (database_rows_in db (with_records_from (roots_of records) (rows_of_stores from) (rows_of_stores to)))) ≡ record_of k (database_rows_in db (rows_of_stores from))) root
            (with_record_itself c.root (record_of c.root (database_rows_in db (rows_of_stores from))) (database_rows_in db (with_records_from (roots_of records) (rows_of_stores from) (rows_of_stores to)))
            (record_rooted c.root (database_rows_in db (rows_of_stores from))))
            ∙ sym (ap (λ b. cond (b || is_record_changed db key records) (record_of key (database_rows_in db (rows_of_stores from))) (record_of key (database_rows_in db (rows_of_stores to)))) q))
        by false q rec =
            ⊎_elim
            (λ same.
            let apart : key_cmp c.root key ≢ Equal = λ e. false≢true (sym (sym (ap (λ b. b && is_eq (key_cmp c.root key)) (eq-eqb c.db db same)) ∙ q) ∙ ap is_eq e) in
            ap (record_of key) (next_here c records same)
            ∙ with_record_other c.root key (record_of c.root (database_rows_in db (rows_of_stores from))) (database_rows_in db (with_records_from (roots_of records) (rows_of_stores from) (rows_of_stores to)))
            (record_rooted c.root (database_rows_in db (rows_of_stores from))) apart)
            (λ other. ap (record_of key) (next_else c records some.0 other)) (cases_eq c.db db)
            ∙ (rec ∙ sym (ap (λ b. cond (b || is_record_changed db key records) (record_of key (database_rows_in db (rows_of_stores from))) (record_of key (database_rows_in db (rows_of_stores to)))) q))

-- rows that have the records of a unit as in the first list, and all others as in the second
pub overlaid : (all from to : List Stored) (records : List Change) → AreValid all → AreValid from → AreValid to → map (λ (s : Stored). s.dbd) from ≡ map (λ (s : Stored). s.dbd) to
    → map (λ (s : Stored). s.dbd) all ≡ map (λ (s : Stored). s.dbd) to → AllByRecursion (λ c. 1 ≤ c.db) records
    → ((db : ℕ) (key : List ℕ) → 1 ≤ db → is_record_changed db key records ≡ true → record_of key (database_rows_in db (rows_of_stores all)) ≡ record_of key (database_rows_in db (rows_of_stores from)))
    → ((db : ℕ) (key : List ℕ) → 1 ≤ db → is_record_changed db key records ≡ false → record_of key (database_rows_in db (rows_of_stores all)) ≡ record_of key (database_rows_in db (rows_of_stores to)))
    → rows_of_stores all ≡ with_records_from (roots_of records) (rows_of_stores from) (rows_of_stores to)
overlaid all from to records valid_all valid_from valid_to dbds same_dbds some own others =
    same_list [] (rows_of_stores all) (with_records_from (roots_of records) (rows_of_stores from) (rows_of_stores to))
    (length-map all (λ (s : Stored). rows_of_slots s.slots) ∙ (count ∙ (sym (length-map to (λ (s : Stored). rows_of_slots s.slots)) ∙ sym (over_length from to valid_from valid_to dbds records))))
    (λ k lt.
    let place : suc k - 1 ≡ k = omega arith in
    let within : k < length to = omega (arith, lt, length-map all (λ (s : Stored). rows_of_slots s.slots), count) in
    subst (λ i. get_or (rows_of_stores all) i [] ≡ get_or (with_records_from (roots_of records) (rows_of_stores from) (rows_of_stores to)) i []) place
    (one (suc k) (omega arith) (there to k within).0 (ap (slice_get to) place ∙ (there to k within).1)))
  where
    count : length all ≡ length to
    count = sym (length-map all (λ (s : Stored). s.dbd)) ∙ (ap length same_dbds ∙ length-map to (λ (s : Stored). s.dbd))

    there : (ss : List Stored) (k : ℕ) → k < length ss → (s : Stored) × (slice_get ss k ≡ Some s)
    there [] k lt = absurd (omega arith)
    there (s ∷ ss) Rattle.std.proofs.Common.zero lt = (s, refl)
    there (s ∷ ss) (suc k) lt = there ss k (omega arith)

    one : (db : ℕ) → 1 ≤ db → (t : Stored) → slice_get to (db - 1) ≡ Some t → database_rows_in db (rows_of_stores all) ≡ database_rows_in db (with_records_from (roots_of records) (rows_of_stores from) (rows_of_stores to))
    one db least t at =
        let mine = same_there to all (db - 1) t same_dbds at in
        ordered_same t.dbd (store_types to (db - 1) t valid_to at) (database_rows_in db (rows_of_stores all)) (database_rows_in db (with_records_from (roots_of records) (rows_of_stores from) (rows_of_stores to)))
        (subst (λ d. AreRows d (database_rows_in db (rows_of_stores all))) mine.2 (store_rows all db mine.0 valid_all mine.1))
        (over_ordered from to valid_from valid_to dbds db least t at records some)
        (λ key. by key (is_record_changed db key records) refl ∙ sym (over_record from to valid_from valid_to dbds db least t at records key some))
      where
        by : (key : List ℕ) (b : Bool) → is_record_changed db key records ≡ b
            → record_of key (database_rows_in db (rows_of_stores all)) ≡ cond (is_record_changed db key records) (record_of key (database_rows_in db (rows_of_stores from))) (record_of key (database_rows_in db (rows_of_stores to)))
        by key true e = own db key least e ∙ sym (ap (λ b. cond b (record_of key (database_rows_in db (rows_of_stores from))) (record_of key (database_rows_in db (rows_of_stores to)))) e)
        by key false e = others db key least e ∙ sym (ap (λ b. cond b (record_of key (database_rows_in db (rows_of_stores from))) (record_of key (database_rows_in db (rows_of_stores to)))) e)
