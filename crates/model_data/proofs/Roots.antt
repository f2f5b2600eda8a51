-- The root of a record, the roots of a database, and the rows of its records.
use Rattle.std.proofs.Common.{◌≡◌, ℕ, ◌≤◌, ◌++◌, ◌∷◌, [], List, length, refl, sym, ◌∙◌, ap, subst, Bool, true, false, cond, Some, arith, eqb, ⊎_elim, suc}
use Rattle.std.specs.List.{AllByRecursion, filter, slice_get, find}
use Rattle.std.specs.Prelude.{map}
use Rattle.std.specs.List.Sorted.{IsStrictlySortedBy}
use Rattle.std.specs.Option.{unwrap_or, option_map}
use Rattle.std.specs.declared.cmp.Ordering.TheVariants.{Less}
use Rattle.std.specs.BTreeMap.{is_at}
use Rattle.std.specs.Map.{keys_of, lookup}
use Rattle.std.proofs.lemmas.Bool.{eq-eqb, ne_eqb}
use Rattle.std.proofs.lemmas.List.Elements.{filter-append}
use Rattle.std.proofs.lemmas.Map.Keys.{sorted_head}
use Rattle.tm_types.specs.declared.dbd.SegType.{SegType}
use Rattle.tm_types.specs.declared.dbd.Dbd.{Dbd}
use Rattle.tm_types.specs.SegTypes.{IsHierarchy}
use Rattle.model_data.specs.declared.row.Row.{Row}
use Rattle.model_data.specs.Path.{key_cmp, path_cmp, root_of, end_type, end_key, parent_path, IsPath}
use Rattle.model_data.specs.Row.{IsRow, row_cmp}
use Rattle.model_data.specs.Record.{IsUnder, IsLongRecord, IsRecord, rows_spelling, record_limit}
use Rattle.model_data.specs.Rows.{roots, rows_of_records, AreRows}
use Rattle.model_data.proofs.Order.{path_total, not_less_itself}
use Rattle.model_data.proofs.Lists.{all_append, all_then, all_both, sorted_append}
use Rattle.model_data.proofs.Filters.{filter_none}
use Rattle.model_data.proofs.Paths.{path_parts, root_type}
use Rattle.model_data.proofs.Under.{row_among, has_front, has_back}
use Rattle.model_data.proofs.NextRow.{parent_before}
use Rattle.model_data.proofs.Prefixes.{none_under}
use Rattle.model_data.proofs.Records.{HaveRoot}
use Rattle.model_data.proofs.Whole.{root_less}
use Rattle.model_data.proofs.Entries.{AreRooted, AreAfter, rows_after_key, entries_record, first_key, other_keys}

module _ (types : List SegType) (all : IsHierarchy types) where
  -- a path of one pair is that of a root
  root_path : (root : List ℕ) (path : List (ℕ × List ℕ)) → IsPath types path → root_of path ≡ root → length path ≡ 1 → path ≡ (1, root) ∷ []
  root_path root [] h e l = absurd h
  root_path root (p ∷ []) h e l = let t : p.0 ≡ 1 = root_type types all p h.0 in λ i. (t i, e i) ∷ []
  root_path root (p ∷ q ∷ path) h e l = absurd (omega arith)

  -- the first row of a record is its root
  pub first_row : (root : List ℕ) (row : Row) (rows : List Row) → IsUnder types root (row ∷ rows) → row.path ≡ (1, root) ∷ []
  first_row root row rows under =
      let valid : IsRow types (row ∷ rows) row = under.each.0 in
      let parts : row.path ≡ parent_path row.path ++ (end_type row.path, end_key row.path) ∷ [] = nonempty_parts row.path valid.path in
      let top : parent_path row.path ≡ [] =
      ⊎_elim (λ e. e) (λ h. absurd (parent_before types all [] rows row under.ascending (parent_path row.path) _ parts h)) valid.parent in
      root_path root row.path valid.path under.one_root.0 (ap length (parts ∙ ap (λ a. a ++ (end_type row.path, end_key row.path) ∷ []) top))
    where
      nonempty_parts : (p : List (ℕ × List ℕ)) → IsPath types p → p ≡ parent_path p ++ (end_type p, end_key p) ∷ []
      nonempty_parts [] h = absurd h
      nonempty_parts (x ∷ p) h = path_parts x p

  -- and it is the only root
  pub record_roots : (root : List ℕ) (rows : List Row) → IsLongRecord types root rows → roots rows ≡ root ∷ []
  record_roots root [] h = absurd (h.some refl)
  record_roots root (row ∷ rows) h =
      let top : row.path ≡ (1, root) ∷ [] = first_row root row rows h.under in
      let others : AllByRecursion (λ r. eqb (length r.path) 1 ≡ false) rows =
      all_both (λ r. row_cmp row r ≡ Less) (λ r. IsPath types r.path × (root_of r.path ≡ root)) (λ r. eqb (length r.path) 1 ≡ false) rows
      (λ r less valid. ne_eqb (length r.path) 1 (λ one. not_less_itself path_total row.path
      (subst (λ path. path_cmp row.path path ≡ Less) (root_path root r.path valid.0 valid.1 one ∙ sym top) less)))
      (sorted_head row_cmp row rows h.under.ascending)
      (all_both (IsRow types (row ∷ rows)) (λ r. root_of r.path ≡ root) (λ r. IsPath types r.path × (root_of r.path ≡ root)) rows (λ r g e. (g.path, e)) h.under.each.1 h.under.one_root.1) in
      let one : eqb (length row.path) 1 ≡ true = eq-eqb (length row.path) 1 (ap length top) in
      ap (λ b. map (λ r. root_of r.path) (cond b (row ∷ filter (λ r. eqb (length r.path) 1) rows) (filter (λ r. eqb (length r.path) 1) rows))) one
      ∙ (λ i. h.under.one_root.0 i ∷ map (λ r. root_of r.path) (filter_none (λ r. eqb (length r.path) 1) rows others i))

map_append : {A B : Type 0} (f : A → B) (xs ys : List A) → map f (xs ++ ys) ≡ map f xs ++ map f ys
map_append f [] ys = refl
map_append f (x ∷ xs) ys = λ i. f x ∷ map_append f xs ys i

pub roots_append : (xs ys : List Row) → roots (xs ++ ys) ≡ roots xs ++ roots ys
roots_append xs ys =
    ap (map (λ row. root_of row.path)) (filter-append (λ row. eqb (length row.path) 1) xs ys)
    ∙ map_append (λ row. root_of row.path) (filter (λ row. eqb (length row.path) 1) xs) (filter (λ row. eqb (length row.path) 1) ys)

-- records that are kept by their roots
abbrev pub AreRecords : Dbd → List (List ℕ × List Row) → Type 0
AreRecords dbd es = AllByRecursion (λ e. IsRecord dbd e.0 e.1) es

pub records_rooted : (dbd : Dbd) (es : List (List ℕ × List Row)) → AreRecords dbd es → AreRooted es
records_rooted dbd es h = all_then (λ e. IsRecord dbd e.0 e.1) (λ e. HaveRoot e.0 e.1) es (λ e r. r.whole.under.one_root) h

module _ (dbd : Dbd) (all : IsHierarchy dbd.types) where
  pub entries_roots : (es : List (List ℕ × List Row)) → AreRecords dbd es → roots (rows_of_records es) ≡ keys_of es
  entries_roots [] h = refl
  entries_roots (e ∷ es) h =
      roots_append e.1 (rows_of_records es) ∙ (λ i. record_roots dbd.types all e.0 e.1 h.0.whole i ++ entries_roots es h.1 i)

  paths_of : (es : List (List ℕ × List Row)) → AreRecords dbd es → AllByRecursion (λ row. IsPath dbd.types row.path) (rows_of_records es)
  paths_of [] h = tt
  paths_of (e ∷ es) h =
      all_append (λ row. IsPath dbd.types row.path) e.1 (rows_of_records es)
      (all_then (IsRow dbd.types e.1) (λ row. IsPath dbd.types row.path) e.1 (λ row r. r.path) h.0.whole.under.each) (paths_of es h.1)

  entries_ascending : (es : List (List ℕ × List Row)) → IsStrictlySortedBy key_cmp (keys_of es) → AreRecords dbd es → IsStrictlySortedBy row_cmp (rows_of_records es)
  entries_ascending [] s h = (none_under dbd.types []).ascending
  entries_ascending (e ∷ es) s h =
      let later : AreAfter e.0 (rows_of_records es) = rows_after_key e.0 es (records_rooted dbd es h.1) (first_key e es s) in
      sorted_append row_cmp e.1 (rows_of_records es) h.0.whole.under.ascending (entries_ascending es (other_keys e es s) h.1)
      (all_then (λ x. IsPath dbd.types x.path × (root_of x.path ≡ e.0)) (λ x. AllByRecursion (λ y. row_cmp x y ≡ Less) (rows_of_records es)) e.1
      (λ x g. all_both (λ y. IsPath dbd.types y.path) (λ y. key_cmp e.0 (root_of y.path) ≡ Less) (λ y. row_cmp x y ≡ Less) (rows_of_records es)
      (λ y valid less. root_less dbd.types all x.path y.path g.0 valid (ap (λ k. key_cmp k (root_of y.path)) g.1 ∙ less)) (paths_of es h.1) later)
      (all_both (IsRow dbd.types e.1) (λ x. root_of x.path ≡ e.0) (λ x. IsPath dbd.types x.path × (root_of x.path ≡ e.0)) e.1 (λ x r f. (r.path, f)) h.0.whole.under.each h.0.whole.under.one_root))

  entries_each : (es : List (List ℕ × List Row)) → AreRecords dbd es → AllByRecursion (IsRow dbd.types (rows_of_records es)) (rows_of_records es)
  entries_each [] h = tt
  entries_each (e ∷ es) h =
      all_append (IsRow dbd.types (rows_of_records (e ∷ es))) e.1 (rows_of_records es)
      (all_then (IsRow dbd.types e.1) (IsRow dbd.types (rows_of_records (e ∷ es))) e.1 (λ row r. row_among dbd.types e.1 (rows_of_records (e ∷ es)) row (λ path g. has_front e.1 (rows_of_records es) path g) r) h.0.whole.under.each)
      (all_then (IsRow dbd.types (rows_of_records es)) (IsRow dbd.types (rows_of_records (e ∷ es))) (rows_of_records es) (λ row r. row_among dbd.types (rows_of_records es) (rows_of_records (e ∷ es)) row (λ path g. has_back e.1 (rows_of_records es) path g) r) (entries_each es h.1))

  entries_limit : (key : List ℕ) (es : List (List ℕ × List Row)) → AreRecords dbd es → length (rows_spelling (unwrap_or (lookup (is_at (key_cmp key)) es) [])) ≤ record_limit dbd
  entries_limit key [] h = omega arith
  entries_limit key (e ∷ es) h =
      elim (is_at (key_cmp key) e.0) as (λ b. length (rows_spelling (unwrap_or (cond b (Some e.1) (lookup (is_at (key_cmp key)) es)) [])) ≤ record_limit dbd) [
        | true ↦ h.0.within
        | false ↦ entries_limit key es h.1
      ]

  -- the rows of records that are kept by their roots are rows of the database
  pub entries_rows : (es : List (List ℕ × List Row)) → IsStrictlySortedBy key_cmp (keys_of es) → AreRecords dbd es → length es ≤ dbd.roots → AreRows dbd (rows_of_records es)
  entries_rows es s h few =
      record {
        types = all;
        ascending = entries_ascending es s h;
        each = entries_each es h;
        within_roots = omega (arith, ap length (entries_roots es h), length_keys es);
        within_limit = λ key. subst (λ rows. length (rows_spelling rows) ≤ record_limit dbd) (sym (entries_record key es s (records_rooted dbd es h))) (entries_limit key es h);
      }
    where
      length_keys : (xs : List (List ℕ × List Row)) → length (keys_of xs) ≡ length xs
      length_keys [] = refl
      length_keys (x ∷ xs) = ap (λ n. suc n) (length_keys xs)

-- the first key that passes is that of the first entry whose key passes
pub find_key : {X : Type 0} (f : List ℕ → Bool) (es : List (List ℕ × X)) → find f (keys_of es) ≡ option_map (λ e. e.0) (slice_get (filter (λ e. f e.0) es) 0)
find_key f [] = refl
find_key f (e ∷ es) =
    elim (f e.0) as (λ b. cond b (Some e.0) (find f (keys_of es)) ≡ option_map (λ e'. e'.0) (slice_get (cond b (e ∷ filter (λ e'. f e'.0) es) (filter (λ e'. f e'.0) es)) 0)) [
      | true ↦ refl
      | false ↦ find_key f es
    ]
