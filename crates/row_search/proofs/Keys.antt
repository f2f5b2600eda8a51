-- The rows of a database, record by record along the keys of their roots.
use Rattle.std.proofs.Common.{◌≡◌, ℕ, ◌++◌, ◌∷◌, [], List, length, refl, sym, ◌∙◌, ap, subst, Bool, true, false, cond, eqb, ◌⊎◌, inl, inr, ⊎_elim}
use Rattle.std.specs.List.{AllByRecursion, filter, flat_map}
use Rattle.std.specs.Prelude.{map}
use Rattle.std.specs.List.Sorted.{IsStrictlySortedBy}
use Rattle.std.specs.Ordering.{is_lt, is_eq, is_gt}
use Rattle.std.specs.declared.cmp.Ordering.{Ordering}
use Rattle.std.specs.declared.cmp.Ordering.TheVariants.{Less, Equal, Greater}
use Rattle.std.proofs.lemmas.Bool.{eq-eqb, eqb-true}
use Rattle.std.proofs.lemmas.Cmp.{tied_itself}
use Rattle.std.proofs.lemmas.Map.Keys.{sorted_head, sorted_tail}
use Rattle.std.proofs.lemmas.Map.Lookups.{exact_bytes}
use Rattle.tm_types.specs.declared.dbd.SegType.{SegType}
use Rattle.tm_types.specs.declared.dbd.Dbd.{Dbd}
use Rattle.tm_types.specs.SegTypes.{IsHierarchy}
use Rattle.model_data.specs.declared.row.Row.{Row}
use Rattle.model_data.specs.Path.{key_cmp, path_cmp, root_of, IsPath}
use Rattle.model_data.specs.Row.{HasPath, IsRow, row_cmp}
use Rattle.model_data.specs.Rows.{record_of, rows_before, rows_after, roots, AreRows}
use Rattle.model_data.proofs.Order.{key_total, path_total, turned_greater, not_less_itself}
use Rattle.model_data.proofs.Lists.{all_then, all_both, all_filter, sorted_filter}
use Rattle.model_data.proofs.Filters.{filter_none, filter_within, filter_passes}
use Rattle.model_data.proofs.Records.{is_eq-true}
use Rattle.model_data.proofs.Paths.{root_type}
use Rattle.model_data.proofs.Under.{front_there, has_with}
use Rattle.model_data.proofs.Whole.{root_less}
use Rattle.row_search.proofs.Rising.{rising, split_at_root}
use Rattle.model_data.proofs.Reading.{is_lt-true}

-- a key is one of these
abbrev pub HasKey : List (List ℕ) → List ℕ → Type 0
HasKey [] key = ⊥
HasKey (first ∷ keys) key = (first ≡ key) ⊎ HasKey keys key

-- a key that a test keeps is there behind the filter
pub has_key_filter : (f : List ℕ → Bool) (keys : List (List ℕ)) (key : List ℕ) → f key ≡ true → HasKey keys key → HasKey (filter f keys) key
has_key_filter f [] key e h = absurd h
has_key_filter f (first ∷ keys) key e h = by (f first) refl (λ g. has_key_filter f keys key e g) h
  where
    by : (b : Bool) → f first ≡ b → (HasKey keys key → HasKey (filter f keys) key) → (first ≡ key) ⊎ HasKey keys key → HasKey (cond b (first ∷ filter f keys) (filter f keys)) key
    by true q rec g = ⊎_elim (λ same. inl same) (λ later. inr (rec later)) g
    by false q rec g = ⊎_elim (λ same. let clash : true ≡ false = sym e ∙ (ap f (sym same) ∙ q) in absurd (cc)) (λ later. rec later) g

-- a path that is there behind a filter was there before it
pub has_before : (f : Row → Bool) (rows : List Row) (path : List (ℕ × List ℕ)) → HasPath (filter f rows) path → HasPath rows path
has_before f [] path h = absurd h
has_before f (row ∷ rows) path h = by (f row) h (λ g. has_before f rows path g)
  where
    by : (b : Bool) → HasPath (cond b (row ∷ filter f rows) (filter f rows)) path → (HasPath (filter f rows) path → HasPath rows path) → (row.path ≡ path) ⊎ HasPath rows path
    by true g rec = ⊎_elim (λ same. inl same) (λ later. inr (rec later)) g
    by false g rec = inr (rec g)

-- each row's path is there
pub each_has : (rows : List Row) → AllByRecursion (λ row. HasPath rows row.path) rows
each_has [] = tt
each_has (row ∷ rows) = (inl refl, all_then (λ r. HasPath rows r.path) (λ r. HasPath (row ∷ rows) r.path) rows (λ r h. inr h) (each_has rows))

-- a root that is there is one of the roots
root_has : (p : ℕ × List ℕ) (rows : List Row) → HasPath rows (p ∷ []) → HasKey (roots rows) p.1
root_has p [] h = absurd h
root_has p (row ∷ rows) h = ⊎_elim (λ same. here same) (λ later. there (root_has p rows later)) h
  where
    here : row.path ≡ p ∷ [] → HasKey (roots (row ∷ rows)) p.1
    here same =
        let one : eqb (length row.path) 1 ≡ true = eq-eqb (length row.path) 1 (ap length same) in
        subst (λ b. HasKey (map (λ r. root_of r.path) (cond b (row ∷ filter (λ r. eqb (length r.path) 1) rows) (filter (λ r. eqb (length r.path) 1) rows))) p.1) (sym one)
        (inl (ap root_of same))

    there : HasKey (roots rows) p.1 → HasKey (roots (row ∷ rows)) p.1
    there later =
        elim (eqb (length row.path) 1) as (λ b. HasKey (map (λ r. root_of r.path) (cond b (row ∷ filter (λ r. eqb (length r.path) 1) rows) (filter (λ r. eqb (length r.path) 1) rows))) p.1) [
          | true ↦ inr later
          | false ↦ later
        ]

-- rows in order whose roots are all among these keys are their records, key by key
abbrev pub AreByKeys : List SegType → List (List ℕ) → List Row → Type 0
AreByKeys types keys rows =
    IsStrictlySortedBy key_cmp keys → IsStrictlySortedBy row_cmp rows → AllByRecursion (λ r. IsPath types r.path) rows → AllByRecursion (λ r. HasKey keys (root_of r.path)) rows
    → rows ≡ flat_map (λ key. record_of key rows) keys

pub flat_same : {A B : Type 0} (f g : A → List B) (xs : List A) → AllByRecursion (λ x. f x ≡ g x) xs → flat_map f xs ≡ flat_map g xs
flat_same f g [] h = refl
flat_same f g (x ∷ xs) h = λ i. h.0 i ++ flat_same f g xs h.1 i

module _ (types : List SegType) (all : IsHierarchy types) where
  -- what is the root of a row that is there is one of the roots
  pub path_has : (rows : List Row) → AllByRecursion (IsRow types rows) rows → (path : List (ℕ × List ℕ)) → HasPath rows path → HasKey (roots rows) (root_of path)
  path_has rows each [] h =
      let found = has_with (IsRow types rows) rows [] each h in
      absurd (subst (IsPath types) found.1 found.2.path)
  path_has rows each (p ∷ path) h = root_has p rows (front_there types rows each p [] path h)

  -- roots of one segment in hierarchic order are keys in order
  less_keys : (a b : List (ℕ × List ℕ)) → IsPath types a → IsPath types b → length a ≡ 1 → length b ≡ 1 → path_cmp a b ≡ Less → key_cmp (root_of a) (root_of b) ≡ Less
  less_keys [] b ha hb la lb e = absurd ha
  less_keys (p ∷ q ∷ a) b ha hb la lb e = absurd (cc)
  less_keys (p ∷ []) [] ha hb la lb e = absurd hb
  less_keys (p ∷ []) (q ∷ r ∷ b) ha hb la lb e = absurd (cc)
  less_keys (p ∷ []) (q ∷ []) ha hb la lb e = by (key_cmp p.1 q.1) refl
    where
      by : (o : Ordering) → key_cmp p.1 q.1 ≡ o → key_cmp p.1 q.1 ≡ Less
      by Less f = f
      by Equal f =
          let tp : p.0 ≡ 1 = root_type types all p ha.0 in
          let tq : q.0 ≡ 1 = root_type types all q hb.0 in
          let key : p.1 ≡ q.1 = exact_bytes p.1 q.1 f in
          let same : p ∷ [] ≡ q ∷ [] = λ i. ((tp ∙ sym tq) i, key i) ∷ [] in
          not_less_itself path_total (p ∷ []) (ap (path_cmp (p ∷ [])) same ∙ e)
      by Greater f =
          not_less_itself path_total (p ∷ [])
          (path_total.trans (p ∷ []) (q ∷ []) (p ∷ []) e (root_less types all (q ∷ []) (p ∷ []) hb ha (turned_greater key_total p.1 q.1 f)))

  sorted_keys : (rows : List Row) → IsStrictlySortedBy row_cmp rows → AllByRecursion (λ r. IsPath types r.path × (length r.path ≡ 1)) rows
      → IsStrictlySortedBy key_cmp (map (λ r. root_of r.path) rows)
  unfolding IsStrictlySortedBy
  sorted_keys [] s h = tt
  sorted_keys (row ∷ rows) s h = (
    all_mapped (λ r. root_of r.path) (λ k. key_cmp (root_of row.path) k ≡ Less) rows
        (all_both (λ r. row_cmp row r ≡ Less) (λ r. IsPath types r.path × (length r.path ≡ 1)) (λ r. key_cmp (root_of row.path) (root_of r.path) ≡ Less) rows
        (λ r less g. less_keys row.path r.path h.0.0 g.0 h.0.1 g.1 less) s.0 h.1),
    sorted_keys rows s.1 h.1,
  )
    where
      all_mapped : {A B : Type 0} (f : A → B) (P : B → Type 0) (xs : List A) → AllByRecursion (λ x. P (f x)) xs → AllByRecursion P (map f xs)
      all_mapped f P [] g = tt
      all_mapped f P (x ∷ xs) g = (g.0, all_mapped f P xs g.1)

  pub by_keys : (keys : List (List ℕ)) (rows : List Row) → AreByKeys types keys rows
  by_keys [] [] s ascending paths h = refl
  by_keys [] (row ∷ rows) s ascending paths h = absurd h.0
  by_keys (key ∷ keys) rows s ascending paths h =
      split_at_root key rows (rising types all rows ascending paths)
      ∙ (λ i. none i ++ record_of key rows ++ rest (by_keys keys (rows_after key rows)) i)
    where
      up : AllByRecursion (λ k. key_cmp key k ≡ Less) keys
      up = sorted_head key_cmp key keys s

      has_less : (k : List ℕ) (ks : List (List ℕ)) → AllByRecursion (λ x. key_cmp key x ≡ Less) ks → HasKey ks k → key_cmp key k ≡ Less
      has_less k [] g m = absurd m
      has_less k (x ∷ ks) g m = ⊎_elim (λ same. ap (key_cmp key) (sym same) ∙ g.0) (λ later. has_less k ks g.1 later) m

      none : rows_before key rows ≡ []
      none =
          filter_none (λ r. is_gt (key_cmp key (root_of r.path))) rows
          (all_then (λ r. HasKey (key ∷ keys) (root_of r.path)) (λ r. is_gt (key_cmp key (root_of r.path)) ≡ false) rows
          (λ r g. ⊎_elim (λ same. ap is_gt (ap (key_cmp key) (sym same) ∙ tied_itself key_total key)) (λ later. ap is_gt (has_less (root_of r.path) keys up later)) g) h)

      after : AreByKeys types keys (rows_after key rows) → rows_after key rows ≡ flat_map (λ k. record_of k (rows_after key rows)) keys
      after later_by_keys =
          later_by_keys (sorted_tail key_cmp key keys s)
          (sorted_filter row_cmp (λ r. is_lt (key_cmp key (root_of r.path))) rows ascending)
          (all_filter (λ r. IsPath types r.path) (λ r. is_lt (key_cmp key (root_of r.path))) rows paths)
          (all_both (λ r. HasKey (key ∷ keys) (root_of r.path)) (λ r. is_lt (key_cmp key (root_of r.path)) ≡ true) (λ r. HasKey keys (root_of r.path)) (rows_after key rows)
          (λ r g e. ⊎_elim (λ same. not_less_itself key_total key (ap (key_cmp key) same ∙ is_lt-true _ e)) (λ later. later) g)
          (all_filter (λ r. HasKey (key ∷ keys) (root_of r.path)) (λ r. is_lt (key_cmp key (root_of r.path))) rows h)
          (filter_passes (λ r. is_lt (key_cmp key (root_of r.path))) rows))

      kept : (k : List ℕ) → key_cmp key k ≡ Less → record_of k (rows_after key rows) ≡ record_of k rows
      kept k less =
          filter_within (λ r. is_eq (key_cmp k (root_of r.path))) (λ r. is_lt (key_cmp key (root_of r.path)))
          (λ r e. ap is_lt (ap (key_cmp key) (sym (exact_bytes k (root_of r.path) (is_eq-true _ e))) ∙ less)) rows

      rest : AreByKeys types keys (rows_after key rows) → rows_after key rows ≡ flat_map (λ k. record_of k rows) keys
      rest later_by_keys =
          after later_by_keys
          ∙ flat_same (λ k. record_of k (rows_after key rows)) (λ k. record_of k rows) keys
          (all_then (λ k. key_cmp key k ≡ Less) (λ k. record_of k (rows_after key rows) ≡ record_of k rows) keys kept up)

module _ (dbd : Dbd) (all : IsHierarchy dbd.types) (rows : List Row) (valid : AreRows dbd rows) where
  paths : AllByRecursion (λ r. IsPath dbd.types r.path) rows
  paths = all_then (IsRow dbd.types rows) (λ r. IsPath dbd.types r.path) rows (λ r h. h.path) valid.each

  -- the roots are in order
  pub roots_ascending : IsStrictlySortedBy key_cmp (roots rows)
  roots_ascending =
      sorted_keys dbd.types all (filter (λ r. eqb (length r.path) 1) rows) (sorted_filter row_cmp (λ r. eqb (length r.path) 1) rows valid.ascending)
      (all_both (λ r. IsPath dbd.types r.path) (λ r. eqb (length r.path) 1 ≡ true) (λ r. IsPath dbd.types r.path × (length r.path ≡ 1)) (filter (λ r. eqb (length r.path) 1) rows)
      (λ r h e. (h, eqb-true (length r.path) 1 e)) (all_filter (λ r. IsPath dbd.types r.path) (λ r. eqb (length r.path) 1) rows paths)
      (filter_passes (λ r. eqb (length r.path) 1) rows))

  -- each row's root is one of them
  pub each_rooted : AllByRecursion (λ r. HasKey (roots rows) (root_of r.path)) rows
  each_rooted =
      all_then (λ r. HasPath rows r.path) (λ r. HasKey (roots rows) (root_of r.path)) rows (λ r h. path_has dbd.types all rows valid.each r.path h) (each_has rows)

  -- the rows are the records of the roots
  pub by_records : rows ≡ flat_map (λ key. record_of key rows) (roots rows)
  by_records = by_keys dbd.types all (roots rows) rows roots_ascending valid.ascending paths each_rooted

  -- and those behind a root are the records of the roots behind it
  pub after_by_records : (root : List ℕ) → rows_after root rows ≡ flat_map (λ key. record_of key rows) (filter (λ key. is_lt (key_cmp root key)) (roots rows))
  after_by_records root =
      by_keys dbd.types all (filter (λ key. is_lt (key_cmp root key)) (roots rows)) (rows_after root rows)
      (sorted_filter key_cmp (λ key. is_lt (key_cmp root key)) (roots rows) roots_ascending)
      (sorted_filter row_cmp (λ r. is_lt (key_cmp root (root_of r.path))) rows valid.ascending)
      (all_filter (λ r. IsPath dbd.types r.path) (λ r. is_lt (key_cmp root (root_of r.path))) rows paths)
      (all_both (λ r. HasKey (roots rows) (root_of r.path)) (λ r. is_lt (key_cmp root (root_of r.path)) ≡ true)
      (λ r. HasKey (filter (λ key. is_lt (key_cmp root key)) (roots rows)) (root_of r.path)) (rows_after root rows)
      (λ r h e. has_key_filter (λ key. is_lt (key_cmp root key)) (roots rows) (root_of r.path) e h)
      (all_filter (λ r. HasKey (roots rows) (root_of r.path)) (λ r. is_lt (key_cmp root (root_of r.path))) rows each_rooted)
      (filter_passes (λ r. is_lt (key_cmp root (root_of r.path))) rows))
      ∙ flat_same (λ key. record_of key (rows_after root rows)) (λ key. record_of key rows) (filter (λ key. is_lt (key_cmp root key)) (roots rows))
      (all_then (λ key. is_lt (key_cmp root key) ≡ true) (λ key. record_of key (rows_after root rows) ≡ record_of key rows) (filter (λ key. is_lt (key_cmp root key)) (roots rows))
      (λ key e.
      filter_within (λ r. is_eq (key_cmp key (root_of r.path))) (λ r. is_lt (key_cmp root (root_of r.path)))
      (λ r f. ap (λ k. is_lt (key_cmp root k)) (sym (exact_bytes key (root_of r.path) (is_eq-true _ f))) ∙ e) rows)
      (filter_passes (λ key. is_lt (key_cmp root key)) (roots rows)))
