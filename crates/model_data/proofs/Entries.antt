-- Records that are kept by their roots, in the order of the keys.
use Rattle.std.proofs.Common.{◌≡◌, ℕ, ◌++◌, ◌∷◌, [], List, refl, sym, ◌∙◌, ap, Bool, true, false, cond, Some, append_assoc}
use Rattle.std.specs.List.{AllByRecursion, filter}
use Rattle.std.specs.Prelude.{map}
use Rattle.std.specs.List.Sorted.{IsStrictlySortedBy}
use Rattle.std.specs.Option.{unwrap_or}
use Rattle.std.specs.Ordering.{is_lt, is_eq, is_gt, match_ordering}
use Rattle.std.specs.declared.cmp.Ordering.{Ordering}
use Rattle.std.specs.declared.cmp.Ordering.TheVariants.{Less, Equal, Greater}
use Rattle.std.specs.BTreeMap.{insert_entry, is_at}
use Rattle.std.specs.Map.{keys_of, lookup, remove_entry}
use Rattle.std.proofs.lemmas.Map.Lookups.{exact_bytes}
use Rattle.std.proofs.lemmas.List.{append-nil}
use Rattle.std.proofs.lemmas.List.Elements.{filter-append}
use Rattle.model_data.specs.declared.row.Row.{Row}
use Rattle.model_data.specs.Path.{key_cmp, root_of}
use Rattle.model_data.specs.Rows.{record_of, rows_before, rows_after, with_record, rows_of_records}
use Rattle.model_data.proofs.Order.{key_total}
use Rattle.model_data.proofs.Lists.{all_append, all_then}
use Rattle.model_data.proofs.Filters.{filter_all, filter_none}
use Rattle.model_data.proofs.Records.{HaveRoot}

pub all_map : {A B : Type 0} (f : A → B) (P : B → Type 0) (xs : List A) → AllByRecursion P (map f xs) → AllByRecursion (λ x. P (f x)) xs
all_map f P [] h = tt
all_map f P (x ∷ xs) h = (h.0, all_map f P xs h.1)

-- the first key is before the keys of the other entries
pub first_key : {X : Type 0} (e : List ℕ × X) (es : List (List ℕ × X)) → IsStrictlySortedBy key_cmp (keys_of (e ∷ es)) → AllByRecursion (λ f. key_cmp e.0 f.0 ≡ Less) es
unfolding IsStrictlySortedBy
first_key e es h = all_map (λ f. f.0) (λ k. key_cmp e.0 k ≡ Less) es h.0

pub other_keys : {X : Type 0} (e : List ℕ × X) (es : List (List ℕ × X)) → IsStrictlySortedBy key_cmp (keys_of (e ∷ es)) → IsStrictlySortedBy key_cmp (keys_of es)
unfolding IsStrictlySortedBy
other_keys e es h = h.1

-- a filter by roots keeps a whole record or nothing of it
keep_record : (f : List ℕ → Bool) (root : List ℕ) (rows more : List Row) → HaveRoot root rows → f root ≡ true
    → filter (λ row. f (root_of row.path)) (rows ++ more) ≡ rows ++ filter (λ row. f (root_of row.path)) more
keep_record f root rows more h e =
    filter-append (λ row. f (root_of row.path)) rows more
    ∙ ap (λ rs. rs ++ filter (λ row. f (root_of row.path)) more)
    (filter_all (λ row. f (root_of row.path)) rows (all_then (λ row. root_of row.path ≡ root) (λ row. f (root_of row.path) ≡ true) rows (λ row g. ap f g ∙ e) h))

skip_record : (f : List ℕ → Bool) (root : List ℕ) (rows more : List Row) → HaveRoot root rows → f root ≡ false
    → filter (λ row. f (root_of row.path)) (rows ++ more) ≡ filter (λ row. f (root_of row.path)) more
skip_record f root rows more h e =
    filter-append (λ row. f (root_of row.path)) rows more
    ∙ ap (λ rs. rs ++ filter (λ row. f (root_of row.path)) more)
    (filter_none (λ row. f (root_of row.path)) rows (all_then (λ row. root_of row.path ≡ root) (λ row. f (root_of row.path) ≡ false) rows (λ row g. ap f g ∙ e) h))

-- each of the rows has a greater root
abbrev pub AreAfter : List ℕ → List Row → Type 0
AreAfter key rows = AllByRecursion (λ row. key_cmp key (root_of row.path) ≡ Less) rows

no_record : (key : List ℕ) (rows : List Row) → AreAfter key rows → record_of key rows ≡ []
no_record key rows h =
    filter_none (λ row. is_eq (key_cmp key (root_of row.path))) rows
    (all_then (λ row. key_cmp key (root_of row.path) ≡ Less) (λ row. is_eq (key_cmp key (root_of row.path)) ≡ false) rows (λ row e. ap is_eq e) h)

none_before : (key : List ℕ) (rows : List Row) → AreAfter key rows → rows_before key rows ≡ []
none_before key rows h =
    filter_none (λ row. is_gt (key_cmp key (root_of row.path))) rows
    (all_then (λ row. key_cmp key (root_of row.path) ≡ Less) (λ row. is_gt (key_cmp key (root_of row.path)) ≡ false) rows (λ row e. ap is_gt e) h)

all_after : (key : List ℕ) (rows : List Row) → AreAfter key rows → rows_after key rows ≡ rows
all_after key rows h =
    filter_all (λ row. is_lt (key_cmp key (root_of row.path))) rows
    (all_then (λ row. key_cmp key (root_of row.path) ≡ Less) (λ row. is_lt (key_cmp key (root_of row.path)) ≡ true) rows (λ row e. ap is_lt e) h)

-- each entry has rows of its key
abbrev pub AreRooted : List (List ℕ × List Row) → Type 0
AreRooted es = AllByRecursion (λ e. HaveRoot e.0 e.1) es

-- entries of greater keys have rows of greater roots
pub rows_after_key : (key : List ℕ) (es : List (List ℕ × List Row)) → AreRooted es → AllByRecursion (λ e. key_cmp key e.0 ≡ Less) es → AreAfter key (rows_of_records es)
rows_after_key key [] h g = tt
rows_after_key key (e ∷ es) h g =
    all_append (λ row. key_cmp key (root_of row.path) ≡ Less) e.1 (rows_of_records es)
    (all_then (λ row. root_of row.path ≡ e.0) (λ row. key_cmp key (root_of row.path) ≡ Less) e.1 (λ row f. ap (key_cmp key) f ∙ g.0) h.0)
    (rows_after_key key es h.1 g.1)

-- what is below the first key is below all
pub keys_above : {X : Type 0} (key : List ℕ) (e : List ℕ × X) (es : List (List ℕ × X)) → IsStrictlySortedBy key_cmp (keys_of (e ∷ es)) → key_cmp key e.0 ≡ Less
    → AllByRecursion (λ f. key_cmp key f.0 ≡ Less) es
keys_above key e es h up = all_then (λ f. key_cmp e.0 f.0 ≡ Less) (λ f. key_cmp key f.0 ≡ Less) es (λ f g. key_total.trans key e.0 f.0 up g) (first_key e es h)

pub keys_above_equal : {X : Type 0} (key : List ℕ) (e : List ℕ × X) (es : List (List ℕ × X)) → IsStrictlySortedBy key_cmp (keys_of (e ∷ es)) → key_cmp key e.0 ≡ Equal
    → AllByRecursion (λ f. key_cmp key f.0 ≡ Less) es
keys_above_equal key e es h up = all_then (λ f. key_cmp e.0 f.0 ≡ Less) (λ f. key_cmp key f.0 ≡ Less) es (λ f g. ap (λ k. key_cmp k f.0) (exact_bytes key e.0 up) ∙ g) (first_key e es h)

-- the record of a key is the entry's
pub entries_record : (key : List ℕ) (es : List (List ℕ × List Row)) → IsStrictlySortedBy key_cmp (keys_of es) → AreRooted es
    → record_of key (rows_of_records es) ≡ unwrap_or (lookup (is_at (key_cmp key)) es) []
entries_record key [] s h = refl
entries_record key (e ∷ es) s h = by (key_cmp key e.0) refl (entries_record key es (other_keys e es s) h.1)
  where
    here : (o : Ordering) → key_cmp key e.0 ≡ o → lookup (is_at (key_cmp key)) (e ∷ es) ≡ cond (is_eq o) (Some e.1) (lookup (is_at (key_cmp key)) es)
    here o q = ap (λ p. cond (is_eq p) (Some e.1) (lookup (is_at (key_cmp key)) es)) q

    by : (o : Ordering) → key_cmp key e.0 ≡ o → record_of key (rows_of_records es) ≡ unwrap_or (lookup (is_at (key_cmp key)) es) []
        → record_of key (e.1 ++ rows_of_records es) ≡ unwrap_or (lookup (is_at (key_cmp key)) (e ∷ es)) []
    by Less q rec = skip_record (λ k. is_eq (key_cmp key k)) e.0 e.1 (rows_of_records es) h.0 (ap is_eq q) ∙ (rec ∙ ap (λ r. unwrap_or r []) (sym (here Less q)))
    by Greater q rec = skip_record (λ k. is_eq (key_cmp key k)) e.0 e.1 (rows_of_records es) h.0 (ap is_eq q) ∙ (rec ∙ ap (λ r. unwrap_or r []) (sym (here Greater q)))
    by Equal q rec =
        keep_record (λ k. is_eq (key_cmp key k)) e.0 e.1 (rows_of_records es) h.0 (ap is_eq q)
        ∙ (ap (λ rs. e.1 ++ rs) (no_record key (rows_of_records es) (rows_after_key key es h.1 (keys_above_equal key e es s q)))
        ∙ (append-nil e.1 ∙ ap (λ r. unwrap_or r []) (sym (here Equal q))))

-- to insert an entry is to replace the record
pub entries_insert : (key : List ℕ) (image : List Row) (es : List (List ℕ × List Row)) → IsStrictlySortedBy key_cmp (keys_of es) → AreRooted es
    → rows_of_records (insert_entry key_cmp es key image) ≡ with_record key image (rows_of_records es)
entries_insert key image [] s h = refl
entries_insert key image (e ∷ es) s h = by (key_cmp key e.0) refl (entries_insert key image es (other_keys e es s) h.1)
  where
    here : (o : Ordering) → key_cmp key e.0 ≡ o → rows_of_records (insert_entry key_cmp (e ∷ es) key image)
        ≡ rows_of_records (match_ordering o ((key, image) ∷ e ∷ es) ((e.0, image) ∷ es) (e ∷ insert_entry key_cmp es key image))
    here o q = ap (λ p. rows_of_records (match_ordering p ((key, image) ∷ e ∷ es) ((e.0, image) ∷ es) (e ∷ insert_entry key_cmp es key image))) q

    by : (o : Ordering) → key_cmp key e.0 ≡ o → rows_of_records (insert_entry key_cmp es key image) ≡ with_record key image (rows_of_records es)
        → rows_of_records (insert_entry key_cmp (e ∷ es) key image) ≡ with_record key image (e.1 ++ rows_of_records es)
    by Less q rec =
        let up : AreAfter key (rows_of_records (e ∷ es)) = rows_after_key key (e ∷ es) h (q, keys_above key e es s q) in
        here Less q ∙ (λ i. sym (none_before key (rows_of_records (e ∷ es)) up) i ++ image ++ sym (all_after key (rows_of_records (e ∷ es)) up) i)
    by Equal q rec =
        let up : AreAfter key (rows_of_records es) = rows_after_key key es h.1 (keys_above_equal key e es s q) in
        let b : rows_before key (e.1 ++ rows_of_records es) ≡ [] =
        skip_record (λ k. is_gt (key_cmp key k)) e.0 e.1 (rows_of_records es) h.0 (ap is_gt q) ∙ none_before key (rows_of_records es) up in
        let a : rows_after key (e.1 ++ rows_of_records es) ≡ rows_of_records es =
        skip_record (λ k. is_lt (key_cmp key k)) e.0 e.1 (rows_of_records es) h.0 (ap is_lt q) ∙ all_after key (rows_of_records es) up in
        here Equal q ∙ (λ i. sym b i ++ image ++ sym a i)
    by Greater q rec =
        let b : rows_before key (e.1 ++ rows_of_records es) ≡ e.1 ++ rows_before key (rows_of_records es) =
        keep_record (λ k. is_gt (key_cmp key k)) e.0 e.1 (rows_of_records es) h.0 (ap is_gt q) in
        let a : rows_after key (e.1 ++ rows_of_records es) ≡ rows_after key (rows_of_records es) =
        skip_record (λ k. is_lt (key_cmp key k)) e.0 e.1 (rows_of_records es) h.0 (ap is_lt q) in
        let regroup : e.1 ++ (rows_before key (rows_of_records es) ++ image ++ rows_after key (rows_of_records es)) ≡ (e.1 ++ rows_before key (rows_of_records es)) ++ image ++ rows_after key (rows_of_records es) =
        simp append_assoc in
        here Greater q ∙ (ap (λ rs. e.1 ++ rs) rec ∙ (regroup ∙ (λ i. sym b i ++ image ++ sym a i)))

-- to remove an entry is to replace the record by nothing
pub entries_remove : (key : List ℕ) (es : List (List ℕ × List Row)) → IsStrictlySortedBy key_cmp (keys_of es) → AreRooted es
    → rows_of_records (remove_entry (is_at (key_cmp key)) es) ≡ with_record key [] (rows_of_records es)
entries_remove key [] s h = refl
entries_remove key (e ∷ es) s h = by (key_cmp key e.0) refl (entries_remove key es (other_keys e es s) h.1)
  where
    here : (o : Ordering) → key_cmp key e.0 ≡ o → rows_of_records (remove_entry (is_at (key_cmp key)) (e ∷ es))
        ≡ rows_of_records (cond (is_eq o) es (e ∷ remove_entry (is_at (key_cmp key)) es))
    here o q = ap (λ p. rows_of_records (cond (is_eq p) es (e ∷ remove_entry (is_at (key_cmp key)) es))) q

    by : (o : Ordering) → key_cmp key e.0 ≡ o → rows_of_records (remove_entry (is_at (key_cmp key)) es) ≡ with_record key [] (rows_of_records es)
        → rows_of_records (remove_entry (is_at (key_cmp key)) (e ∷ es)) ≡ with_record key [] (e.1 ++ rows_of_records es)
    by Less q rec =
        let up : AreAfter key (rows_of_records es) = rows_after_key key es h.1 (keys_above key e es s q) in
        let all : AreAfter key (rows_of_records (e ∷ es)) = rows_after_key key (e ∷ es) h (q, keys_above key e es s q) in
        let rest : with_record key [] (rows_of_records es) ≡ rows_of_records es =
        λ i. none_before key (rows_of_records es) up i ++ [] ++ all_after key (rows_of_records es) up i in
        here Less q ∙ (ap (λ rs. e.1 ++ rs) (rec ∙ rest) ∙ (λ i. sym (none_before key (rows_of_records (e ∷ es)) all) i ++ [] ++ sym (all_after key (rows_of_records (e ∷ es)) all) i))
    by Equal q rec =
        let up : AreAfter key (rows_of_records es) = rows_after_key key es h.1 (keys_above_equal key e es s q) in
        let b : rows_before key (e.1 ++ rows_of_records es) ≡ [] =
        skip_record (λ k. is_gt (key_cmp key k)) e.0 e.1 (rows_of_records es) h.0 (ap is_gt q) ∙ none_before key (rows_of_records es) up in
        let a : rows_after key (e.1 ++ rows_of_records es) ≡ rows_of_records es =
        skip_record (λ k. is_lt (key_cmp key k)) e.0 e.1 (rows_of_records es) h.0 (ap is_lt q) ∙ all_after key (rows_of_records es) up in
        here Equal q ∙ (λ i. sym b i ++ [] ++ sym a i)
    by Greater q rec =
        let b : rows_before key (e.1 ++ rows_of_records es) ≡ e.1 ++ rows_before key (rows_of_records es) =
        keep_record (λ k. is_gt (key_cmp key k)) e.0 e.1 (rows_of_records es) h.0 (ap is_gt q) in
        let a : rows_after key (e.1 ++ rows_of_records es) ≡ rows_after key (rows_of_records es) =
        skip_record (λ k. is_lt (key_cmp key k)) e.0 e.1 (rows_of_records es) h.0 (ap is_lt q) in
        let regroup : e.1 ++ (rows_before key (rows_of_records es) ++ [] ++ rows_after key (rows_of_records es)) ≡ (e.1 ++ rows_before key (rows_of_records es)) ++ [] ++ rows_after key (rows_of_records es) =
        simp append_assoc in
        here Greater q ∙ (ap (λ rs. e.1 ++ rs) rec ∙ (regroup ∙ (λ i. sym b i ++ [] ++ sym a i)))
