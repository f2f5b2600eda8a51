-- Records in place of others: put twice, put in either order, and what they leave of all others.
use Rattle.std.proofs.Common.{◌≡◌, ◌≢◌, ℕ, ◌++◌, ◌∷◌, [], List, refl, sym, ◌∙◌, ap, Bool, true, false, cond, eqb, arith}
use Rattle.std.specs.Prelude.{filter, map, length}
use Rattle.std.specs.List.{AllByRecursion}
use Rattle.std.specs.Ordering.{is_lt, is_gt, ordering_reverse}
use Rattle.std.specs.declared.cmp.Ordering.{Ordering}
use Rattle.std.specs.declared.cmp.Ordering.TheVariants.{Less, Equal, Greater}
use Rattle.std.proofs.lemmas.List.{append-nil, append_assoc}
use Rattle.std.proofs.lemmas.List.Elements.{filter-append}
use Rattle.std.proofs.lemmas.Cmp.{tied_itself}
use Rattle.std.proofs.lemmas.Map.Lookups.{exact_bytes}
use Rattle.model_data.specs.declared.row.Row.{Row}
use Rattle.model_data.specs.Path.{key_cmp, root_of}
use Rattle.model_data.specs.Rows.{record_of, rows_before, rows_after, with_record, roots}
use Rattle.model_data.proofs.Order.{key_total}
use Rattle.model_data.proofs.Lists.{all_then}
use Rattle.model_data.proofs.Filters.{filter_all, filter_none, filter_within, filter_apart, filter_passes}
use Rattle.model_data.proofs.Records.{HaveRoot, is_gt-true, record_rooted, with_record_itself, with_record_other}
use Rattle.model_data.proofs.Roots.{roots_append}
use Rattle.model_data.proofs.Reading.{is_lt-true}

-- ---- filters
-- filters in either order
filters_turned : {A : Type 0} (p q : A → Bool) (xs : List A) → filter p (filter q xs) ≡ filter q (filter p xs)
filters_turned p q [] = refl
filters_turned p q (x ∷ xs) = by (p x) refl (q x) refl (filters_turned p q xs)
  where
    by : (b : Bool) → p x ≡ b → (c : Bool) → q x ≡ c → filter p (filter q xs) ≡ filter q (filter p xs)
        → filter p (cond (q x) (x ∷ filter q xs) (filter q xs)) ≡ filter q (cond (p x) (x ∷ filter p xs) (filter p xs))
    by true e true f rec =
        ap (λ c. filter p (cond c (x ∷ filter q xs) (filter q xs))) f
        ∙ (ap (λ b. cond b (x ∷ filter p (filter q xs)) (filter p (filter q xs))) e
        ∙ (ap (λ ys. x ∷ ys) rec
        ∙ (sym (ap (λ c. cond c (x ∷ filter q (filter p xs)) (filter q (filter p xs))) f)
        ∙ sym (ap (λ b. filter q (cond b (x ∷ filter p xs) (filter p xs))) e))))
    by true e false f rec =
        ap (λ c. filter p (cond c (x ∷ filter q xs) (filter q xs))) f
        ∙ (rec
        ∙ (sym (ap (λ c. cond c (x ∷ filter q (filter p xs)) (filter q (filter p xs))) f)
        ∙ sym (ap (λ b. filter q (cond b (x ∷ filter p xs) (filter p xs))) e)))
    by false e true f rec =
        ap (λ c. filter p (cond c (x ∷ filter q xs) (filter q xs))) f
        ∙ (ap (λ b. cond b (x ∷ filter p (filter q xs)) (filter p (filter q xs))) e
        ∙ (rec ∙ sym (ap (λ b. filter q (cond b (x ∷ filter p xs) (filter p xs))) e)))
    by false e false f rec =
        ap (λ c. filter p (cond c (x ∷ filter q xs) (filter q xs))) f
        ∙ (rec ∙ sym (ap (λ b. filter q (cond b (x ∷ filter p xs) (filter p xs))) e))

-- a filter over what another keeps, all of which it keeps
filter_beyond : {A : Type 0} (p q : A → Bool) → ((x : A) → q x ≡ true → p x ≡ true) → (xs : List A) → filter p (filter q xs) ≡ filter q xs
filter_beyond p q sub xs = filter_all p (filter q xs) (all_then (λ x. q x ≡ true) (λ x. p x ≡ true) (filter q xs) sub (filter_passes q xs))

filter_parts : {A : Type 0} (p : A → Bool) (a b c : List A) → filter p (a ++ b ++ c) ≡ filter p a ++ filter p b ++ filter p c
filter_parts p a b c = filter-append p (a ++ b) c ∙ ap (λ xs. xs ++ filter p c) (filter-append p a b)

-- ---- keys
less_back : (a b : List ℕ) → key_cmp a b ≡ Less → key_cmp b a ≡ Greater
less_back a b e = key_total.antisymm b a ∙ ap ordering_reverse e

greater_back : (a b : List ℕ) → key_cmp a b ≡ Greater → key_cmp b a ≡ Less
greater_back a b e = key_total.antisymm b a ∙ ap ordering_reverse e

abbrev before : List ℕ → Row → Bool
before root row = is_gt (key_cmp root (root_of row.path))

abbrev after : List ℕ → Row → Bool
after root row = is_lt (key_cmp root (root_of row.path))

-- what is before a root is before any higher one, and what is after a root is after any lower one
before_higher : (low high : List ℕ) → key_cmp low high ≡ Less → (row : Row) → before low row ≡ true → before high row ≡ true
before_higher low high e row h =
    ap is_gt (less_back (root_of row.path) high (key_total.trans (root_of row.path) low high (greater_back low (root_of row.path) (is_gt-true _ h)) e))

after_lower : (low high : List ℕ) → key_cmp low high ≡ Less → (row : Row) → after high row ≡ true → after low row ≡ true
after_lower low high e row h = ap is_lt (key_total.trans low high (root_of row.path) e (is_lt-true _ h))

-- nothing is before the lower of two roots and after the higher one
not_before_lower : (low high : List ℕ) → key_cmp low high ≡ Less → (row : Row) → after high row ≡ true → before low row ≡ false
not_before_lower low high e row h = ap is_gt (key_total.trans low high (root_of row.path) e (is_lt-true _ h))

not_after_higher : (low high : List ℕ) → key_cmp low high ≡ Less → (row : Row) → before low row ≡ true → after high row ≡ false
not_after_higher low high e row h =
    ap is_lt (less_back (root_of row.path) high (key_total.trans (root_of row.path) low high (greater_back low (root_of row.path) (is_gt-true _ h)) e))

-- a test of the root, on rows that all have one root
rooted : (f : List ℕ → Bool) (root : List ℕ) (b : Bool) (rows : List Row) → f root ≡ b → HaveRoot root rows → AllByRecursion (λ row. f (root_of row.path) ≡ b) rows
rooted f root b rows e h = all_then (λ row. root_of row.path ≡ root) (λ row. f (root_of row.path) ≡ b) rows (λ row g. ap f g ∙ e) h

-- ---- one record put twice
pub put_again : (root : List ℕ) (a b rows : List Row) → HaveRoot root b → with_record root a (with_record root b rows) ≡ with_record root a rows
put_again root a b rows h = λ i. front i ++ a ++ back i
  where
    tied : key_cmp root root ≡ Equal
    tied = tied_itself key_total root

    front : rows_before root (with_record root b rows) ≡ rows_before root rows
    front =
        filter_parts (before root) (rows_before root rows) b (rows_after root rows)
        ∙ ((λ i. filter_within (before root) (before root) (λ row e. e) rows i
        ++ filter_none (before root) b (rooted (λ k. is_gt (key_cmp root k)) root false b (ap is_gt tied) h) i
        ++ filter_apart (before root) (after root) (λ row e. ap is_gt (is_lt-true _ e)) rows i)
        ∙ (append-nil (rows_before root rows ++ []) ∙ append-nil (rows_before root rows)))

    back : rows_after root (with_record root b rows) ≡ rows_after root rows
    back =
        filter_parts (after root) (rows_before root rows) b (rows_after root rows)
        ∙ (λ i. filter_apart (after root) (before root) (λ row e. ap is_lt (is_gt-true _ e)) rows i
        ++ filter_none (after root) b (rooted (λ k. is_lt (key_cmp root k)) root false b (ap is_lt tied) h) i
        ++ filter_within (after root) (after root) (λ row e. e) rows i)

-- ---- two records, of which the first has the lower root
module _ (low high : List ℕ) (a b : List Row) (less : key_cmp low high ≡ Less) (root_a : HaveRoot low a) (root_b : HaveRoot high b) (rows : List Row) where
  abbrev middle : List Row
  middle = filter (after low) (rows_before high rows)

  low_last : with_record low a (with_record high b rows) ≡ rows_before low rows ++ a ++ (middle ++ b ++ rows_after high rows)
  low_last = λ i. front i ++ a ++ back i
    where
      front : rows_before low (with_record high b rows) ≡ rows_before low rows
      front =
          filter_parts (before low) (rows_before high rows) b (rows_after high rows)
          ∙ ((λ i. filter_within (before low) (before high) (before_higher low high less) rows i
          ++ filter_none (before low) b (rooted (λ k. is_gt (key_cmp low k)) high false b (ap is_gt less) root_b) i
          ++ filter_apart (before low) (after high) (not_before_lower low high less) rows i)
          ∙ (append-nil (rows_before low rows ++ []) ∙ append-nil (rows_before low rows)))

      back : rows_after low (with_record high b rows) ≡ middle ++ b ++ rows_after high rows
      back =
          filter_parts (after low) (rows_before high rows) b (rows_after high rows)
          ∙ (λ i. middle
          ++ filter_all (after low) b (rooted (λ k. is_lt (key_cmp low k)) high true b (ap is_lt less) root_b) i
          ++ filter_beyond (after low) (after high) (after_lower low high less) rows i)

  high_last : with_record high b (with_record low a rows) ≡ (rows_before low rows ++ a ++ middle) ++ b ++ rows_after high rows
  high_last = λ i. front i ++ b ++ back i
    where
      greater : key_cmp high low ≡ Greater
      greater = less_back low high less

      front : rows_before high (with_record low a rows) ≡ rows_before low rows ++ a ++ middle
      front =
          filter_parts (before high) (rows_before low rows) a (rows_after low rows)
          ∙ (λ i. filter_beyond (before high) (before low) (before_higher low high less) rows i
          ++ filter_all (before high) a (rooted (λ k. is_gt (key_cmp high k)) low true a (ap is_gt greater) root_a) i
          ++ filters_turned (before high) (after low) rows i)

      back : rows_after high (with_record low a rows) ≡ rows_after high rows
      back =
          filter_parts (after high) (rows_before low rows) a (rows_after low rows)
          ∙ (λ i. filter_apart (after high) (before low) (not_after_higher low high less) rows i
          ++ filter_none (after high) a (rooted (λ k. is_lt (key_cmp high k)) low false a (ap is_lt greater) root_a) i
          ++ filter_within (after high) (after low) (after_lower low high less) rows i)

  regroup : (x y z u v : List Row) → x ++ y ++ (z ++ u ++ v) ≡ (x ++ y ++ z) ++ u ++ v
  regroup x y z u v = grind (arith, append_assoc)

  lower_first : with_record low a (with_record high b rows) ≡ with_record high b (with_record low a rows)
  lower_first = low_last ∙ (regroup (rows_before low rows) a middle b (rows_after high rows) ∙ sym high_last)

-- ---- two records in either order
pub put_both : (root key : List ℕ) (a b rows : List Row) → HaveRoot root a → HaveRoot key b → key_cmp root key ≢ Equal
    → with_record root a (with_record key b rows) ≡ with_record key b (with_record root a rows)
put_both root key a b rows root_a root_b other = by (key_cmp root key) refl
  where
    by : (o : Ordering) → key_cmp root key ≡ o → with_record root a (with_record key b rows) ≡ with_record key b (with_record root a rows)
    by Less e = lower_first root key a b e root_a root_b rows
    by Equal e = absurd (other e)
    by Greater e = sym (lower_first key root b a (greater_back root key e) root_b root_a rows)

-- A record put over a change of rows: it is the same as the change of rows that have it, in which the record
-- changes to the image too.
pub put_over : (root key : List ℕ) (image from rows : List Row) → HaveRoot root image
    → with_record root image (with_record key (record_of key from) rows)
    ≡ with_record key (record_of key (with_record root image from)) (with_record root image rows)
put_over root key image from rows h = by (key_cmp root key) refl
  where
    other_way : key_cmp root key ≢ Equal → with_record root image (with_record key (record_of key from) rows)
        ≡ with_record key (record_of key (with_record root image from)) (with_record root image rows)
    other_way other =
        put_both root key image (record_of key from) rows h (record_rooted key from) other
        ∙ ap (λ r. with_record key r (with_record root image rows)) (sym (with_record_other root key image from h other))

    by : (o : Ordering) → key_cmp root key ≡ o → with_record root image (with_record key (record_of key from) rows)
        ≡ with_record key (record_of key (with_record root image from)) (with_record root image rows)
    by Less e = other_way (λ f. let clash : Less ≡ Equal = sym e ∙ f in absurd (cc))
    by Equal e =
        let same : root ≡ key = exact_bytes root key e in
        ap (λ k. with_record root image (with_record k (record_of k from) rows)) (sym same)
        ∙ (put_again root image (record_of root from) rows (record_rooted root from)
        ∙ (sym (put_again root image image rows h)
        ∙ (ap (λ r. with_record root r (with_record root image rows)) (sym (with_record_itself root image from h))
        ∙ ap (λ k. with_record k (record_of k (with_record root image from)) (with_record root image rows)) same)))
    by Greater e = other_way (λ f. let clash : Greater ≡ Equal = sym e ∙ f in absurd (cc))

-- ---- what two lists of rows agree on they agree on with the same record in place
pub record_alike : (root key : List ℕ) (image a b : List Row) → HaveRoot root image → record_of key a ≡ record_of key b
    → record_of key (with_record root image a) ≡ record_of key (with_record root image b)
record_alike root key image a b h same = by (key_cmp key root) refl
  where
    apart : key_cmp key root ≢ Equal → record_of key (with_record root image a) ≡ record_of key (with_record root image b)
    apart other =
        let turned : key_cmp root key ≢ Equal = λ e. other (key_total.antisymm key root ∙ ap ordering_reverse e) in
        with_record_other root key image a h turned ∙ (same ∙ sym (with_record_other root key image b h turned))

    by : (o : Ordering) → key_cmp key root ≡ o → record_of key (with_record root image a) ≡ record_of key (with_record root image b)
    by Less e = apart (λ f. let clash : Less ≡ Equal = sym e ∙ f in absurd (cc))
    by Equal e =
        let same_key : key ≡ root = exact_bytes key root e in
        ap (λ k. record_of k (with_record root image a)) same_key
        ∙ (with_record_itself root image a h
        ∙ (sym (with_record_itself root image b h) ∙ ap (λ k. record_of k (with_record root image b)) (sym same_key)))
    by Greater e = apart (λ f. let clash : Greater ≡ Equal = sym e ∙ f in absurd (cc))

-- the roots of rows that are picked by their roots
abbrev picked_by : (List ℕ → Bool) → List Row → List Row
picked_by f rows = filter (λ row. f (root_of row.path)) rows

roots_picked : (f : List ℕ → Bool) (rows : List Row) → roots (filter (λ row. f (root_of row.path)) rows) ≡ filter f (roots rows)
roots_picked f [] = refl
roots_picked f (row ∷ rows) = by (f (root_of row.path)) refl (eqb (length row.path) 1) refl (roots_picked f rows)
  where
    by : (b : Bool) → f (root_of row.path) ≡ b → (c : Bool) → eqb (length row.path) 1 ≡ c → roots (picked_by f rows) ≡ filter f (roots rows)
        → roots (cond (f (root_of row.path)) (row ∷ picked_by f rows) (picked_by f rows))
        ≡ filter f (map (λ r. root_of r.path) (cond (eqb (length row.path) 1) (row ∷ filter (λ r. eqb (length r.path) 1) rows) (filter (λ r. eqb (length r.path) 1) rows)))
    by true e true g rec =
        ap (λ b. roots (cond b (row ∷ picked_by f rows) (picked_by f rows))) e
        ∙ (ap (λ c. map (λ r. root_of r.path) (cond c (row ∷ filter (λ r. eqb (length r.path) 1) (picked_by f rows)) (filter (λ r. eqb (length r.path) 1) (picked_by f rows)))) g
        ∙ (ap (λ ks. root_of row.path ∷ ks) rec
        ∙ (sym (ap (λ b. cond b (root_of row.path ∷ filter f (roots rows)) (filter f (roots rows))) e)
        ∙ sym (ap (λ c. filter f (map (λ r. root_of r.path) (cond c (row ∷ filter (λ r. eqb (length r.path) 1) rows) (filter (λ r. eqb (length r.path) 1) rows)))) g))))
    by true e false g rec =
        ap (λ b. roots (cond b (row ∷ picked_by f rows) (picked_by f rows))) e
        ∙ (ap (λ c. map (λ r. root_of r.path) (cond c (row ∷ filter (λ r. eqb (length r.path) 1) (picked_by f rows)) (filter (λ r. eqb (length r.path) 1) (picked_by f rows)))) g
        ∙ (rec ∙ sym (ap (λ c. filter f (map (λ r. root_of r.path) (cond c (row ∷ filter (λ r. eqb (length r.path) 1) rows) (filter (λ r. eqb (length r.path) 1) rows)))) g)))
    by false e true g rec =
        ap (λ b. roots (cond b (row ∷ picked_by f rows) (picked_by f rows))) e
        ∙ (rec
        ∙ (sym (ap (λ b. cond b (root_of row.path ∷ filter f (roots rows)) (filter f (roots rows))) e)
        ∙ sym (ap (λ c. filter f (map (λ r. root_of r.path) (cond c (row ∷ filter (λ r. eqb (length r.path) 1) rows) (filter (λ r. eqb (length r.path) 1) rows)))) g)))
    by false e false g rec =
        ap (λ b. roots (cond b (row ∷ picked_by f rows) (picked_by f rows))) e
        ∙ (rec ∙ sym (ap (λ c. filter f (map (λ r. root_of r.path) (cond c (row ∷ filter (λ r. eqb (length r.path) 1) rows) (filter (λ r. eqb (length r.path) 1) rows)))) g))

pub roots_alike : (root : List ℕ) (image a b : List Row) → roots a ≡ roots b → roots (with_record root image a) ≡ roots (with_record root image b)
roots_alike root image a b same = parts a ∙ (ap (λ ks. filter (λ k. is_gt (key_cmp root k)) ks ++ roots image ++ filter (λ k. is_lt (key_cmp root k)) ks) same ∙ sym (parts b))
  where
    parts : (rows : List Row) → roots (with_record root image rows)
        ≡ filter (λ k. is_gt (key_cmp root k)) (roots rows) ++ roots image ++ filter (λ k. is_lt (key_cmp root k)) (roots rows)
    parts rows =
        roots_append (rows_before root rows ++ image) (rows_after root rows)
        ∙ (ap (λ ks. ks ++ roots (rows_after root rows)) (roots_append (rows_before root rows) image)
        ∙ (λ i. roots_picked (λ k. is_gt (key_cmp root k)) rows i ++ roots image ++ roots_picked (λ k. is_lt (key_cmp root k)) rows i))
