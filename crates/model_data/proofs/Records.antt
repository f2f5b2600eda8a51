-- A record in place of another, all others staying.
use Rattle.std.proofs.Common.{◌≡◌, ◌≢◌, ℕ, ◌++◌, [], List, refl, sym, ◌∙◌, ap, Bool, true, false}
use Rattle.std.specs.List.{AllByRecursion}
use Rattle.std.specs.Ordering.{is_lt, is_eq, is_gt, ordering_reverse}
use Rattle.std.specs.declared.cmp.Ordering.{Ordering}
use Rattle.std.specs.declared.cmp.Ordering.TheVariants.{Less, Equal, Greater}
use Rattle.std.proofs.lemmas.Bool.{false≢true}
use Rattle.std.proofs.lemmas.List.{append-nil}
use Rattle.std.proofs.lemmas.List.Elements.{filter-append}
use Rattle.std.proofs.lemmas.Cmp.{tied_itself}
use Rattle.std.proofs.lemmas.Map.Lookups.{exact_bytes}
use Rattle.model_data.specs.declared.row.Row.{Row}
use Rattle.model_data.specs.Path.{key_cmp, root_of}
use Rattle.model_data.specs.Rows.{record_of, rows_before, rows_after, with_record}
use Rattle.model_data.proofs.Order.{key_total}
use Rattle.model_data.proofs.Lists.{all_then}
use Rattle.model_data.proofs.Filters.{filter_all, filter_none, filter_within, filter_apart, filter_passes}
use Rattle.model_data.proofs.Reading.{is_lt-true}

pub is_eq-true : (o : Ordering) → is_eq o ≡ true → o ≡ Equal
is_eq-true Less e = absurd (false≢true e)
is_eq-true Equal e = refl
is_eq-true Greater e = absurd (false≢true e)

pub is_gt-true : (o : Ordering) → is_gt o ≡ true → o ≡ Greater
is_gt-true Less e = absurd (false≢true e)
is_gt-true Equal e = absurd (false≢true e)
is_gt-true Greater e = refl

-- rows that all have one root
abbrev pub HaveRoot : List ℕ → List Row → Type 0
HaveRoot root rows = AllByRecursion (λ row. root_of row.path ≡ root) rows

-- a test of the root answers alike on all of them
rooted_test : (f : List ℕ → Bool) (root : List ℕ) (b : Bool) (rows : List Row) → f root ≡ b → HaveRoot root rows → AllByRecursion (λ row. f (root_of row.path) ≡ b) rows
rooted_test f root b rows e h = all_then (λ row. root_of row.path ≡ root) (λ row. f (root_of row.path) ≡ b) rows (λ row g. ap f g ∙ e) h

pub own_record : (root : List ℕ) (rows : List Row) → HaveRoot root rows → record_of root rows ≡ rows
own_record root rows h =
    filter_all (λ row. is_eq (key_cmp root (root_of row.path))) rows (rooted_test (λ k. is_eq (key_cmp root k)) root true rows (ap is_eq (tied_itself key_total root)) h)

pub other_record : (key root : List ℕ) (rows : List Row) → is_eq (key_cmp key root) ≡ false → HaveRoot root rows → record_of key rows ≡ []
other_record key root rows e h =
    filter_none (λ row. is_eq (key_cmp key (root_of row.path))) rows (rooted_test (λ k. is_eq (key_cmp key k)) root false rows e h)

-- the rows of a record are under its root
pub record_rooted : (root : List ℕ) (rows : List Row) → HaveRoot root (record_of root rows)
record_rooted root rows =
    all_then (λ row. is_eq (key_cmp root (root_of row.path)) ≡ true) (λ row. root_of row.path ≡ root) (record_of root rows)
    (λ row e. sym (exact_bytes root (root_of row.path) (is_eq-true _ e))) (filter_passes (λ row. is_eq (key_cmp root (root_of row.path))) rows)

-- nothing of a record is before or after its root
before_itself : (key : List ℕ) (rows : List Row) → record_of key (rows_before key rows) ≡ []
before_itself key rows =
    filter_apart (λ row. is_eq (key_cmp key (root_of row.path))) (λ row. is_gt (key_cmp key (root_of row.path)))
    (λ row e. ap is_eq (is_gt-true _ e)) rows

after_itself : (key : List ℕ) (rows : List Row) → record_of key (rows_after key rows) ≡ []
after_itself key rows =
    filter_apart (λ row. is_eq (key_cmp key (root_of row.path))) (λ row. is_lt (key_cmp key (root_of row.path)))
    (λ row e. ap is_eq (is_lt-true _ e)) rows

split_record : (key : List ℕ) (a b c : List Row) → record_of key (a ++ b ++ c) ≡ record_of key a ++ record_of key b ++ record_of key c
split_record key a b c =
    filter-append (λ row. is_eq (key_cmp key (root_of row.path))) (a ++ b) c
    ∙ ap (λ rs. rs ++ record_of key c) (filter-append (λ row. is_eq (key_cmp key (root_of row.path))) a b)

-- the replaced record is the image
pub with_record_itself : (root : List ℕ) (image rows : List Row) → HaveRoot root image → record_of root (with_record root image rows) ≡ image
with_record_itself root image rows h =
    split_record root (rows_before root rows) image (rows_after root rows)
    ∙ ((λ i. before_itself root rows i ++ own_record root image h i ++ after_itself root rows i) ∙ append-nil image)

-- all other records stay
pub with_record_other : (root key : List ℕ) (image rows : List Row) → HaveRoot root image → key_cmp root key ≢ Equal
    → record_of key (with_record root image rows) ≡ record_of key rows
with_record_other root key image rows h other = by (key_cmp root key) refl
  where
    apart : is_eq (key_cmp key root) ≡ false
    apart = by' (key_cmp root key) (key_cmp key root) refl (key_total.antisymm key root)
      where
        by' : (o p : Ordering) → key_cmp root key ≡ o → p ≡ ordering_reverse (key_cmp root key) → is_eq p ≡ false
        by' Less p e f = ap is_eq (f ∙ ap ordering_reverse e)
        by' Equal p e f = absurd (other e)
        by' Greater p e f = ap is_eq (f ∙ ap ordering_reverse e)

    same : (k : List ℕ) → is_eq (key_cmp key k) ≡ true → key ≡ k
    same k e = exact_bytes key k (is_eq-true _ e)

    split : record_of key (with_record root image rows) ≡ record_of key (rows_before root rows) ++ [] ++ record_of key (rows_after root rows)
    split =
        split_record key (rows_before root rows) image (rows_after root rows)
        ∙ ap (λ rs. record_of key (rows_before root rows) ++ rs ++ record_of key (rows_after root rows)) (other_record key root image apart h)

    kept_before : key_cmp root key ≡ Greater → record_of key (rows_before root rows) ≡ record_of key rows
    kept_before e =
        filter_within (λ row. is_eq (key_cmp key (root_of row.path))) (λ row. is_gt (key_cmp root (root_of row.path)))
        (λ row f. ap (λ k. is_gt (key_cmp root k)) (sym (same (root_of row.path) f)) ∙ ap is_gt e) rows

    kept_after : key_cmp root key ≡ Less → record_of key (rows_after root rows) ≡ record_of key rows
    kept_after e =
        filter_within (λ row. is_eq (key_cmp key (root_of row.path))) (λ row. is_lt (key_cmp root (root_of row.path)))
        (λ row f. ap (λ k. is_lt (key_cmp root k)) (sym (same (root_of row.path) f)) ∙ ap is_lt e) rows

    gone_before : key_cmp root key ≡ Less → record_of key (rows_before root rows) ≡ []
    gone_before e =
        filter_apart (λ row. is_eq (key_cmp key (root_of row.path))) (λ row. is_gt (key_cmp root (root_of row.path)))
        (λ row g. no_eq (root_of row.path) (λ k. absurd (false≢true (sym (ap is_gt e) ∙ (ap (λ x. is_gt (key_cmp root x)) k ∙ g))))) rows
      where
        no_eq : (k : List ℕ) → (key ≡ k → ⊥) → is_eq (key_cmp key k) ≡ false
        no_eq k f = by'' (is_eq (key_cmp key k)) refl
          where
            by'' : (b : Bool) → is_eq (key_cmp key k) ≡ b → b ≡ false
            by'' true e' = absurd (f (same k e'))
            by'' false e' = refl

    gone_after : key_cmp root key ≡ Greater → record_of key (rows_after root rows) ≡ []
    gone_after e =
        filter_apart (λ row. is_eq (key_cmp key (root_of row.path))) (λ row. is_lt (key_cmp root (root_of row.path)))
        (λ row g. no_eq (root_of row.path) (λ k. absurd (false≢true (sym (ap is_lt e) ∙ (ap (λ x. is_lt (key_cmp root x)) k ∙ g))))) rows
      where
        no_eq : (k : List ℕ) → (key ≡ k → ⊥) → is_eq (key_cmp key k) ≡ false
        no_eq k f = by'' (is_eq (key_cmp key k)) refl
          where
            by'' : (b : Bool) → is_eq (key_cmp key k) ≡ b → b ≡ false
            by'' true e' = absurd (f (same k e'))
            by'' false e' = refl

    by : (o : Ordering) → key_cmp root key ≡ o → record_of key (with_record root image rows) ≡ record_of key rows
    by Less e = split ∙ (λ i. gone_before e i ++ [] ++ kept_after e i)
    by Equal e = absurd (other e)
    by Greater e = split ∙ ((λ i. kept_before e i ++ [] ++ gone_after e i) ∙ (append-nil (record_of key rows ++ []) ∙ append-nil (record_of key rows)))
