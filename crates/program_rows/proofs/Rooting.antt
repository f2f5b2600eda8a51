-- Which records rows have is told by their roots.
use Rattle.std.proofs.Common.{◌≡◌, ◌≢◌, ℕ, ◌∷◌, [], List, length, map, refl, sym, ◌∙◌, ap, subst, Bool, true, false, cond, eqb, ◌⊎◌, ⊎_elim}
use Rattle.std.specs.List.{AllByRecursion, filter}
use Rattle.std.specs.Ordering.{is_eq}
use Rattle.std.proofs.lemmas.Cmp.{tied_itself}
use Rattle.tm_types.specs.declared.dbd.Dbd.{Dbd}
use Rattle.tm_types.specs.SegTypes.{IsHierarchy}
use Rattle.model_data.specs.declared.row.Row.{Row}
use Rattle.model_data.specs.Path.{key_cmp, root_of}
use Rattle.model_data.specs.Rows.{record_of, roots, AreRows}
use Rattle.model_data.proofs.Lists.{all_filter}
use Rattle.model_data.proofs.Order.{key_total}
use Rattle.model_data.proofs.Records.{record_rooted}
use Rattle.row_search.proofs.Keys.{HasKey, each_rooted}

-- a root has its record
has_record : (rows : List Row) (key : List ℕ) → HasKey (roots rows) key → record_of key rows ≢ []
has_record [] key h none = absurd h
has_record (row ∷ rows) key h none = by (eqb (length row.path) 1) refl (has_record rows key)
  where
    test : Bool
    test = is_eq (key_cmp key (root_of row.path))

    rest : (b : Bool) → is_eq (key_cmp key (root_of row.path)) ≡ b → record_of key rows ≡ []
    rest true e = let clash : row ∷ record_of key rows ≡ [] = sym (ap (λ b. cond b (row ∷ record_of key rows) (record_of key rows)) e) ∙ none in absurd (cc)
    rest false e = sym (ap (λ b. cond b (row ∷ record_of key rows) (record_of key rows)) e) ∙ none

    here : root_of row.path ≡ key → ⊥
    here same =
        let own : is_eq (key_cmp key (root_of row.path)) ≡ true = ap (λ k. is_eq (key_cmp key k)) same ∙ ap is_eq (tied_itself key_total key) in
        let clash : row ∷ record_of key rows ≡ [] = sym (ap (λ b. cond b (row ∷ record_of key rows) (record_of key rows)) own) ∙ none in
        absurd (cc)

    by : (b : Bool) → eqb (length row.path) 1 ≡ b → (HasKey (roots rows) key → record_of key rows ≢ []) → ⊥
    by true e rec =
        let there : (root_of row.path ≡ key) ⊎ HasKey (roots rows) key =
        subst (λ b. HasKey (map (λ r. root_of r.path) (cond b (row ∷ filter (λ r. eqb (length r.path) 1) rows) (filter (λ r. eqb (length r.path) 1) rows))) key) e h in
        ⊎_elim here (λ later. rec later (rest (is_eq (key_cmp key (root_of row.path))) refl)) there
    by false e rec =
        let there : HasKey (roots rows) key =
        subst (λ b. HasKey (map (λ r. root_of r.path) (cond b (row ∷ filter (λ r. eqb (length r.path) 1) rows) (filter (λ r. eqb (length r.path) 1) rows))) key) e h in
        rec there (rest (is_eq (key_cmp key (root_of row.path))) refl)

-- a record has its root
record_has_key : (dbd : Dbd) → IsHierarchy dbd.types → (rows : List Row) → AreRows dbd rows → (key : List ℕ) → record_of key rows ≢ [] → HasKey (roots rows) key
record_has_key dbd all rows valid key some = by (record_of key rows) refl (all_filter (λ r. HasKey (roots rows) (root_of r.path)) (λ r. is_eq (key_cmp key (root_of r.path))) rows (each_rooted dbd all rows valid)) (record_rooted key rows)
  where
    by : (found : List Row) → record_of key rows ≡ found → AllByRecursion (λ r. HasKey (roots rows) (root_of r.path)) (record_of key rows) → AllByRecursion (λ r. root_of r.path ≡ key) (record_of key rows)
        → HasKey (roots rows) key
    by [] e h g = absurd (some e)
    by (row ∷ found) e h g =
        subst (HasKey (roots rows)) (subst (AllByRecursion (λ r. root_of r.path ≡ key)) e g).0 (subst (AllByRecursion (λ r. HasKey (roots rows) (root_of r.path))) e h).0

-- with the same roots there is the same record in both, or in neither
pub roots_tell : (dbd : Dbd) → IsHierarchy dbd.types → (a b : List Row) → AreRows dbd b → roots a ≡ roots b → (key : List ℕ) → record_of key a ≡ [] → record_of key b ≡ []
roots_tell dbd all a b valid same key none = by (record_of key b) refl
  where
    by : (found : List Row) → record_of key b ≡ found → record_of key b ≡ []
    by [] e = e
    by (row ∷ found) e =
        absurd (has_record a key (subst (λ ks. HasKey ks key) (sym same) (record_has_key dbd all b valid key (λ gone. let clash : [] ≡ row ∷ found = sym gone ∙ e in absurd (cc)))) none)
