-- The segment that the arguments of an ISRT name.
use Rattle.std.proofs.Common.{◌≡◌, ℕ, ◌+◌, ◌≤◌, ◌∷◌, [], List, length, take, get_or, zero, suc, refl, sym, ◌∙◌, ap, Bool, true, false, Option, None, Some, arith}
use Rattle.std.specs.Prelude.{IsSome, IsSomeAnd}
use Rattle.std.specs.Ordering.{is_eq, eq_by_cmp}
use Rattle.std.specs.Cmp.Lexicographic.{pointwise, lists_ties}
use Rattle.std.proofs.lemmas.Bool.{false≢true}
use Rattle.std.proofs.lemmas.Cmp.{tied_itself}
use Rattle.tm_types.specs.declared.dbd.SegType.{SegType}
use Rattle.tm_types.specs.declared.ssa.Ssa.{Ssa}
use Rattle.tm_types.specs.SegTypes.{type_at}
use Rattle.model_data.specs.declared.row.Row.{Row}
use Rattle.model_data.specs.Path.{pair_cmp, path_cmp, root_of, end_type, end_key, parent_path, IsPath, IsPathBelow}
use Rattle.model_data.specs.Rows.{record_of}
use Rattle.model_data.proofs.Order.{pair_total, exact_pair}
use Rattle.model_data.proofs.Records.{is_eq-true}
use Rattle.model_data.specs.Search.{number_named, pair_eq, is_row_there}
use Rattle.model_data.specs.ChangeCalls.{asked_pair, insert_path}
use Rattle.model_data.specs.Conditions.{AreInsertSsas}
use Rattle.dli_calls.specs.ChangeEdit.{AreTypesNamed}
use Rattle.row_search.proofs.Within.{pair_same, pair_itself}
use Rattle.row_search.proofs.Places.{there_in_record}

pair_ties : (p q : ℕ × List ℕ) → pair_eq p q ≡ eq_by_cmp pair_cmp p q
pair_ties p q = by (pair_eq p q) refl (is_eq (pair_cmp p q)) refl
  where
    by : (b : Bool) → pair_eq p q ≡ b → (c : Bool) → is_eq (pair_cmp p q) ≡ c → pair_eq p q ≡ is_eq (pair_cmp p q)
    by true e c f = e ∙ sym (ap (λ r. is_eq (pair_cmp p r)) (sym (pair_same p q e)) ∙ ap is_eq (tied_itself pair_total p))
    by false e true f = absurd (false≢true (sym e ∙ (ap (pair_eq p) (sym (exact_pair p q (is_eq-true _ f))) ∙ pair_itself p)))
    by false e false f = e ∙ sym f

-- paths are equal pair by pair where they compare alike
pub path_ties : (a b : List (ℕ × List ℕ)) → pointwise pair_eq a b ≡ is_eq (path_cmp a b)
path_ties a b = lists_ties pair_cmp pair_ties a b

some_is : {A : Type 0} (P : A → Type 0) (o : Option A) → IsSomeAnd o P → IsSome o
some_is P None h = absurd h
some_is P (Some x) h = refl

module _ (types : List SegType) where
  pub insert_named : (above : ℕ) (ssas : List Ssa) → AreInsertSsas types above ssas → AreTypesNamed types ssas
  insert_named above [] h = absurd h
  insert_named above (x ∷ []) h = (some_is (λ s. s.parent ≡ above) (type_at types (number_named types x.segment)) h.0, tt)
  insert_named above (x ∷ y ∷ ssas) h = (
    some_is (λ s. s.parent ≡ above) (type_at types (number_named types x.segment)) h.0,
    insert_named (number_named types x.segment) (y ∷ ssas) h.2,
  )

  pub insert_some : (above : ℕ) (ssas : List Ssa) → AreInsertSsas types above ssas → 1 ≤ length ssas
  insert_some above [] h = absurd h
  insert_some above (x ∷ ssas) h = omega arith

  pub named_front : (n : ℕ) (ssas : List Ssa) → AreTypesNamed types ssas → AreTypesNamed types (take n ssas)
  named_front zero ssas h = tt
  named_front (suc n) [] h = tt
  named_front (suc n) (x ∷ ssas) h = (h.0, named_front n ssas h.1)

  module _ (area : List ℕ) where
    pub insert_length : (ssas : List Ssa) → length (insert_path types ssas area) ≡ length ssas
    insert_length [] = refl
    insert_length (x ∷ ssas) = ap (λ n. suc n) (insert_length ssas)

    -- the parent's path is that of the arguments before the last
    pub insert_parent : (ssas : List Ssa) (n : ℕ) → n + 1 ≡ length ssas → parent_path (insert_path types ssas area) ≡ insert_path types (take n ssas) area
    insert_parent [] n e = absurd (omega arith)
    insert_parent (x ∷ []) zero e = refl
    insert_parent (x ∷ []) (suc n) e = absurd (omega arith)
    insert_parent (x ∷ y ∷ ssas) zero e = absurd (omega arith)
    insert_parent (x ∷ y ∷ ssas) (suc n) e = λ i. asked_pair types area x ∷ insert_parent (y ∷ ssas) n (omega arith) i

    pub insert_first : (ssas : List Ssa) (d : Ssa) → 1 ≤ length ssas → root_of (insert_path types ssas area) ≡ (asked_pair types area (get_or ssas 0 d)).1
    insert_first [] d h = absurd (omega arith)
    insert_first (x ∷ ssas) d h = refl

    pub asked_in_record : (ssas : List Ssa) (root : List ℕ) (rows : List Row) → root ≡ root_of (insert_path types ssas area)
        → is_row_there (insert_path types ssas area) (record_of root rows) ≡ is_row_there (insert_path types ssas area) rows
    asked_in_record ssas root rows e =
        ap (λ k. is_row_there (insert_path types ssas area) (record_of k rows)) e ∙ there_in_record (insert_path types ssas area) rows

pub end_key_at : (path : List (ℕ × List ℕ)) (i : ℕ) (d : ℕ × List ℕ) → i + 1 ≡ length path → end_key path ≡ (get_or path i d).1
end_key_at [] i d e = absurd (omega arith)
end_key_at (p ∷ []) zero d e = refl
end_key_at (p ∷ []) (suc i) d e = absurd (omega arith)
end_key_at (p ∷ q ∷ path) zero d e = absurd (omega arith)
end_key_at (p ∷ q ∷ path) (suc i) d e = end_key_at (q ∷ path) i d (omega arith)

-- the end of a path has a type
typed_below : (types : List SegType) (above : ℕ) (p : ℕ × List ℕ) (path : List (ℕ × List ℕ)) → IsPathBelow types above (p ∷ path) → IsSome (type_at types (end_type (p ∷ path)))
typed_below types above p [] h = some_is (λ s. (s.parent ≡ above) × (length p.1 ≡ s.key)) (type_at types p.0) h.0
typed_below types above p (q ∷ path) h = typed_below types p.0 q path h.1

pub path_typed : (types : List SegType) (path : List (ℕ × List ℕ)) → IsPath types path → IsSome (type_at types (end_type path))
path_typed types [] h = absurd h
path_typed types (p ∷ path) h = typed_below types 0 p path h
