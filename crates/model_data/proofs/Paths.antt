-- Paths of a database: their parts, and that types rise along them.
use Rattle.std.proofs.Common.{◌≡◌, ℕ, ◌+◌, ◌-◌, ◌<◌, ◌≤◌, ◌++◌, ◌∷◌, [], List, length, get_or, Option, None, Some, zero, suc, refl, sym, ◌∙◌, ap, subst, Bool, true, false, cond, arith, eqb, leb}
use Rattle.std.proofs.lemmas.Bool.Decides.{nat_tests}
use Rattle.std.proofs.lemmas.Option.{none-some}
use Rattle.std.specs.List.{slice_get}
use Rattle.std.specs.Option.{IsSomeAnd}
use Rattle.tm_types.specs.declared.dbd.SegType.{SegType}
use Rattle.tm_types.specs.SegTypes.{IsTypeAt, IsHierarchy, type_at}
use Rattle.model_data.specs.Path.{root_of, end_type, end_key, parent_path, IsChild, IsPathBelow, IsPath}
use Rattle.model_data.specs.RowsOfBytes.{down_to}

-- what holds of the value in a `Some`
pub some_and : {A : Type 0} (P : A → Type 0) (o : Option A) → IsSomeAnd o P → (x : A) × (o ≡ Some x) × P x
some_and P None h = absurd h
some_and P (Some x) h = (x, refl, h)

pub some_and_at : {A : Type 0} (P : A → Type 0) (o : Option A) (x : A) → o ≡ Some x → P x → IsSomeAnd o P
some_and_at P o x e h = subst (λ p. IsSomeAnd p P) (sym e) h

-- a number with a type is a place of the list
pub numbered : (types : List SegType) (n : ℕ) (s : SegType) → type_at types n ≡ Some s → (0 < n) × (slice_get types (n - 1) ≡ Some s)
numbered types n s e = by (eqb n 0) refl e
  where
    by : (b : Bool) → eqb n 0 ≡ b → cond b None (slice_get types (n - 1)) ≡ Some s → (0 < n) × (slice_get types (n - 1) ≡ Some s)
    by true q f = absurd (none-some s f)
    by false q f = (grind (arith, nat_tests), f)

pub type_known : (types : List SegType) → IsHierarchy types → (n : ℕ) (s : SegType) → type_at types n ≡ Some s → IsTypeAt (n - 1) s
type_known types all n s e = all (n - 1) s (numbered types n s e).1

-- a path that isn't empty is that of the parent with one pair more
pub path_parts : (p : ℕ × List ℕ) (path : List (ℕ × List ℕ)) → p ∷ path ≡ parent_path (p ∷ path) ++ (end_type (p ∷ path), end_key (p ∷ path)) ∷ []
path_parts p [] = refl
path_parts p (q ∷ path) = λ i. p ∷ path_parts q path i

pub parent_push : (a : List (ℕ × List ℕ)) (x : ℕ × List ℕ) → parent_path (a ++ x ∷ []) ≡ a
parent_push [] x = refl
parent_push (y ∷ []) x = refl
parent_push (y ∷ z ∷ a) x = λ i. y ∷ parent_push (z ∷ a) x i

pub end_type_push : (a : List (ℕ × List ℕ)) (x : ℕ × List ℕ) → end_type (a ++ x ∷ []) ≡ x.0
end_type_push [] x = refl
end_type_push (y ∷ []) x = refl
end_type_push (y ∷ z ∷ a) x = end_type_push (z ∷ a) x

pub end_key_push : (a : List (ℕ × List ℕ)) (x : ℕ × List ℕ) → end_key (a ++ x ∷ []) ≡ x.1
end_key_push [] x = refl
end_key_push (y ∷ []) x = refl
end_key_push (y ∷ z ∷ a) x = end_key_push (z ∷ a) x

pub parent_append : (a : List (ℕ × List ℕ)) (p : ℕ × List ℕ) (more : List (ℕ × List ℕ)) → parent_path (a ++ p ∷ more) ≡ a ++ parent_path (p ∷ more)
parent_append [] p more = refl
parent_append (y ∷ []) p more = refl
parent_append (y ∷ z ∷ a) p more = λ i. y ∷ parent_append (z ∷ a) p more i

pub root_append : (p : ℕ × List ℕ) (a more : List (ℕ × List ℕ)) → root_of ((p ∷ a) ++ more) ≡ p.1
root_append p a more = refl

module _ (types : List SegType) where
  pub path_front : (above : ℕ) (a b : List (ℕ × List ℕ)) → IsPathBelow types above (a ++ b) → IsPathBelow types above a
  path_front above [] b h = tt
  path_front above (p ∷ a) b h = (h.0, path_front p.0 a b h.1)

  pub path_push_below : (above : ℕ) (p : ℕ × List ℕ) (a : List (ℕ × List ℕ)) (x : ℕ × List ℕ)
      → IsPathBelow types above (p ∷ a) → IsChild types (end_type (p ∷ a)) x → IsPathBelow types above (p ∷ (a ++ x ∷ []))
  path_push_below above p [] x h c = (h.0, (c, tt))
  path_push_below above p (q ∷ a) x h c = (h.0, path_push_below p.0 q a x h.1 c)

  -- a path of the database goes on with a child of its end
  pub path_push : (a : List (ℕ × List ℕ)) (x : ℕ × List ℕ) → IsPathBelow types 0 a → IsChild types (end_type a) x → IsPath types (a ++ x ∷ [])
  path_push [] x h c = (c, tt)
  path_push (p ∷ a) x h c = path_push_below 0 p a x h c

  last_child_below : (above : ℕ) (p : ℕ × List ℕ) (a : List (ℕ × List ℕ)) (x : ℕ × List ℕ) → IsPathBelow types above (p ∷ (a ++ x ∷ [])) → IsChild types (end_type (p ∷ a)) x
  last_child_below above p [] x h = h.1.0
  last_child_below above p (q ∷ a) x h = last_child_below p.0 q a x h.1

  -- the last pair of a path is a child of the parent
  pub last_child : (a : List (ℕ × List ℕ)) (x : ℕ × List ℕ) → IsPath types (a ++ x ∷ []) → IsChild types (end_type a) x
  last_child [] x h = h.0
  last_child (p ∷ a) x h = last_child_below 0 p a x h

  pub path_below : (path : List (ℕ × List ℕ)) → IsPath types path → IsPathBelow types 0 path
  path_below [] h = absurd h
  path_below (p ∷ path) h = h

  module _ (all : IsHierarchy types) where
    -- the type of a child has a greater number than the parent's
    pub child_greater : (above : ℕ) (p : ℕ × List ℕ) → IsChild types above p → above < p.0
    child_greater above p h =
        let found = some_and (λ s. (s.parent ≡ above) × (length p.1 ≡ s.key)) (type_at types p.0) h in
        let some : 0 < p.0 = (numbered types p.0 found.0 found.1).0 in
        let least : found.0.parent ≤ p.0 - 1 = (type_known types all p.0 found.0 found.1).parent in
        let same : found.0.parent ≡ above = found.2.0 in
        omega arith

    -- the root has type 1
    pub root_type : (p : ℕ × List ℕ) → IsChild types 0 p → p.0 ≡ 1
    root_type p h =
        let found = some_and (λ s. (s.parent ≡ 0) × (length p.1 ≡ s.key)) (type_at types p.0) h in
        let some : 0 < p.0 = (numbered types p.0 found.0 found.1).0 in
        let first : p.0 - 1 ≡ 0 = (type_known types all p.0 found.0 found.1).root.0 found.2.0 in
        omega arith

    pub end_least : (above : ℕ) (p : ℕ × List ℕ) (path : List (ℕ × List ℕ)) → IsPathBelow types above (p ∷ path) → p.0 ≤ end_type (p ∷ path)
    end_least above p [] h = omega arith
    end_least above p (q ∷ path) h =
        let up : p.0 < q.0 = child_greater p.0 q h.1.0 in
        let rest : q.0 ≤ end_type (q ∷ path) = end_least p.0 q path h.1 in
        omega arith

    -- below a segment of a type no type is as low
    pub none_below : (above : ℕ) (path : List (ℕ × List ℕ)) → IsPathBelow types above path → down_to above path ≡ []
    none_below above [] h = refl
    none_below above (p ∷ path) h =
        let up : above < p.0 = child_greater above p h.0 in
        let no : leb p.0 above ≡ false = grind (arith, nat_tests) in
        ap (λ b. cond b (p ∷ down_to above path) []) no

    -- a path's part down to a type that it has is the part of no greater types
    pub cut_at_end : (above : ℕ) (p : ℕ × List ℕ) (a rest : List (ℕ × List ℕ)) (n : ℕ) → IsPathBelow types above (p ∷ (a ++ rest)) → end_type (p ∷ a) ≡ n
        → down_to n (p ∷ (a ++ rest)) ≡ p ∷ a
    cut_at_end above p [] rest n h e =
        let yes : leb p.0 n ≡ true = grind (arith, nat_tests) in
        ap (λ b. cond b (p ∷ down_to n rest) []) yes
        ∙ (λ i. p ∷ (ap (λ m. down_to m rest) (sym e) ∙ none_below p.0 rest h.1) i)
    cut_at_end above p (q ∷ a) rest n h e =
        let up : p.0 < q.0 = child_greater p.0 q h.1.0 in
        let low : q.0 ≤ end_type (q ∷ a) = end_least p.0 q a (path_front p.0 (q ∷ a) rest h.1) in
        let yes : leb p.0 n ≡ true = grind (arith, nat_tests) in
        ap (λ b. cond b (p ∷ down_to n (q ∷ (a ++ rest))) []) yes
        ∙ (λ i. p ∷ cut_at_end p.0 q a rest n h.1 e i)

-- the part of a path down to a type is a front of it
pub down_to_front : (n : ℕ) (path : List (ℕ × List ℕ)) → (rest : List (ℕ × List ℕ)) × (path ≡ down_to n path ++ rest)
down_to_front n [] = ([], refl)
down_to_front n (p ∷ path) =
    let found = down_to_front n path in
    elim (leb p.0 n) as (λ b. (rest : List (ℕ × List ℕ)) × (p ∷ path ≡ cond b (p ∷ down_to n path) [] ++ rest)) [
      | true ↦ (found.0, λ i. p ∷ found.1 i)
      | false ↦ (p ∷ path, refl)
    ]

-- the type at the last place
pub end_type_at : (path : List (ℕ × List ℕ)) (i : ℕ) (d : ℕ × List ℕ) → i + 1 ≡ length path → end_type path ≡ (get_or path i d).0
end_type_at [] i d e = absurd (omega arith)
end_type_at (p ∷ []) zero d e = refl
end_type_at (p ∷ []) (suc i) d e = absurd (omega arith)
end_type_at (p ∷ q ∷ path) zero d e = absurd (omega arith)
end_type_at (p ∷ q ∷ path) (suc i) d e = end_type_at (q ∷ path) i d (omega arith)
