-- Rows that stand among others, and the paths that they have.
use Rattle.std.proofs.Common.{◌≡◌, ℕ, ◌++◌, ◌∷◌, [], List, refl, sym, ◌∙◌, ap, subst, ◌⊎◌, inl, inr, ⊎_elim, append_assoc}
use Rattle.std.specs.List.{AllByRecursion}
use Rattle.tm_types.specs.declared.dbd.SegType.{SegType}
use Rattle.model_data.specs.declared.row.Row.{Row}
use Rattle.model_data.specs.Path.{parent_path}
use Rattle.model_data.specs.Row.{HasPath, IsRow}
use Rattle.model_data.specs.RowsOfBytes.{last_path}
use Rattle.model_data.proofs.Paths.{parent_push}

pub has_front : (xs ys : List Row) (path : List (ℕ × List ℕ)) → HasPath xs path → HasPath (xs ++ ys) path
has_front [] ys path h = absurd h
has_front (x ∷ xs) ys path h = ⊎_elim (λ e. inl e) (λ g. inr (has_front xs ys path g)) h

pub has_back : (xs ys : List Row) (path : List (ℕ × List ℕ)) → HasPath ys path → HasPath (xs ++ ys) path
has_back [] ys path h = h
has_back (x ∷ xs) ys path h = inr (has_back xs ys path h)

pub has_split : (xs ys : List Row) (path : List (ℕ × List ℕ)) → HasPath (xs ++ ys) path → HasPath xs path ⊎ HasPath ys path
has_split [] ys path h = inr h
has_split (x ∷ xs) ys path h =
    ⊎_elim (λ e. inl (inl e)) (λ g. ⊎_elim (λ a. inl (inr a)) (λ b. inr b) (has_split xs ys path g)) h

-- the row that has the path, with what holds of each row
pub has_with : (P : Row → Type 0) (rows : List Row) (path : List (ℕ × List ℕ)) → AllByRecursion P rows → HasPath rows path
    → (row : Row) × (row.path ≡ path) × P row
has_with P [] path all h = absurd h
has_with P (row ∷ rows) path all h =
    ⊎_elim (λ e. (row, e, all.0)) (λ g. has_with P rows path all.1 g) h

-- a row among these is a row among more
pub row_among : (types : List SegType) (rows more : List Row) (row : Row)
    → ((path : List (ℕ × List ℕ)) → HasPath rows path → HasPath more path) → IsRow types rows row → IsRow types more row
row_among types rows more row sub h =
    record {
      path = h.path;
      parent = ⊎_elim (λ e. inl e) (λ g. inr (sub (parent_path row.path) g)) h.parent;
      whole = h.whole;
      printable = h.printable;
      key = h.key;
    }

module _ (types : List SegType) (rows : List Row) (each : AllByRecursion (IsRow types rows) rows) where
  -- the parent of a dependent is there
  pub parent_there : (p : ℕ × List ℕ) (a : List (ℕ × List ℕ)) (x : ℕ × List ℕ) → HasPath rows (p ∷ (a ++ x ∷ [])) → HasPath rows (p ∷ a)
  parent_there p a x h =
      let found = has_with (IsRow types rows) rows (p ∷ (a ++ x ∷ [])) each h in
      let parent : parent_path found.0.path ≡ p ∷ a = ap parent_path found.1 ∙ parent_push (p ∷ a) x in
      ⊎_elim (λ e. let empty : [] ≡ p ∷ a = sym e ∙ parent in absurd (cc)) (λ g. subst (HasPath rows) parent g) found.2.parent

  -- and so is each segment above it
  pub front_there : (p : ℕ × List ℕ) (a rest : List (ℕ × List ℕ)) → HasPath rows (p ∷ (a ++ rest)) → HasPath rows (p ∷ a)
  front_there p a [] h = subst (λ b. HasPath rows (p ∷ b)) (append_nil a) h
    where
      append_nil : (b : List (ℕ × List ℕ)) → b ++ [] ≡ b
      append_nil [] = refl
      append_nil (y ∷ b) = λ i. y ∷ append_nil b i
  front_there p a (x ∷ rest) h =
      parent_there p a x (front_there p (a ++ x ∷ []) rest
      (subst (λ b. HasPath rows (p ∷ b)) (sym (append_assoc a (x ∷ []) rest)) h))

-- rows are none, or some and a last one
pub last_view : (rows : List Row) → (rows ≡ []) ⊎ ((front : List Row) × (l : Row) × (rows ≡ front ++ l ∷ []))
last_view [] = inl refl
last_view (row ∷ rows) =
    ⊎_elim (λ e. inr ([], row, λ i. row ∷ e i))
    (λ h. inr (row ∷ h.0, h.1, λ i. row ∷ h.2 i)) (last_view rows)

pub last_path_push : (rows : List Row) (l : Row) → last_path (rows ++ l ∷ []) ≡ l.path
last_path_push [] l = refl
last_path_push (row ∷ []) l = refl
last_path_push (row ∷ next ∷ rows) l = last_path_push (next ∷ rows) l

pub has_last : (rows : List Row) (l : Row) → HasPath (rows ++ l ∷ []) l.path
has_last rows l = has_back rows (l ∷ []) l.path (inl refl)
