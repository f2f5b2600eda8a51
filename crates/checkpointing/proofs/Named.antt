-- Lists by name, in which one element after the other is changed.
use Rattle.std.proofs.Common.{◌≡◌, ℕ, suc, ◌+◌, Bool, List, [], ◌∷◌, ◌++◌, length, map, refl, sym, ◌∙◌, ap, subst, Some, append_assoc, cond}
use Rattle.std.specs.Prelude.{Option, slice_get, slice_set, position}
use Rattle.std.specs.Option.{option_map, option_map_or}
use Rattle.std.specs.Str.{bytes_eq}
use Rattle.model_system.specs.Lists.{change_at}
use Rattle.checkpointing.specs.SnapshotRecords.{AreApart}
use Rattle.tm_types.proofs.Positions.{found, position_more}

-- ---- places

mapped : {X : Type 0} (name : X → List ℕ) (n : List ℕ) (x : X) (xs : List X) (b : Bool) → bytes_eq (name x) n ≡ b → position (λ y. bytes_eq (name y) n) xs ≡ position (λ m. bytes_eq m n) (map name xs) → position (λ y. bytes_eq (name y) n) (x ∷ xs) ≡ position (λ m. bytes_eq m n) (map name (x ∷ xs))
mapped name n x xs b h more =
    position_more (λ y. bytes_eq (name y) n) x xs b h
    ∙ ap (λ (r : Option ℕ). cond b (Some 0) (option_map (λ k. suc k) r)) more
    ∙ sym (position_more (λ m. bytes_eq m n) (name x) (map name xs) b h)

pub position_map : {X : Type 0} (name : X → List ℕ) (n : List ℕ) (xs : List X) → position (λ y. bytes_eq (name y) n) xs ≡ position (λ m. bytes_eq m n) (map name xs)
position_map name n [] = refl
position_map name n (x ∷ xs) = mapped name n x xs (bytes_eq (name x) n) refl (position_map name n xs)

-- ---- one element among others

get_among : {X : Type 0} (done : List X) (x : X) (rest : List X) → slice_get (done ++ x ∷ rest) (length done) ≡ Some x
get_among [] x rest = refl
get_among (d ∷ done) x rest = get_among done x rest

set_among : {X : Type 0} (done : List X) (x y : X) (rest : List X) → slice_set (done ++ x ∷ rest) (length done) y ≡ done ++ y ∷ rest
set_among [] x y rest = refl
set_among (d ∷ done) x y rest = ap (λ (l : List _). d ∷ l) (set_among done x y rest)

pub change_among : {X : Type 0} (done : List X) (x : X) (rest : List X) (f : X → X) (place : Option ℕ) → place ≡ Some (length done) → change_at (done ++ x ∷ rest) place f ≡ done ++ f x ∷ rest
change_among done x rest f place is =
    ap (λ (p : Option ℕ). change_at (done ++ x ∷ rest) p f) is
    ∙ ap (λ (found : Option _). option_map_or (λ y. slice_set (done ++ x ∷ rest) (length done) (f y)) found (done ++ x ∷ rest)) (get_among done x rest)
    ∙ set_among done x (f x) rest

pub map_among : {X : Type 0} (name : X → List ℕ) (done : List X) (x : X) (rest : List X) → map name (done ++ x ∷ rest) ≡ map name done ++ name x ∷ map name rest
map_among name [] x rest = refl
map_among name (d ∷ done) x rest = ap (λ (l : List (List ℕ)). name d ∷ l) (map_among name done x rest)

pub map_size : {X : Type 0} (name : X → List ℕ) (xs : List X) → length (map name xs) ≡ length xs
map_size name [] = refl
map_size name (x ∷ xs) = ap suc (map_size name xs)

-- where the names are apart, an element is found by its name
pub place_among : {X : Type 0} (name : X → List ℕ) (names : List (List ℕ)) → AreApart names → (done : List X) (x : X) (rest : List X) → map name (done ++ x ∷ rest) ≡ names → position (λ y. bytes_eq (name y) (name x)) (done ++ x ∷ rest) ≡ Some (length done)
place_among name names apart done x rest is =
    position_map name (name x) (done ++ x ∷ rest)
    ∙ ap (λ (l : List (List ℕ)). position (λ m. bytes_eq m (name x)) l) is
    ∙ apart (length done) (name x)
    (ap (λ (l : List (List ℕ)). slice_get l (length done)) (sym is ∙ map_among name done x rest)
    ∙ subst (λ (k : ℕ). slice_get (map name done ++ name x ∷ map name rest) k ≡ Some (name x)) (map_size name done) (get_among (map name done) (name x) (map name rest)))

-- ---- all elements, one after another

-- the element of a name changed
abbrev pub change_named : {X : Type 0} → (X → List ℕ) → List ℕ → (X → X) → List X → List X
change_named name n f l = change_at l (position (λ y. bytes_eq (name y) n) l) f

abbrev pub put_all : {X : Type 0} → (X → List ℕ) → (X → X → X) → List X → List X → List X
put_all name put [] l = l
put_all name put (x ∷ xs) l = put_all name put xs (change_named name (name x) (put x) l)

-- elements, pair by pair
abbrev pub Pairs : {X : Type 0} → (X → X → Type 0) → List X → List X → Type 0
Pairs P [] [] = Unit {0}
Pairs P [] (y ∷ ys) = ⊥
Pairs P (x ∷ xs) [] = ⊥
Pairs P (x ∷ xs) (y ∷ ys) = P x y × Pairs P xs ys

pub record Puts {X : Type 0} (name : X → List ℕ) (put : X → X → X) (left : X → X) (x y : X) : Type 0 where
  pub named : name y ≡ name x
  pub leaves : put x y ≡ left x
  pub kept : name (left x) ≡ name x

pub regroup : {X : Type 0} (done : List X) (x : X) (rest : List X) → done ++ x ∷ rest ≡ (done ++ x ∷ []) ++ rest
regroup done x rest = sym (append_assoc done (x ∷ []) rest)

pub put_each : {X : Type 0} (name : X → List ℕ) (put : X → X → X) (left : X → X) (names : List (List ℕ)) → AreApart names → (xs ys done : List X) → Pairs (Puts name put left) xs ys → map name (done ++ ys) ≡ names → put_all name put xs (done ++ ys) ≡ done ++ map left xs
put_each name put left names apart [] [] done pairs is = refl
put_each name put left names apart [] (y ∷ ys) done pairs is = absurd pairs
put_each name put left names apart (x ∷ xs) [] done pairs is = absurd pairs
put_each {X} name put left names apart (x ∷ xs) (y ∷ ys) done pairs is =
    let here : position (λ z. bytes_eq (name z) (name x)) (done ++ y ∷ ys) ≡ Some (length done) =
    subst (λ (n : List ℕ). position (λ z. bytes_eq (name z) n) (done ++ y ∷ ys) ≡ Some (length done)) pairs.0.named (place_among name names apart done y ys is) in
    let changed : change_named name (name x) (put x) (done ++ y ∷ ys) ≡ done ++ left x ∷ ys =
    change_among done y ys (put x) (position (λ z. bytes_eq (name z) (name x)) (done ++ y ∷ ys)) here ∙ ap (λ (z : X). done ++ z ∷ ys) pairs.0.leaves in
    let same : map name (done ++ left x ∷ ys) ≡ names =
    map_among name done (left x) ys ∙ ap (λ (n : List ℕ). map name done ++ n ∷ map name ys) (pairs.0.kept ∙ sym pairs.0.named) ∙ sym (map_among name done y ys) ∙ is in
    ap (put_all name put xs) (changed ∙ regroup done (left x) ys)
    ∙ put_each name put left names apart xs ys (done ++ left x ∷ []) pairs.1 (ap (map name) (sym (regroup done (left x) ys)) ∙ same)
    ∙ sym (regroup done (left x) (map left xs))
