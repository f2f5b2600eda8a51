-- Indexes by name, item by item.
use Rattle.std.proofs.Common.{◌≡◌, ◌<◌, ◌≤◌, ◌+◌, ℕ, suc, Bool, true, false, cond, nat_lt, List, [], ◌∷◌, ◌++◌, length, take, get_or, slice_get, Option, Some, None, refl, sym, ap, subst, ◌∙◌, arith, add-zero, zero-add}
use Rattle.std.specs.Prelude.{◌||◌, is_some, not, find, position}
use Rattle.std.specs.List.{list_any, position_from, position_or_len, prefix_len}
use Rattle.std.specs.Option.{option_or, option_and_then, option_map_or}
use Rattle.std.specs.Ordering.{nat_cmp, is_eq}
use Rattle.std.specs.Cmp.Lexicographic.{slice_cmp}
use Rattle.std.specs.Str.{bytes_eq}
use Rattle.std.specs.BTreeMap.{BTreeMap}
use Rattle.std.proofs.lemmas.Bool.{lt-ltb, ltb-true, ltb-false}
use Rattle.std.proofs.lemmas.Iterator.Adapters.{position_from-zero}
use Rattle.std.proofs.lemmas.List.{take_more, length-take}
use Rattle.std.proofs.lemmas.List.Folds.{find_at}
use Rattle.std.proofs.lemmas.List.Sums.{prefix_len-le-length}
use Rattle.std.proofs.lemmas.Map.Text.{is_eq-slice_cmp}
use Rattle.std.proofs.lemmas.Option.{slice_get_past}
use Rattle.std.proofs.lemmas.Slice.Eq.{bytes_eq-Decides}
use Rattle.tm_types.specs.Name.{IsName}
use Rattle.system_types.specs.Indexes.{AreItemsNamed, IsIndex, place_in}
use Rattle.tm_types.proofs.Truths.{none_is}

pub first_none : (found : Option ℕ) → found ≡ option_or found None
first_none (Some place) = refl
first_none None = refl

added_by : (f g : List ℕ → Option ℕ) (label name : List ℕ) (place : ℕ) (b : Bool) → bytes_eq label name ≡ b → f label ≡ None
    → g name ≡ cond b (Some place) (f name) → g name ≡ option_or (f name) (cond b (Some place) None)
added_by f g label name place true same none e =
    let here : label ≡ name = (bytes_eq-Decides label name).0 same in
    e ∙ sym (ap (λ found. option_or found (Some place)) (sym (ap f here) ∙ none))
added_by f g label name place false same none e = e ∙ first_none (f name)

-- a name that is added has its place, and the others keep theirs
pub added : (f g : List ℕ → Option ℕ) (label name : List ℕ) (place : ℕ) → is_some (f label) ≡ false
    → g name ≡ cond (is_eq (slice_cmp nat_cmp label name)) (Some place) (f name) → g name ≡ option_or (f name) (cond (bytes_eq label name) (Some place) None)
added f g label name place none e =
    added_by f g label name place (bytes_eq label name) refl (none_is (f label) none) (e ∙ ap (λ b. cond b (Some place) (f name)) (is_eq-slice_cmp label name))

more_by : (b : Bool) (place : ℕ) (here rest others : Option ℕ) → rest ≡ option_or others here → cond b (Some place) rest ≡ option_or (cond b (Some place) others) here
more_by true place here rest others e = refl
more_by false place here rest others e = e

push_from : {X : Type 0} (p : X → Bool) (place : ℕ) (xs : List X) (x : X) → position_from p place (xs ++ x ∷ []) ≡ option_or (position_from p place xs) (cond (p x) (Some (place + length xs)) None)
push_from p place [] x = ap (λ n. cond (p x) (Some n) None) (sym (add-zero place))
push_from p place (first ∷ xs) x =
    let same : place + 1 + length xs ≡ place + suc (length xs) = omega arith in
    more_by (p first) place (cond (p x) (Some (place + suc (length xs))) None) (position_from p (place + 1) (xs ++ x ∷ [])) (position_from p (place + 1) xs)
    (push_from p (place + 1) xs x ∙ ap (λ n. option_or (position_from p (place + 1) xs) (cond (p x) (Some n) None)) same)

-- where one more is in a list, the first that passes is as before, or else the last
position_push : {X : Type 0} (p : X → Bool) (xs : List X) (x : X) → position p (xs ++ x ∷ []) ≡ option_or (position p xs) (cond (p x) (Some (length xs)) None)
position_push p xs x =
    position_from-zero p (xs ++ x ∷ []) ∙ push_from p 0 xs x ∙ ap (λ o. option_or o (cond (p x) (Some (0 + length xs)) None)) (sym (position_from-zero p xs))
    ∙ ap (λ n. option_or (position p xs) (cond (p x) (Some n) None)) (zero-add (length xs))

-- an index of a list with one item more
pub next_index : {X : Type 0} (has_name : List ℕ → X → Bool) (old new : BTreeMap (List ℕ) ℕ) (items whole : List X) (item : X) → whole ≡ items ++ item ∷ [] → IsIndex has_name old items
    → ((name : List ℕ) → place_in new name ≡ option_or (place_in old name) (cond (has_name name item) (Some (length items)) None)) → IsIndex has_name new whole
next_index {X} has_name old new items whole item e before added = record {
  places = λ name.
      added name ∙ ap (λ o. option_or o (cond (has_name name item) (Some (length items)) None)) (before.places name) ∙ sym (position_push (has_name name) items item)
      ∙ ap (λ (xs : List X). position (has_name name) xs) (sym e);
}

pub one_more : {X : Type 0} (has_name : List ℕ → X → Bool) (old new : BTreeMap (List ℕ) ℕ) (items : List X) (place : ℕ) (item : X) → place < length items → item ≡ get_or items place item
    → IsIndex has_name old (take place items)
    → ((name : List ℕ) → place_in new name ≡ option_or (place_in old name) (cond (has_name name item) (Some place) None)) → IsIndex has_name new (take (place + 1) items)
one_more {X} has_name old new items place item h e before added =
    let whole : take (place + 1) items ≡ take place items ++ item ∷ [] = take_more items place item h ∙ ap (λ (x : X). take place items ++ x ∷ []) (sym e) in
    let size : length (take place items) ≡ place = omega (arith, length-take place items) in
    next_index has_name old new (take place items) (take (place + 1) items) item whole before
    (λ name. added name ∙ ap (λ n. option_or (place_in old name) (cond (has_name name item) (Some n) None)) (sym size))

at_by : {X : Type 0} (xs : List X) (place : ℕ) (b : Bool) → nat_lt place (length xs) ≡ b → option_and_then (slice_get xs) (cond b (Some place) None) ≡ slice_get xs place
at_by xs place true e = refl
at_by xs place false e = sym (slice_get_past xs place (ltb-false place (length xs) e))

-- the first that passes stands at its place
pub found_at : {X : Type 0} (p : X → Bool) (xs : List X) → option_and_then (slice_get xs) (position p xs) ≡ find p xs
found_at p xs = at_by xs (position_or_len p xs) (nat_lt (position_or_len p xs) (length xs)) refl ∙ sym (find_at p xs)

or_len_by : {X : Type 0} (p : X → Bool) (xs : List X) (b : Bool) → nat_lt (position_or_len p xs) (length xs) ≡ b → position_or_len p xs ≤ length xs
    → option_map_or (λ place. place) (cond b (Some (position_or_len p xs)) None) (length xs) ≡ position_or_len p xs
or_len_by p xs true e h = refl
or_len_by p xs false e h = let past = ltb-false (position_or_len p xs) (length xs) e in omega (arith, h, past)

-- the place of the first that passes, or else the length
pub place_or_len : {X : Type 0} (p : X → Bool) (xs : List X) → option_map_or (λ place. place) (position p xs) (length xs) ≡ position_or_len p xs
place_or_len p xs = or_len_by p xs (nat_lt (position_or_len p xs) (length xs)) refl (prefix_len-le-length (λ x. not (p x)) xs)

-- ---- names

named_push : {X : Type 0} (name_of : X → List ℕ) (xs : List X) (x : X) → AreItemsNamed name_of xs → IsName (name_of x) → AreItemsNamed name_of (xs ++ x ∷ [])
named_push name_of [] x h is = (is, tt)
named_push name_of (first ∷ xs) x h is = (h.0, named_push name_of xs x h.1 is)

pub named_more : {X : Type 0} (name_of : X → List ℕ) (items : List X) (place : ℕ) (item : X) → place < length items → item ≡ get_or items place item
    → AreItemsNamed name_of (take place items) → IsName (name_of item) → AreItemsNamed name_of (take (place + 1) items)
named_more {X} name_of items place item h e before is =
    let whole : take (place + 1) items ≡ take place items ++ item ∷ [] = take_more items place item h ∙ ap (λ (x : X). take place items ++ x ∷ []) (sym e) in
    subst (AreItemsNamed name_of) (sym whole) (named_push name_of (take place items) item before is)

unnamed_from : {X : Type 0} (name_of : X → List ℕ) (word : List ℕ) (place : ℕ) (xs : List X) → AreItemsNamed name_of xs → (IsName word → ⊥) → position_from (λ x. bytes_eq (name_of x) word) place xs ≡ None
unnamed_from name_of word place [] h isnt = refl
unnamed_from name_of word place (x ∷ xs) h isnt = by (bytes_eq (name_of x) word) refl (unnamed_from name_of word (place + 1) xs h.1 isnt)
  where
    by : (b : Bool) → bytes_eq (name_of x) word ≡ b → position_from (λ x. bytes_eq (name_of x) word) (place + 1) xs ≡ None
        → cond b (Some place) (position_from (λ x. bytes_eq (name_of x) word) (place + 1) xs) ≡ None
    by true e rest = absurd (isnt (subst IsName ((bytes_eq-Decides (name_of x) word).0 e) h.0))
    by false e rest = rest

-- nothing has a word that is no name
pub unnamed : {X : Type 0} (name_of : X → List ℕ) (word : List ℕ) (xs : List X) → AreItemsNamed name_of xs → (IsName word → ⊥) → None ≡ position (λ x. bytes_eq (name_of x) word) xs
unnamed name_of word xs h isnt = sym (position_from-zero (λ x. bytes_eq (name_of x) word) xs ∙ unnamed_from name_of word 0 xs h isnt)

-- ---- a place is found where one passes

same_where : (a b : Bool) → (a ≡ true → b ≡ true) → (b ≡ true → a ≡ true) → a ≡ b
same_where true b x y = sym (x refl)
same_where false true x y = y refl
same_where false false x y = refl

some_where : (b : Bool) (n : ℕ) → is_some (cond b (Some n) None) ≡ b
some_where true n = refl
some_where false n = refl

short_where : {X : Type 0} (p : X → Bool) (xs : List X) → nat_lt (prefix_len (λ x. not (p x)) xs) (length xs) ≡ list_any p xs
short_where p [] = refl
short_where p (x ∷ xs) = by_first (p x) (short_where p xs) where
  by_first : (b : Bool) → nat_lt (prefix_len (λ x. not (p x)) xs) (length xs) ≡ list_any p xs →
      nat_lt (cond (not b) (1 + prefix_len (λ x. not (p x)) xs) 0) (length (x ∷ xs)) ≡ b || list_any p xs
  by_first true later = lt-ltb 0 (length (x ∷ xs)) (omega arith)
  by_first false later =
      let n = prefix_len (λ x. not (p x)) xs in
      same_where (nat_lt (1 + n) (length (x ∷ xs))) (nat_lt n (length xs))
      (λ e. lt-ltb n (length xs) (omega (arith, ltb-true (1 + n) (length (x ∷ xs)) e)))
      (λ e. lt-ltb (1 + n) (length (x ∷ xs)) (omega (arith, ltb-true n (length xs) e)))
      ∙ later

pub place_is_there : {X : Type 0} (p : X → Bool) (xs : List X) → is_some (position p xs) ≡ list_any p xs
place_is_there p xs =
    some_where (nat_lt (prefix_len (λ x. not (p x)) xs) (length xs)) (prefix_len (λ x. not (p x)) xs) ∙ short_where p xs
