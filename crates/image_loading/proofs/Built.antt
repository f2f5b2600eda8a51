-- A store that is built from the last slot to the first.
use Rattle.std.proofs.Common.{◌≡◌, ℕ, ◌+◌, ◌*◌, ◌++◌, ◌∷◌, [], List, length, drop, zero, suc, refl, sym, ◌∙◌, ap, subst, arith, Bool, true, false, cond, not, Option, None, Some, append_assoc, ⊎_elim, set}
use Rattle.std.specs.Prelude.{◌||◌, ◌&&◌}
use Rattle.std.specs.List.{slice_get, list_any}
use Rattle.std.specs.Option.{option_map, is_some}
use Rattle.std.proofs.lemmas.List.{drop_at}
use Rattle.tm_types.specs.declared.dbd.Dbd.{Dbd}
use Rattle.model_data.specs.declared.row.Row.{Row}
use Rattle.model_data.specs.Path.{root_of}
use Rattle.model_data.specs.Record.{record_root}
use Rattle.model_data.proofs.Prefixes.{record_root_is}
use Rattle.seg_store.specs.Slots.{is_slot_free, image_root, has_root, slot_of_root, place_of, free_slots, IsSlot}
use Rattle.seg_store.proofs.SlotRows.{same_key, set_itself}
use Rattle.image_loading.specs.SharedRoots.{has_same_root, shared_at, apart, is_root_there, with_new}

-- a slot without a root has no record
pub no_root : (dbd : Dbd) (image : List Row) → IsSlot dbd image → record_root image ≡ None → image ≡ []
no_root dbd image h e =
    ⊎_elim (λ none. none)
    (λ r. let clash : None ≡ Some (image_root image) = sym e ∙ record_root_is dbd.types (image_root image) image r.whole in absurd (cc)) h

-- which root a slot has
pub some_root : (dbd : Dbd) (image : List Row) (root : List ℕ) → IsSlot dbd image → record_root image ≡ Some root → (is_slot_free image ≡ false) × (image_root image ≡ root)
some_root dbd [] root h e = let clash : None ≡ Some root = e in absurd (cc)
some_root dbd (row ∷ rows) root h e =
    ⊎_elim (λ none. let clash : row ∷ rows ≡ [] = none in absurd (cc))
    (λ r. let same : Some (root_of row.path) ≡ Some root = sym (record_root_is dbd.types (root_of row.path) (row ∷ rows) r.whole) ∙ e in (refl, (let one : root_of row.path ≡ root = cc in one))) h

some_suc : (o : Option ℕ) → is_some (option_map (λ n. suc n) o) ≡ is_some o
some_suc None = refl
some_suc (Some n) = refl

place_any : (test : List Row → Bool) (xs : List (List Row)) → is_some (place_of test xs) ≡ list_any test xs
place_any test [] = refl
place_any test (x ∷ xs) =
    elim (test x) as (λ b. is_some (cond b (Some 0) (option_map (λ n. suc n) (place_of test xs))) ≡ (b || list_any test xs)) [
      | true ↦ refl
      | false ↦ some_suc (place_of test xs) ∙ place_any test xs
    ]

any_free : (root : List ℕ) (n : ℕ) (xs : List (List Row)) → list_any (has_root root) (free_slots n ++ xs) ≡ list_any (has_root root) xs
any_free root zero xs = refl
any_free root (suc n) xs = any_free root n xs

-- of those that are apart some has a root where some of all has
any_apart : (root : List ℕ) (xs : List (List Row)) → list_any (has_root root) (apart xs) ≡ list_any (has_root root) xs
any_apart root [] = refl
any_apart root (image ∷ xs) = by image (list_any (has_same_root image) xs) refl (any_apart root xs)
  where
    either : (a b : Bool) → (a ≡ true → b ≡ true) → b ≡ (a || b)
    either true b h = h refl
    either false b h = refl

    found : (row : Row) (rows : List Row) → list_any (has_same_root (row ∷ rows)) xs ≡ true → has_root root (row ∷ rows) ≡ true → list_any (has_root root) xs ≡ true
    found row rows e h = subst (λ k. list_any (has_root k) xs ≡ true) (same_key root (root_of row.path) h) e

    by : (im : List Row) (b : Bool) → list_any (has_same_root im) xs ≡ b → list_any (has_root root) (apart xs) ≡ list_any (has_root root) xs
        → list_any (has_root root) (cond (list_any (has_same_root im) xs) [] im ∷ apart xs) ≡ (has_root root im || list_any (has_root root) xs)
    by im false e rec = ap (λ b. list_any (has_root root) (cond b [] im ∷ apart xs)) e ∙ ap (λ b. has_root root im || b) rec
    by [] true e rec = ap (λ b. list_any (has_root root) (cond b [] [] ∷ apart xs)) e ∙ rec
    by (row ∷ rows) true e rec =
        ap (λ b. list_any (has_root root) (cond b [] (row ∷ rows) ∷ apart xs)) e
        ∙ (rec ∙ either (has_root root (row ∷ rows)) (list_any (has_root root) xs) (found row rows e))

none_same : (xs : List (List Row)) → list_any (has_same_root []) xs ≡ false
none_same [] = refl
none_same (x ∷ xs) = none_same xs

pub there_is : (image : List Row) (n : ℕ) (later : List (List Row)) → is_root_there image (free_slots n ++ apart later) ≡ list_any (has_same_root image) later
there_is [] n later = sym (none_same later)
there_is (row ∷ rows) n later =
    place_any (has_root (root_of row.path)) (free_slots n ++ apart later)
    ∙ (any_free (root_of row.path) n (apart later) ∙ any_apart (root_of row.path) later)

free_last : (k : ℕ) (xs : List (List Row)) → free_slots (suc k) ++ xs ≡ free_slots k ++ [] ∷ xs
free_last zero xs = refl
free_last (suc k) xs = ap (λ ys. [] ∷ ys) (free_last k xs)

set_last : (k : ℕ) (y z : List Row) (xs : List (List Row)) → set (free_slots k ++ y ∷ xs) k z ≡ free_slots k ++ z ∷ xs
set_last zero y z xs = refl
set_last (suc k) y z xs = ap (λ ys. [] ∷ ys) (set_last k y z xs)

get_last : (k : ℕ) (y : List Row) (xs : List (List Row)) → slice_get (free_slots k ++ y ∷ xs) k ≡ Some y
get_last zero y xs = refl
get_last (suc k) y xs = get_last k y xs

pub slot_free : (k : ℕ) (xs : List (List Row)) → slice_get (free_slots (suc k) ++ xs) k ≡ Some []
slot_free k xs = ap (λ ys. slice_get ys k) (free_last k xs) ∙ get_last k [] xs

-- one image more
pub slots_more : (k : ℕ) (image : List Row) (later : List (List Row)) → with_new k image (free_slots (suc k) ++ apart later) ≡ free_slots k ++ apart (image ∷ later)
slots_more k image later =
    ap (λ b. cond b (free_slots (suc k) ++ apart later) (set (free_slots (suc k) ++ apart later) k image)) (there_is image (suc k) later)
    ∙ by (list_any (has_same_root image) later)
  where
    by : (b : Bool) → cond b (free_slots (suc k) ++ apart later) (set (free_slots (suc k) ++ apart later) k image) ≡ free_slots k ++ cond b [] image ∷ apart later
    by true = free_last k (apart later)
    by false = ap (λ ys. set ys k image) (free_last k (apart later)) ∙ set_last k [] image (apart later)

pub found_more : (sectors first k : ℕ) (image : List Row) (later : List (List Row)) → cond (is_root_there image (free_slots (suc k) ++ apart later)) (Some (first + k * sectors)) (shared_at sectors (first + suc k * sectors) later) ≡ shared_at sectors (first + k * sectors) (image ∷ later)
found_more sectors first k image later =
    let next : first + suc k * sectors ≡ first + k * sectors + sectors = omega arith in
    ap (λ b. cond b (Some (first + k * sectors)) (shared_at sectors (first + suc k * sectors) later)) (there_is image (suc k) later)
    ∙ ap (λ n. cond (list_any (has_same_root image) later) (Some (first + k * sectors)) (shared_at sectors n later)) next

-- with none shared all are apart
pub all_apart : (sectors at : ℕ) (images : List (List Row)) → shared_at sectors at images ≡ None → apart images ≡ images
all_apart sectors at [] e = refl
all_apart sectors at (image ∷ images) e = by (list_any (has_same_root image) images) refl e (all_apart sectors (at + sectors) images)
  where
    by : (b : Bool) → list_any (has_same_root image) images ≡ b → cond b (Some at) (shared_at sectors (at + sectors) images) ≡ None → (shared_at sectors (at + sectors) images ≡ None → apart images ≡ images)
        → cond (list_any (has_same_root image) images) [] image ∷ apart images ≡ image ∷ images
    by true q f rec = let clash : Some at ≡ None = f in absurd (cc)
    by false q f rec = (λ i. cond (q i) [] image ∷ rec f i)

-- a slot without a record is put nowhere
pub none_new : (number : ℕ) (image : List Row) (slots : List (List Row)) → slice_get slots number ≡ Some [] → image ≡ [] → slots ≡ with_new number image slots
none_new number image slots free none = sym (ap (λ im. with_new number im slots) none ∙ set_itself slots number [] free)

pub new_there : (number : ℕ) (image : List Row) (slots : List (List Row)) (root : List ℕ) (b : Bool) → (is_slot_free image ≡ false) × (image_root image ≡ root) → b ≡ is_some (slot_of_root root slots) → is_root_there image slots ≡ b
new_there number image slots root b s e =
    ap (λ f. not f && is_some (slot_of_root (image_root image) slots)) s.0 ∙ (ap (λ k. is_some (slot_of_root k slots)) s.1 ∙ sym e)

-- what is popped stands behind the others
pub popped : (before items later : List (List Row)) (image : List Row) (all : List (List Row)) → before ≡ items ++ image ∷ [] → before ++ later ≡ all → later ≡ drop (length before) all
    → drop (length items) all ≡ image ∷ later
popped before items later image all e whole is =
    ap (drop (length items)) (sym whole ∙ (ap (λ xs. xs ++ later) e ∙ append_assoc items (image ∷ []) later)) ∙ drop_at items (image ∷ later) (length items) refl
