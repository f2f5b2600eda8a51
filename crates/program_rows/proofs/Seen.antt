-- What the work in a region sees agrees with the stores on all that no other region has alone.
use Rattle.std.proofs.Common.{◌≡◌, ◌≢◌, ℕ, ◌+◌, ◌<◌, ◌≤◌, ◌∷◌, [], List, length, zero, suc, refl, sym, ◌∙◌, ap, subst, Bool, true, false, Option, None, Some, arith, get_or, set, ⊎_elim}
use Rattle.std.specs.List.{AllByRecursion}
use Rattle.std.proofs.lemmas.Bool.{false≢true, cases_eq}
use Rattle.std.proofs.lemmas.List.{length-set}
use Rattle.model_data.proofs.Lists.{all_then}
use Rattle.model_data.specs.declared.need.Need.{Need}
use Rattle.model_data.specs.Footprint.{AgreeAt}
use Rattle.model_data.specs.Table.{EnqueueTable}
use Rattle.seg_store.specs.Slots.{Stored}
use Rattle.unit_work.specs.declared.change.Change.{Change}
use Rattle.unit_work.specs.Changes.{is_record_changed}
use Rattle.program_rows.specs.DatabasesState.{no_rows, roots_of, rows_of_stores, database_rows_in}
use Rattle.program_rows.specs.Isolation.{request_of}
use Rattle.program_rows.specs.OpenUnits.{HoldsAlone, StaysInSlot, Sits, AreUnits, seen_by, regions_from}
use Rattle.program_rows.proofs.Together.{AreAllBeside, beside_without, all_by, all_set, get_set, get_set_else}
use Rattle.program_rows.proofs.Backed.{IsGood, AreValid, record_all, roots_all, valid_all}
use Rattle.program_rows.proofs.Apart.{holds_changed, all_beside, all_good, all_rooted}
use Rattle.program_rows.proofs.Asking.{is_contested, alone_contests}

pub good_none : (stores : List Stored) → IsGood stores []
good_none stores = record { can = record { stored = tt; fits = tt; apart = tt }; once = tt }

module _ (units : List (List Change)) (stores : List Stored) (table : EnqueueTable) (h : AreUnits units stores table) (place : ℕ) where
  pub others_beside : AreAllBeside stores (set units place [])
  others_beside = beside_without stores units place (all_rooted units stores table h) (all_beside units stores table h)

  pub others_good : AllByRecursion (IsGood stores) (set units place [])
  others_good = all_set (IsGood stores) units place [] (all_good units stores table h) (good_none stores)

  pub seen_valid : AreValid (seen_by place units stores)
  seen_valid = valid_all stores (set units place []) h.valid others_good others_beside

  -- a fact of the units of all others
  others_by : (P : List Change → Type 0) → P [] → ((i : ℕ) → i < length units → i ≢ place → P (get_or units i [])) → AllByRecursion P (set units place [])
  others_by P none f =
      all_by P (set units place [])
      (λ i lt.
      let within : i < length units = omega (arith, length-set units place [], lt) in
      ⊎_elim
      (λ same. subst P (sym (ap (λ k. get_or (set units k []) i []) (sym same) ∙ get_set units i [] within)) none)
      (λ other. subst P (sym (get_set_else units place i [] other)) (f i within other)) (cases_eq i place))

  -- they agree at each need that is not contested
  pub agree : (number : ℕ) → 1 ≤ number → (need : Need) → is_contested (request_of (suc place) number need) table.holds ≡ false
      → AgreeAt need.root (database_rows_in number (rows_of_stores stores)) (database_rows_in number (rows_of_stores (seen_by place units stores)))
  agree number least need free = by need.root (alone need)
    where
      alone : (n : Need) → is_contested (request_of (suc place) number n) table.holds ≡ false → (i : ℕ) → i ≢ place → HoldsAlone table (suc i) (record { db = number; root = n.root }) → ⊥
      alone n f i other a = false≢true (sym f ∙ alone_contests (request_of (suc place) number n) table.holds (suc i) (λ e. absurd (other (omega (arith, e)))) a)

      stays : (i : ℕ) → ((HoldsAlone table (suc i) (record { db = number; root = None })) → ⊥) → (rs : List Change) → AllByRecursion (Sits table stores (suc i)) rs
          → AllByRecursion (λ c. c.db ≡ number → StaysInSlot stores c) rs
      stays i never rs s =
          all_then (Sits table stores (suc i)) (λ c. c.db ≡ number → StaysInSlot stores c) rs
          (λ c st d. ⊎_elim (λ x. x) (λ seq. absurd (never (subst (λ n. HoldsAlone table (suc i) (record { db = n; root = None })) d seq))) st) s

      by : (root : Option (List ℕ)) → ((f : is_contested (request_of (suc place) number need) table.holds ≡ false) (i : ℕ) → i ≢ place → HoldsAlone table (suc i) (record { db = number; root = root }) → ⊥)
          → AgreeAt root (database_rows_in number (rows_of_stores stores)) (database_rows_in number (rows_of_stores (seen_by place units stores)))
      by (Some key) never =
          sym (record_all stores (set units place []) number key least h.valid others_good others_beside
          (others_by (λ a. is_record_changed number key a ≡ false) refl (λ i lt other. unchanged i lt other (is_record_changed number key (get_or units i [])) refl)))
        where
          unchanged : (i : ℕ) → i < length units → i ≢ place → (b : Bool) → is_record_changed number key (get_or units i []) ≡ b → is_record_changed number key (get_or units i []) ≡ false
          unchanged i lt other false q = q
          unchanged i lt other true q = absurd (never free i other (holds_changed table (suc i) number key (get_or units i []) (h.each i lt).alone q))
      by None never =
          sym (roots_all stores (set units place []) number least h.valid others_good others_beside
          (others_by (λ a. AllByRecursion (λ c. c.db ≡ number → StaysInSlot stores c) a) tt (λ i lt other. stays i (never free i other) (get_or units i []) (h.each i lt).sits)))

-- what a region sees, in the list of all
pub regions_length : (n : ℕ) (units all : List (List Change)) (stores : List Stored) → length (regions_from n units all stores) ≡ length units
regions_length n [] all stores = refl
regions_length n (a ∷ units) all stores = ap (λ k. suc k) (regions_length (suc n) units all stores)

pub region_get : (n k : ℕ) (units all : List (List Change)) (stores : List Stored) → k < length units
    → get_or (regions_from n units all stores) k no_rows ≡ record { rows = rows_of_stores (seen_by (n + k) all stores); changed = roots_of (get_or units k []) }
region_get n k [] all stores lt = absurd (omega arith)
region_get n zero (a ∷ units) all stores lt = let here : n ≡ n + 0 = omega arith in ap (λ i. record { rows = rows_of_stores (seen_by i all stores); changed = roots_of a }) here
region_get n (suc k) (a ∷ units) all stores lt =
    let next : suc n + k ≡ n + suc k = omega arith in
    region_get (suc n) k units all stores (omega arith) ∙ ap (λ i. record { rows = rows_of_stores (seen_by i all stores); changed = roots_of (get_or units k []) }) next

pub region_is : (k : ℕ) (units : List (List Change)) (stores : List Stored) → k < length units
    → get_or (regions_from 0 units units stores) k no_rows ≡ record { rows = rows_of_stores (seen_by k units stores); changed = roots_of (get_or units k []) }
region_is k units stores lt =
    let here : 0 + k ≡ k = omega arith in
    region_get 0 k units units stores lt ∙ ap (λ i. record { rows = rows_of_stores (seen_by i units stores); changed = roots_of (get_or units k []) }) here

-- lists with the same elements
pub same_list : {A : Type 0} (d : A) (xs ys : List A) → length xs ≡ length ys → ((k : ℕ) → k < length xs → get_or xs k d ≡ get_or ys k d) → xs ≡ ys
same_list d [] [] e h = refl
same_list d [] (y ∷ ys) e h = absurd (omega (arith, e))
same_list d (x ∷ xs) [] e h = absurd (omega (arith, e))
same_list d (x ∷ xs) (y ∷ ys) e h = λ i. h 0 (omega arith) i ∷ same_list d xs ys (omega (arith, e)) (λ k lt. h (suc k) (omega arith)) i

pub get_put : {A : Type 0} (xs : List A) (i : ℕ) (x d : A) → i < length xs → get_or (set xs i x) i d ≡ x
get_put [] i x d lt = absurd (omega arith)
get_put (y ∷ xs) zero x d lt = refl
get_put (y ∷ xs) (suc i) x d lt = get_put xs i x d (omega arith)

pub get_put_else : {A : Type 0} (xs : List A) (i k : ℕ) (x d : A) → k ≢ i → get_or (set xs i x) k d ≡ get_or xs k d
get_put_else [] i k x d other = refl
get_put_else (y ∷ xs) zero zero x d other = absurd (other refl)
get_put_else (y ∷ xs) zero (suc k) x d other = refl
get_put_else (y ∷ xs) (suc i) zero x d other = refl
get_put_else (y ∷ xs) (suc i) (suc k) x d other = get_put_else xs i k x d (λ e. other (ap (λ n. suc n) e))
