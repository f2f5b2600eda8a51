-- What a list of slots gives a slot, and its sectors.
use Rattle.std.proofs.Common.{◌≡◌, ◌⊎◌, ℕ, ◌+◌, ◌*◌, ◌<◌, ◌≤◌, Bool, true, false, List, [], ◌∷◌, ◌++◌, take, drop, refl, sym, ◌∙◌, ap, subst, inl, inr, ⊎_elim, arith, Some, None}
use Rattle.std.specs.Prelude.{Option, option_map, find, if◌then◌else◌, ◌==◌}
use Rattle.std.specs.Option.{option_or, unwrap_or}
use Rattle.std.specs.List.{AllByRecursion}
use Rattle.std.specs.List.Sorted.{IsStrictlySortedBy}
use Rattle.std.specs.Map.{keys_of}
use Rattle.std.specs.Ordering.{nat_cmp}
use Rattle.std.specs.declared.cmp.Ordering.TheVariants.{Less}
use Rattle.std.specs.Cmp.{nat_cmp_is}
use Rattle.std.proofs.lemmas.Bool.{cases_lt, eqb-true, eq-eqb, ne_eqb}
use Rattle.tm_disk.specs.Disk.{Image, sector_at}
use Rattle.seg_store.specs.DataSectors.{data_sector, pieces_from, pieces_of, IsGivenAt, given_at, HasPut}
use Rattle.seg_store.proofs.Pieces.{piece_given, in_piece}
use Rattle.seg_store.proofs.WritingBack.{is_given_front, is_given_back}
use Rattle.model_image.proofs.Places.{in_slot}
use Rattle.image_loading.specs.LoadedStore.{given_to}
use Rattle.checkpointing.proofs.Slots.{given_is}

-- a slot that is given bytes is one of the list
by_within : (roots number : ℕ) (s : ℕ × List ℕ) (slots : List (ℕ × List ℕ)) (bytes : List ℕ) (b : Bool) → s.0 == number ≡ b → s.0 < roots
    → (given_to number slots ≡ Some bytes → number < roots)
    → option_map (λ (x : ℕ × List ℕ). x.1) (if b then Some s else find (λ x. x.0 == number) slots) ≡ Some bytes → number < roots
by_within roots number s slots bytes true is lt later e = omega (arith, lt, eqb-true s.0 number is)
by_within roots number s slots bytes false is lt later e = later e

pub to_within : (roots number : ℕ) (slots : List (ℕ × List ℕ)) (bytes : List ℕ) → AllByRecursion (λ s. s.0 < roots) slots → given_to number slots ≡ Some bytes → number < roots
to_within roots number [] bytes within e = cc
to_within roots number (s ∷ slots) bytes within e = by_within roots number s slots bytes (s.0 == number) refl within.0 (to_within roots number slots bytes within.1) e

by_all : (P : List ℕ → Type 0) (number : ℕ) (s : ℕ × List ℕ) (slots : List (ℕ × List ℕ)) (bytes : List ℕ) (b : Bool) → P s.1
    → (given_to number slots ≡ Some bytes → P bytes)
    → option_map (λ (x : ℕ × List ℕ). x.1) (if b then Some s else find (λ x. x.0 == number) slots) ≡ Some bytes → P bytes
by_all P number s slots bytes true is later e = let same : s.1 ≡ bytes = cc in subst P same is
by_all P number s slots bytes false is later e = later e

-- and what holds of all that is given holds of its bytes
pub to_all : (P : List ℕ → Type 0) (number : ℕ) (slots : List (ℕ × List ℕ)) (bytes : List ℕ) → AllByRecursion (λ s. P s.1) slots → given_to number slots ≡ Some bytes → P bytes
to_all P number [] bytes all e = cc
to_all P number (s ∷ slots) bytes all e = by_all P number s slots bytes (s.0 == number) all.0 (to_all P number slots bytes all.1) e

-- a place that no piece has
pub none_at : (first at : ℕ) (pieces : List (ℕ × List ℕ)) → AllByRecursion (λ piece. first + piece.0 ≡ at → ⊥) pieces → given_at first pieces at ≡ None
none_at first at [] none = refl
none_at first at (piece ∷ pieces) none =
    ap (λ (o : Option (List ℕ)). option_or o (if first + piece.0 == at then Some (data_sector piece.1) else None)) (none_at first at pieces none.1)
    ∙ ap (λ (b : Bool). if b then Some (data_sector piece.1) else None) (ne_eqb (first + piece.0) at none.0)

-- a place below all of them
pub far_below : (first at : ℕ) (pieces : List (ℕ × List ℕ)) → at < first → AllByRecursion (λ piece. first + piece.0 ≡ at → ⊥) pieces
far_below first at [] lt = tt
far_below first at (piece ∷ pieces) lt = ((λ e. omega (arith, lt, e)), far_below first at pieces lt)

-- ---- a sector that is given

-- A slot of the list has it, and its number is as those of the list are.
pub record AtSlot (P : ℕ → Type 0) (size first : ℕ) (slots : List (ℕ × List ℕ)) (at : ℕ) (sector : List ℕ) : Type 0 where
  pub number : ℕ
  pub index : ℕ
  pub bytes : List ℕ
  pub within : index < size
  pub is : at ≡ first + (number * size + index)
  pub below : P number
  pub to : given_to number slots ≡ Some bytes
  pub holds : sector ≡ data_sector (take 4000 (drop (4000 * index) bytes))

pub either_gives : (first : ℕ) (xs ys : List (ℕ × List ℕ)) (at : ℕ) (sector : List ℕ) → IsGivenAt first (xs ++ ys) at sector → IsGivenAt first xs at sector ⊎ IsGivenAt first ys at sector
either_gives first [] ys at sector is = inr is
either_gives first (x ∷ xs) ys at sector is =
    ⊎_elim (λ here. inl (inl here)) (λ later. ⊎_elim (λ front. inl (inr front)) (λ back. inr back) (either_gives first xs ys at sector later)) is

less : (a b : ℕ) → nat_cmp a b ≡ Less → a ≡ b → ⊥
less a b is same = let equal : Rattle.std.specs.declared.cmp.Ordering.TheVariants.Equal ≡ nat_cmp a b = nat_cmp_is a b Rattle.std.specs.declared.cmp.Ordering.TheVariants.Equal same in cc

-- what holds of the numbers behind a slot, and that they are others
abbrev Behind : (ℕ → Type 0) → ℕ → ℕ → Type 0
Behind P n m = P m × (n ≡ m → ⊥)

all_behind : (P : ℕ → Type 0) (n : ℕ) (slots : List (ℕ × List ℕ)) → AllByRecursion (λ s. P s.0) slots → AllByRecursion (λ m. nat_cmp n m ≡ Less) (keys_of slots) → AllByRecursion (λ s. Behind P n s.0) slots
all_behind P n [] all others = tt
all_behind P n (s ∷ slots) all others = ((all.0, less n s.0 others.0), all_behind P n slots all.1 others.1)

to_first : (s : ℕ × List ℕ) (slots : List (ℕ × List ℕ)) → given_to s.0 (s ∷ slots) ≡ Some s.1
to_first s slots = ap (λ b. option_map (λ (x : ℕ × List ℕ). x.1) (if b then Some s else find (λ x. x.0 == s.0) slots)) (eq-eqb s.0 s.0 refl)

to_later : (number : ℕ) (s : ℕ × List ℕ) (slots : List (ℕ × List ℕ)) (bytes : List ℕ) → (s.0 ≡ number → ⊥) → given_to number slots ≡ Some bytes → given_to number (s ∷ slots) ≡ Some bytes
to_later number s slots bytes other to =
    ap (λ b. option_map (λ (x : ℕ × List ℕ). x.1) (if b then Some s else find (λ x. x.0 == number) slots)) (ne_eqb s.0 number other) ∙ to

pub at_slot : (P : ℕ → Type 0) (size first : ℕ) (slots : List (ℕ × List ℕ)) (at : ℕ) (sector : List ℕ) → IsStrictlySortedBy nat_cmp (keys_of slots) → AllByRecursion (λ s. P s.0) slots → IsGivenAt first (pieces_of size slots) at sector → AtSlot P size first slots at sector
unfolding IsStrictlySortedBy
at_slot P size first [] at sector sorted all is = absurd is
at_slot P size first (s ∷ slots) at sector sorted all is =
    ⊎_elim
    (λ here.
    let w = in_piece size first (s.0 * size) s.1 at sector here in
    record { number = s.0; index = w.index; bytes = s.1; within = w.within; is = w.is; below = all.0; to = to_first s slots; holds = w.holds })
    (λ later.
    let w = at_slot (Behind P s.0) size first slots at sector sorted.1 (all_behind P s.0 slots all.1 sorted.0) later in
    record { number = w.number; index = w.index; bytes = w.bytes; within = w.within; is = w.is; below = w.below.0; to = to_later w.number s slots w.bytes w.below.1 w.to; holds = w.holds })
    (either_gives first (pieces_from size (s.0 * size) s.1) (pieces_of size slots) at sector is)

-- ---- the sectors of a slot that is given bytes

by_given : (size first number : ℕ) (s : ℕ × List ℕ) (slots : List (ℕ × List ℕ)) (bytes : List ℕ) (k : ℕ) (b : Bool) → k < size → s.0 == number ≡ b
    → (given_to number slots ≡ Some bytes → IsGivenAt first (pieces_of size slots) (first + (number * size + k)) (data_sector (take 4000 (drop (4000 * k) bytes))))
    → option_map (λ (x : ℕ × List ℕ). x.1) (if b then Some s else find (λ x. x.0 == number) slots) ≡ Some bytes
    → IsGivenAt first (pieces_from size (s.0 * size) s.1 ++ pieces_of size slots) (first + (number * size + k)) (data_sector (take 4000 (drop (4000 * k) bytes)))
by_given size first number s slots bytes k true lt is later e =
    let here : s.0 ≡ number = eqb-true s.0 number is in
    let same : s.1 ≡ bytes = cc in
    is_given_front first (pieces_from size (s.0 * size) s.1) (pieces_of size slots) (first + (number * size + k)) (data_sector (take 4000 (drop (4000 * k) bytes)))
    (subst (λ (l : List ℕ). IsGivenAt first (pieces_from size (s.0 * size) s.1) (first + (number * size + k)) (data_sector (take 4000 (drop (4000 * k) l)))) same
    (subst (λ (n : ℕ). IsGivenAt first (pieces_from size (s.0 * size) s.1) (first + (n * size + k)) (data_sector (take 4000 (drop (4000 * k) s.1)))) here
    (piece_given size first (s.0 * size) s.1 k lt)))
by_given size first number s slots bytes k false lt is later e =
    is_given_back first (pieces_from size (s.0 * size) s.1) (pieces_of size slots) (first + (number * size + k)) (data_sector (take 4000 (drop (4000 * k) bytes))) (later e)

to_given : (size first number : ℕ) (slots : List (ℕ × List ℕ)) (bytes : List ℕ) (k : ℕ) → k < size → given_to number slots ≡ Some bytes → IsGivenAt first (pieces_of size slots) (first + (number * size + k)) (data_sector (take 4000 (drop (4000 * k) bytes)))
to_given size first number [] bytes k lt e = cc
to_given size first number (s ∷ slots) bytes k lt e = by_given size first number s slots bytes k (s.0 == number) lt refl (to_given size first number slots bytes k lt) e

no_option : (a b : Option (List ℕ)) → option_or a b ≡ None → (a ≡ None) × (b ≡ None)
no_option None b e = (refl, e)
no_option (Some x) b e = cc

some_given : (first : ℕ) (pieces : List (ℕ × List ℕ)) (at : ℕ) (sector : List ℕ) → IsGivenAt first pieces at sector → given_at first pieces at ≡ None → ⊥
some_given first [] at sector is none = is
some_given first (piece ∷ pieces) at sector is none =
    let later = no_option (given_at first pieces at) (if first + piece.0 == at then Some (data_sector piece.1) else None) none in
    ⊎_elim
    (λ here. let clash : Some (data_sector piece.1) ≡ None = sym (ap (λ (b : Bool). if b then Some (data_sector piece.1) else None) (eq-eqb (first + piece.0) at here.0)) ∙ later.1 in absurd cc)
    (λ rest. some_given first pieces at sector rest later.0)
    is

-- two slots with one sector are one
record IsOne (n i m j : ℕ) : Type 0 where
  number : n ≡ m
  index : i ≡ j

one_of : (size n i m j : ℕ) → i < size → j < size → n * size + i ≡ m * size + j → IsOne n i m j
one_of size n i m j one other same =
    ⊎_elim
    (λ (before : n < m). absurd (omega (arith, same, in_slot m size n i before one)))
    (λ (behind : m ≤ n).
    ⊎_elim
    (λ (before : m < n). absurd (omega (arith, same, in_slot n size m j before other)))
    (λ (other_way : n ≤ m).
    let number : n ≡ m = omega (arith, behind, other_way) in
    record { number = number; index = omega (arith, same, ap (λ (x : ℕ). x * size) number) })
    (cases_lt m n))
    (cases_lt n m)

-- Each sector of a slot that is given bytes is that of its piece.
module _ (size first : ℕ) (slots : List (ℕ × List ℕ)) (sorted : IsStrictlySortedBy nat_cmp (keys_of slots)) (number : ℕ) (bytes : List ℕ) (to : given_to number slots ≡ Some bytes) where
  one_sector : (k : ℕ) (sector : List ℕ) → k < size → AtSlot (λ _. Unit {0}) size first slots (first + (number * size + k)) sector → sector ≡ data_sector (take 4000 (drop (4000 * k) bytes))
  one_sector k sector lt w =
      let one = one_of size number k w.number w.index lt w.within (omega (arith, w.is)) in
      let both : Some w.bytes ≡ Some bytes = sym w.to ∙ ap (λ (n : ℕ). given_to n slots) (sym one.number) ∙ to in
      let same : w.bytes ≡ bytes = cc in
      w.holds ∙ ap (λ (l : List ℕ). data_sector (take 4000 (drop (4000 * w.index) l))) same ∙ ap (λ (i : ℕ). data_sector (take 4000 (drop (4000 * i) bytes))) (sym one.index)

  any_number : (some : List (ℕ × List ℕ)) → AllByRecursion (λ s. Unit {0}) some
  any_number [] = tt
  any_number (s ∷ some) = (tt, any_number some)

  by_put : (k : ℕ) (before : List ℕ) (o : Option (List ℕ)) → k < size → given_at first (pieces_of size slots) (first + (number * size + k)) ≡ o → unwrap_or o before ≡ data_sector (take 4000 (drop (4000 * k) bytes))
  by_put k before None lt is =
      absurd (some_given first (pieces_of size slots) (first + (number * size + k)) (data_sector (take 4000 (drop (4000 * k) bytes))) (to_given size first number slots bytes k lt to) is)
  by_put k before (Some sector) lt is =
      one_sector k sector lt
      (at_slot (λ _. Unit {0}) size first slots (first + (number * size + k)) sector sorted (any_number slots) (given_is first (pieces_of size slots) (first + (number * size + k)) sector is))

  pub put_sector : (b c : Image) → HasPut first (pieces_of size slots) b c → (k : ℕ) → k < size → sector_at c (first + (number * size + k)) ≡ data_sector (take 4000 (drop (4000 * k) bytes))
  put_sector b c has k lt =
      has.each (first + (number * size + k))
      ∙ by_put k (sector_at b (first + (number * size + k))) (given_at first (pieces_of size slots) (first + (number * size + k))) lt refl
