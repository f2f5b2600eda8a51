-- What a slot is given of a list of named slots.
use Rattle.std.proofs.Common.{◌≡◌, ℕ, zero, suc, ◌<◌, Bool, true, false, ◌&&◌, List, [], ◌∷◌, ◌++◌, take, refl, ◌∙◌, ap, subst, ⊎_elim, inl, inr, arith, Some}
use Rattle.std.specs.Prelude.{if◌then◌else◌, find, ◌==◌, slice_get}
use Rattle.std.specs.Option.{option_map}
use Rattle.std.specs.List.{AllByRecursion}
use Rattle.std.proofs.lemmas.Bool.{eqb-true}
use Rattle.image_loading.specs.LoadedStore.{given_to}
use Rattle.image_records.specs.declared.slots.NamedSlot.{NamedSlot}
use Rattle.image_records.specs.NamedSlots.{is_at, named_bytes_at, IsNamedSlotBefore, NamedSlotsAscend}
use Rattle.image_reading.specs.NamedBytes.{of_database}

by_slot : (d number : ℕ) (s : NamedSlot) (rest : List (ℕ × List ℕ)) (others : List NamedSlot) (b c : Bool) → given_to number rest ≡ named_bytes_at d number others
    → option_map (λ (x : ℕ × List ℕ). x.1) (find (λ x. x.0 == number) (if b then (s.slot, s.bytes) ∷ rest else rest)) ≡ option_map (λ (x : NamedSlot). x.bytes) (if b && (s.slot == number) then Some s else find (is_at d number) others)
by_slot d number s rest others true c same = here (s.slot == number) where
  here : (e : Bool) → option_map (λ (x : ℕ × List ℕ). x.1) (if e then Some (s.slot, s.bytes) else find (λ x. x.0 == number) rest) ≡ option_map (λ (x : NamedSlot). x.bytes) (if e then Some s else find (is_at d number) others)
  here true = refl
  here false = same
by_slot d number s rest others false c same = same

-- A slot is given the bytes that the list has for it.
pub given_bytes : (d number : ℕ) (named : List NamedSlot) → given_to number (of_database d named) ≡ named_bytes_at d number named
given_bytes d number [] = refl
given_bytes d number (s ∷ named) = by_slot d number s (of_database d named) named (s.database == d) true (given_bytes d number named)

-- ---- lists one behind the other

of_one : (b : Bool) (x : ℕ × List ℕ) (xs ys : List (ℕ × List ℕ)) → (if b then x ∷ (xs ++ ys) else xs ++ ys) ≡ (if b then x ∷ xs else xs) ++ ys
of_one true x xs ys = refl
of_one false x xs ys = refl

pub of_both : (d : ℕ) (xs ys : List NamedSlot) → of_database d (xs ++ ys) ≡ of_database d xs ++ of_database d ys
of_both d [] ys = refl
of_both d (s ∷ xs) ys =
    ap (λ (l : List (ℕ × List ℕ)). if s.database == d then (s.slot, s.bytes) ∷ l else l) (of_both d xs ys)
    ∙ of_one (s.database == d) (s.slot, s.bytes) (of_database d xs) (of_database d ys)

-- ---- their order

pub before_on : (a b c : NamedSlot) → IsNamedSlotBefore a b → IsNamedSlotBefore b c → IsNamedSlotBefore a c
before_on a b c one two =
    ⊎_elim
    (λ (lt : a.database < b.database). inl (⊎_elim (λ (more : b.database < c.database). omega (arith, lt, more)) (λ (same : (b.database ≡ c.database) × (b.slot < c.slot)). omega (arith, lt, same.0)) two))
    (λ (here : (a.database ≡ b.database) × (a.slot < b.slot)).
    ⊎_elim
    (λ (more : b.database < c.database). inl (omega (arith, here.0, more)))
    (λ (same : (b.database ≡ c.database) × (b.slot < c.slot)). inr (omega (arith, here.0, same.0), omega (arith, here.1, same.1)))
    two)
    one

pub ascend_rest : (a : NamedSlot) (xs : List NamedSlot) → NamedSlotsAscend (a ∷ xs) → NamedSlotsAscend xs
ascend_rest a [] is = tt
ascend_rest a (b ∷ xs) is = is.1

first_before : (a : NamedSlot) (xs : List NamedSlot) (i : ℕ) (s : NamedSlot) → NamedSlotsAscend (a ∷ xs) → slice_get xs i ≡ Some s → IsNamedSlotBefore a s
first_before a [] i s is found = absurd cc
first_before a (b ∷ xs) zero s is found = let same : b ≡ s = cc in subst (IsNamedSlotBefore a) same is.0
first_before a (b ∷ xs) (suc i) s is found = before_on a b s is.0 (first_before b xs i s is.1 found)

pub lower_slot : (a s : NamedSlot) (d : ℕ) → a.database ≡ d → s.database ≡ d → IsNamedSlotBefore a s → a.slot < s.slot
lower_slot a s d one two before = ⊎_elim (λ (lt : a.database < s.database). absurd (omega (arith, lt, one, two))) (λ here. here.1) before

pub before_all : (d : ℕ) (xs : List NamedSlot) (i : ℕ) (s : NamedSlot) → NamedSlotsAscend xs → slice_get xs i ≡ Some s → s.database ≡ d → AllByRecursion (λ p. p.0 < s.slot) (of_database d (take i xs))
before_all d [] i s is found here = absurd cc
before_all d (a ∷ xs) zero s is found here = tt
before_all d (a ∷ xs) (suc i) s is found here = by (a.database == d) refl (before_all d xs i s (ascend_rest a xs is) found here) where
  by : (b : Bool) → a.database == d ≡ b → AllByRecursion (λ p. p.0 < s.slot) (of_database d (take i xs)) → AllByRecursion (λ p. p.0 < s.slot) (if b then (a.slot, a.bytes) ∷ of_database d (take i xs) else of_database d (take i xs))
  by true same rest = (lower_slot a s d (eqb-true a.database d same) here (first_before a xs i s is found), rest)
  by false same rest = rest
