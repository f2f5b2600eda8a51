-- Slots with bytes, in their order.
use Rattle.std.proofs.Common.{◌≡◌, ℕ, ◌<◌, ◌≤◌, ◌++◌, ◌∷◌, [], List, length, get_or, zero, suc, sym, ◌∙◌, ap, subst, arith, Some}
use Rattle.std.specs.List.{AllByRecursion, slice_get}
use Rattle.std.specs.List.Sorted.{IsStrictlySortedBy}
use Rattle.std.specs.Map.{keys_of}
use Rattle.std.specs.Ordering.{nat_cmp}
use Rattle.std.specs.Cmp.{nat_cmp_is}
use Rattle.std.specs.declared.cmp.Ordering.TheVariants.{Less}
use Rattle.std.proofs.lemmas.List.{length-map}
use Rattle.std.proofs.lemmas.Option.{slice_get-get_or}
use Rattle.std.proofs.lemmas.Map.Views.{length-le_from_below}
use Rattle.std.proofs.lemmas.List.Elements.{All-from_recursion}

abbrev pub Ascends : List (ℕ × List ℕ) → Type 0
Ascends slots = IsStrictlySortedBy nat_cmp (keys_of slots)

pub ascends_none : Ascends []
unfolding IsStrictlySortedBy
ascends_none = tt

below_last : (n : ℕ) (slots : List (ℕ × List ℕ)) (slot : ℕ) (bytes : List ℕ) → n < slot → AllByRecursion (λ m. nat_cmp n m ≡ Less) (keys_of slots) → AllByRecursion (λ m. nat_cmp n m ≡ Less) (keys_of (slots ++ (slot, bytes) ∷ []))
below_last n [] slot bytes lt h = (sym (nat_cmp_is n slot Less lt), tt)
below_last n (s ∷ slots) slot bytes lt h = (h.0, below_last n slots slot bytes lt h.1)

pub ascends_more : (slots : List (ℕ × List ℕ)) (slot : ℕ) (bytes : List ℕ) → Ascends slots → AllByRecursion (λ s. s.0 < slot) slots → Ascends (slots ++ (slot, bytes) ∷ [])
unfolding IsStrictlySortedBy
ascends_more [] slot bytes h g = (tt, tt)
ascends_more (s ∷ slots) slot bytes h g = (below_last s.0 slots slot bytes g.0 h.0, ascends_more slots slot bytes h.1 g.1)

keys_within : (roots : ℕ) (slots : List (ℕ × List ℕ)) → AllByRecursion (λ s. s.0 < roots) slots → AllByRecursion (λ n. n < roots) (keys_of slots)
keys_within roots [] h = tt
keys_within roots (s ∷ slots) h = (h.0, keys_within roots slots h.1)

-- so many slots at most
pub slots_few : (roots : ℕ) (slots : List (ℕ × List ℕ)) → Ascends slots → AllByRecursion (λ s. s.0 < roots) slots → length slots ≤ roots
slots_few roots slots h g =
    omega (arith, length-le_from_below roots (keys_of slots) h (All-from_recursion (λ n. n < roots) (keys_of slots) (keys_within roots slots g)), length-map slots (λ s. s.0))

-- a slot by its place
pub all_at : (P : ℕ × List ℕ → Type 0) (slots : List (ℕ × List ℕ)) (i : ℕ) (d : ℕ × List ℕ) → i < length slots → AllByRecursion P slots → P (get_or slots i d)
all_at P [] i d lt h = absurd (omega (arith, lt))
all_at P (s ∷ slots) zero d lt h = h.0
all_at P (s ∷ slots) (suc i) d lt h = all_at P slots i d (omega (arith, lt)) h.1

pub slot_there : (shown slots : List (ℕ × List ℕ)) (i : ℕ) (slot : ℕ × List ℕ) → shown ≡ slots → i < length shown → slot ≡ get_or shown i slot → slice_get slots i ≡ Some slot
slot_there shown slots i slot e lt is =
    subst (λ xs. slice_get xs i ≡ Some slot) e (slice_get-get_or shown i slot lt ∙ ap Some (sym is))
