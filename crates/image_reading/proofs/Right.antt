-- The slots of each database are in order, and are its slots with bytes of records.
use Rattle.std.proofs.Common.{◌≡◌, ℕ, ◌+◌, ◌-◌, ◌<◌, Bool, true, false, List, [], ◌∷◌, refl, sym, ◌∙◌, ap, arith, Some, None, IsTrue, nat_lt}
use Rattle.std.specs.Prelude.{if◌then◌else◌, ◌==◌, slice_get}
use Rattle.std.specs.List.{AllByRecursion, list_all}
use Rattle.std.specs.List.Sorted.{IsStrictlySortedBy}
use Rattle.std.specs.Map.{keys_of}
use Rattle.std.specs.Ordering.{nat_cmp}
use Rattle.std.specs.Cmp.{nat_cmp_is}
use Rattle.std.specs.declared.cmp.Ordering.TheVariants.{Less}
use Rattle.std.proofs.lemmas.Bool.{eqb-true, ne_eqb, ltb-true, and_parts}
use Rattle.tm_types.specs.declared.dbd.Dbd.{Dbd}
use Rattle.model_system.specs.System.{System}
use Rattle.model_image.specs.Slots.{is_image, dbd_at}
use Rattle.image_records.specs.declared.slots.NamedSlot.{NamedSlot}
use Rattle.image_records.specs.NamedSlots.{NamedSlotsAscend, is_slot_by, is_slot_of}
use Rattle.image_reading.specs.NamedBytes.{of_database}
use Rattle.image_reading.proofs.Given.{before_on, ascend_rest, lower_slot}

-- ---- in order

without_second : (a b : NamedSlot) (xs : List NamedSlot) → NamedSlotsAscend (a ∷ b ∷ xs) → NamedSlotsAscend (a ∷ xs)
without_second a b [] is = tt
without_second a b (c ∷ xs) is = (before_on a b c is.0 is.1.0, is.1.1)

less_all : (a : NamedSlot) (d : ℕ) (xs : List NamedSlot) → a.database ≡ d → NamedSlotsAscend (a ∷ xs) → AllByRecursion (λ m. nat_cmp a.slot m ≡ Less) (keys_of (of_database d xs))
less_all a d [] here is = tt
less_all a d (b ∷ xs) here is = by (b.database == d) refl (less_all a d xs here (without_second a b xs is)) where
  by : (e : Bool) → b.database == d ≡ e → AllByRecursion (λ m. nat_cmp a.slot m ≡ Less) (keys_of (of_database d xs)) → AllByRecursion (λ m. nat_cmp a.slot m ≡ Less) (keys_of (if e then (b.slot, b.bytes) ∷ of_database d xs else of_database d xs))
  by true same rest = (sym (nat_cmp_is a.slot b.slot Less (lower_slot a b d here (eqb-true b.database d same) is.0)), rest)
  by false same rest = rest

pub in_order : (d : ℕ) (xs : List NamedSlot) → NamedSlotsAscend xs → IsStrictlySortedBy nat_cmp (keys_of (of_database d xs))
unfolding IsStrictlySortedBy
in_order d [] is = tt
in_order d (a ∷ xs) is = by (a.database == d) refl (in_order d xs (ascend_rest a xs is)) where
  by : (e : Bool) → a.database == d ≡ e → IsStrictlySortedBy nat_cmp (keys_of (of_database d xs)) → IsStrictlySortedBy nat_cmp (keys_of (if e then (a.slot, a.bytes) ∷ of_database d xs else of_database d xs))
  by true same rest = (less_all a d xs (eqb-true a.database d same) is, rest)
  by false same rest = rest

-- ---- slots of the database

dbd_of : (system : System) (place database : ℕ) → database ≡ place + 1 → dbd_at system database ≡ slice_get system.databases place
dbd_of system place database is =
    ap (λ (b : Bool). if b then None else slice_get system.databases (database - 1)) (ne_eqb database 0 (λ e. omega (arith, is, e)))
    ∙ ap (slice_get system.databases) (omega (arith, is))

pub record IsRightSlot (dbd : Dbd) (s : ℕ × List ℕ) : Type 0 where
  pub below : s.0 < dbd.roots
  pub image : IsTrue (is_image dbd s.1)

right_slot : (system : System) (place : ℕ) (dbd : Dbd) (s : NamedSlot) → slice_get system.databases place ≡ Some dbd → s.database ≡ place + 1 → is_slot_of system s ≡ true → IsRightSlot dbd (s.slot, s.bytes)
right_slot system place dbd s found here is =
    let both = and_parts (nat_lt s.slot dbd.roots) (is_image dbd s.bytes) (sym (ap (is_slot_by s.slot s.bytes) (dbd_of system place s.database here ∙ found)) ∙ is) in
    record { below = ltb-true s.slot dbd.roots both.0; image = both.1 }

pub right_slots : (system : System) (place : ℕ) (dbd : Dbd) (xs : List NamedSlot) → slice_get system.databases place ≡ Some dbd → list_all (is_slot_of system) xs ≡ true → AllByRecursion (IsRightSlot dbd) (of_database (place + 1) xs)
right_slots system place dbd [] found are = tt
right_slots system place dbd (s ∷ xs) found are =
    let both = and_parts (is_slot_of system s) (list_all (is_slot_of system) xs) are in
    by (s.database == place + 1) refl both.0 (right_slots system place dbd xs found both.1) where
      by : (e : Bool) → s.database == place + 1 ≡ e → is_slot_of system s ≡ true → AllByRecursion (IsRightSlot dbd) (of_database (place + 1) xs) → AllByRecursion (IsRightSlot dbd) (if e then (s.slot, s.bytes) ∷ of_database (place + 1) xs else of_database (place + 1) xs)
      by true same is rest = (right_slot system place dbd s found (eqb-true s.database (place + 1) same) is, rest)
      by false same is rest = rest
