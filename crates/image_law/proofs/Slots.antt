-- How many regions are busy, behind a change of slots.
use Rattle.std.proofs.Common.{◌≡◌, ℕ, zero, suc, ◌+◌, ◌-◌, ◌≤◌, List, [], ◌∷◌, filter, length, Option, Some, None, refl, arith}
use Rattle.std.specs.Prelude.{slice_get, slice_set}
use Rattle.std.specs.Option.{is_some, unwrap_or}
use Rattle.std.proofs.lemmas.List.Sums.{length-filter}
use Rattle.model_data.specs.declared.victim.Victim.{Victim}
use Rattle.model_machine.specs.Machine.{Slot, busy_slots}
use Rattle.model_machine.specs.Requests.{without_victims}

abbrev busy : List (Option Slot) → ℕ
busy slots = length (filter is_some slots)

pub is_busy : (slots : List (Option Slot)) → busy slots ≡ busy_slots slots
is_busy slots = length-filter {X = Option Slot} is_some slots

-- a region that had a message has none any more
freed : (slots : List (Option Slot)) (place : ℕ) (slot : Slot) → unwrap_or (slice_get slots place) None ≡ Some slot → busy (slice_set slots place None) + 1 ≡ busy slots
freed [] place slot e = cc
freed (Some s ∷ slots) zero slot e = omega arith
freed (None ∷ slots) zero slot e = cc
freed (Some s ∷ slots) (suc place) slot e = let rest = freed slots place slot e in omega (arith, rest)
freed (None ∷ slots) (suc place) slot e = freed slots place slot e

pub freed_slots : (slots : List (Option Slot)) (place : ℕ) (slot : Slot) → unwrap_or (slice_get slots place) None ≡ Some slot → busy_slots (slice_set slots place None) + 1 ≡ busy_slots slots
freed_slots slots place slot e = omega (arith, is_busy slots, is_busy (slice_set slots place None), freed slots place slot e)

-- one that had one has one
kept : (slots : List (Option Slot)) (place : ℕ) (slot after : Slot) → unwrap_or (slice_get slots place) None ≡ Some slot → busy (slice_set slots place (Some after)) ≡ busy slots
kept [] place slot after e = cc
kept (Some s ∷ slots) zero slot after e = omega arith
kept (None ∷ slots) zero slot after e = cc
kept (Some s ∷ slots) (suc place) slot after e = let rest = kept slots place slot after e in omega (arith, rest)
kept (None ∷ slots) (suc place) slot after e = kept slots place slot after e

pub kept_slots : (slots : List (Option Slot)) (place : ℕ) (slot after : Slot) → unwrap_or (slice_get slots place) None ≡ Some slot → busy_slots (slice_set slots place (Some after)) ≡ busy_slots slots
kept_slots slots place slot after e = omega (arith, is_busy slots, is_busy (slice_set slots place (Some after)), kept slots place slot after e)

-- any region may get one
more : (slots : List (Option Slot)) (place : ℕ) (after : Slot) → busy (slice_set slots place (Some after)) ≤ busy slots + 1
more [] place after = omega arith
more (Some s ∷ slots) zero after = omega arith
more (None ∷ slots) zero after = omega arith
more (Some s ∷ slots) (suc place) after = let rest = more slots place after in omega (arith, rest)
more (None ∷ slots) (suc place) after = more slots place after

pub more_slots : (slots : List (Option Slot)) (place : ℕ) (after : Slot) → busy_slots (slice_set slots place (Some after)) ≤ busy_slots slots + 1
more_slots slots place after = omega (arith, is_busy slots, is_busy (slice_set slots place (Some after)), more slots place after)

-- or give it up
fewer : (slots : List (Option Slot)) (place : ℕ) → busy (slice_set slots place None) ≤ busy slots
fewer [] place = omega arith
fewer (Some s ∷ slots) zero = omega arith
fewer (None ∷ slots) zero = omega arith
fewer (Some s ∷ slots) (suc place) = let rest = fewer slots place in omega (arith, rest)
fewer (None ∷ slots) (suc place) = fewer slots place

pub fewer_slots : (slots : List (Option Slot)) (place : ℕ) → busy_slots (slice_set slots place None) ≤ busy_slots slots
fewer_slots slots place = omega (arith, is_busy slots, is_busy (slice_set slots place None), fewer slots place)

pub victims_slots : (victims : List Victim) (slots : List (Option Slot)) → busy_slots (without_victims victims slots) ≤ busy_slots slots
victims_slots [] slots = omega arith
victims_slots (v ∷ victims) slots = omega (arith, victims_slots victims (slice_set slots (v.region - 1) None), fewer_slots slots (v.region - 1))

-- what stands at a place put there again changes nothing
same : (slots : List (Option Slot)) (place : ℕ) → busy (slice_set slots place (unwrap_or (slice_get slots place) None)) ≡ busy slots
same [] place = refl
same (Some s ∷ slots) zero = refl
same (None ∷ slots) zero = refl
same (Some s ∷ slots) (suc place) = let rest = same slots place in omega (arith, rest)
same (None ∷ slots) (suc place) = same slots place

pub same_slots : (slots : List (Option Slot)) (place : ℕ) → busy_slots (slice_set slots place (unwrap_or (slice_get slots place) None)) ≡ busy_slots slots
same_slots slots place = omega (arith, is_busy slots, is_busy (slice_set slots place (unwrap_or (slice_get slots place) None)), same slots place)
