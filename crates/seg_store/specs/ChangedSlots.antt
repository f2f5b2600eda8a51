-- Which slots of a store were changed since they were written.
use Rattle.std.specs.Prelude.{ℕ, ◌<◌, ◌==◌, nat_lt, List, [], ◌∷◌, Option, None, Some, if◌then◌else◌, map}
use Rattle.std.specs.List.{AllByRecursion}
use Rattle.std.specs.List.Sorted.{IsStrictlySortedBy}
use Rattle.std.specs.Ordering.{nat_cmp}
use Rattle.tm_types.specs.declared.dbd.Dbd.{Dbd}
use Rattle.model_data.specs.declared.row.Row.{Row}
use Rattle.seg_store.specs.Slots.{Stored, slot_of_root, slot_for}

-- a store: its database, the image of the record in each slot, and the numbers of the slots that were changed, rising
pub record Kept : Type 0 where
  pub dbd : Dbd
  pub slots : List (List Row)
  pub changed : List ℕ

-- the database with its slots
abbrev pub stored : Kept → Stored
stored k = record { dbd = k.dbd; slots = k.slots }

-- rising numbers with one more, which stands there once
abbrev pub with_number : ℕ → List ℕ → List ℕ
with_number n [] = n ∷ []
with_number n (m ∷ numbers) =
    if nat_lt m n then m ∷ with_number n numbers else (if m == n then m ∷ numbers else n ∷ m ∷ numbers)

-- so where there is one
abbrev pub with_changed_number : Option ℕ → List ℕ → List ℕ
with_changed_number None changed = changed
with_changed_number (Some slot) changed = with_number slot changed

-- The slot that is changed where this image is set for a root: that of its record, or else, where there are rows, the
-- lowest free one. Where no record is taken out, none is changed.
abbrev pub slot_changed : List ℕ → List Row → List (List Row) → Option ℕ
slot_changed root [] slots = slot_of_root root slots
slot_changed root (row ∷ rows) slots = slot_for root slots

-- numbers of slots, rising
pub record AreChanged (roots : ℕ) (changed : List ℕ) : Type 0 where
  pub ascending : IsStrictlySortedBy nat_cmp changed
  pub within : AllByRecursion (λ slot. slot < roots) changed

-- the databases with their slots, and of each the numbers of its changed slots
pub record AllStores : Type 0 where
  pub stores : List Stored
  pub changed : List (List ℕ)

abbrev pub all_stores : List Kept → AllStores
all_stores kept = record { stores = map stored kept; changed = map (λ k. k.changed) kept }
