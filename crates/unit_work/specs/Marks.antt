-- Which slots count as changed since they were written, and what a step does to that.
use Rattle.std.specs.Prelude.{◌≡◌, ◌⊎◌, ◌≤◌, ℕ, ◌-◌, ◌==◌, Bool, true, false, List, [], slice_index_or}
use Rattle.std.specs.List.{list_any}
use Rattle.seg_store.specs.ChangedSlots.{AllStores}
use Rattle.unit_work.specs.Images.{image_at}

-- whether a slot of the database of this number, counted from 1, is marked as changed
abbrev pub is_marked : List (List ℕ) → ℕ → ℕ → Bool
is_marked changed database slot = list_any (λ n. n == slot) (slice_index_or changed (database - 1) [])

-- A step changes slots that pass. One that is marked behind it was so before, or passes. One that isn't marked wasn't
-- before, and stands as before.
pub record AreMarked (passes : ℕ → ℕ → Bool) (old new : AllStores) : Type 0 where
  pub only : (database slot : ℕ) → 1 ≤ database → is_marked new.changed database slot ≡ true
      → (is_marked old.changed database slot ≡ true) ⊎ (passes database slot ≡ true)
  pub same : (database slot : ℕ) → 1 ≤ database → is_marked new.changed database slot ≡ false
      → (is_marked old.changed database slot ≡ false) × (image_at database slot new.stores ≡ image_at database slot old.stores)

-- Each slot that passes is marked, also one whose bytes are the same again.
pub record AreAllMarked (passes : ℕ → ℕ → Bool) (all : AllStores) : Type 0 where
  pub each : (database slot : ℕ) → 1 ≤ database → passes database slot ≡ true → is_marked all.changed database slot ≡ true
