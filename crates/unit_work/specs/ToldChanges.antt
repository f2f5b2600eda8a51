-- The records that tell what a unit's step changed in the slots of the databases.
use Rattle.std.specs.Prelude.{◌≡◌, ◌≤◌, ℕ, ◌==◌, ◌&&◌, Bool, false, List, map}
use Rattle.std.specs.List.{AllByRecursion, list_any}
use Rattle.seg_store.specs.Slots.{Stored}
use Rattle.log_records.specs.declared.record.Record.{Record}
use Rattle.log_records.specs.declared.record.Record.TheVariants.{Change}
use Rattle.unit_work.specs.Images.{image_at, image_bytes_at, IsSlotOf}

-- a record that tells of this slot
abbrev pub is_told_of : ℕ → ℕ → Record → Bool
is_told_of database slot (Change unit d s before after) = (d == database) && (s == slot)
is_told_of database slot _ = false

-- what is told of a slot: the bytes that stood there before the step, and those that stand there after it
pub record IsChangeToldSo (unit : ℕ) (old new : List Stored) (u database slot : ℕ) (was now : List ℕ) : Type 0 where
  pub by : u ≡ unit
  pub there : IsSlotOf old database slot
  pub before : was ≡ image_bytes_at database slot old
  pub after : now ≡ image_bytes_at database slot new

abbrev pub IsChangeTold : ℕ → List Stored → List Stored → Record → Type 0
IsChangeTold unit old new (Change u database slot before after) = IsChangeToldSo unit old new u database slot before after
IsChangeTold unit old new _ = ⊥

-- The records tell what a unit's step made of the stores: each is of a slot, by its bytes before and after, and all slots
-- that none tells of are as before.
pub record ChangesTold (unit : ℕ) (old new : List Stored) (records : List Record) : Type 0 where
  pub each : AllByRecursion (IsChangeTold unit old new) records
  pub others : (database slot : ℕ) → 1 ≤ database → list_any (is_told_of database slot) records ≡ false → image_at database slot new ≡ image_at database slot old
  pub databases : map (λ s. s.dbd) new ≡ map (λ s. s.dbd) old
