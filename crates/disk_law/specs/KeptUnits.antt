-- What open units keep of the slots that they changed.
use Rattle.std.specs.Prelude.{◌≡◌, ℕ, ◌==◌, false, if◌then◌else◌, List, [], ◌∷◌, ◌++◌, map, find, slice_get, Some, None}
use Rattle.std.specs.List.{AllByRecursion}
use Rattle.std.specs.Option.{option_map}
use Rattle.model_data.specs.Record as rows
use Rattle.log_records.specs.declared.record.Record.{Record}
use Rattle.log_records.specs.declared.record.Record.TheVariants as record_of
use Rattle.unit_work.specs.declared.change.Change.{Change}
use Rattle.unit_work.specs.Changes.{is_slot}
use Rattle.seg_store.specs.Slots.{Stored}
use Rattle.checkpointing.specs.declared.touches.OpenUnit.{OpenUnit}
use Rattle.checkpointing.specs.Touches.{image_in}
use Rattle.disk_law.specs.CommittedBytes.{Bytes, Touch, Touches}
use Rattle.disk_law.specs.Life.{LifeOnDisk}

-- an open unit: its number, and the slots that it changed since its start or its last ROLB, each with its first image
pub record KeptUnit : Type 0 where
  pub number : ℕ
  pub slots : List Change

-- what it did to such a slot
abbrev pub touch_of : Bytes → Change → Touch
touch_of present c = record { first = rows.rows_spelling c.before; present = present c.db c.slot }

-- what all of them did, by unit, database and slot
abbrev pub kept_touches : Bytes → List KeptUnit → Touches
kept_touches present [] unit d s = None
kept_touches present (u ∷ units) unit d s =
    if u.number == unit then option_map (touch_of present) (find (is_slot d s) u.slots) else kept_touches present units unit d s

-- the records of these slots in a snapshot
abbrev pub slot_record : ℕ → Bytes → Change → Record
slot_record unit present c = record_of.Change unit c.db c.slot (rows.rows_spelling c.before) (present c.db c.slot)

abbrev pub slot_records : Bytes → List KeptUnit → List Record
slot_records present [] = []
slot_records present (u ∷ units) = map (slot_record u.number present) u.slots ++ slot_records present units

-- each slot is kept once
abbrev pub AreSlotsOnce : List Change → Type 0
AreSlotsOnce [] = Unit {0}
AreSlotsOnce (c ∷ slots) = (find (is_slot c.db c.slot) slots ≡ None) × AreSlotsOnce slots

-- each unit has a number of its own
abbrev pub HaveNumbers : List KeptUnit → Type 0
HaveNumbers [] = Unit {0}
HaveNumbers (u ∷ units) = AllByRecursion (λ v. u.number == v.number ≡ false) units × HaveNumbers units

-- one of these units has this number
pub record IsUnitOpen (units : List KeptUnit) (number : ℕ) : Type 0 where
  pub place : ℕ
  pub unit : KeptUnit
  pub found : slice_get units place ≡ Some unit
  pub is : unit.number ≡ number

-- The units of a life keep what they touched. What a unit touched and keeps no more stands as it is committed, as after a
-- ROLB.
pub record KeepTouches (life : LifeOnDisk) (units : List KeptUnit) : Type 0 where
  pub numbers : HaveNumbers units
  pub once : AllByRecursion (λ u. AreSlotsOnce u.slots) units
  pub each : AllByRecursion (λ u. AllByRecursion (λ c. life.touches u.number c.db c.slot ≡ Some (touch_of life.present c)) u.slots) units
  pub only : (unit d s : ℕ) (t : Touch) → life.touches unit d s ≡ Some t → IsUnitOpen units unit
  pub rest : (unit d s : ℕ) (t : Touch) → life.touches unit d s ≡ Some t → kept_touches life.present units unit d s ≡ None → t.first ≡ t.present

-- ---- of the control region's units

-- what an open unit keeps
abbrev pub unit_kept : OpenUnit → KeptUnit
unit_kept u = record { number = u.number; slots = u.work.now.slots }

-- the bytes of what stands in a slot of stores, by database from 1 on and number
abbrev pub bytes_now : List Stored → Bytes
bytes_now stores db slot = rows.rows_spelling (image_in stores db slot)
