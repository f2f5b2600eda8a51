-- What units do to slots between two lasting steps, and what that needs.
use Rattle.std.specs.Prelude.{◌≡◌, ℕ, ◌+◌, ◌≤◌, ◌==◌, Bool, true, false, if◌then◌else◌, List, [], ◌∷◌, ◌++◌, length, None}
use Rattle.std.specs.Option.{option_map_or}
use Rattle.log_records.specs.declared.record.Record.{Record}
use Rattle.log_records.specs.declared.record.Record.TheVariants.{Change}
use Rattle.log_records.specs.RecordSpelling.{record_spelling, IsLogRecord}
use Rattle.log_records.proofs.Takes.{IsBytes}
use Rattle.log_writer.specs.Writer.{Writer}
use Rattle.log_writer.specs.ForcedLog.{log_sectors_of}
use Rattle.model_image.specs.Slots.{is_image_of}
use Rattle.disk_law.specs.CommittedBytes.{Bytes, Touches, is_place, with_slot_touch, without_touches, without_sync}
use Rattle.disk_law.specs.Life.{LifeOnDisk, EachSlot}

-- ---- a slot is changed, with its record

-- a slot, by database from 1 on and number, with what stood there and what stands there then, and whether it counts as changed then
pub record SlotChange : Type 0 where
  pub database : ℕ
  pub slot : ℕ
  pub before : List ℕ
  pub after : List ℕ
  pub marked : Bool

abbrev pub change_record : ℕ → SlotChange → Record
change_record unit c = Change unit c.database c.slot c.before c.after

-- a value for one slot, and all others as they were
abbrev pub put_at : {A : Type 0} → ℕ → ℕ → A → (ℕ → ℕ → A) → ℕ → ℕ → A
put_at database slot x all d s = if is_place database slot d s then x else all d s

-- the writer with more bytes behind those that were appended
abbrev pub with_bytes_behind : List ℕ → Writer → Writer
with_bytes_behind bytes log = record log { appended = log.appended ++ bytes }

-- The change is appended. The slot stands in the stores as it is then and counts as changed or doesn't, and the unit touched it.
abbrev pub with_slot_change : ℕ → SlotChange → LifeOnDisk → LifeOnDisk
with_slot_change unit c life = record life {
  log = with_bytes_behind (record_spelling (change_record unit c)) life.log;
  appended = life.appended ++ change_record unit c ∷ [];
  present = put_at c.database c.slot c.after life.present;
  changed = put_at c.database c.slot c.marked life.changed;
  touches = with_slot_touch unit c.database c.slot c.before c.after life.touches;
}

-- The unit may still reach a sync point, no other has touched the slot, and what the change says stood there did. Where the slot
-- doesn't count as changed then, it didn't before, and stands as before: a new record that is taken back may leave a slot so. The
-- change is a record of a slot of the system, there is room for it, and it is spelled in bytes.
pub record MayChange (unit : ℕ) (c : SlotChange) (life : LifeOnDisk) : Type 0 where
  pub may : life.may_sync unit ≡ true
  pub alone : (other : ℕ) → other == unit ≡ false → life.touches other c.database c.slot ≡ None
  pub stood : c.before ≡ life.present c.database c.slot
  pub same : c.marked ≡ false → (life.changed c.database c.slot ≡ false) × (c.after ≡ c.before)
  pub is_record : IsLogRecord (change_record unit c)
  pub image : is_image_of life.system (change_record unit c) ≡ true
  pub fits : life.log.place + log_sectors_of (length (life.log.appended ++ record_spelling (change_record unit c))) ≤ life.log.count
  pub bytes : IsBytes (record_spelling (change_record unit c))

-- One change after another, as those that ROLB restores.
abbrev pub with_slot_changes : ℕ → List SlotChange → LifeOnDisk → LifeOnDisk
with_slot_changes unit [] life = life
with_slot_changes unit (c ∷ changes) life = with_slot_changes unit changes (with_slot_change unit c life)

abbrev pub MayChangeAll : ℕ → List SlotChange → LifeOnDisk → Type 0
MayChangeAll unit [] life = Unit {0}
MayChangeAll unit (c ∷ changes) life = MayChange unit c life × MayChangeAll unit changes (with_slot_change unit c life)

-- ---- a unit ends without a sync point

-- what it touched stands as before its first change
abbrev pub put_back : ℕ → Touches → Bytes → Bytes
put_back unit touches present d s = option_map_or (λ t. t.first) (touches unit d s) (present d s)

-- Its slots are put back, and these count as changed then. No record is appended.
abbrev pub life_without_unit : ℕ → (ℕ → ℕ → Bool) → LifeOnDisk → LifeOnDisk
life_without_unit unit changed life = record life {
  present = put_back unit life.touches life.present;
  changed = changed;
  touches = without_touches unit life.touches;
  may_sync = without_sync unit life.may_sync;
}

-- A slot that doesn't count as changed didn't before, and stands as before. One that does, did before or was touched by
-- the unit.
pub record MarksBack (unit : ℕ) (changed : ℕ → ℕ → Bool) (life : LifeOnDisk) : Type 0 where
  pub same : EachSlot life.system (λ place number. changed (place + 1) number ≡ false →
      (life.changed (place + 1) number ≡ false) × (put_back unit life.touches life.present (place + 1) number ≡ life.present (place + 1) number))
  pub only : EachSlot life.system (λ place number. changed (place + 1) number ≡ true → life.touches unit (place + 1) number ≡ None → life.changed (place + 1) number ≡ true)
