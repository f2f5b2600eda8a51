-- Lasting steps of a life: the records that are appended with one, and what it leaves.
use Rattle.std.specs.Prelude.{◌≡◌, ◌⊎◌, ℕ, ◌+◌, ◌≤◌, ◌<◌, Bool, true, false, List, [], ◌++◌, length, take, Some, None}
use Rattle.std.specs.List.{list_all, flat_map, AllByRecursion}
use Rattle.model_system.specs.System.{System}
use Rattle.model_machine.specs.Machine.{LastingState}
use Rattle.log_records.specs.declared.record.Record.{Record}
use Rattle.log_records.specs.RecordSpelling.{record_spelling, IsLogRecord}
use Rattle.log_records.proofs.Takes.{IsBytes}
use Rattle.log_writer.specs.Writer.{Writer}
use Rattle.log_writer.specs.ForcedLog.{log_sectors_of}
use Rattle.model_image.specs.Slots.{named_by}
use Rattle.model_image.specs.Replay.{Replay, replay_all}
use Rattle.checkpointing.specs.CheckpointParts.{forced_writer}
use Rattle.disk_law.specs.CommittedBytes.{Bytes, Touches, Touch, AreCommitted}
use Rattle.disk_law.specs.Life.{LifeOnDisk, EachSlot, SpellRows, AreBeside, but_rows}
use Rattle.disk_law.specs.SlotChanges.{with_bytes_behind}
use Rattle.disk_law.specs.QuietRecords.{is_quiet_record}

-- the life once all that was appended is forced
abbrev pub forced_life : LifeOnDisk → LifeOnDisk
forced_life life = record life { log = forced_writer life.log; appended = [] }

-- the records of a step, what lasts with it, and what it leaves of slots and units
pub record StepOnDisk : Type 0 where
  pub records : List Record
  pub lasting : LastingState
  pub committed : Bytes
  pub present : Bytes
  pub changed : ℕ → ℕ → Bool
  pub touches : Touches
  pub may_sync : ℕ → Bool

-- the life's writer with the records of a step appended
abbrev pub with_step_records : LifeOnDisk → List Record → Writer
with_step_records life records = with_bytes_behind (flat_map record_spelling records) life.log

-- the life behind the step, whose records wait for a force
abbrev pub after_step : StepOnDisk → LifeOnDisk → LifeOnDisk
after_step step life = record life {
  log = with_step_records life step.records;
  appended = life.appended ++ step.records;
  lasting = step.lasting;
  committed = step.committed;
  present = step.present;
  changed = step.changed;
  touches = step.touches;
  may_sync = step.may_sync;
}

-- These are records that are spelled in bytes, and there is room for them in the log.
pub record HasRoomForRecords (life : LifeOnDisk) (records : List Record) : Type 0 where
  pub fits : life.log.place + log_sectors_of (length (life.log.appended ++ flat_map record_spelling records)) ≤ life.log.count
  pub valid : AllByRecursion IsLogRecord records
  pub bytes : IsBytes (flat_map record_spelling records)

-- ---- what all steps have

-- what lasts, done again so far, and nothing that waits
abbrev pub done_to : System → LastingState → Replay
done_to system lasting = record { lasting = but_rows system lasting; waiting = [] }

-- records behind which what lasts is as before
pub record Wait (system : System) (lasting : LastingState) (records : List Record) : Type 0 where
  pub waiting : List Record
  pub is : replay_all system records (done_to system lasting) ≡ Some (record { lasting = but_rows system lasting; waiting = waiting })

-- some unit touched the slot
pub record IsTouchedByUnits (touches : Touches) (database slot : ℕ) : Type 0 where
  pub unit : ℕ
  pub touch : Touch
  pub is : touches unit database slot ≡ Some touch

-- The records of a step lead from what lasted to what lasts with it, and those in front of the last leave all as it was.
-- What they say of the slots stays right, and a slot that no record names then is committed as before. A slot that doesn't
-- count as changed behind the step didn't before, and stands as before; one that does, did so or was touched.
pub record IsStep (life : LifeOnDisk) (step : StepOnDisk) : Type 0 where
  pub room : HasRoomForRecords life step.records
  pub quiet : (n : ℕ) → n < length step.records → list_all is_quiet_record (take n step.records) ≡ true
  pub wait : (n : ℕ) → n < length step.records → Wait life.system life.lasting (take n step.records)
  pub leads : replay_all life.system step.records (done_to life.system life.lasting) ≡ Some (done_to life.system step.lasting)
  pub carries : (snapshot log : List Record) → AreCommitted snapshot log life.may_sync life.touches life.committed → AreCommitted snapshot (log ++ step.records) step.may_sync step.touches step.committed
  pub others : (snapshot log : List Record) → AreCommitted snapshot log life.may_sync life.touches life.committed → (d s : ℕ) → named_by snapshot (log ++ step.records) d s ≡ None → step.committed d s ≡ life.committed d s
  pub rows : SpellRows life.system step.committed step.lasting.rows
  pub slots : AreBeside life.system step.touches step.committed step.present
  pub same : EachSlot life.system (λ place number. step.changed (place + 1) number ≡ false →
      (life.changed (place + 1) number ≡ false) × (step.present (place + 1) number ≡ life.present (place + 1) number))
  pub only : EachSlot life.system (λ place number. step.changed (place + 1) number ≡ true → (life.changed (place + 1) number ≡ true) ⊎ IsTouchedByUnits life.touches (place + 1) number)
