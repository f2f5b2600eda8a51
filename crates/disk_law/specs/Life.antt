-- What a life has beside its disk.
use Rattle.std.specs.Prelude.{◌≡◌, ℕ, ◌+◌, ◌^◌, ◌<◌, ◌≤◌, Bool, false, List, [], length, map, slice_get, slice_index_or, Some, None}
use Rattle.std.specs.List.{flat_map, AllByRecursion}
use Rattle.std.specs.Option.{option_map_or}
use Rattle.tm_types.specs.declared.dbd.Dbd.{Dbd}
use Rattle.model_data.specs.declared.row.Row.{Row}
use Rattle.model_data.specs.Record as rows
use Rattle.model_system.specs.System.{System}
use Rattle.model_machine.specs.Machine.{LastingState, empty_state}
use Rattle.log_records.specs.declared.record.Record.{Record}
use Rattle.log_records.specs.RecordSpelling.{record_spelling, IsLogRecord}
use Rattle.log_records.proofs.Takes.{IsBytes}
use Rattle.log_writer.specs.Writer.{Writer}
use Rattle.log_writer.specs.ForcedLog.{log_sectors_of}
use Rattle.restart_data.specs.declared.restart.RestartSector.{RestartSector}
use Rattle.restart_data.specs.Restart.{IsRestart}
use Rattle.seg_store.specs.Slots.{Stored, AreSlots, rows_of_slots}
use Rattle.model_system.specs.Areas.{log_first}
use Rattle.model_image.specs.States.{breaks_a_rule}
use Rattle.disk_law.specs.CommittedBytes.{Bytes, Touches, Touch}

pub record LifeOnDisk : Type 0 where
  pub system : System
  -- the definition's text, and the restart sector that holds
  pub text : List ℕ
  pub now : RestartSector
  -- the log's writer, and the records that were appended to it and aren't forced yet
  pub log : Writer
  pub appended : List Record
  -- what lasts
  pub lasting : LastingState
  -- of each slot, by database from 1 on and number: its committed bytes, those that it has in the stores, with what
  -- open units did, and whether it was changed since its sectors were written
  pub committed : Bytes
  pub present : Bytes
  pub changed : ℕ → ℕ → Bool
  -- what open units did to the slots, and which units may still reach a sync point, those to come among them
  pub touches : Touches
  pub may_sync : ℕ → Bool

-- so for each slot of the databases of a system: the place of its database, from 0 on, and its number
abbrev pub EachSlot : System → (ℕ → ℕ → Type 0) → Type 0
EachSlot system holds =
    (place number : ℕ) (dbd : Dbd) → slice_get system.databases place ≡ Some dbd → number < dbd.roots → holds place number

-- the bytes of a slot of these stores
abbrev pub stored_slots_at : List Stored → ℕ → List (List Row)
stored_slots_at stores place = option_map_or (λ s. s.slots) (slice_get stores place) []

abbrev pub store_bytes_at : List Stored → ℕ → ℕ → List ℕ
store_bytes_at stores place number = rows.rows_spelling (slice_index_or (stored_slots_at stores place) number [])

-- The committed bytes spell these rows: they are those of slots of the databases, and the rows are those of the slots.
pub record SpellRows (system : System) (committed : Bytes) (lines : List (List Row)) : Type 0 where
  pub stores : List Stored
  pub databases : map (λ s. s.dbd) stores ≡ system.databases
  pub valid : AllByRecursion (λ s. AreSlots s.dbd s.slots) stores
  pub bytes : EachSlot system (λ place number. committed (place + 1) number ≡ store_bytes_at stores place number)
  pub are : map (λ s. rows_of_slots s.slots) stores ≡ lines

-- The writer is over the log area that the restart sector names, with its epoch and its first sequence.
pub record IsWriterOf (system : System) (now : RestartSector) (log : Writer) : Type 0 where
  pub first : log.first ≡ log_first system now.log
  pub count : log.count ≡ system.logs
  pub sequence : log.sequence ≡ now.sequence
  pub epoch : log.epoch ≡ now.epoch

-- Records that wait for a force, spelled one after another. There is room for them.
pub record AreAppended (log : Writer) (appended : List Record) : Type 0 where
  pub fits : log.place + log_sectors_of (length log.appended) ≤ log.count
  pub spelled : log.appended ≡ flat_map record_spelling appended
  pub records : AllByRecursion IsLogRecord appended
  pub bytes : IsBytes (flat_map record_spelling appended)

-- A slot is touched by one unit at most. Before it stood there what is committed, and it stands in the stores as the unit left
-- it; a slot that none touched stands there as it is committed.
pub record AreBeside (system : System) (touches : Touches) (committed present : Bytes) : Type 0 where
  pub firsts : (unit database slot : ℕ) (t : Touch) → touches unit database slot ≡ Some t → t.first ≡ committed database slot
  pub apart : (unit other database slot : ℕ) (t u : Touch) → touches unit database slot ≡ Some t → touches other database slot ≡ Some u → unit ≡ other
  pub touched : (unit database slot : ℕ) (t : Touch) → touches unit database slot ≡ Some t → t.present ≡ present database slot
  pub untouched : EachSlot system (λ place number. ((unit : ℕ) → touches unit (place + 1) number ≡ None) → committed (place + 1) number ≡ present (place + 1) number)

-- What holds of a life beside its images: what lasts breaks no rule, and its parts agree.
pub record IsLifeOnDisk (life : LifeOnDisk) : Type 0 where
  pub in_range : IsRestart life.now
  pub few : life.system.logs < 2 ^ 32
  pub writer : IsWriterOf life.system life.now life.log
  pub appended : AreAppended life.log life.appended
  pub sound : breaks_a_rule life.system life.lasting ≡ false
  pub rows : SpellRows life.system life.committed life.lasting.rows
  pub slots : AreBeside life.system life.touches life.committed life.present

-- what lasts, but for its rows
abbrev pub but_rows : System → LastingState → LastingState
but_rows system lasting = record lasting { rows = (empty_state system).rows }
