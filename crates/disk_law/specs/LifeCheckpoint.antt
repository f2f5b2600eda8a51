-- A life before and behind a checkpoint.
use Rattle.std.specs.Prelude.{◌≡◌, ℕ, ◌+◌, ◌≤◌, ◌==◌, Bool, false, List, [], length, slice_index_or, Some, None}
use Rattle.std.specs.List.{list_any, AllByRecursion}
use Rattle.model_system.specs.System.{System}
use Rattle.model_machine.specs.Machine.{LastingState}
use Rattle.log_records.specs.declared.record.Record.{Record}
use Rattle.restart_data.specs.Restart.{IsRestart}
use Rattle.restart_data.specs.Rules.{first_broken}
use Rattle.restart_data.specs.Snapshot as snapshot
use Rattle.seg_store.specs.Slots.{AreSlots}
use Rattle.seg_store.specs.ChangedSlots.{AllStores}
use Rattle.model_system.specs.Areas.{snapshot_area, snapshot_first, log_first}
use Rattle.model_image.specs.CutRecords.{records_cut}
use Rattle.model_image.specs.Snapshot.{snapshot_state, snapshot_rules}
use Rattle.disk_law.specs.CommittedBytes.{Touches, Touch, TellsTouches}
use Rattle.checkpointing.specs.CheckpointParts.{CheckpointParts, other_area, next_restart, next_writer}
use Rattle.checkpointing.specs.DirtySlots.{AreStoresOf}
use Rattle.disk_law.specs.Life.{LifeOnDisk, EachSlot, store_bytes_at, AreBeside, but_rows}

-- whether a slot is among the changed ones of stores: the place of its database, and its number
abbrev pub is_slot_changed : List (List ℕ) → ℕ → ℕ → Bool
is_slot_changed changed place number = list_any (λ n. n == number) (slice_index_or changed place [])

-- The life's slots are those of these stores.
pub record HasStores (life : LifeOnDisk) (stores : AllStores) : Type 0 where
  pub are_of : AreStoresOf life.system stores
  pub valid : AllByRecursion (λ s. AreSlots s.dbd s.slots) stores.stores
  pub present : EachSlot life.system (λ place number. life.present (place + 1) number ≡ store_bytes_at stores.stores place number)
  pub changed : EachSlot life.system (λ place number. life.changed (place + 1) number ≡ is_slot_changed stores.changed place number)

-- These bytes are a snapshot of these records, which break no rule: they tell what lasts, but for the rows, and what open
-- units did to slots.
pub record IsSnapshotOf (system : System) (lasting : LastingState) (touches : Touches) (told : List Record) (bytes : List ℕ) : Type 0 where
  pub cut : records_cut bytes ≡ Some told
  pub unbroken : first_broken (snapshot_rules system told) ≡ None
  pub state_is : snapshot_state system told ≡ but_rows system lasting
  pub tells : TellsTouches told touches

-- What open units touched, but for slots that stand as they are committed, as after a ROLB.
pub record Forgets (life : LifeOnDisk) (touches : Touches) : Type 0 where
  pub kept : (unit database slot : ℕ) (t : Touch) → touches unit database slot ≡ Some t → life.touches unit database slot ≡ Some t
  pub slots : AreBeside life.system touches life.committed life.present

-- the parts of a checkpoint with these bytes as its snapshot: the areas are those that the restart sector doesn't name
abbrev pub parts_with : List ℕ → LifeOnDisk → CheckpointParts
parts_with bytes life = record {
  system = life.system;
  now = life.now;
  snapshot_at = snapshot_first life.system (other_area life.now.snapshot);
  snapshot_sectors = snapshot_area life.system;
  log_at = log_first life.system (other_area life.now.log);
  log_sectors = life.system.logs;
  snapshot = bytes;
}

-- A checkpoint may be taken: the counters of its restart sector are in their range, and the snapshot, which fits its area, is of
-- what lasts and of what open units touched.
pub record MayCheckpoint (bytes : List ℕ) (stores : AllStores) (touches : Touches) (told : List Record) (life : LifeOnDisk) : Type 0 where
  pub fits : snapshot.snapshot_sectors_of (length bytes) ≤ snapshot_area life.system
  pub next : IsRestart (next_restart (parts_with bytes life) life.log)
  pub slots : HasStores life stores
  pub forgets : Forgets life touches
  pub is_snapshot : IsSnapshotOf life.system life.lasting touches told bytes

-- The life behind it: the log begins anew, and no slot counts as changed.
abbrev pub after_checkpoint : List ℕ → Touches → LifeOnDisk → LifeOnDisk
after_checkpoint bytes touches life = record life {
  now = next_restart (parts_with bytes life) life.log;
  log = next_writer (parts_with bytes life) life.log;
  appended = [];
  changed = λ database slot. false;
  touches = touches;
}
