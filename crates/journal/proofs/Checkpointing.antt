-- A checkpoint of a life of which all is forced: what it asks for.
use Rattle.std.proofs.Common.{◌≡◌, ◌≤◌, ◌+◌, ◌*◌, ◌/◌, ℕ, List, length, refl, sym, subst, arith}
use Rattle.tm_disk.specs.Disk.{DiskState}
use Rattle.model_system.specs.System.{System}
use Rattle.model_system.specs.Areas.{snapshot_area, snapshot_first, log_first, data_first}
use Rattle.model_image.proofs.Places.{log_below, slot_above}
use Rattle.log_records.specs.declared.record.Record.{Record}
use Rattle.log_writer.specs.Writer.{Writer}
use Rattle.restart_data.specs.declared.restart.RestartSector.{RestartSector}
use Rattle.restart_data.specs.Restart.{IsRestart}
use Rattle.seg_store.specs.ChangedSlots.{AllStores}
use Rattle.disk_law.specs.CommittedBytes.{Touches}
use Rattle.checkpointing.specs.CheckpointParts.{CheckpointParts, other_area, forced_writer, next_restart, sequence_behind, AreAreasFree, IsOver}
use Rattle.checkpointing.specs.CheckpointNeeds.{HasRestart, NoneIsAhead, ChangedAreNamed, ForceKeeps, SnapshotKeeps}
use Rattle.checkpointing.specs.DirtySlots.{AreStoresOf}
use Rattle.disk_law.specs.Life.{LifeOnDisk, IsLifeOnDisk}
use Rattle.disk_law.specs.KeptImages.{AreImagesKept}
use Rattle.disk_law.specs.LifeCheckpoint.{parts_with, MayCheckpoint}
use Rattle.disk_law.specs.LifeSteps.{forced_life}
use Rattle.disk_law.proofs.CheckpointOnDisk.{has_restart, may_forced, changed_are_named, none_is_ahead, forces_keep, snapshots_keep}
use Rattle.disk_law.proofs.OnDisk.{forced_is_life}
use Rattle.disk_law.specs.JournalState.{JournalState}
use Rattle.journal.specs.CheckpointFor.{parts_for, CanTake}

-- what a checkpoint asks for
pub record Asks (parts : CheckpointParts) (log : Writer) (stores : AllStores) (disk : DiskState) : Type 0 where
  pub now : HasRestart parts.system parts.now disk
  pub free : AreAreasFree parts
  pub next : IsRestart (next_restart parts log)
  pub stores_of : AreStoresOf parts.system stores
  pub named : ChangedAreNamed parts log stores disk
  pub over : IsOver parts log
  pub log_area : log.first + log.count ≤ disk.size
  pub ahead : NoneIsAhead parts.system parts.now.epoch (sequence_behind log) disk
  pub force_keeps : ForceKeeps parts log disk
  pub snapshot_keeps : SnapshotKeeps parts log stores disk

-- so of a life of which all is forced
of_life : (bytes : List ℕ) (stores : AllStores) (disk : DiskState) (life : LifeOnDisk) (touches : Touches) (told : List Record)
    → IsLifeOnDisk life → MayCheckpoint bytes stores touches told life → AreImagesKept (forced_life life) disk
    → data_first life.system (length life.system.databases) ≤ disk.size
    → Asks (parts_with bytes life) (forced_writer life.log) stores disk
of_life bytes stores disk life touches told l may kept areas =
    let forced : LifeOnDisk = forced_life life in
    let is : IsLifeOnDisk forced = forced_is_life life l in
    let may_then : MayCheckpoint bytes stores touches told forced = may_forced bytes stores touches told life may in
    let w = l.writer in
    record {
      now = has_restart forced disk kept;
      free = record { snapshot_at = refl; snapshot_sectors = refl; log_at = refl; log_sectors = refl };
      next = may_then.next;
      stores_of = may.slots.are_of;
      named = changed_are_named bytes stores touches told forced is may_then refl disk kept;
      over = record { first = w.first; count = w.count; sequence = w.sequence; epoch = w.epoch };
      log_area = omega (arith, w.first, w.count, areas, log_below life.system life.now.log l.in_range.log, slot_above life.system (length life.system.databases) 0 0);
      ahead = none_is_ahead bytes stores touches told forced is may_then refl disk kept;
      force_keeps = forces_keep bytes stores touches told forced is may_then refl disk kept;
      snapshot_keeps = snapshots_keep bytes stores touches told forced is may_then refl disk kept;
    }

-- by the system and the journal that the life has
pub asks : (system : System) (journal : JournalState) (stores : AllStores) (bytes : List ℕ) (disk : DiskState) (can : CanTake system journal stores bytes disk)
    → Asks (parts_for system journal.restart bytes) journal.log stores disk
asks system journal stores bytes disk can =
    let life = can.life in
    let areas : data_first life.system (length life.system.databases) ≤ disk.size =
    subst (λ (s : System). data_first s (length s.databases) ≤ disk.size) (sym can.of_system) can.areas in
    subst (λ (s : System). Asks (parts_for s journal.restart bytes) journal.log stores disk) can.of_system
    (subst (λ (r : RestartSector). Asks (parts_for life.system r bytes) journal.log stores disk) can.now
    (subst (λ (w : Writer). Asks (parts_for life.system life.now bytes) w stores disk) can.writer
    (of_life bytes stores disk life can.touches can.told can.is_life can.may can.kept areas)))

-- a snapshot that fits its area, in bytes
pub bytes_fit : (bytes area : ℕ) → (bytes + 4063) / 4064 ≤ area → bytes ≤ area * 4064
bytes_fit bytes area h = omega (arith, h)

-- ---- the code's own values

-- the parts by the numbers of their areas
abbrev pub parts_at : System → RestartSector → List ℕ → ℕ → ℕ → ℕ → ℕ → CheckpointParts
parts_at system now bytes snapshot_at snapshot_sectors log_at log_sectors = record {
  system = system;
  now = now;
  snapshot_at = snapshot_at;
  snapshot_sectors = snapshot_sectors;
  log_at = log_at;
  log_sectors = log_sectors;
  snapshot = bytes;
}

pub record AreAreas (system : System) (now : RestartSector) (snapshot_at snapshot_sectors log_at log_sectors : ℕ) : Type 0 where
  pub snapshot_at_is : snapshot_at ≡ snapshot_first system (other_area now.snapshot)
  pub snapshot_sectors_are : snapshot_sectors ≡ snapshot_area system
  pub log_at_is : log_at ≡ log_first system (other_area now.log)
  pub log_sectors_are : log_sectors ≡ system.logs

pub same_parts : (system : System) (now : RestartSector) (bytes : List ℕ) (snapshot_at snapshot_sectors log_at log_sectors : ℕ) → AreAreas system now snapshot_at snapshot_sectors log_at log_sectors
    → parts_at system now bytes snapshot_at snapshot_sectors log_at log_sectors ≡ parts_for system now bytes
same_parts system now bytes snapshot_at snapshot_sectors log_at log_sectors are =
    rw (are.snapshot_at_is, are.snapshot_sectors_are, are.log_at_is, are.log_sectors_are) refl

pub asks_at : (system : System) (journal : JournalState) (stores : AllStores) (bytes : List ℕ) (disk : DiskState) (can : CanTake system journal stores bytes disk)
    → (snapshot_at snapshot_sectors log_at log_sectors : ℕ) → AreAreas system journal.restart snapshot_at snapshot_sectors log_at log_sectors
    → Asks (parts_at system journal.restart bytes snapshot_at snapshot_sectors log_at log_sectors) journal.log stores disk
asks_at system journal stores bytes disk can snapshot_at snapshot_sectors log_at log_sectors are =
    subst (λ (p : CheckpointParts). Asks p journal.log stores disk) (sym (same_parts system journal.restart bytes snapshot_at snapshot_sectors log_at log_sectors are))
    (asks system journal stores bytes disk can)

-- by a restart sector that is the journal's
pub asks_with : (system : System) (journal : JournalState) (restart : RestartSector) (stores : AllStores) (bytes : List ℕ) (disk : DiskState) (can : CanTake system journal stores bytes disk)
    → restart ≡ journal.restart → (snapshot_at snapshot_sectors log_at log_sectors : ℕ) → AreAreas system restart snapshot_at snapshot_sectors log_at log_sectors
    → Asks (parts_at system restart bytes snapshot_at snapshot_sectors log_at log_sectors) journal.log stores disk
asks_with system journal restart stores bytes disk can same snapshot_at snapshot_sectors log_at log_sectors are =
    subst
    (λ (r : RestartSector). AreAreas system r snapshot_at snapshot_sectors log_at log_sectors → Asks (parts_at system r bytes snapshot_at snapshot_sectors log_at log_sectors) journal.log stores disk)
    (sym same) (λ now. asks_at system journal stores bytes disk can snapshot_at snapshot_sectors log_at log_sectors now) are
