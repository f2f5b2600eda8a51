-- What a life on its disk has of the machine that goes on.
use Rattle.std.specs.Prelude.{◌≡◌, ℕ, ◌+◌, ◌-◌, ◌<◌, ◌≤◌, Bool, true, List, Option, Some, IsSome, slice_get}
use Rattle.std.specs.List.{AllByRecursion}
use Rattle.tm_types.specs.declared.resource.Resource.{Resource}
use Rattle.model_data.specs.declared.row.Row.{Row}
use Rattle.model_data.specs.Table.{EnqueueTable}
use Rattle.model_system.specs.System.{System}
use Rattle.model_machine.specs.Machine.{LastingState, Moment, Slot}
use Rattle.pi_enqueue.specs.KeptTable.{IsTableKept}
use Rattle.unit_work.specs.Images.{image_at, image_bytes_at, IsSlotOf}
use Rattle.program_rows.specs.OpenUnits.{HoldsAlone}
use Rattle.checkpointing.specs.SnapshotRecords.{IsOfSystem}
use Rattle.image_law.specs.SegmentCounts.{AreSegmentsCounted}
use Rattle.disk_law.specs.CommittedBytes.{Touch, Touches}
use Rattle.disk_law.specs.Life.{LifeOnDisk, IsLifeOnDisk, EachSlot}
use Rattle.disk_law.specs.LifeCheckpoint.{HasStores}
use Rattle.image_law.specs.SoundMachine.{StaysSound}
use Rattle.program_rows.specs.SlotsState.{SlotsState, slots_stores, root_in, touched_in}
use Rattle.journal.specs.UnitNumbers.{AreUnitsNumbered, unit_of_region}

-- what a region holds that has touched a slot where this image stood first: its record, or the sequence of the database
abbrev pub resource_of : ℕ → List Row → Resource
resource_of db image = record { db = db; root = root_in image }

-- What regions have touched they hold.
pub record HoldTouched (table : EnqueueTable) (slots : SlotsState) : Type 0 where
  pub held : (region : ℕ) → 1 ≤ region → AllByRecursion (λ c. HoldsAlone table region (resource_of c.db c.before)) (touched_in region slots)
  pub compatible : IsTableKept table

-- ---- open units

-- A unit of the life is that of a region. It touched a slot that is there, of which the region holds what is committed.
pub record IsTouchedBy (table : EnqueueTable) (slots : SlotsState) (units : List ℕ) (unit d s : ℕ) : Type 0 where
  pub region : ℕ
  pub least : 1 ≤ region
  pub found : slice_get units (region - 1) ≡ Some unit
  pub some : 0 < unit
  pub there : IsSlotOf slots.stores d s
  pub alone : HoldsAlone table region (resource_of d (image_at d s slots.committed))

-- What the units of the life touched, those of the regions touched; and what a region has touched its unit did.
pub record AreTouchedBy (table : EnqueueTable) (slots : SlotsState) (units : List ℕ) (touches : Touches) : Type 0 where
  pub each : (unit d s : ℕ) (t : Touch) → touches unit d s ≡ Some t → IsTouchedBy table slots units unit d s
  pub kept : (region : ℕ) → 1 ≤ region → AllByRecursion (λ c. IsSome (touches (unit_of_region units region) c.db c.slot)) (touched_in region slots)

-- The units of the regions may still reach their sync points, and so may all to come.
pub record MaySync (units : List ℕ) (next_unit : ℕ) (may_sync : ℕ → Bool) : Type 0 where
  pub open_yet : (place unit : ℕ) → slice_get units place ≡ Some unit → 0 < unit → may_sync unit ≡ true
  pub to_come : (unit : ℕ) → next_unit ≤ unit → may_sync unit ≡ true

-- ---- the life

-- The life has the system and what lasts, which has the system's names, and whose messages and replies have 1 to 32 segments. Its slots are those of the stores, its committed ones those that are committed there,
-- and its open units are those of the regions, with these numbers.
pub record IsLifeOf (system : System) (lasting : LastingState) (regions : List (Option Slot)) (table : EnqueueTable) (slots : SlotsState) (units : List ℕ) (next_unit : ℕ) (life : LifeOnDisk) : Type 0 where
  pub of_system : life.system ≡ system
  pub lasts : life.lasting ≡ lasting
  pub names : IsOfSystem system lasting
  pub counted : AreSegmentsCounted lasting
  pub is_life : IsLifeOnDisk life
  pub stores : HasStores life (slots_stores slots)
  pub committed : EachSlot system (λ place number. life.committed (place + 1) number ≡ image_bytes_at (place + 1) number slots.committed)
  pub numbers : AreUnitsNumbered regions units next_unit
  pub touched : AreTouchedBy table slots units life.touches
  pub syncs : MaySync units next_unit life.may_sync

-- The life is that of a machine at a moment, which breaks no rule and has its room.
pub record IsCarriedBy (system : System) (moment : Moment) (slots : SlotsState) (units : List ℕ) (next_unit : ℕ) (life : LifeOnDisk) : Type 0 where
  pub is : IsLifeOf system moment.lasting moment.slots moment.enqueues slots units next_unit life
  pub sound : StaysSound system moment
