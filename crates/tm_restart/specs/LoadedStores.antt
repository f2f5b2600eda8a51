-- Stores that were loaded from an image.
use Rattle.std.specs.Prelude.{◌≡◌, ℕ, ◌+◌, List, Some, map, slice_get}
use Rattle.tm_types.specs.SegTypes.{IsHierarchy}
use Rattle.tm_disk.specs.Disk.{Image}
use Rattle.model_system.specs.System.{System}
use Rattle.log_records.specs.declared.record.Record.{Record}
use Rattle.seg_store.specs.Slots.{Stored}
use Rattle.model_system.specs.Areas.{data_first}
use Rattle.model_image.specs.Slots.{slots_by, image_slot_in, slot_rows}

-- The stores are those of the system's databases, and each has in its slots what the image has there, by the records of the
-- snapshot and of the log.
pub record AreStoresLoaded (system : System) (image : Image) (snapshot log : List Record) (stores : List Stored) : Type 0 where
  pub databases : map (λ store. store.dbd) stores ≡ system.databases
  pub types : (place : ℕ) (store : Stored) → slice_get stores place ≡ Some store → IsHierarchy store.dbd.types
  pub each : (place : ℕ) (store : Stored) → slice_get stores place ≡ Some store → store.slots ≡ map slot_rows (slots_by (image_slot_in image snapshot log store.dbd (data_first system place) (place + 1)) store.dbd.roots 0)
