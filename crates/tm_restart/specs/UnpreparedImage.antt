-- What is known of an image before its life is prepared.
use Rattle.std.specs.Prelude.{◌≡◌, ℕ, ◌+◌, ◌-◌, true, List, Some, Ok, slice_get}
use Rattle.tm_types.specs.declared.dbd.Dbd.{Dbd}
use Rattle.tm_disk.specs.Disk.{Image}
use Rattle.model_system.specs.System.{System}
use Rattle.log_records.specs.declared.record.Record.{Record}
use Rattle.restart_data.specs.declared.restart.RestartSector.{RestartSector}
use Rattle.restart_data.specs.Restart.{restart_in}
use Rattle.model_system.specs.Areas.{is_single, snapshot_area}
use Rattle.model_image.specs.Slots.{is_image, named_by}
use Rattle.model_image.specs.RecoveredState.{snapshot_from, log_in}
use Rattle.image_loading.specs.LoadedStore.{given_to}
use Rattle.tm_restart.specs.GivenSlots.{GivenSlots, AreGiven}

-- It has this restart sector and this snapshot; the slots that are given are those that a record of the snapshot or of the
-- log names, each with the bytes that it says, which spell a record or none; and the new snapshot stands in the other area.
pub record IsUnprepared (system : System) (r : RestartSector) (snapshot : List Record) (given : GivenSlots) (now : RestartSector) (image : Image) : Type 0 where
  pub restart : restart_in (snapshot_area system) (is_single system) image ≡ Ok (Some r)
  pub has_snapshot : snapshot_from system image r ≡ Ok snapshot
  pub are : AreGiven system given
  pub named : (place number : ℕ) (slots : List (ℕ × List ℕ)) → slice_get given place ≡ Some slots → given_to number slots ≡ named_by snapshot (log_in system image r).records (place + 1) number
  pub images : (place number : ℕ) (dbd : Dbd) (slots : List (ℕ × List ℕ)) (bytes : List ℕ) → slice_get system.databases place ≡ Some dbd → slice_get given place ≡ Some slots → given_to number slots ≡ Some bytes → is_image dbd bytes ≡ true
  pub other : now.snapshot ≡ 1 - r.snapshot
