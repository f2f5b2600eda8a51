-- Data sectors that hold what stores have.
use Rattle.std.specs.Prelude.{◌≡◌, ℕ, ◌<◌, true, List, [], None, Some, slice_get, slice_index_or}
use Rattle.tm_disk.specs.Disk.{Image}
use Rattle.model_data.specs.Record.{rows_spelling}
use Rattle.model_system.specs.System.{System}
use Rattle.seg_store.specs.Slots.{Stored}
use Rattle.model_image.specs.Slots.{wrong_from, spelled_in, slot_at}

-- The sectors of a slot spell these bytes, and none of them is wrong, wherever they stand.
pub record HoldsBytes (bytes : List ℕ) (sectors : List (List ℕ)) : Type 0 where
  pub right : (at : ℕ) → wrong_from true at sectors ≡ None
  pub spelled : spelled_in sectors ≡ bytes

-- The sectors of each slot of these stores spell the record that stands in the slot, or none.
pub record HoldsStores (system : System) (stores : List Stored) (image : Image) : Type 0 where
  pub each : (place number : ℕ) (store : Stored) → slice_get stores place ≡ Some store → number < store.dbd.roots
      → HoldsBytes (rows_spelling (slice_index_or store.slots number [])) (slot_at system image place number)
