-- A unit whose next touch is ready.
use Rattle.std.specs.Prelude.{◌<◌, ℕ, Bool, List, Option, Some, None, if◌then◌else◌}
use Rattle.model_data.specs.declared.row.Row.{Row}
use Rattle.unit_work.specs.declared.change.Change.{Change}
use Rattle.unit_work.specs.Changes.{Changes, AreAllKept}

-- the unit as it is, and as it is once the touch is kept, and the image that is still to come, where one is
pub record Touching : Type 0 where
  pub unit : Changes
  pub touched : Changes
  pub image : Option (List Row)

-- where its image is to come, it is that of the record
abbrev pub image_to_come : Bool → Change → Option (List Row)
image_to_come moves own = if moves then Some own.before else None

-- what is kept of the slot, with this image where it was to come
abbrev pub with_image : Bool → List Row → Change → Change
with_image moves image slot = if moves then record slot { before = image } else slot

-- both are units, and there is room for a record and a slot more
pub record HasRoomForTouch (t : Touching) (records record_room slots slot_room : ℕ) : Type 0 where
  pub unit : AreAllKept t.unit
  pub touched : AreAllKept t.touched
  pub record_fits : records < record_room
  pub slot_fits : slots < slot_room
