use Rattle.std.proofs.Common.{◌≡◌, drop}
use Rattle.std.specs.List.{list_all}
use Rattle.model_image.specs.Slots.{is_image_of}
use Rattle.image_records.proofs.images.are_images_of.Given as goal

abbrev pub invariant-loop-record : goal.invariant-loop-record
invariant-loop-record l = list_all (is_image_of l.system) (drop l.record-index l.records) ≡ list_all (is_image_of l.system) l.records
