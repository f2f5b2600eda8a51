-- A store is built from the records of its slots, from the last to the first.
use Rattle.std.specs.Prelude.{◌≡◌, ℕ, ◌+◌, Bool, not, ◌&&◌, List, [], ◌∷◌, if◌then◌else◌, Option, Some, None, slice_set}
use Rattle.std.specs.List.{list_any}
use Rattle.std.specs.Option.{is_some}
use Rattle.model_data.specs.declared.row.Row.{Row}
use Rattle.seg_store.specs.Slots.{is_slot_free, image_root, has_root, slot_of_root}
use Rattle.image_loading.specs.declared.fault.LoadFault.{LoadFault}
use Rattle.image_loading.specs.declared.fault.LoadFault.TheVariants as faults

-- whether another image is of a record with the same root
abbrev pub has_same_root : List Row → List Row → Bool
has_same_root image other = not (is_slot_free image) && has_root (image_root image) other

-- the place of the first image whose root a later one has, where each has so many sectors and the first of all this place
abbrev pub shared_at : ℕ → ℕ → List (List Row) → Option ℕ
shared_at sectors at [] = None
shared_at sectors at (image ∷ images) = if list_any (has_same_root image) images then Some at else shared_at sectors (at + sectors) images

-- the images but those whose root a later one has
abbrev pub apart : List (List Row) → List (List Row)
apart [] = []
apart (image ∷ images) = (if list_any (has_same_root image) images then [] else image) ∷ apart images

-- a record of these slots has the root of this image
abbrev pub is_root_there : List Row → List (List Row) → Bool
is_root_there image slots = not (is_slot_free image) && is_some (slot_of_root (image_root image) slots)

-- the slots with an image in one of them, unless its root is there
abbrev pub with_new : ℕ → List Row → List (List Row) → List (List Row)
with_new number image slots = if is_root_there image slots then slots else slice_set slots number image

-- a record's root is that of another one, whose place is told
abbrev pub SharesRoot : ℕ → ℕ → List (List Row) → LoadFault → Type 0
SharesRoot sectors first images (faults.Bad rule sector) = (rule ≡ 22) × (shared_at sectors first images ≡ Some sector)
SharesRoot sectors first images faults.Disk = ⊥
SharesRoot sectors first images faults.Memory = Unit {0}
