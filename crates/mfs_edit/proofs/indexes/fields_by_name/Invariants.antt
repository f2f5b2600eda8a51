use Rattle.std.proofs.Common.{◌≡◌, ℕ, List, take, reverse}
use Rattle.std.specs.Prelude.{find}
use Rattle.std.specs.Str.{bytes_eq}
use Rattle.mfs_edit.specs.Indexes as spec
use Rattle.mfs_edit.proofs.indexes.fields_by_name.Given as goal

abbrev pub invariant-loop-index : goal.invariant-loop-index
invariant-loop-index l = (name : List ℕ) → spec.item_at l.fields (spec.field_place_in l.places name) ≡ find (λ field. bytes_eq field.name name) (reverse (take l.index l.fields))
