use Rattle.std.proofs.Common.{◌≡◌, ℕ, List, take, reverse}
use Rattle.std.specs.Prelude.{find}
use Rattle.std.specs.Str.{bytes_eq}
use Rattle.mfs_edit.specs.Indexes as spec
use Rattle.mfs_edit.proofs.indexes.values_by_name.Given as goal

abbrev pub invariant-loop-index : goal.invariant-loop-index
invariant-loop-index l = (name : List ℕ) → spec.item_at l.values (spec.field_place_in l.places name) ≡ find (λ value. bytes_eq value.name name) (reverse (take l.index l.values))
