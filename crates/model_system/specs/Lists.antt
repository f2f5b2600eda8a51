-- Lists of which one element changes.
use Rattle.std.specs.Prelude.{ℕ, List, Option, Some, None, slice_get, slice_set}
use Rattle.std.specs.Option.{option_map_or}

-- a list with the element at a place changed, if there is one
abbrev pub change_at : {X : Type 0} → List X → Option ℕ → (X → X) → List X
change_at xs (Some place) change = option_map_or (λ found. slice_set xs place (change found)) (slice_get xs place) xs
change_at xs None change = xs
