-- A list with one element changed.
use Rattle.std.proofs.Common.{◌≡◌, ℕ, ◌<◌, List, Some, length, get_or, set, ap, refl}
use Rattle.std.specs.Option.{option_map_or}
use Rattle.std.proofs.lemmas.Option.{slice_get_read}
use Rattle.model_system.specs.Lists.{change_at}

pub changed_at : {X : Type 0} (xs : List X) (i : ℕ) (x : X) (change : X → X) → i < length xs → x ≡ get_or xs i x
    → change_at xs (Some i) change ≡ set xs i (change x)
changed_at xs i x change within is =
    ap (λ found. option_map_or (λ y. set xs i (change y)) found xs) (slice_get_read xs (length xs) i x refl within is)
