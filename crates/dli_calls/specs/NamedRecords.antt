-- How the records that a search needs are named, key by key.
use Rattle.std.specs.Prelude.{◌≡◌, ◌≢◌, ℕ, Bool, if◌then◌else◌, List, [], ◌∷◌, Option, None, Some, flat_map}
use Rattle.tm_types.specs.declared.resource.Mode.{Mode}
use Rattle.tm_types.specs.declared.resource.Mode.TheVariants.{Shared, Exclusive}
use Rattle.model_data.specs.declared.row.Row.{Row}
use Rattle.model_data.specs.Rows.{record_of}
use Rattle.model_data.specs.Footprint.{roots_behind}

-- these roots behind one, or all of them
abbrev pub keys_behind : Option (List ℕ) → List (List ℕ) → List (List ℕ)
keys_behind None keys = keys
keys_behind (Some root) keys = roots_behind root keys

-- a root and those of these that stand behind it
abbrev pub keys_from : Option (List ℕ) → List (List ℕ) → List (List ℕ)
keys_from None keys = []
keys_from (Some root) keys = root ∷ roots_behind root keys

-- the rows of the records of these roots
abbrev pub rows_of_roots : List (List ℕ) → List Row → List Row
rows_of_roots keys rows = flat_map (λ key. record_of key rows) keys

-- the mode in which a get has the records that it needs
abbrev pub mode_of : Bool → Mode
mode_of hold = if hold then Exclusive else Shared

-- the records of all other roots stay
abbrev pub OthersStay : List ℕ → List Row → List Row → Type 0
OthersStay root before after = (other : List ℕ) → other ≢ root → record_of other after ≡ record_of other before
