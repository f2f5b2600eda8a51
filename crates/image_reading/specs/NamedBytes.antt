-- The slots that records name, by database.
use Rattle.std.specs.Prelude.{◌≡◌, ℕ, ◌+◌, ◌==◌, List, [], ◌∷◌, if◌then◌else◌, length, Some, slice_get}
use Rattle.image_records.specs.declared.slots.NamedSlot.{NamedSlot}

-- those of one database, with their bytes
abbrev pub of_database : ℕ → List NamedSlot → List (ℕ × List ℕ)
of_database database [] = []
of_database database (s ∷ slots) = if s.database == database then (s.slot, s.bytes) ∷ of_database database slots else of_database database slots

-- For so many databases, the first of which has the number 1, each slot is given the bytes that the list has for it.
pub record AreNamedBytes (count : ℕ) (named : List NamedSlot) (given : List (List (ℕ × List ℕ))) : Type 0 where
  pub count_is : length given ≡ count
  pub each : (place : ℕ) (slots : List (ℕ × List ℕ)) → slice_get given place ≡ Some slots → slots ≡ of_database (place + 1) named
