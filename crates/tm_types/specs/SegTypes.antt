-- The segment types of a database, numbered from 1 in their order.
use Rattle.std.specs.Prelude.{◌≡◌, ℕ, ◌-◌, ◌≤◌, ◌==◌, ◌↔◌, if◌then◌else◌, List, Option, None, Some, slice_get}
use Rattle.tm_types.specs.declared.dbd.SegType.{SegType}

-- a segment type that may stand at this place of the list, counted from 0: the first is the root
-- and has parent 0, and every other one has a parent that stands before it; a key has 1 to 32
-- bytes and lies within the data
pub record IsTypeAt (place : ℕ) (s : SegType) : Type 0 where
  pub root : (s.parent ≡ 0) ↔ (place ≡ 0)
  pub parent : s.parent ≤ place
  pub key_least : 1 ≤ s.key
  pub key_most : s.key ≤ 32
  pub key_within : s.key ≤ s.bytes

-- each type of the list may stand where it stands
abbrev pub IsHierarchy : List SegType → Type 0
IsHierarchy types = (place : ℕ) (s : SegType) → slice_get types place ≡ Some s → IsTypeAt place s

-- the type with this number, counted from 1; there is none for 0 and past the last
abbrev pub type_at : List SegType → ℕ → Option SegType
type_at types number = if number == 0 then None else slice_get types (number - 1)
