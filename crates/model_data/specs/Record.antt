-- Records, and their spelling.
use Rattle.std.specs.Prelude.{◌≡◌, ◌≢◌, ℕ, ◌*◌, ◌≤◌, ◌<◌, ◌⊎◌, List, [], ◌∷◌, Option, None, length, take, slice_get}
use Rattle.std.specs.Option.{option_map}
use Rattle.std.specs.List.{AllByRecursion, flat_map}
use Rattle.std.specs.List.Sorted.{IsStrictlySortedBy}
use Rattle.tm_types.specs.declared.dbd.Dbd.{Dbd}
use Rattle.tm_types.specs.declared.dbd.SegType.{SegType}
use Rattle.model_data.specs.declared.row.Row.{Row}
use Rattle.model_data.specs.Path.{root_of, end_type}
use Rattle.model_data.specs.Row.{IsRow, row_cmp}

-- the most bytes of a record: 4,000 a sector
abbrev pub record_limit : Dbd → ℕ
record_limit dbd = 4000 * dbd.sectors

-- a row is spelled as its type number and its data
abbrev pub row_spelling : Row → List ℕ
row_spelling row = end_type row.path ∷ row.bytes

-- a record is spelled as its rows, one after the other
abbrev pub rows_spelling : List Row → List ℕ
rows_spelling rows = flat_map row_spelling rows

-- the key of the root of which the first row speaks
abbrev pub record_root : List Row → Option (List ℕ)
record_root [] = None
record_root (row ∷ rows) = option_map (λ p. p.1) (slice_get row.path 0)

-- the rows under one root: in hierarchic order, each a row among these, all with this root key.
-- No rows at all count here too.
pub record IsUnder (types : List SegType) (root : List ℕ) (rows : List Row) : Type 0 where
  pub ascending : IsStrictlySortedBy row_cmp rows
  pub each : AllByRecursion (IsRow types rows) rows
  pub one_root : AllByRecursion (λ row. root_of row.path ≡ root) rows

-- a record of any length
pub record IsLongRecord (types : List SegType) (root : List ℕ) (rows : List Row) : Type 0 where
  pub some : rows ≢ []
  pub under : IsUnder types root rows

-- a record of the database
pub record IsRecord (dbd : Dbd) (root : List ℕ) (rows : List Row) : Type 0 where
  pub whole : IsLongRecord dbd.types root rows
  pub within : length (rows_spelling rows) ≤ record_limit dbd

-- the bytes spell these rows, which are a record of the database
pub record Spells (dbd : Dbd) (bytes : List ℕ) (rows : List Row) : Type 0 where
  pub root : List ℕ
  pub valid : IsRecord dbd root rows
  pub spelled : rows_spelling rows ≡ bytes

-- the bytes spell a record of the database
pub record SpellsRecord (dbd : Dbd) (bytes : List ℕ) : Type 0 where
  pub rows : List Row
  pub spells : Spells dbd bytes rows

-- the length of the longest prefix of the bytes that spells a record, or 0 where none does
pub record IsLongestRecord (dbd : Dbd) (bytes : List ℕ) (place : ℕ) : Type 0 where
  pub within : place ≤ length bytes
  pub spells : (place ≡ 0) ⊎ SpellsRecord dbd (take place bytes)
  pub longest : (n : ℕ) → place < n → n ≤ length bytes → SpellsRecord dbd (take n bytes) → ⊥
