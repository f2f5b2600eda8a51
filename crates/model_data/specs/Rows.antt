-- The rows of a whole database.
use Rattle.std.specs.Prelude.{Bool, not, nat_le, nat_lt, ◌&&◌, ◌⊎◌, [], ◌≡◌, ℕ, ◌≤◌, ◌==◌, List, ◌++◌, Option, None, Some, length, filter, map, find, slice_get}
use Rattle.std.specs.List.{AllByRecursion, flat_map}
use Rattle.std.specs.List.Sorted.{IsStrictlySortedBy}
use Rattle.std.specs.Ordering.{is_lt, is_eq, is_gt}
use Rattle.tm_types.specs.declared.dbd.Dbd.{Dbd}
use Rattle.tm_types.specs.SegTypes.{IsHierarchy}
use Rattle.model_data.specs.declared.row.Row.{Row}
use Rattle.model_data.specs.Path.{key_cmp, root_of}
use Rattle.model_data.specs.Row.{IsRow, row_cmp}
use Rattle.model_data.specs.Record.{IsLongRecord, record_limit, rows_spelling}

-- the rows under this root
abbrev pub record_of : List ℕ → List Row → List Row
record_of root rows = filter (λ row. is_eq (key_cmp root (root_of row.path))) rows

-- the rows of the records before this root, and of those after it
abbrev pub rows_before : List ℕ → List Row → List Row
rows_before root rows = filter (λ row. is_gt (key_cmp root (root_of row.path))) rows

abbrev pub rows_after : List ℕ → List Row → List Row
rows_after root rows = filter (λ row. is_lt (key_cmp root (root_of row.path))) rows

-- the rows with this image in place of the record of the root, all other records staying
abbrev pub with_record : List ℕ → List Row → List Row → List Row
with_record root image rows = rows_before root rows ++ image ++ rows_after root rows

-- the keys of the roots, in order
abbrev pub roots : List Row → List (List ℕ)
roots rows = map (λ row. root_of row.path) (filter (λ row. length row.path == 1) rows)

-- the first root, or the first one after this key
abbrev pub next_root : List Row → Option (List ℕ) → Option (List ℕ)
next_root rows None = slice_get (roots rows) 0
next_root rows (Some after) = find (λ key. is_lt (key_cmp after key)) (roots rows)

-- an image that may stand in place of the record of this root: none, or a record of any length
abbrev pub IsImage : Dbd → List ℕ → List Row → Type 0
IsImage dbd root image = (image ≡ []) ⊎ IsLongRecord dbd.types root image

-- whether the image in place of the record makes one root more than the database may have
abbrev pub passes_roots : Dbd → List ℕ → List Row → List Row → Bool
passes_roots dbd root image rows =
    not (length image == 0) && (length (record_of root rows) == 0) && nat_le dbd.roots (length (roots rows))

-- whether the image has more bytes than a record may have
abbrev pub passes_length : Dbd → List Row → Bool
passes_length dbd image = nat_lt (record_limit dbd) (length (rows_spelling image))

-- the rows of a database, whose types are a hierarchy: in hierarchic order, each a row among these, with
-- at most as many roots and bytes a record as the database allows
pub record AreRows (dbd : Dbd) (rows : List Row) : Type 0 where
  pub types : IsHierarchy dbd.types
  pub ascending : IsStrictlySortedBy row_cmp rows
  pub each : AllByRecursion (IsRow dbd.types rows) rows
  pub within_roots : length (roots rows) ≤ dbd.roots
  pub within_limit : (root : List ℕ) → length (rows_spelling (record_of root rows)) ≤ record_limit dbd

-- the rows of records that are kept by their roots
abbrev pub rows_of_records : List (List ℕ × List Row) → List Row
rows_of_records records = flat_map (λ entry. entry.1) records

-- a database with its rows
pub record Database : Type 0 where
  pub dbd : Dbd
  pub rows : List Row
