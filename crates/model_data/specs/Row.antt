-- Rows of a database.
use Rattle.std.specs.Prelude.{◌≡◌, ℕ, ◌⊎◌, List, [], ◌∷◌, length, take, IsTrue, IsSomeAnd}
use Rattle.std.specs.List.{list_all}
use Rattle.std.specs.declared.cmp.Ordering.{Ordering}
use Rattle.tm_types.specs.declared.dbd.SegType.{SegType}
use Rattle.tm_types.specs.SegTypes.{type_at}
use Rattle.tm_types.specs.Segment.{is_printable}
use Rattle.model_data.specs.declared.row.Row.{Row}
use Rattle.model_data.specs.Path.{path_cmp, end_type, end_key, parent_path, IsPath}

-- rows are ordered by their paths
abbrev pub row_cmp : Row → Row → Ordering
row_cmp a b = path_cmp a.path b.path

-- some row has this path
abbrev pub HasPath : List Row → List (ℕ × List ℕ) → Type 0
HasPath [] path = ⊥
HasPath (row ∷ rows) path = (row.path ≡ path) ⊎ HasPath rows path

-- a row among these: it has a path of the database, its parent is there unless it is a root, and
-- its data has the length of its type, is printable, and begins with its key
pub record IsRow (types : List SegType) (rows : List Row) (row : Row) : Type 0 where
  pub path : IsPath types row.path
  pub parent : (parent_path row.path ≡ []) ⊎ HasPath rows (parent_path row.path)
  pub whole : IsSomeAnd (type_at types (end_type row.path)) (λ s. length row.bytes ≡ s.bytes)
  pub printable : IsTrue (list_all is_printable row.bytes)
  pub key : take (length (end_key row.path)) row.bytes ≡ end_key row.path
