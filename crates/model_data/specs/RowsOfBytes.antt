-- How the bytes of a record go on, a row at a time.
use Rattle.std.specs.Prelude.{ℕ, ◌==◌, nat_le, Bool, not, ◌&&◌, List, [], ◌∷◌, ◌++◌, Option, None, Some, if◌then◌else◌, length, take}
use Rattle.std.specs.List.{list_all}
use Rattle.std.specs.Ordering.{is_lt}
use Rattle.tm_types.specs.declared.dbd.SegType.{SegType}
use Rattle.tm_types.specs.SegTypes.{type_at}
use Rattle.tm_types.specs.Segment.{is_printable}
use Rattle.model_data.specs.declared.row.Row.{Row}
use Rattle.model_data.specs.Path.{path_cmp, end_type}

-- the front of a path with types up to this one
abbrev pub down_to : ℕ → List (ℕ × List ℕ) → List (ℕ × List ℕ)
down_to t [] = []
down_to t (p ∷ path) = if nat_le p.0 t then p ∷ down_to t path else []

-- the path of the last row; there is none before the first row
abbrev pub last_path : List Row → List (ℕ × List ℕ)
last_path [] = []
last_path (row ∷ []) = row.path
last_path (row ∷ next ∷ rows) = last_path (next ∷ rows)

-- whether a segment of type s may follow a row of this path: only the first row is a root, and of
-- any other one the parent stands in the path
abbrev pub may_follow : SegType → List (ℕ × List ℕ) → Bool
may_follow s [] = s.parent == 0
may_follow s (p ∷ path) = not (s.parent == 0) && (end_type (down_to s.parent (p ∷ path)) == s.parent)

-- the row of type t whose data is at the front of the bytes, below its parent in the path `last`
abbrev pub row_at : SegType → List (ℕ × List ℕ) → ℕ → List ℕ → Row
row_at s last t bytes =
    record {
      path = down_to s.parent last ++ (t, take s.key bytes) ∷ [];
      bytes = take s.bytes bytes;
    }

-- the row at the front of the bytes behind its type number, if there is one
abbrev pub row_of_type : Option SegType → List (ℕ × List ℕ) → ℕ → List ℕ → Option Row
row_of_type None last t bytes = None
row_of_type (Some s) last t bytes =
    if nat_le s.bytes (length bytes) && list_all is_printable (take s.bytes bytes) && may_follow s last && is_lt (path_cmp last (row_at s last t bytes).path)
    then Some (row_at s last t bytes) else None

-- the row with which bytes go on where the last row before them has this path, if there is one
abbrev pub next_row : List SegType → List (ℕ × List ℕ) → List ℕ → Option Row
next_row types last [] = None
next_row types last (t ∷ bytes) = row_of_type (type_at types t) last t bytes
