-- The calls that change a record: ISRT, REPL and DLET.
use Rattle.std.specs.Prelude.{ℕ, ◌==◌, Bool, not, ◌&&◌, List, ◌∷◌, ◌++◌, Option, None, Some, if◌then◌else◌, length, map, filter}
use Rattle.std.specs.Ordering.{is_lt, is_eq, is_gt}
use Rattle.tm_types.specs.declared.dbd.Dbd.{Dbd}
use Rattle.tm_types.specs.declared.dbd.SegType.{SegType}
use Rattle.tm_types.specs.declared.ssa.Ssa.{Ssa}
use Rattle.tm_types.specs.declared.ssa.KeyTest.{KeyTest}
use Rattle.tm_types.specs.declared.ssa.KeyTest.TheVariants.{Any, Equal, AtLeast}
use Rattle.tm_types.specs.declared.status.Status.{Status}
use Rattle.tm_types.specs.declared.status.Status.TheVariants.{GE, II, DJ, DA}
use Rattle.model_data.specs.declared.row.Row.{Row}
use Rattle.model_data.specs.Path.{key_cmp, path_cmp, end_type, end_key, parent_path}
use Rattle.model_data.specs.Row.{row_cmp}
use Rattle.model_data.specs.Rows.{record_of, passes_roots, passes_length}
use Rattle.model_data.specs.declared.call.RowsLimit.{RowsLimit}
use Rattle.model_data.specs.declared.call.RowsLimit.TheVariants.{Roots, RecordLength}
use Rattle.model_data.specs.Search.{fitted_key, number_named, key_length, data_length, asked_number, is_within, is_row_there}

-- the bytes that give a segment's key: those of its argument, or where that is a name alone those
-- at the front of the data
abbrev pub key_bytes : KeyTest → List ℕ → List ℕ
key_bytes Any area = area
key_bytes (Equal x) area = x
key_bytes (AtLeast x) area = x

abbrev pub asked_pair : List SegType → List ℕ → Ssa → ℕ × List ℕ
asked_pair types area ssa =
    (number_named types ssa.segment, fitted_key (key_length types (number_named types ssa.segment)) (key_bytes ssa.test area))

-- the path that an ISRT gives to its segment
abbrev pub insert_path : List SegType → List Ssa → List ℕ → List (ℕ × List ℕ)
insert_path types ssas area = map (asked_pair types area) ssas

-- the row that an ISRT adds
abbrev pub insert_row : List SegType → List Ssa → List ℕ → Row
insert_row types ssas area =
    record {
      path = insert_path types ssas area;
      bytes = fitted_key (data_length types (asked_number types ssas)) area;
    }

-- why a segment of this path isn't inserted: it isn't a root and its parent isn't there, or it is
-- there itself
abbrev pub insert_fault : List (ℕ × List ℕ) → List Row → Option Status
insert_fault path rows =
    if not (length path == 1) && not (is_row_there (parent_path path) rows) then Some GE
    else (if is_row_there path rows then Some II else None)

-- why a segment that was got with hold isn't deleted: it isn't there any more
abbrev pub delete_fault : List (ℕ × List ℕ) → List Row → Option Status
delete_fault held rows = if is_row_there held rows then None else Some DJ

-- whether this data has the key of a segment that was got with hold
abbrev pub keeps_key : List SegType → List (ℕ × List ℕ) → List ℕ → Bool
keeps_key types held area = is_eq (key_cmp (end_key held) (fitted_key (key_length types (end_type held)) area))

-- why a segment that was got with hold isn't replaced by this data: the key differs, or the segment
-- isn't there any more
abbrev pub replace_fault : List SegType → List (ℕ × List ℕ) → List ℕ → List Row → Option Status
replace_fault types held area rows = if not (keeps_key types held area) then Some DA else delete_fault held rows

-- the rows with one more, at its place in hierarchic order
abbrev pub with_row : Row → List Row → List Row
with_row new rows = filter (λ row. is_gt (row_cmp new row)) rows ++ new ∷ filter (λ row. is_lt (row_cmp new row)) rows

-- the row with this data, where it has this path
abbrev pub row_with : List (ℕ × List ℕ) → List ℕ → Row → Row
row_with path bytes row = if is_eq (path_cmp path row.path) then record { path = row.path; bytes = bytes } else row

-- the rows with this data in place of that of one path
abbrev pub with_data : List (ℕ × List ℕ) → List ℕ → List Row → List Row
with_data path bytes rows = map (row_with path bytes) rows

-- the rows without a path and all that go on from it
abbrev pub without_path : List (ℕ × List ℕ) → List Row → List Row
without_path path rows = filter (λ row. not (is_within path row.path)) rows

-- the limit that the record of this root passes in the new rows, the number of roots before the
-- length of the record
abbrev pub passed_limit : Dbd → List ℕ → List Row → List Row → Option RowsLimit
passed_limit dbd root new old =
    if passes_roots dbd root (record_of root new) old then Some Roots
    else (if passes_length dbd (record_of root new) then Some RecordLength else None)
