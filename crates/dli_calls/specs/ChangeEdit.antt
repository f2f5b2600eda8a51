-- What the code of a change asks and does.
use Rattle.std.specs.Prelude.{◌≡◌, ℕ, List, Option, None, Some, IsSome}
use Rattle.std.specs.List.{AllByRecursion}
use Rattle.tm_types.specs.declared.dbd.Dbd.{Dbd}
use Rattle.tm_types.specs.declared.dbd.SegType.{SegType}
use Rattle.tm_types.specs.declared.ssa.Ssa.{Ssa}
use Rattle.tm_types.specs.SegTypes.{type_at}
use Rattle.model_data.specs.declared.row.Row.{Row}
use Rattle.model_data.specs.Rows.{record_of, with_record, IsImage}
use Rattle.model_data.specs.declared.call.RowsLimit.{RowsLimit}
use Rattle.model_data.specs.Search.{number_named}
use Rattle.seg_rows.specs.RowsRefused.{set_refusal}
use Rattle.dli_calls.specs.declared.planned.Edit.{Edit}
use Rattle.dli_calls.specs.CallPlan.{limit_of}

-- each argument names a type of the database
abbrev pub AreTypesNamed : List SegType → List Ssa → Type 0
AreTypesNamed types ssas = AllByRecursion (λ ssa. IsSome (type_at types (number_named types ssa.segment))) ssas

-- the image of the record of this root that makes these new rows of the old ones
pub record IsEdit (dbd : Dbd) (root : List ℕ) (old new image : List Row) : Type 0 where
  pub valid : IsImage dbd root image
  pub rows : with_record root image old ≡ new
  pub own : record_of root new ≡ image

-- the rows with the record of an edit set
abbrev pub rows_set : Option Edit → List Row → List Row
rows_set None rows = rows
rows_set (Some e) rows = with_record e.root e.image rows

-- the limit that it passes
abbrev pub edit_limit : Dbd → Option Edit → List Row → Option RowsLimit
edit_limit dbd None rows = None
edit_limit dbd (Some e) rows = limit_of (set_refusal dbd e.root e.image rows)
