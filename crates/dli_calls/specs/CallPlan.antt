-- What a plan of a call says, by the call's definition.
use Rattle.std.specs.Prelude.{◌≡◌, ◌≢◌, ◌⊎◌, List, [], Option, None, Some, IsSome}
use Rattle.tm_types.specs.declared.dbd.Dbd.{Dbd}
use Rattle.model_data.specs.declared.row.Row.{Row}
use Rattle.model_data.specs.Rows.{record_of, with_record, IsImage}
use Rattle.model_data.specs.declared.call.Position.{Position}
use Rattle.model_data.specs.declared.call.RowsLimit.{RowsLimit}
use Rattle.model_data.specs.declared.call.RowsLimit.TheVariants.{Roots, RecordLength}
use Rattle.model_data.specs.DatabaseCalls.{DliResult}
use Rattle.seg_rows.specs.declared.rows.RowsRefused.{RowsRefused}
use Rattle.seg_rows.specs.declared.rows.RowsRefused.TheVariants.{RootLimit, RecordTooLong, Disk, Damaged, Memory}
use Rattle.seg_rows.specs.RowsRefused.{set_refusal}
use Rattle.dli_calls.specs.declared.planned.Edit.{Edit}
use Rattle.dli_calls.specs.declared.planned.Planned.{Planned}

-- the limit by which a record isn't set
abbrev pub limit_of : Option RowsRefused → Option RowsLimit
limit_of None = None
limit_of (Some RootLimit) = Some Roots
limit_of (Some RecordTooLong) = Some RecordLength
limit_of (Some Disk) = None
limit_of (Some (Damaged sector)) = None
limit_of (Some Memory) = None

-- the plan has the answer of the call
pub record HasAnswer (d : DliResult) (p : Planned) : Type 0 where
  pub status : p.status ≡ d.status
  pub area : p.area ≡ d.area
  pub position : p.position ≡ d.position

-- a call that changes no record
pub record PlansNone (before : List Row) (d : DliResult) (p : Planned) : Type 0 where
  pub changed : d.changed ≡ None
  pub refusal : d.refusal ≡ None
  pub rows : d.rows ≡ before
  pub answer : HasAnswer d p

-- a call that changes a record, by setting this image, or is refused by the limit that this image
-- passes
pub record PlansEdit (dbd : Dbd) (before : List Row) (d : DliResult) (p : Planned) (e : Edit) : Type 0 where
  pub changed : d.changed ≡ Some e.root
  pub image : IsImage dbd e.root e.image
  pub refusal : d.refusal ≡ limit_of (set_refusal dbd e.root e.image before)
  pub rows : d.refusal ≡ None → d.rows ≡ with_record e.root e.image before
  pub answer : d.refusal ≡ None → HasAnswer d p

abbrev pub PlansTo : Dbd → List Row → DliResult → Planned → Option Edit → Type 0
PlansTo dbd before d p None = PlansNone before d p
PlansTo dbd before d p (Some e) = PlansEdit dbd before d p e

-- the plan of a call on these rows, which comes to d
abbrev pub Plans : Dbd → List Row → DliResult → Planned → Type 0
Plans dbd before d p = PlansTo dbd before d p p.edit

-- a record that is removed is there
abbrev pub IsThere : List Row → Option Edit → Type 0
IsThere before None = Unit {0}
IsThere before (Some e) = e.image ≡ [] → record_of e.root before ≢ []

-- a PCB that has a position or a parentage
abbrev pub StandsSomewhere : Position → Type 0
StandsSomewhere at = IsSome at.position ⊎ IsSome at.parentage
