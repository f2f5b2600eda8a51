-- When a record isn't set, and when none is read.
use Rattle.std.specs.Prelude.{◌≡◌, ◌⊎◌, ℕ, ◌<◌, ◌≤◌, Bool, false, List, Option, None, Some, if◌then◌else◌}
use Rattle.tm_types.specs.declared.dbd.Dbd.{Dbd}
use Rattle.model_data.specs.declared.row.Row.{Row}
use Rattle.model_data.specs.Rows.{passes_roots, passes_length}
use Rattle.seg_rows.specs.declared.rows.RowsRefused.{RowsRefused}
use Rattle.seg_rows.specs.declared.rows.RowsRefused.TheVariants.{RootLimit, RecordTooLong, Disk, Damaged, Memory}

-- the first limit that the image passes in place of the record, if it passes any
abbrev pub set_refusal : Dbd → List ℕ → List Row → List Row → Option RowsRefused
set_refusal dbd root image rows =
    if passes_roots dbd root image rows then Some RootLimit
    else (if passes_length dbd image then Some RecordTooLong else None)

-- an answer that is the refusal that is due, or want of memory
abbrev pub RefusesToSet : Option RowsRefused → RowsRefused → Type 0
RefusesToSet due RootLimit = due ≡ Some RootLimit
RefusesToSet due RecordTooLong = due ≡ Some RecordTooLong
RefusesToSet due Disk = ⊥
RefusesToSet due (Damaged sector) = ⊥
RefusesToSet due Memory = Unit {0}

-- a count of faults has risen; one that stands at the greatest number counts as risen
abbrev pub FaultsRose : ℕ → ℕ → Type 0
FaultsRose before now = (before < now) ⊎ (18446744073709551615 ≤ now)

-- a record isn't read where a device failed, where what is kept was damaged, or for want of memory
abbrev pub RefusesToRead : Bool → ℕ → ℕ → RowsRefused → Type 0
RefusesToRead told before now RootLimit = ⊥
RefusesToRead told before now RecordTooLong = ⊥
RefusesToRead told before now Disk = FaultsRose before now
RefusesToRead told before now (Damaged sector) = told ≡ false
RefusesToRead told before now Memory = Unit {0}
