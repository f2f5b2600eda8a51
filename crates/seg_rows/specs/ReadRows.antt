-- What reading a record answers, and what it leaves.
use Rattle.std.specs.Prelude.{◌≡◌, ◌≢◌, ℕ, ◌≤◌, Bool, true, List, [], Result, Ok, Err, Option, None, Some, IfErr}
use Rattle.std.specs.Borrow.{Bor}
use Rattle.tm_types.specs.declared.dbd.Dbd.{Dbd}
use Rattle.model_data.specs.declared.row.Row.{Row}
use Rattle.model_data.specs.Record.{IsRecord}
use Rattle.model_data.specs.Rows.{record_of, roots, AreRows}
use Rattle.seg_rows.specs.declared.rows.RowsRefused.{RowsRefused}
use Rattle.seg_rows.specs.RowsRefused.{RefusesToRead}

-- rows after some reading: they stay rows of the database, with the same roots, and are the same where
-- what is kept elsewhere is told as it was written
pub record AreReread (dbd : Dbd) (tells : Bool) (old new : List Row) : Type 0 where
  pub valid : AreRows dbd old → AreRows dbd new
  pub roots : roots new ≡ roots old
  pub told : tells ≡ true → new ≡ old

-- what any reading leaves: the database, its rows, whether they are told, and a count of faults that doesn't fall
pub record AreReadOn (dbd dbd' : Dbd) (old new : List Row) (told told' : Bool) (before now : ℕ) : Type 0 where
  pub database : dbd' ≡ dbd
  pub rows : AreReread dbd told old new
  pub tells : told' ≡ told
  pub faults : before ≤ now

-- an image is a record of this root, which is there, and where it is told it is the record
pub record IsImageRead (dbd : Dbd) (tells : Bool) (root : List ℕ) (rows image : List Row) : Type 0 where
  pub valid : IsRecord dbd root image
  pub there : record_of root rows ≢ []
  pub told : tells ≡ true → image ≡ record_of root rows

-- the answer of reading the record of this root: None exactly where there is none
abbrev pub IsRecordRead : Dbd → Bool → List ℕ → List Row → Result (Option (Bor (List Row))) RowsRefused → Type 0
IsRecordRead dbd told root rows (Ok None) = record_of root rows ≡ []
IsRecordRead dbd told root rows (Ok (Some image)) = IsImageRead dbd told root rows image.now
IsRecordRead dbd told root rows (Err refused) = Unit {0}

-- the answer is the record of this root in these rows
abbrev pub TellsRecord : List ℕ → List Row → Result (Option (Bor (List Row))) RowsRefused → Type 0
TellsRecord root rows (Ok None) = record_of root rows ≡ []
TellsRecord root rows (Ok (Some image)) = record_of root rows ≡ image.now
TellsRecord root rows (Err refused) = Unit {0}

-- what reading the record of this root leaves: its record is what was answered, all others stay, and where
-- it was refused there is a cause
pub record HasReadRecord (reads : Type 0) (told : Bool) (root : List ℕ) (old new : List Row) (before now : ℕ) (result : Result (Option (Bor (List Row))) RowsRefused) : Type 0 where
  pub on : reads
  pub own : TellsRecord root new result
  pub others : (other : List ℕ) → other ≢ root → record_of other new ≡ record_of other old
  pub cause : IfErr result (RefusesToRead told before now)
