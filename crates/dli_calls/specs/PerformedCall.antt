-- What the code of a call has done, by its definition.
use Rattle.std.specs.Prelude.{◌≡◌, ℕ, Bool, false, List, Option, None, Some}
use Rattle.tm_types.specs.declared.dbd.Dbd.{Dbd}
use Rattle.model_data.specs.declared.row.Row.{Row}
use Rattle.model_data.specs.declared.call.DbCall.{DbCall}
use Rattle.model_data.specs.declared.call.Performed.{Performed}
use Rattle.model_data.specs.declared.call.Position.{Position}
use Rattle.model_data.specs.declared.call.RowsLimit.{RowsLimit}
use Rattle.model_data.specs.declared.call.RowsLimit.TheVariants.{Roots, RecordLength}
use Rattle.model_data.specs.DatabaseCalls.{DliResult, answer_of, dli}
use Rattle.seg_rows.specs.declared.rows.RowsRefused.{RowsRefused}
use Rattle.seg_rows.specs.declared.rows.RowsRefused.TheVariants.{RootLimit, RecordTooLong, Disk, Damaged, Memory}
use Rattle.seg_rows.specs.ReadRows.{AreReread}
use Rattle.seg_rows.specs.RowsRefused.{FaultsRose}

-- the call answered, and left rows and position, as defined
pub record Performs (d : DliResult) (answered : Performed) (left : List Row) (stands : Position) : Type 0 where
  pub answer : answered ≡ answer_of d
  pub rows : left ≡ d.rows
  pub position : stands ≡ d.position
  pub accepted : d.refusal ≡ None

-- the call did so on the rows as they were read
pub record PerformsOn (dbd : Dbd) (call : DbCall) (at : Position) (told : Bool) (before left : List Row) (stands : Position) (answered : Performed) : Type 0 where
  pub seen : List Row
  pub read : AreReread dbd told before seen
  pub performs : Performs (dli dbd call at seen) answered left stands

-- the call is refused by the limit that the change would pass, by a record that isn't read, or for want of
-- memory
abbrev pub RefusesCall : Option RowsLimit → Bool → ℕ → ℕ → RowsRefused → Type 0
RefusesCall limit told before now RootLimit = limit ≡ Some Roots
RefusesCall limit told before now RecordTooLong = limit ≡ Some RecordLength
RefusesCall limit told before now Disk = FaultsRose before now
RefusesCall limit told before now (Damaged sector) = told ≡ false
RefusesCall limit told before now Memory = Unit {0}
