-- A call that answers and changes alike on two lists of rows.
use Rattle.std.specs.Prelude.{◌≡◌, ℕ, List, Option, None, Some, IfSome}
use Rattle.std.specs.Option.{option_map}
use Rattle.tm_types.specs.declared.dbd.Dbd.{Dbd}
use Rattle.model_data.specs.declared.row.Row.{Row}
use Rattle.model_data.specs.Record.{IsUnder}
use Rattle.model_data.specs.Rows.{with_record}
use Rattle.model_data.specs.ChangeCalls.{passed_limit}
use Rattle.model_data.specs.DatabaseCalls.{DliResult}

-- the rows as they were, or with an image in place of the record of one root
abbrev pub rows_changed : Option (List ℕ × List Row) → List Row → List Row
rows_changed None rows = rows
rows_changed (Some change) rows = with_record change.0 change.1 rows

-- The same answer. Where the call isn't refused, and changes a record, this has the same image in both
-- lists of rows, within the limits, and all other records stay; else both lists stay.
pub record AreAlike (dbd : Dbd) (a b : List Row) (x y : DliResult) : Type 0 where
  pub status : x.status ≡ y.status
  pub area : x.area ≡ y.area
  pub position : x.position ≡ y.position
  pub changed : x.changed ≡ y.changed
  pub refusal : x.refusal ≡ y.refusal
  pub change : Option (List ℕ × List Row)
  pub root : IfSome change (λ c. x.changed ≡ Some c.0)
  pub whole : x.refusal ≡ None → x.changed ≡ option_map (λ c. c.0) change
  pub under : IfSome change (λ c. IsUnder dbd.types c.0 c.1)
  pub within : IfSome change (λ c. passed_limit dbd c.0 x.rows a ≡ None)
  pub rows_a : x.rows ≡ rows_changed change a
  pub rows_b : y.rows ≡ rows_changed change b
