-- The databases as the work on one message sees and changes them.
use Rattle.std.specs.Prelude.{ℕ, ◌-◌, ◌==◌, nat_le, Bool, not, ◌&&◌, List, [], ◌∷◌, ◌++◌, Option, None, Some, if◌then◌else◌, length, replicate, slice_index_or, slice_set}
use Rattle.std.specs.List.{list_any}
use Rattle.std.specs.Option.{option_map}
use Rattle.std.specs.Str.{bytes_eq}
use Rattle.tm_types.specs.declared.abend.AbendCode.{AbendCode}
use Rattle.tm_types.specs.declared.dbd.Dbd.{Dbd}
use Rattle.model_data.specs.declared.row.Row.{Row}
use Rattle.model_data.specs.declared.call.DbCall.{DbCall}
use Rattle.model_data.specs.declared.call.Position.{Position}
use Rattle.model_data.specs.declared.call.RowsLimit.{RowsLimit}
use Rattle.model_data.specs.declared.call.RowsLimit.TheVariants.{Roots, RecordLength}
use Rattle.model_data.specs.DatabaseCalls.{DliResult, dli}

-- The rows of each database; where each PCB stands; and the records that were changed, each once, by
-- the number of its database and the key of its root, in the order of their first changes.
pub record Data : Type 0 where
  pub rows : List (List Row)
  pub positions : List Position
  pub changed : List (ℕ × List ℕ)

-- a PCB stands nowhere at first
abbrev pub nowhere : Position
nowhere = record { position = None; parentage = None; hold = None }

-- the databases at the start of the work, by a program with so many PCBs
abbrev pub data_start : ℕ → List (List Row) → Data
data_start pcbs rows = record { rows = rows; positions = replicate pcbs nowhere; changed = [] }

-- databases and PCBs are numbered from 1
abbrev pub rows_at : Data → ℕ → List Row
rows_at d number = slice_index_or d.rows (number - 1) []

abbrev pub position_at : Data → ℕ → Position
position_at d pcb = slice_index_or d.positions (pcb - 1) nowhere

abbrev pub is_root_changed : ℕ → List ℕ → List (ℕ × List ℕ) → Bool
is_root_changed number root changed = list_any (λ c. (c.0 == number) && bytes_eq c.1 root) changed

-- the changed records with one more, where it isn't among them
abbrev pub with_changed_root : ℕ → Option (List ℕ) → List (ℕ × List ℕ) → List (ℕ × List ℕ)
with_changed_root number None changed = changed
with_changed_root number (Some root) changed = if is_root_changed number root changed then changed else changed ++ (number, root) ∷ []

-- the work on a message changes at most so many records
abbrev pub most_changed : ℕ
most_changed = 32

-- a call on the database of this number, by the PCB of this number
abbrev pub data_call : Dbd → ℕ → ℕ → DbCall → Data → DliResult
data_call dbd number pcb call d = dli dbd call (position_at d pcb) (rows_at d number)

-- a limit of the database ends the work abnormally: U0902 one root too many, U0903 a record too long
abbrev pub limit_abend : RowsLimit → AbendCode
limit_abend Roots = record { number = 902 }
limit_abend RecordLength = record { number = 903 }

-- The abend to which a call leads in place of its answer. One changed record too many, U0900, goes before
-- a limit of the database.
abbrev pub limit_abend_by : ℕ → List (ℕ × List ℕ) → Option (List ℕ) → Option RowsLimit → Option AbendCode
limit_abend_by number changed None refusal = None
limit_abend_by number changed (Some root) refusal =
    if not (is_root_changed number root changed) && nat_le most_changed (length changed) then Some (record { number = 900 })
    else option_map limit_abend refusal

abbrev pub data_abend : ℕ → Data → DliResult → Option AbendCode
data_abend number d result = limit_abend_by number d.changed result.changed result.refusal

-- the databases after a call that is answered
abbrev pub data_after : ℕ → ℕ → Data → DliResult → Data
data_after number pcb d result = record {
  rows = slice_set d.rows (number - 1) result.rows;
  positions = slice_set d.positions (pcb - 1) result.position;
  changed = with_changed_root number result.changed d.changed;
}
