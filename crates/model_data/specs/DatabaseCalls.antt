-- What a database call gives and leaves, over the whole list of the rows of its database.
use Rattle.std.specs.Prelude.{ℕ, ◌==◌, Bool, true, false, not, ◌&&◌, ◌||◌, List, Option, None, Some, if◌then◌else◌, bit_and}
use Rattle.std.specs.Option.{option_map_or}
use Rattle.tm_types.specs.declared.dbd.Dbd.{Dbd}
use Rattle.tm_types.specs.declared.function.Function.{Function}
use Rattle.tm_types.specs.declared.function.Function.TheVariants.{GU, GN, GNP, GHU, GHN, GHNP, ISRT, REPL, DLET, PURG, CHNG, ROLB, ROLL}
use Rattle.tm_types.specs.declared.status.Status.{Status}
use Rattle.tm_types.specs.declared.status.Status.TheVariants.{Blank, DJ, AM}
use Rattle.model_data.specs.declared.row.Row.{Row}
use Rattle.model_data.specs.Path.{end_type, root_of}
use Rattle.model_data.specs.declared.call.DbCall.{DbCall}
use Rattle.model_data.specs.declared.call.Position.{Position}
use Rattle.model_data.specs.declared.call.Performed.{Performed}
use Rattle.model_data.specs.declared.call.Reach.{Reach}
use Rattle.model_data.specs.declared.call.Reach.TheVariants.{Start, Next, Parent}
use Rattle.model_data.specs.declared.call.RowsLimit.{RowsLimit}
use Rattle.model_data.specs.Search.{fitted_key, data_length}
use Rattle.model_data.specs.GetCalls.{row_reached, missed_status, reached_status, position_at, position_failed, position_missed}
use Rattle.model_data.specs.ChangeCalls.{insert_path, insert_row, insert_fault, replace_fault, delete_fault, with_row, with_data, without_path, passed_limit}

-- What a call gives: its status and data, the rows and the PCB's position that it leaves, and the
-- root of the record that it changes. Where the change would pass a limit, the call is refused by
-- that limit: rows and position are as before, and the status says nothing.
pub record DliResult : Type 0 where
  pub status : Status
  pub area : Option (List ℕ)
  pub rows : List Row
  pub position : Position
  pub changed : Option (List ℕ)
  pub refusal : Option RowsLimit

-- what the code hands back of it
abbrev pub answer_of : DliResult → Performed
answer_of d = record { status = d.status; area = d.area; changed = d.changed }

-- a call that changes no record
abbrev pub answered_unchanged : Status → Option (List ℕ) → List Row → Position → DliResult
answered_unchanged status area rows at =
    record { status = status; area = area; rows = rows; position = at; changed = None; refusal = None }

-- a call that changes the record of this root, within the limits
abbrev pub changed_to : Dbd → List ℕ → List Row → Position → List Row → Position → DliResult
changed_to dbd root old before new after =
    option_map_or
    (λ limit. record { status = Blank; area = None; rows = old; position = before; changed = Some root; refusal = Some limit })
    (passed_limit dbd root new old)
    (record { status = Blank; area = None; rows = new; position = after; changed = Some root; refusal = None })

-- any call ends the hold
abbrev pub unheld : Position → Position
unheld at = record at { hold = None }

abbrev pub get : Reach → Bool → Dbd → DbCall → Position → List Row → DliResult
get reach hold dbd call at rows =
    option_map_or
    (λ row. answered_unchanged (reached_status reach call.ssas at row.path) (Some row.bytes) rows (position_at reach hold at row.path))
    (row_reached reach dbd.types call.ssas at rows)
    (answered_unchanged (missed_status reach dbd.types call.ssas at rows) None rows
    (position_missed reach (missed_status reach dbd.types call.ssas at rows) at))

abbrev pub insert : Dbd → DbCall → Position → List Row → DliResult
insert dbd call at rows =
    let path = insert_path dbd.types call.ssas call.area in
    option_map_or
    (λ status. answered_unchanged status None rows (unheld at))
    (insert_fault path rows)
    (changed_to dbd (root_of path) rows at (with_row (insert_row dbd.types call.ssas call.area) rows)
    (record { position = Some path; parentage = at.parentage; hold = None }))

-- REPL and DLET work on the segment that the call before got with hold
abbrev pub on_held : Position → List Row → (List (ℕ × List ℕ) → DliResult) → DliResult
on_held at rows change = option_map_or change at.hold (answered_unchanged DJ None rows (unheld at))

abbrev pub replace : Dbd → DbCall → Position → List Row → DliResult
replace dbd call at rows =
    on_held at rows (λ held.
    option_map_or
    (λ status. answered_unchanged status None rows (unheld at))
    (replace_fault dbd.types held call.area rows)
    (changed_to dbd (root_of held) rows at (with_data held (fitted_key (data_length dbd.types (end_type held)) call.area) rows) (unheld at)))

abbrev pub delete : Dbd → Position → List Row → DliResult
delete dbd at rows =
    on_held at rows (λ held.
    option_map_or
    (λ status. answered_unchanged status None rows (unheld at))
    (delete_fault held rows)
    (changed_to dbd (root_of held) rows at (without_path held rows) (unheld at)))

-- whether the options of a PCB have this one
abbrev pub has_option : ℕ → ℕ → Bool
has_option options option = not (bit_and options option == 0)

-- whether the options of a PCB allow a call: 1 to get, 2 to insert, 4 to replace, 8 to delete, and
-- either of the last two besides 1 to get with hold; no other function is one of databases
abbrev pub is_call_allowed : Function → ℕ → Bool
is_call_allowed GU options = has_option options 1
is_call_allowed GN options = has_option options 1
is_call_allowed GNP options = has_option options 1
is_call_allowed GHU options = has_option options 1 && (has_option options 4 || has_option options 8)
is_call_allowed GHN options = has_option options 1 && (has_option options 4 || has_option options 8)
is_call_allowed GHNP options = has_option options 1 && (has_option options 4 || has_option options 8)
is_call_allowed ISRT options = has_option options 2
is_call_allowed REPL options = has_option options 4
is_call_allowed DLET options = has_option options 8
is_call_allowed PURG options = false
is_call_allowed CHNG options = false
is_call_allowed ROLB options = false
is_call_allowed ROLL options = false

-- where the PCB stands after a call that isn't allowed, which a get then has failed
abbrev pub position_denied : Function → Position → Position
position_denied GU at = position_failed Start at
position_denied GHU at = position_failed Start at
position_denied GN at = position_failed Next at
position_denied GHN at = position_failed Next at
position_denied _ at = unheld at

-- a call that isn't allowed answers AM
abbrev pub denied : Function → Position → List Row → DliResult
denied function at rows = answered_unchanged AM None rows (position_denied function at)

-- an allowed call
abbrev pub allowed : Function → Dbd → DbCall → Position → List Row → DliResult
allowed GU = get Start false
allowed GN = get Next false
allowed GNP = get Parent false
allowed GHU = get Start true
allowed GHN = get Next true
allowed GHNP = get Parent true
allowed ISRT = insert
allowed REPL = replace
allowed DLET = λ dbd call at rows. delete dbd at rows
allowed PURG = λ dbd call at rows. denied PURG at rows
allowed CHNG = λ dbd call at rows. denied CHNG at rows
allowed ROLB = λ dbd call at rows. denied ROLB at rows
allowed ROLL = λ dbd call at rows. denied ROLL at rows

-- what a database call gives and leaves; whether it is allowed is looked at before all else
abbrev pub dli : Dbd → DbCall → Position → List Row → DliResult
dli dbd call at rows =
    if is_call_allowed call.function call.options then allowed call.function dbd call at rows
    else denied call.function at rows
