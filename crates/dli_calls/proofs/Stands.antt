-- A call leaves its PCB on paths of the database.
use Rattle.std.proofs.Common.{◌≡◌, ℕ, List, refl, Bool, true, false, cond, Option, None, Some}
use Rattle.std.specs.Option.{option_map_or}
use Rattle.tm_types.specs.declared.dbd.Dbd.{Dbd}
use Rattle.tm_types.specs.declared.function.Function.{Function}
use Rattle.tm_types.specs.declared.function.Function.TheVariants.{GU, GN, GNP, GHU, GHN, GHNP, ISRT, REPL, DLET, PURG, CHNG, ROLB, ROLL}
use Rattle.tm_types.specs.declared.status.Status.{Status}
use Rattle.tm_types.specs.declared.status.Status.TheVariants.{Blank, DJ}
use Rattle.tm_types.specs.SegTypes.{IsHierarchy}
use Rattle.model_data.specs.declared.row.Row.{Row}
use Rattle.model_data.specs.Path.{root_of, end_type, IsPath}
use Rattle.model_data.specs.Rows.{AreRows}
use Rattle.model_data.specs.declared.call.DbCall.{DbCall}
use Rattle.model_data.specs.declared.call.Position.{Position}
use Rattle.model_data.specs.declared.call.Reach.{Reach}
use Rattle.model_data.specs.declared.call.Reach.TheVariants.{Start, Next, Parent}
use Rattle.model_data.specs.declared.call.RowsLimit.{RowsLimit}
use Rattle.model_data.specs.Search.{fitted_key, data_length}
use Rattle.model_data.specs.GetCalls.{row_reached, missed_status, reached_status, position_at, position_missed}
use Rattle.model_data.specs.ChangeCalls.{insert_path, insert_row, insert_fault, replace_fault, delete_fault, with_row, with_data, without_path, passed_limit}
use Rattle.model_data.specs.DatabaseCalls.{DliResult, answered_unchanged, changed_to, unheld, get, insert, replace, delete, is_call_allowed, position_denied, denied, allowed, dli}
use Rattle.model_data.specs.Conditions.{AreSsasOf, IsDbCall, IsPosition}
use Rattle.dli_calls.proofs.NewRows.{insert_is_path}
use Rattle.dli_calls.proofs.Standing.{reached_path, stands_at, stands_failed, stands_missed}

module _ (dbd : Dbd) (all : IsHierarchy dbd.types) (rows : List Row) (valid : AreRows dbd rows) where
  stands_unheld : (at : Position) → IsPosition dbd.types at → IsPosition dbd.types (unheld at)
  stands_unheld at h = record { position = h.position; parentage = h.parentage; hold = tt }

  changed_stands : (root : List ℕ) (new : List Row) (before after : Position) → IsPosition dbd.types before → IsPosition dbd.types after
      → IsPosition dbd.types (changed_to dbd root rows before new after).position
  changed_stands root new before after b a = by (passed_limit dbd root new rows)
    where
      by : (o : Option RowsLimit)
          → IsPosition dbd.types (option_map_or {U = DliResult} (λ limit. record { status = Blank; area = None; rows = rows; position = before; changed = Some root; refusal = Some limit }) o
          (record { status = Blank; area = None; rows = new; position = after; changed = Some root; refusal = None })).position
      by None = a
      by (Some limit) = b

  get_stands : (reach : Reach) (hold : Bool) (call : DbCall) (at : Position) → IsPosition dbd.types at → IsPosition dbd.types (get reach hold dbd call at rows).position
  get_stands reach hold call at h = by (row_reached reach dbd.types call.ssas at rows) refl
    where
      by : (o : Option Row) → row_reached reach dbd.types call.ssas at rows ≡ o
          → IsPosition dbd.types (option_map_or (λ row. answered_unchanged (reached_status reach call.ssas at row.path) (Some row.bytes) rows (position_at reach hold at row.path)) o
          (answered_unchanged (missed_status reach dbd.types call.ssas at rows) None rows (position_missed reach (missed_status reach dbd.types call.ssas at rows) at))).position
      by None e = stands_missed dbd.types reach (missed_status reach dbd.types call.ssas at rows) at h
      by (Some row) e = stands_at dbd.types reach hold at row.path h (reached_path dbd reach call.ssas at rows row valid e)

  denied_stands : (function : Function) (at : Position) → IsPosition dbd.types at → IsPosition dbd.types (position_denied function at)
  denied_stands GU at h = stands_failed dbd.types Start at h
  denied_stands GHU at h = stands_failed dbd.types Start at h
  denied_stands GN at h = stands_failed dbd.types Next at h
  denied_stands GHN at h = stands_failed dbd.types Next at h
  denied_stands GNP at h = stands_unheld at h
  denied_stands GHNP at h = stands_unheld at h
  denied_stands ISRT at h = stands_unheld at h
  denied_stands REPL at h = stands_unheld at h
  denied_stands DLET at h = stands_unheld at h
  denied_stands PURG at h = stands_unheld at h
  denied_stands CHNG at h = stands_unheld at h
  denied_stands ROLB at h = stands_unheld at h
  denied_stands ROLL at h = stands_unheld at h

  insert_stands : (call : DbCall) (at : Position) → IsPosition dbd.types at → IsPath dbd.types (insert_path dbd.types call.ssas call.area) → IsPosition dbd.types (insert dbd call at rows).position
  insert_stands call at h path = by (insert_fault (insert_path dbd.types call.ssas call.area) rows)
    where
      by : (o : Option Status)
          → IsPosition dbd.types (option_map_or (λ status. answered_unchanged status None rows (unheld at)) o
          (changed_to dbd (root_of (insert_path dbd.types call.ssas call.area)) rows at (with_row (insert_row dbd.types call.ssas call.area) rows)
          (record { position = Some (insert_path dbd.types call.ssas call.area); parentage = at.parentage; hold = None }))).position
      by (Some status) = stands_unheld at h
      by None =
          changed_stands (root_of (insert_path dbd.types call.ssas call.area)) (with_row (insert_row dbd.types call.ssas call.area) rows) at
          (record { position = Some (insert_path dbd.types call.ssas call.area); parentage = at.parentage; hold = None }) h
          (record { position = path; parentage = h.parentage; hold = tt })

  -- a change of the segment that was got with hold, or a fault
  held_stands : (at : Position) → IsPosition dbd.types at → (root : List ℕ) (new : List Row) (o : Option Status)
      → IsPosition dbd.types (option_map_or (λ status. answered_unchanged status None rows (unheld at)) o (changed_to dbd root rows at new (unheld at))).position
  held_stands at h root new (Some status) = stands_unheld at h
  held_stands at h root new None = changed_stands root new at (unheld at) h (stands_unheld at h)

  replace_stands : (call : DbCall) (at : Position) → IsPosition dbd.types at → IsPosition dbd.types (replace dbd call at rows).position
  replace_stands call at h = by at.hold
    where
      by : (o : Option (List (ℕ × List ℕ)))
          → IsPosition dbd.types (option_map_or (λ held. option_map_or (λ status. answered_unchanged status None rows (unheld at)) (replace_fault dbd.types held call.area rows)
          (changed_to dbd (root_of held) rows at (with_data held (fitted_key (data_length dbd.types (end_type held)) call.area) rows) (unheld at))) o (answered_unchanged DJ None rows (unheld at))).position
      by None = stands_unheld at h
      by (Some held) = held_stands at h (root_of held) (with_data held (fitted_key (data_length dbd.types (end_type held)) call.area) rows) (replace_fault dbd.types held call.area rows)

  delete_stands : (at : Position) → IsPosition dbd.types at → IsPosition dbd.types (delete dbd at rows).position
  delete_stands at h = by at.hold
    where
      by : (o : Option (List (ℕ × List ℕ)))
          → IsPosition dbd.types (option_map_or (λ held. option_map_or (λ status. answered_unchanged status None rows (unheld at)) (delete_fault held rows)
          (changed_to dbd (root_of held) rows at (without_path held rows) (unheld at))) o (answered_unchanged DJ None rows (unheld at))).position
      by None = stands_unheld at h
      by (Some held) = held_stands at h (root_of held) (without_path held rows) (delete_fault held rows)

  -- a call leaves its PCB on paths of the database
  pub position_kept : (call : DbCall) (at : Position) → IsPosition dbd.types at → IsDbCall dbd.types call → IsPosition dbd.types (dli dbd call at rows).position
  position_kept call at h ok = by (is_call_allowed call.function call.options)
    where
      of : (function : Function) → AreSsasOf function dbd.types call.ssas → IsPosition dbd.types (allowed function dbd call at rows).position
      of GU ssas = get_stands Start false call at h
      of GN ssas = get_stands Next false call at h
      of GNP ssas = get_stands Parent false call at h
      of GHU ssas = get_stands Start true call at h
      of GHN ssas = get_stands Next true call at h
      of GHNP ssas = get_stands Parent true call at h
      of ISRT ssas = insert_stands call at h (insert_is_path dbd.types all call.ssas call.area ssas)
      of REPL ssas = replace_stands call at h
      of DLET ssas = delete_stands at h
      of PURG ssas = denied_stands PURG at h
      of CHNG ssas = denied_stands CHNG at h
      of ROLB ssas = denied_stands ROLB at h
      of ROLL ssas = denied_stands ROLL at h

      by : (c : Bool) → IsPosition dbd.types (cond c (allowed call.function dbd call at rows) (denied call.function at rows)).position
      by true = of call.function ok.ssas
      by false = denied_stands call.function at h
