-- What a call comes to on one record it comes to on all rows that have this record.
use Rattle.std.proofs.Common.{◌≡◌, ℕ, ◌≤◌, ◌∷◌, [], List, length, eqb, refl, sym, ◌∙◌, ap, subst, Bool, true, false, cond, not, ◌&&◌, Option, None, Some, arith}
use Rattle.std.specs.Prelude.{All, IfOk, IfSome, OnSome, Result}
use Rattle.std.specs.Option.{option_map, option_map_or}
use Rattle.tm_types.specs.declared.dbd.Dbd.{Dbd}
use Rattle.tm_types.specs.declared.ssa.Ssa.{Ssa}
use Rattle.tm_types.specs.declared.status.Status.{Status}
use Rattle.tm_types.specs.declared.status.Status.TheVariants.{GE, GP, II, DJ, DA}
use Rattle.tm_types.specs.Segment.{IsSegmentText}
use Rattle.model_data.specs.declared.row.Row.{Row}
use Rattle.model_data.specs.declared.call.DbCall.{DbCall}
use Rattle.model_data.specs.declared.call.Position.{Position}
use Rattle.model_data.specs.declared.call.Reach.{Reach}
use Rattle.model_data.specs.declared.call.Reach.TheVariants.{Parent}
use Rattle.model_data.specs.Path.{root_of, parent_path, IsPath}
use Rattle.model_data.specs.Rows.{record_of, AreRows}
use Rattle.model_data.specs.Search.{is_row_there, first_below}
use Rattle.model_data.specs.GetCalls.{row_reached, missed_status, reached_status, position_at, position_missed}
use Rattle.model_data.specs.ChangeCalls.{insert_fault, delete_fault, keeps_key, replace_fault}
use Rattle.model_data.specs.Conditions.{IsPosition}
use Rattle.model_data.specs.DatabaseCalls.{DliResult, answered_unchanged, get}
use Rattle.dli_calls.specs.declared.planned.Planned.{Planned}
use Rattle.dli_calls.specs.CallPlan.{Plans}
use Rattle.dli_calls.specs.OwnRecord.{replaced_root, IsRecordFor, IsReachedIn}
use Rattle.dli_calls.proofs.Standing.{reached_path, reached_text, stands_at, as_planned}
use Rattle.row_search.proofs.Places.{there_in_record, below_in_record}

-- the plan of a call that changes nothing
pub plans_unchanged : (dbd : Dbd) (rows : List Row) (d : DliResult) (p : Planned) (status : Status) (area : Option (List ℕ)) (at : Position)
    → d ≡ answered_unchanged status area rows at → p ≡ record { status = status; area = area; position = at; edit = None } → Plans dbd rows d p
plans_unchanged dbd rows d p status area at whole is =
    subst (Plans dbd rows d) (sym is)
    (subst (λ (x : DliResult). Plans dbd rows x (record { status = status; area = area; position = at; edit = None })) (sym whole)
    (record { changed = refl; refusal = refl; rows = refl; answer = record { status = refl; area = refl; position = refl } }))

module _ (dbd : Dbd) (reach : Reach) (call : DbCall) (at : Position) (found : Option Row) (rows : List Row) (h : IsReachedIn dbd reach call.ssas at found rows) where
  -- a get that reaches a row
  pub plan_reached : {E : Type 0} (hold : Bool) (row : Row) (r : Result Planned E) → found ≡ Some row
      → IfOk r (λ p. p ≡ record { status = reached_status reach call.ssas at row.path; area = Some row.bytes; position = position_at reach hold at row.path; edit = None })
      → IfOk r (Plans dbd rows (get reach hold dbd call at rows))
  plan_reached hold row r e is =
      as_planned (Plans dbd rows (get reach hold dbd call at rows)) r _ is
      (plans_unchanged dbd rows (get reach hold dbd call at rows) _ (reached_status reach call.ssas at row.path) (Some row.bytes) (position_at reach hold at row.path)
      (ap (λ o. option_map_or {U = DliResult} (λ x. answered_unchanged (reached_status reach call.ssas at x.path) (Some x.bytes) rows (position_at reach hold at x.path)) o
      (answered_unchanged (missed_status reach dbd.types call.ssas at rows) None rows (position_missed reach (missed_status reach dbd.types call.ssas at rows) at))) (sym h.reached ∙ e)) refl)

  -- and one that reaches none
  pub plan_missed : {E : Type 0} (hold : Bool) (status : Status) (r : Result Planned E) → found ≡ None → status ≡ missed_status reach dbd.types call.ssas at rows
      → IfOk r (λ p. p ≡ record { status = status; area = None; position = position_missed reach status at; edit = None })
      → IfOk r (Plans dbd rows (get reach hold dbd call at rows))
  plan_missed hold status r e missed is =
      as_planned (Plans dbd rows (get reach hold dbd call at rows)) r _ is
      (plans_unchanged dbd rows (get reach hold dbd call at rows) _ status None (position_missed reach status at)
      (ap (λ o. option_map_or {U = DliResult} (λ x. answered_unchanged (reached_status reach call.ssas at x.path) (Some x.bytes) rows (position_at reach hold at x.path)) o
      (answered_unchanged (missed_status reach dbd.types call.ssas at rows) None rows (position_missed reach (missed_status reach dbd.types call.ssas at rows) at))) (sym h.reached ∙ e)
      ∙ ap (λ s. answered_unchanged s None rows (position_missed reach s at)) (sym missed)) refl)

  reached_valid : (row : Row) → found ≡ Some row → AreRows dbd rows
  reached_valid row e = subst (λ o. OnSome o (AreRows dbd rows)) e h.valid

  pub position_reached : {E : Type 0} (hold : Bool) (row : Row) (r : Result Planned E) → found ≡ Some row → IsPosition dbd.types at
      → IfOk r (λ p. p ≡ record { status = reached_status reach call.ssas at row.path; area = Some row.bytes; position = position_at reach hold at row.path; edit = None })
      → IfOk r (λ p. IsPosition dbd.types p.position)
  position_reached hold row r e stands is =
      as_planned (λ p. IsPosition dbd.types p.position) r _ is
      (stands_at dbd.types reach hold at row.path stands (reached_path dbd reach call.ssas at rows row (reached_valid row e) (sym h.reached ∙ e)))

  pub text_reached : {E : Type 0} (hold : Bool) (row : Row) (r : Result Planned E) → found ≡ Some row → All (λ type. type.bytes ≤ 1996) dbd.types
      → IfOk r (λ p. p ≡ record { status = reached_status reach call.ssas at row.path; area = Some row.bytes; position = position_at reach hold at row.path; edit = None })
      → IfOk r (λ p. IfSome p.area IsSegmentText)
  text_reached hold row r e short is =
      as_planned (λ p. IfSome p.area IsSegmentText) r _ is (reached_text dbd reach call.ssas at rows row (reached_valid row e) (sym h.reached ∙ e) short)

-- what comes to a row that is reached, by the arguments
pub told_by : {E : Type 0} (reach : Reach) (hold : Bool) (at : Position) (row : Row) (given ssas : List Ssa) (r : Result Planned E) → given ≡ ssas
    → IfOk r (λ p. p ≡ record { status = reached_status reach given at row.path; area = Some row.bytes; position = position_at reach hold at row.path; edit = None })
    → IfOk r (λ p. p ≡ record { status = reached_status reach ssas at row.path; area = Some row.bytes; position = position_at reach hold at row.path; edit = None })
told_by reach hold at row given ssas r e is =
    subst (λ xs. IfOk r (λ p. p ≡ record { status = reached_status reach xs at row.path; area = Some row.bytes; position = position_at reach hold at row.path; edit = None })) e is

-- a GNP reaches the row that it reaches in the record of the parentage
pub below_is : (dbd : Dbd) (ssas : List Ssa) (at : Position) (found : Option Row) (seen rows : List Row) → IsPosition dbd.types at → IsRecordFor dbd (option_map root_of at.parentage) seen rows
    → found ≡ row_reached Parent dbd.types ssas at seen → IsReachedIn dbd Parent ssas at found rows
below_is dbd ssas at found seen rows stands h is = let r = by at.parentage stands.parentage h is in record { valid = r.0; reached = r.1 }
  where
    reach : Option (List (ℕ × List ℕ)) → List Row → Option Row
    reach o xs = option_map_or (λ parent. cond (is_row_there parent xs) (first_below dbd.types ssas at.position parent xs) None) o None

    some_path : (path : List (ℕ × List ℕ)) → IsPath dbd.types path → 1 ≤ length path
    some_path [] g = absurd g
    some_path (p ∷ path) g = omega arith

    on_found : (o : Option Row) → AreRows dbd rows → OnSome o (AreRows dbd rows)
    on_found None g = tt
    on_found (Some x) g = g

    none : (o : Option Row) → o ≡ None → OnSome o (AreRows dbd rows)
    none None e = tt
    none (Some x) e = absurd (cc)

    by : (o : Option (List (ℕ × List ℕ))) → IfSome o (IsPath dbd.types) → IsRecordFor dbd (option_map root_of o) seen rows → found ≡ reach o seen
        → (valid : OnSome found (AreRows dbd rows)) × (found ≡ reach o rows)
    by None path g e = (none found e, e)
    by (Some parent) path g e = (
      on_found found g.valid,
      e ∙ (ap (λ s. reach (Some parent) s) (sym g.own)
          ∙ (λ i. cond (there_in_record parent rows i) (below_in_record dbd.types ssas at.position parent rows (some_path parent path) i) None)),
    )

-- and misses one as it does there
pub missed_is : (dbd : Dbd) (ssas : List Ssa) (at : Position) (seen rows : List Row) → IsRecordFor dbd (option_map root_of at.parentage) seen rows
    → missed_status Parent dbd.types ssas at seen ≡ missed_status Parent dbd.types ssas at rows
missed_is dbd ssas at seen rows h = by at.parentage h
  where
    missed : Option (List (ℕ × List ℕ)) → List Row → Status
    missed o xs = option_map_or (λ parent. cond (is_row_there parent xs) GE GP) o GP

    by : (o : Option (List (ℕ × List ℕ))) → IsRecordFor dbd (option_map root_of o) seen rows → missed o seen ≡ missed o rows
    by None g = refl
    by (Some parent) g = ap (λ s. missed (Some parent) s) (sym g.own) ∙ ap (λ b. cond b GE GP) (there_in_record parent rows)

-- why a segment isn't inserted is seen in its record
pub insert_seen : (path : List (ℕ × List ℕ)) (seen rows : List Row) → record_of (root_of path) rows ≡ seen → insert_fault path seen ≡ insert_fault path rows
insert_seen path seen rows own = ap (insert_fault path) (sym own) ∙ (λ i. cond (lacks path i) (Some GE) (cond (there_in_record path rows i) (Some II) None))
  where
    lacks : (path : List (ℕ × List ℕ))
        → (not (eqb (length path) 1) && not (is_row_there (parent_path path) (record_of (root_of path) rows))) ≡ (not (eqb (length path) 1) && not (is_row_there (parent_path path) rows))
    lacks [] = ap (λ b. not b) (there_in_record [] rows)
    lacks (p ∷ []) = refl
    lacks (p ∷ q ∷ path) = ap (λ b. not (eqb (length (p ∷ q ∷ path)) 1) && not b) (there_in_record (parent_path (p ∷ q ∷ path)) rows)

-- why one isn't deleted
pub delete_seen : (held : List (ℕ × List ℕ)) (seen rows : List Row) → record_of (root_of held) rows ≡ seen → delete_fault held seen ≡ delete_fault held rows
delete_seen held seen rows own = ap (delete_fault held) (sym own) ∙ ap (λ b. cond b None (Some DJ)) (there_in_record held rows)

-- why one isn't replaced: where the key stays, it is seen in the record
pub replace_seen : (dbd : Dbd) (area : List ℕ) (held : List (ℕ × List ℕ)) (seen rows : List Row) → IsRecordFor dbd (replaced_root dbd.types area held) seen rows
    → replace_fault dbd.types held area seen ≡ replace_fault dbd.types held area rows
replace_seen dbd area held seen rows h = by (keeps_key dbd.types held area) h
  where
    by : (b : Bool) → IsRecordFor dbd (cond b (Some (root_of held)) None) seen rows → cond (not b) (Some DA) (delete_fault held seen) ≡ cond (not b) (Some DA) (delete_fault held rows)
    by true g = delete_seen held seen rows g.own
    by false g = refl

-- where one is replaced, its record is the one that is seen
pub replaced_record : (dbd : Dbd) (area : List ℕ) (held : List (ℕ × List ℕ)) (seen rows : List Row) → IsRecordFor dbd (replaced_root dbd.types area held) seen rows
    → replace_fault dbd.types held area seen ≡ None → IsRecordFor dbd (Some (root_of held)) seen rows
replaced_record dbd area held seen rows h none = by (keeps_key dbd.types held area) h none
  where
    by : (b : Bool) → IsRecordFor dbd (cond b (Some (root_of held)) None) seen rows → cond (not b) (Some DA) (delete_fault held seen) ≡ None → IsRecordFor dbd (Some (root_of held)) seen rows
    by true g e = g
    by false g e = (let clash : Some DA ≡ None = e in absurd (cc))
