-- What was made, or waits, is done.
use Rattle.std.proofs.Common.{◌≡◌, ℕ, ◌-◌, ◌≤◌, List, refl, sym, ◌∙◌, ap, subst, map, length, Option, None, Some, Result, Ok, Err}
use Rattle.std.specs.List.{slice_get}
use Rattle.std.specs.Prelude.{IfSome, IfOk, OnOk, is_some, not, Bool, true, false}
use Rattle.tm_types.specs.declared.dbd.Dbd.{Dbd}
use Rattle.tm_types.specs.Segment.{IsSegmentText}
use Rattle.model_data.specs.declared.row.Row.{Row}
use Rattle.model_data.specs.Conditions.{IsDbCall, IsPosition}
use Rattle.model_data.specs.declared.call.DbCall.{DbCall}
use Rattle.model_data.specs.declared.call.Position.{Position}
use Rattle.model_data.specs.DatabaseCalls.{dli}
use Rattle.model_data.specs.Footprint.{footprint}
use Rattle.model_data.specs.declared.request.Request.{Request}
use Rattle.model_data.specs.Table.{EnqueueTable}
use Rattle.model_data.specs.EnqueueRequests.{after_asks, first_blocked}
use Rattle.pi_enqueue.specs.KeptTable.{IsTableKept}
use Rattle.seg_store.specs.Slots.{Stored, rows_of_slots}
use Rattle.dli_calls.specs.declared.planned.Edit.{Edit}
use Rattle.dli_calls.specs.declared.planned.Planned.{Planned}
use Rattle.dli_calls.specs.CallPlan.{Plans, PlansTo, IsThere}
use Rattle.program_rows.specs.DatabasesState.{database_rows_in, rows_of_stores}
use Rattle.program_rows.specs.Isolation.{request_of}
use Rattle.program_rows.specs.MadeCall.{IsCallDone}
use Rattle.program_rows.specs.OpenUnits.{unit_records_of, unit_slots_of, AreUnits}
use Rattle.program_rows.specs.PlannedChanges.{IsSame, Reads, WaitsAt, IsEdited, LeadsTo, Makes}
use Rattle.program_rows.specs.declared.answer.Answered as answer
use Rattle.program_rows.specs.declared.answer.DataAnswer.{DataAnswer}
use Rattle.program_rows.specs.declared.answer.DataAnswer.TheVariants.{Answered, Abend, Blocked}
use Rattle.program_rows.specs.declared.asked.Asked.{Asked}
use Rattle.program_rows.specs.declared.opened.Opened.{Opened}
use Rattle.program_rows.proofs.Called.{waits, reads, sets, set_open, leads}
use Rattle.program_rows.proofs.Followed.{follows, follow_units}
use Rattle.program_rows.proofs.Setting.{rows_at_is}

-- where there is no value there is none
pub is_none_is : {A : Type 0} (o : Option A) (b : Bool) → is_some o ≡ not b → b ≡ true → o ≡ None
is_none_is None b e h = refl
is_none_is (Some x) b e h = let clash : true ≡ false = e ∙ ap not h in absurd (cc)

module _ (o : Opened) (h : AreUnits (unit_records_of o.units.items) o.stores.stores o.table) (region number : ℕ) (first : 1 ≤ region) (last : region ≤ length (unit_records_of o.units.items)) (least : 1 ≤ number)
    (dbd : Dbd) (call : DbCall) (at : Position) (position : IsPosition dbd.types at) (ok : IsDbCall dbd.types call) (s : Stored) (there : slice_get o.stores.stores (number - 1) ≡ Some s) (same_dbd : s.dbd ≡ dbd)
    (new : Opened) where
  stored : List Row
  stored = database_rows_in number (rows_of_stores o.stores.stores)

  stored_is : database_rows_in number (rows_of_stores o.stores.stores) ≡ rows_of_slots s.slots
  stored_is = rows_at_is number o.stores.stores s there

  requests_are : (requests : List Request) → requests ≡ map (request_of region number) (footprint dbd call at (rows_of_slots s.slots))
      → requests ≡ map (request_of region number) (footprint dbd call at (database_rows_in number (rows_of_stores o.stores.stores)))
  requests_are requests e = e ∙ ap (λ rows. map (request_of region number) (footprint dbd call at rows)) (sym stored_is)

  asked_units : (requests : List Request) → requests ≡ map (request_of region number) (footprint dbd call at (rows_of_slots s.slots)) → unit_records_of new.units.items ≡ unit_records_of o.units.items
      → new.stores.stores ≡ o.stores.stores → new.table ≡ after_asks region requests o.table → IsTableKept new.table → AreUnits (unit_records_of new.units.items) new.stores.stores new.table
  asked_units requests e u st t kept =
      subst (λ us. AreUnits us new.stores.stores new.table) (sym u)
      (subst (λ ss. AreUnits (unit_records_of o.units.items) ss new.table) (sym st)
      (follow_units (unit_records_of o.units.items) o.stores.stores o.table new.table h
      (follows region number (footprint dbd call at (rows_of_slots s.slots)) o.table new.table least h.numbered (t ∙ ap (λ qs. after_asks region qs o.table) e) kept)))

  module _ {E : Type 0} where
    -- a call that waits
    pub waited : (r : Result DataAnswer E) (requests : List Request) → requests ≡ map (request_of region number) (footprint dbd call at (rows_of_slots s.slots))
        → unit_records_of new.units.items ≡ unit_records_of o.units.items → unit_slots_of new.units.items ≡ unit_slots_of o.units.items → new.stores.stores ≡ o.stores.stores → new.stores.changed ≡ o.stores.changed → IfOk r (WaitsAt requests o.table) → OnOk r (new.table ≡ after_asks region requests o.table) → IsTableKept new.table
        → IfOk r (IsCallDone region number dbd call at o new)
    waited (Err x) requests e u sl st ch w t kept = tt
    waited (Ok (Answered a)) requests e u sl st ch w t kept = absurd w
    waited (Ok (Abend code)) requests e u sl st ch w t kept = absurd w
    waited (Ok (Blocked b)) requests e u sl st ch w t kept =
        record {
          called = waits o h region number first last least dbd call at position ok s there same_dbd (Blocked b) new
              (subst (λ qs. WaitsAt qs o.table (Blocked b)) (requests_are requests e) w) u sl st ch (t ∙ ap (λ qs. after_asks region qs o.table) (requests_are requests e));
          stands = tt;
          units = asked_units requests e u st t kept;
        }

    -- a call that was made
    pub made : (r : Result DataAnswer E) (asked : Asked) (p : Planned) → asked.region ≡ region → asked.number ≡ number
        → asked.requests.items ≡ map (request_of region number) (footprint dbd call at (rows_of_slots s.slots)) → first_blocked asked.requests.items o.table ≡ None
        → Plans dbd (rows_of_slots s.slots) (dli dbd call at (rows_of_slots s.slots)) p → IfSome p.area IsSegmentText → IsThere (rows_of_slots s.slots) p.edit → IsPosition dbd.types p.position
        → IfOk r (Makes asked dbd p o new) → IfOk r (IsCallDone region number dbd call at o new)
    made (Err x) asked p er en eq free plans text exists stands m = tt
    made (Ok a) asked p er en eq free plans text exists stands m =
        by a (subst (λ (q : Asked). Makes q dbd p o new a) (λ i. record asked { region = er i; number = en i }) m)
      where
        requests : List Request
        requests = map (request_of region number) (footprint dbd call at (database_rows_in number (rows_of_stores o.stores.stores)))

        unblocked : first_blocked (map (request_of region number) (footprint dbd call at (database_rows_in number (rows_of_stores o.stores.stores)))) o.table ≡ None
        unblocked = sym (ap (λ qs. first_blocked qs o.table) (requests_are asked.requests.items eq)) ∙ free

        planned : Plans dbd (database_rows_in number (rows_of_stores o.stores.stores)) (dli dbd call at (database_rows_in number (rows_of_stores o.stores.stores))) p
        planned = subst (λ rows. Plans dbd rows (dli dbd call at rows) p) (sym stored_is) plans

        is_there : IsThere (database_rows_in number (rows_of_stores o.stores.stores)) p.edit
        is_there = subst (λ rows. IsThere rows p.edit) (sym stored_is) exists

        answered : (b : answer.Answered) → b.status ≡ p.status → b.area ≡ p.area → b.position ≡ p.position → (oe : Option Edit)
            → PlansTo dbd (database_rows_in number (rows_of_stores o.stores.stores)) (dli dbd call at (database_rows_in number (rows_of_stores o.stores.stores))) p oe → IsThere (database_rows_in number (rows_of_stores o.stores.stores)) oe
            → IsEdited (record asked { region = region; number = number }) dbd o new oe → IsCallDone region number dbd call at o new (Answered b)
        answered b st ar po None pl ex edited =
            record {
              called = reads o h region number first last least dbd call at position ok s there same_dbd unblocked p b new text st ar po pl edited.units edited.stores
                  (edited.asks.table ∙ ap (λ qs. after_asks region qs o.table) (requests_are asked.requests.items eq));
              stands = subst (IsPosition dbd.types) (sym po) stands;
              units = asked_units asked.requests.items eq edited.units edited.stores edited.asks.table edited.asks.kept;
            }
        answered b st ar po (Some e) pl ex edited =
            let set = edited.1 in
            let table : new.table ≡ after_asks region (map (request_of region number) (footprint dbd call at (database_rows_in number (rows_of_stores o.stores.stores)))) o.table =
            edited.1.asks.table ∙ ap (λ qs. after_asks region qs o.table) (requests_are asked.requests.items eq) in
            record {
              called = sets o h region number first last least dbd call at position ok s there same_dbd unblocked p e new pl ex edited.0 edited.1.slot edited.1.put edited.1.takes edited.1.room edited.1.units table
                  edited.1.asks.kept b text st ar po;
              stands = subst (IsPosition dbd.types) (sym po) stands;
              units = set_open o h region number first last least dbd call at position ok s there same_dbd unblocked p e new pl ex edited.0 edited.1.slot edited.1.put edited.1.takes edited.1.room edited.1.units table
                  edited.1.asks.kept;
            }

        led : (code : _) (oe : Option Edit) → PlansTo dbd (database_rows_in number (rows_of_stores o.stores.stores)) (dli dbd call at (database_rows_in number (rows_of_stores o.stores.stores))) p oe
            → LeadsTo (record asked { region = region; number = number }) dbd o code oe → IsSame o new → IsCallDone region number dbd call at o new (Abend code)
        led code None pl leads_to same = absurd leads_to
        led code (Some e) pl leads_to same =
            record {
              called = leads o h region number first last least dbd call at position ok s there same_dbd unblocked p e code new pl leads_to same;
              stands = tt;
              units = subst (λ us. AreUnits us new.stores.stores new.table) (sym same.units)
                  (subst (λ ss. AreUnits (unit_records_of o.units.items) ss new.table) (sym same.stores)
                  (subst (λ (table : EnqueueTable). AreUnits (unit_records_of o.units.items) o.stores.stores table) (sym same.table) h));
            }

        by : (b : DataAnswer) → Makes (record asked { region = region; number = number }) dbd p o new b → IsCallDone region number dbd call at o new b
        by (Answered b) k = answered b k.status k.area k.position p.edit planned is_there k.edited
        by (Abend code) k = led code p.edit planned k.0 k.1
        by (Blocked b) k = absurd k

    -- a call that changes no record, and was answered or waits
    pub read_done : (r : Result DataAnswer E) (asked : Asked) (p : Planned) → asked.region ≡ region → asked.number ≡ number
        → asked.requests.items ≡ map (request_of region number) (footprint dbd call at (rows_of_slots s.slots))
        → Plans dbd (rows_of_slots s.slots) (dli dbd call at (rows_of_slots s.slots)) p → IfSome p.area IsSegmentText → IsThere (rows_of_slots s.slots) p.edit → IsPosition dbd.types p.position
        → p.edit ≡ None → unit_records_of new.units.items ≡ unit_records_of o.units.items → unit_slots_of new.units.items ≡ unit_slots_of o.units.items → new.stores.stores ≡ o.stores.stores → new.stores.changed ≡ o.stores.changed → IfOk r (Reads asked.requests.items o.table p)
        → OnOk r (new.table ≡ after_asks asked.region asked.requests.items o.table) → IsTableKept new.table
        → IfOk r (IsCallDone region number dbd call at o new)
    read_done (Err x) asked p er en eq plans text exists stands none u sl st ch w t kept = tt
    read_done (Ok (Abend code)) asked p er en eq plans text exists stands none u sl st ch w t kept = absurd w
    read_done (Ok (Blocked b)) asked p er en eq plans text exists stands none u sl st ch w t kept =
        waited (Ok (Blocked b)) asked.requests.items eq u sl st ch w (t ∙ ap (λ n. after_asks n asked.requests.items o.table) er) kept
    read_done (Ok (Answered a)) asked p er en eq plans text exists stands none u sl st ch w t kept =
        made (Ok (Answered a)) asked p er en eq w.free plans text exists stands
        (record { status = w.status; area = w.area; position = w.position; edited = subst (IsEdited asked dbd o new) (sym none) (record { units = u; slots = sl; stores = st; changed = ch; asks = record { table = t; kept = kept } }) })
