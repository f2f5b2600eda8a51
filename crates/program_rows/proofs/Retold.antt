-- What a call tells, and the slots that it touches: of one that waits, changes no record, sets one or leads to an abend.
use Rattle.std.proofs.Common.{◌≡◌, ℕ, ◌-◌, ◌≤◌, ◌<◌, ◌∷◌, [], List, refl, sym, ◌∙◌, ap, subst, map, length, Option, None, Some, Result, Ok, Err, Bool, true, false, arith, get_or, set, zero, suc, ◌&&◌, ◌||◌, ◌⊎◌, inl, inr, ⊎_elim, ◌++◌}
use Rattle.std.specs.List.{slice_get, AllByRecursion, list_any}
use Rattle.std.specs.Prelude.{IfOk, IfErr, OnOk, OnErr}
use Rattle.std.proofs.lemmas.Bool.{false≢true, eq-eqb}
use Rattle.std.proofs.lemmas.List.{length-map}
use Rattle.tm_types.specs.declared.dbd.Dbd.{Dbd}
use Rattle.tm_types.specs.declared.abend.AbendCode.{AbendCode}
use Rattle.tm_types.specs.declared.resource.Resource.{Resource}
use Rattle.model_data.specs.declared.row.Row.{Row}
use Rattle.model_data.specs.Record as rows
use Rattle.model_data.specs.Conditions.{IsDbCall, IsPosition}
use Rattle.model_data.specs.declared.call.DbCall.{DbCall}
use Rattle.model_data.specs.declared.call.Position.{Position}
use Rattle.model_data.specs.DatabaseCalls.{dli}
use Rattle.model_data.specs.Footprint.{footprint}
use Rattle.model_data.specs.declared.request.Request.{Request}
use Rattle.model_data.specs.Table.{EnqueueTable}
use Rattle.model_data.specs.EnqueueRequests.{after_asks, first_blocked}
use Rattle.pi_enqueue.specs.KeptTable.{IsTableKept}
use Rattle.seg_store.specs.Slots.{Stored, slot_for, rows_of_slots}
use Rattle.unit_work.specs.declared.change.Change.{Change}
use Rattle.unit_work.specs.Changes.{Changes, with_change, with_slot}
use Rattle.dli_calls.specs.declared.planned.Edit.{Edit}
use Rattle.dli_calls.specs.declared.planned.Planned.{Planned}
use Rattle.dli_calls.specs.CallPlan.{Plans, PlansTo, IsThere}
use Rattle.log_records.specs.declared.record.Record.{Record}
use Rattle.log_records.specs.declared.record.Record.TheVariants as told
use Rattle.log_records.specs.declared.untold.Untold.{Untold}
use Rattle.log_records.specs.declared.untold.Untold.TheVariants as untold
use Rattle.unit_work.specs.Images.{slots_of_database, image_at, image_bytes_at}
use Rattle.unit_work.specs.Marks.{is_marked, AreMarked}
use Rattle.unit_work.specs.ToldChanges.{is_told_of, IsChangeTold, ChangesTold}
use Rattle.program_rows.specs.DatabasesState.{database_rows_in, rows_of_stores, rows_numbered, touched_by}
use Rattle.program_rows.specs.Isolation.{request_of, requests_of_call}
use Rattle.program_rows.specs.CallAnswers.{told_blocked}
use Rattle.program_rows.specs.SlotsState.{slots_state_of as slots_seen, slots_stores, SlotsState, CallsSo}
use Rattle.program_rows.specs.OpenUnits.{unit_records_of, unit_slots_of, backed_all, AreUnits, AllTouch}
use Rattle.program_rows.specs.MadeCall.{IsCallDone}
use Rattle.program_rows.specs.PlannedChanges.{databases_opened, IsUnitWhole, AreThere, HasTouched, IsSame, Reads, WaitsAt, IsEdited, LeadsTo, Makes, IsUntoldEdit, planned_abend, changed_in, edit_told, change_kept, made_told, region_slots_in}
use Rattle.log_records.specs.ToldRecords.{TellsInRoom, AreRecordsUntold}
use Rattle.program_rows.specs.ToldChanges.{call_told, set_told, slot_touched, touched_after, unless_stopped}
use Rattle.program_rows.specs.declared.answer.DataAnswer.{DataAnswer}
use Rattle.program_rows.specs.declared.answer.DataAnswer.TheVariants.{Answered, Abend, Blocked}
use Rattle.program_rows.specs.declared.asked.Asked.{Asked}
use Rattle.program_rows.specs.declared.opened.Opened.{Opened}
use Rattle.program_rows.proofs.Called.{same_asks, none_told, none_touched, led_told, edit_touched, edit_is_told, set_in, after_units, within, set_there}
use Rattle.program_rows.proofs.Followed.{follows}
use Rattle.program_rows.proofs.OneSlot.{OneSlot}
use Rattle.program_rows.proofs.SetUnits.{one, set_committed}
use Rattle.program_rows.proofs.Slotted.{calls_none, edit_marked}
use Rattle.program_rows.proofs.Setting.{rows_at_is}
use Rattle.program_rows.proofs.Touching.{follows_touched, set_touched}
use Rattle.program_rows.proofs.Backed.{AreValid}
use Rattle.unit_work.proofs.Ordered.{same_is}
use Rattle.std.specs.Option.{option_map_or}

-- what a call tells and touches, where its plan tells these records
pub record Retells (unit region number : ℕ) (dbd : Dbd) (call : DbCall) (at : Position) (o new : Opened) (records : List Record) (a : DataAnswer) : Type 0 where
  pub told : records ≡ call_told unit region number dbd call at (databases_opened o)
  pub slots : CallsSo unit region (slots_seen (databases_opened o)) (slots_seen (databases_opened new)) (call_told unit region number dbd call at (databases_opened o))
  pub touched : unit_slots_of new.units.items ≡ touched_after region number (dli dbd call at (rows_numbered region number (databases_opened o))) (databases_opened o) a
  pub touch : HasTouched new

-- a call that is blocked tells nothing
blocked_told : (fb : Option (Request × ℕ)) (x : Resource × ℕ) (abend : Option AbendCode) (records : List Record) → told_blocked fb ≡ Some x → unless_stopped fb abend records ≡ []
blocked_told None x abend records e = let clash : (let none : Option (Resource × ℕ) = None in none) ≡ Some x = e in absurd (cc)
blocked_told (Some blocked) x None records e = refl
blocked_told (Some blocked) x (Some code) records e = refl

-- what is told of one slot
pub one_told : (unit number slot : ℕ) (was image : List Row) (old new : List Stored) → OneSlot number slot was image old new
    → ChangesTold unit old new (told.Change unit number slot (image_bytes_at number slot old) (rows.rows_spelling image) ∷ [])
one_told unit number slot was image old new o =
    record {
      each = (record { by = refl; there = record { least = o.least; within = o.within }; before = refl; after = ap rows.rows_spelling (sym o.here) }, tt);
      others = λ database place least e. o.else database place least
          (λ d p. false≢true (sym e ∙ (λ t. (eq-eqb number database (sym d) t && eq-eqb slot place (sym p) t) || false)));
      databases = o.dbds;
    }

module _ (o : Opened) (h : AreUnits (unit_records_of o.units.items) o.stores.stores o.table) (region number : ℕ) (first : 1 ≤ region) (last : region ≤ length (unit_records_of o.units.items)) (least : 1 ≤ number)
    (dbd : Dbd) (call : DbCall) (at : Position) (position : IsPosition dbd.types at) (ok : IsDbCall dbd.types call) (s : Stored) (there : slice_get o.stores.stores (number - 1) ≡ Some s) (same_dbd : s.dbd ≡ dbd)
    (new : Opened) (unit : ℕ) (touched : HasTouched o) where
  requests_same : (requests : List Request) → requests ≡ map (request_of region number) (footprint dbd call at (rows_of_slots s.slots))
      → requests ≡ map (request_of region number) (footprint dbd call at (database_rows_in number (rows_of_stores o.stores.stores)))
  requests_same requests e = e ∙ ap (λ rs. map (request_of region number) (footprint dbd call at rs)) (sym (rows_at_is number o.stores.stores s there))

  -- nothing is changed but what regions ask for
  asked_touched : (requests : List Request) → requests ≡ map (request_of region number) (footprint dbd call at (rows_of_slots s.slots)) → unit_records_of new.units.items ≡ unit_records_of o.units.items
      → unit_slots_of new.units.items ≡ unit_slots_of o.units.items → new.stores.stores ≡ o.stores.stores → new.table ≡ after_asks region requests o.table → IsTableKept new.table → HasTouched new
  asked_touched requests e u sl st t kept =
      subst (λ us. AllTouch us (unit_slots_of new.units.items) new.stores.stores new.table) (sym u)
      (subst (λ ss. AllTouch (unit_records_of o.units.items) ss new.stores.stores new.table) (sym sl)
      (subst (λ ss. AllTouch (unit_records_of o.units.items) (unit_slots_of o.units.items) ss new.table) (sym st)
      (λ k inside. follows_touched o.table new.table (suc k) (get_or (unit_records_of o.units.items) k []) (get_or (unit_slots_of o.units.items) k []) o.stores.stores
      ((follows region number (footprint dbd call at (rows_of_slots s.slots)) o.table new.table least h.numbered (t ∙ ap (λ qs. after_asks region qs o.table) e) kept).alone (suc k)) (touched k inside))))

  same_slots : unit_records_of new.units.items ≡ unit_records_of o.units.items → unit_slots_of new.units.items ≡ unit_slots_of o.units.items → new.stores.stores ≡ o.stores.stores → new.stores.changed ≡ o.stores.changed
      → slots_seen (databases_opened new) ≡ slots_seen (databases_opened o)
  same_slots u sl st ch = λ i. record { committed = backed_all (u i) (st i); stores = st i; changed = ch i; touched = sl i }

  same_touched : IsSame o new → HasTouched new
  same_touched same =
      subst (λ us. AllTouch us (unit_slots_of new.units.items) new.stores.stores new.table) (sym same.units)
      (subst (λ ss. AllTouch (unit_records_of o.units.items) ss new.stores.stores new.table) (sym same.slots)
      (subst (λ ss. AllTouch (unit_records_of o.units.items) (unit_slots_of o.units.items) ss new.table) (sym same.stores)
      (subst (λ (t : EnqueueTable). AllTouch (unit_records_of o.units.items) (unit_slots_of o.units.items) o.stores.stores t) (sym same.table) touched)))

  module _ {E : Type 0} where
    -- a call that waits
    pub waits_told : (r : Result DataAnswer E) (requests : List Request) → requests ≡ map (request_of region number) (footprint dbd call at (rows_of_slots s.slots))
        → unit_records_of new.units.items ≡ unit_records_of o.units.items → unit_slots_of new.units.items ≡ unit_slots_of o.units.items → new.stores.stores ≡ o.stores.stores → new.stores.changed ≡ o.stores.changed
        → IfOk r (WaitsAt requests o.table) → OnOk r (new.table ≡ after_asks region requests o.table) → IsTableKept new.table
        → IfOk r (Retells unit region number dbd call at o new [])
    waits_told (Err x) requests e u sl st ch w t kept = tt
    waits_told (Ok (Answered a)) requests e u sl st ch w t kept = absurd w
    waits_told (Ok (Abend code)) requests e u sl st ch w t kept = absurd w
    waits_told (Ok (Blocked b)) requests e u sl st ch w t kept =
        let asks = same_asks o h region number first last least dbd call at position ok s there same_dbd in
        let blocked : told_blocked (first_blocked (requests_of_call region number dbd call at (databases_opened o)) o.table) ≡ Some (b.resource, b.by) =
        sym (ap told_blocked asks.0) ∙ (ap (λ qs. told_blocked (first_blocked qs o.table)) (sym (requests_same requests e)) ∙ w) in
        let none : call_told unit region number dbd call at (databases_opened o) ≡ [] =
        blocked_told (first_blocked (requests_of_call region number dbd call at (databases_opened o)) o.table) (b.resource, b.by) _ _ blocked in
        record {
          told = sym none;
          slots = calls_none unit region (slots_seen (databases_opened o)) (slots_seen (databases_opened new)) (call_told unit region number dbd call at (databases_opened o)) none (same_slots u sl st ch);
          touched = sl;
          touch = asked_touched requests e u sl st t kept;
        }

    -- a call that was made
    pub made_told_so : (r : Result DataAnswer E) (asked : Asked) (p : Planned) → asked.region ≡ region → asked.number ≡ number
        → asked.requests.items ≡ map (request_of region number) (footprint dbd call at (rows_of_slots s.slots)) → first_blocked asked.requests.items o.table ≡ None
        → Plans dbd (rows_of_slots s.slots) (dli dbd call at (rows_of_slots s.slots)) p → IsThere (rows_of_slots s.slots) p.edit
        → IfOk r (Makes asked dbd p o new) → IfOk r (λ a. Retells unit region number dbd call at o new (made_told unit number p.edit o.stores.stores a) a)
    made_told_so (Err x) asked p er en eq free plans exists m = tt
    made_told_so (Ok a) asked p er en eq free plans exists m =
        by a (subst (λ (q : Asked). Makes q dbd p o new a) (λ i. record asked { region = er i; number = en i }) m)
      where
        unblocked : first_blocked (map (request_of region number) (footprint dbd call at (database_rows_in number (rows_of_stores o.stores.stores)))) o.table ≡ None
        unblocked = sym (ap (λ qs. first_blocked qs o.table) (requests_same asked.requests.items eq)) ∙ free

        planned : Plans dbd (database_rows_in number (rows_of_stores o.stores.stores)) (dli dbd call at (database_rows_in number (rows_of_stores o.stores.stores))) p
        planned = subst (λ rs. Plans dbd rs (dli dbd call at rs) p) (sym (rows_at_is number o.stores.stores s there)) plans

        is_there : IsThere (database_rows_in number (rows_of_stores o.stores.stores)) p.edit
        is_there = subst (λ rs. IsThere rs p.edit) (sym (rows_at_is number o.stores.stores s there)) exists

        answered : (b : _) (oe : Option Edit) → PlansTo dbd (database_rows_in number (rows_of_stores o.stores.stores)) (dli dbd call at (database_rows_in number (rows_of_stores o.stores.stores))) p oe
            → IsThere (database_rows_in number (rows_of_stores o.stores.stores)) oe → IsEdited (record asked { region = region; number = number }) dbd o new oe
            → Retells unit region number dbd call at o new (edit_told unit number oe o.stores.stores) (Answered b)
        answered b None pl ex edited =
            let none = none_told o h region number first last least dbd call at position ok s there same_dbd unblocked unit p pl in
            record {
              told = sym none;
              slots = calls_none unit region (slots_seen (databases_opened o)) (slots_seen (databases_opened new)) (call_told unit region number dbd call at (databases_opened o)) none (same_slots edited.units edited.slots edited.stores edited.changed);
              touched = edited.slots
                  ∙ sym (ap (set (unit_slots_of o.units.items) (region - 1))
                  (none_touched o h region number first last least dbd call at position ok s there same_dbd unblocked unit p (touched_by region (databases_opened o)) pl)
                  ∙ set_there (unit_slots_of o.units.items) (region - 1) []);
              touch = asked_touched asked.requests.items eq edited.units edited.slots edited.stores edited.asks.table edited.asks.kept;
            }
        answered b (Some e) pl ex edited =
            let table : new.table ≡ after_asks region (map (request_of region number) (footprint dbd call at (database_rows_in number (rows_of_stores o.stores.stores)))) o.table =
            edited.1.asks.table ∙ ap (λ qs. after_asks region qs o.table) (requests_same asked.requests.items eq) in
            let inside = within o h region number first last least dbd call at position ok s there same_dbd in
            let sets_in = set_in o h region number first last least dbd call at position ok s there same_dbd unblocked p e new pl ex edited.0 edited.1.slot edited.1.put edited.1.takes edited.1.room
            edited.1.units table edited.1.asks.kept in
            let follow = after_units o h region number first last least dbd call at position ok s there same_dbd unblocked p e new pl ex edited.0 edited.1.slot edited.1.put edited.1.takes edited.1.room
            edited.1.units table edited.1.asks.kept in
            let is_one : OneSlot number edited.1.slot (change_kept number edited.1.slot e edited.1.put.s).before e.image o.stores.stores (set o.stores.stores (number - 1) edited.1.put.t) =
            one (unit_records_of o.units.items) o.stores.stores o.table new.table h follow (region - 1) inside (change_kept number edited.1.slot e edited.1.put.s) edited.1.put.s edited.1.put.t e.image sets_in edited.1.room in
            let is_told = edit_is_told o h region number first last least dbd call at position ok s there same_dbd unblocked unit p e pl edited.0 in
            let slots_are : slots_of_database number o.stores.stores ≡ edited.1.put.s.slots = Rattle.program_rows.proofs.Aside.slots_there number o.stores.stores edited.1.put.s edited.1.put.at in
            let place : slot_for e.root (slots_of_database number o.stores.stores) ≡ Some edited.1.slot = ap (slot_for e.root) slots_are ∙ edited.1.takes.place in
            let records : edit_told unit number (Some e) o.stores.stores ≡ told.Change unit number edited.1.slot (image_bytes_at number edited.1.slot o.stores.stores) (rows.rows_spelling e.image) ∷ [] =
            ap (set_told unit number e.image o.stores.stores) place in
            record {
              told = sym is_told;
              slots = record {
                told = subst (λ rs. ChangesTold unit o.stores.stores new.stores.stores rs) (sym (is_told ∙ records))
                    (subst (λ ss. ChangesTold unit o.stores.stores ss (told.Change unit number edited.1.slot (image_bytes_at number edited.1.slot o.stores.stores) (rows.rows_spelling e.image) ∷ [])) (sym edited.1.put.stores)
                    (one_told unit number edited.1.slot (change_kept number edited.1.slot e edited.1.put.s).before e.image o.stores.stores (set o.stores.stores (number - 1) edited.1.put.t) is_one));
                does = inr (inl (record {
                  slot = record { db = number; slot = edited.1.slot; root = e.root; before = image_at number edited.1.slot o.stores.stores };
                  stood = refl;
                  one = (is_told ∙ records)
                      ∙ ap (λ (after : List ℕ). told.Change unit number edited.1.slot (image_bytes_at number edited.1.slot o.stores.stores) after ∷ [])
                      (ap rows.rows_spelling (sym is_one.here) ∙ ap (image_bytes_at number edited.1.slot) (sym edited.1.put.stores));
                  touched = edited.1.slots
                      ∙ sym (ap (set (unit_slots_of o.units.items) (region - 1))
                      (ap (λ (before : List Row). with_slot (record { db = number; slot = edited.1.slot; root = e.root; before = before }) (touched_by region (databases_opened o))) is_one.before));
                  marked = edit_marked number e o.stores new.stores edited.1.put.s edited.1.slot edited.1.marks slots_are edited.1.takes.valid
                      (subst (λ rs. IsThere rs (Some e)) (rows_at_is number o.stores.stores edited.1.put.s edited.1.put.at) ex) edited.1.takes.place;
                }));
                marks = subst (λ (rs : List Record). AreMarked (λ database slot. list_any (is_told_of database slot) rs) o.stores new.stores) (sym is_told) (edited.1.marks.told unit);
                committed = (λ i. backed_all (edited.1.units i) (edited.1.put.stores i))
                    ∙ set_committed (unit_records_of o.units.items) o.stores.stores o.table new.table h follow (region - 1) inside (change_kept number edited.1.slot e edited.1.put.s) edited.1.put.s
                    edited.1.put.t e.image sets_in edited.1.room;
              };
              touched = edited.1.slots
                  ∙ sym (ap (set (unit_slots_of o.units.items) (region - 1))
                  (edit_touched o h region number first last least dbd call at position ok s there same_dbd unblocked unit p e pl (touched_by region (databases_opened o))
                  ∙ (ap (λ k. slot_touched number e.root o.stores.stores k (touched_by region (databases_opened o))) place
                  ∙ ap (λ (before : List Row). with_slot (record { db = number; slot = edited.1.slot; root = e.root; before = before }) (touched_by region (databases_opened o))) is_one.before)));
              touch = subst (λ us. AllTouch us (unit_slots_of new.units.items) new.stores.stores new.table) (sym edited.1.units)
                  (subst (λ ss. AllTouch (set (unit_records_of o.units.items) (region - 1) (with_change (change_kept number edited.1.slot e edited.1.put.s) (changed_in region o))) ss new.stores.stores new.table) (sym edited.1.slots)
                  (subst (λ ss. AllTouch (set (unit_records_of o.units.items) (region - 1) (with_change (change_kept number edited.1.slot e edited.1.put.s) (changed_in region o)))
                  (set (unit_slots_of o.units.items) (region - 1) (with_slot (change_kept number edited.1.slot e edited.1.put.s) (region_slots_in region o))) ss new.table) (sym edited.1.put.stores)
                  (set_touched (unit_records_of o.units.items) (unit_slots_of o.units.items) o.stores.stores o.table new.table h follow (region - 1) inside (change_kept number edited.1.slot e edited.1.put.s) edited.1.put.s
                  edited.1.put.t e.image sets_in edited.1.room touched edited.1.order (length-map o.units.items (λ (u : Changes). u.slots) ∙ sym (length-map o.units.items (λ (u : Changes). u.records))))));
            }

        led : (code : _) (oe : Option Edit) → PlansTo dbd (database_rows_in number (rows_of_stores o.stores.stores)) (dli dbd call at (database_rows_in number (rows_of_stores o.stores.stores))) p oe
            → LeadsTo (record asked { region = region; number = number }) dbd o code oe → IsSame o new → Retells unit region number dbd call at o new [] (Abend code)
        led code None pl leads_to same = absurd leads_to
        led code (Some e) pl leads_to same =
            let none = led_told o h region number first last least dbd call at position ok s there same_dbd unblocked unit p e pl code leads_to in
            record {
              told = sym none;
              slots = calls_none unit region (slots_seen (databases_opened o)) (slots_seen (databases_opened new)) (call_told unit region number dbd call at (databases_opened o)) none (same_slots same.units same.slots same.stores same.changed);
              touched = same.slots;
              touch = same_touched same;
            }

        by : (b : DataAnswer) → Makes (record asked { region = region; number = number }) dbd p o new b → Retells unit region number dbd call at o new (made_told unit number p.edit o.stores.stores b) b
        by (Answered b) k = answered b p.edit planned is_there k.edited
        by (Abend code) k = led code p.edit planned k.0 k.1
        by (Blocked b) k = absurd k

    -- a call that changes no record, and was answered or waits
    pub read_told : (r : Result DataAnswer E) (asked : Asked) (p : Planned) → asked.region ≡ region → asked.number ≡ number
        → asked.requests.items ≡ map (request_of region number) (footprint dbd call at (rows_of_slots s.slots))
        → Plans dbd (rows_of_slots s.slots) (dli dbd call at (rows_of_slots s.slots)) p → IsThere (rows_of_slots s.slots) p.edit
        → p.edit ≡ None → unit_records_of new.units.items ≡ unit_records_of o.units.items → unit_slots_of new.units.items ≡ unit_slots_of o.units.items → new.stores.stores ≡ o.stores.stores → new.stores.changed ≡ o.stores.changed
        → IfOk r (Reads asked.requests.items o.table p)
        → OnOk r (new.table ≡ after_asks asked.region asked.requests.items o.table) → IsTableKept new.table
        → IfOk r (Retells unit region number dbd call at o new [])
    read_told (Err x) asked p er en eq plans exists none u sl st ch w t kept = tt
    read_told (Ok (Abend code)) asked p er en eq plans exists none u sl st ch w t kept = absurd w
    read_told (Ok (Blocked b)) asked p er en eq plans exists none u sl st ch w t kept =
        waits_told (Ok (Blocked b)) asked.requests.items eq u sl st ch w (t ∙ ap (λ n. after_asks n asked.requests.items o.table) er) kept
    read_told (Ok (Answered a)) asked p er en eq plans exists none u sl st ch w t kept =
        let made = made_told_so (Ok (Answered a)) asked p er en eq w.free plans exists
        (record {
          status = w.status;
          area = w.area;
          position = w.position;
          edited = subst (IsEdited asked dbd o new) (sym none) (record { units = u; slots = sl; stores = st; changed = ch; asks = record { table = t; kept = kept } });
        }) in
        subst (λ records. Retells unit region number dbd call at o new records (Answered a)) (ap (λ e. edit_told unit number e o.stores.stores) none) made

  -- a call whose plan isn't told for want of room
  module _ (asked : Asked) (p : Planned) (er : asked.region ≡ region) (en : asked.number ≡ number)
      (eq : asked.requests.items ≡ map (request_of region number) (footprint dbd call at (rows_of_slots s.slots))) (free : first_blocked asked.requests.items o.table ≡ None)
      (plans : Plans dbd (rows_of_slots s.slots) (dli dbd call at (rows_of_slots s.slots)) p) (room : ℕ) where
    no_edit_block : first_blocked (map (request_of region number) (footprint dbd call at (database_rows_in number (rows_of_stores o.stores.stores)))) o.table ≡ None
    no_edit_block = sym (ap (λ qs. first_blocked qs o.table) (requests_same asked.requests.items eq)) ∙ free

    plan_here : Plans dbd (database_rows_in number (rows_of_stores o.stores.stores)) (dli dbd call at (database_rows_in number (rows_of_stores o.stores.stores))) p
    plan_here = subst (λ rs. Plans dbd rs (dli dbd call at rs) p) (sym (rows_at_is number o.stores.stores s there)) plans

    told_by : (oe : Option Edit) → PlansTo dbd (database_rows_in number (rows_of_stores o.stores.stores)) (dli dbd call at (database_rows_in number (rows_of_stores o.stores.stores))) p oe
        → planned_abend (record asked { region = region; number = number }) dbd oe o ≡ None → call_told unit region number dbd call at (databases_opened o) ≡ edit_told unit number oe o.stores.stores
    told_by None pl e = none_told o h region number first last least dbd call at position ok s there same_dbd no_edit_block unit p pl
    told_by (Some edit) pl e = edit_is_told o h region number first last least dbd call at position ok s there same_dbd no_edit_block unit p edit pl e

    untold_by : (e : Untold) → IsUntoldEdit (record asked { region = region; number = number }) dbd p.edit o unit room e → AreRecordsUntold (call_told unit region number dbd call at (databases_opened o)) room e
    untold_by untold.Memory u = tt
    untold_by untold.Full u = subst (λ rs. AreRecordsUntold rs room untold.Full) (sym (told_by p.edit plan_here u.0)) u.1

    pub untold_so : {A : Type 0} (r : Result A Untold) → IfErr r (IsUntoldEdit asked dbd p.edit o unit room) → IfErr r (AreRecordsUntold (call_told unit region number dbd call at (databases_opened o)) room)
    untold_so (Ok x) u = tt
    untold_so (Err e) u = untold_by e (subst (λ (q : Asked). IsUntoldEdit q dbd p.edit o unit room e) (λ i. record asked { region = er i; number = en i }) u)

pub append_nil : (xs : List ℕ) → xs ++ [] ≡ xs
append_nil [] = refl
append_nil (x ∷ xs) = ap (λ ys. x ∷ ys) (append_nil xs)

-- each of these facts alone, of a call that was answered
module _ (unit region number : ℕ) (dbd : Dbd) (call : DbCall) (at : Position) (o new : Opened) {E : Type 0} (r : Result DataAnswer E) where
  pub tells_none : (room : ℕ) (xs : List ℕ) → IfOk r (Retells unit region number dbd call at o new []) → OnOk r (TellsInRoom (call_told unit region number dbd call at (databases_opened o)) room xs xs)
  tells_none room xs h = by r h
    where
      by : (q : Result DataAnswer E) → IfOk q (Retells unit region number dbd call at o new []) → OnOk q (TellsInRoom (call_told unit region number dbd call at (databases_opened o)) room xs xs)
      by (Ok a) t = subst (λ rs. TellsInRoom rs room xs xs) t.told (record { told = sym (append_nil xs); valid = tt; fits = omega arith })
      by (Err e) t = tt

  pub tells_made : (asked_number room : ℕ) (edit : Option Edit) (old now : List ℕ) → asked_number ≡ number
      → IfOk r (λ a. Retells unit region number dbd call at o new (made_told unit number edit o.stores.stores a) a)
      → IfOk r (λ a. TellsInRoom (made_told unit asked_number edit o.stores.stores a) room old now) → OnOk r (TellsInRoom (call_told unit region number dbd call at (databases_opened o)) room old now)
  tells_made asked_number room edit old now en h t = by r h t
    where
      by : (q : Result DataAnswer E) → IfOk q (λ a. Retells unit region number dbd call at o new (made_told unit number edit o.stores.stores a) a)
          → IfOk q (λ a. TellsInRoom (made_told unit asked_number edit o.stores.stores a) room old now) → OnOk q (TellsInRoom (call_told unit region number dbd call at (databases_opened o)) room old now)
      by (Ok a) k m = subst (λ rs. TellsInRoom rs room old now) (ap (λ n. made_told unit n edit o.stores.stores a) en ∙ k.told) m
      by (Err e) k m = tt

  module _ (records : DataAnswer → List Record) (h : IfOk r (λ a. Retells unit region number dbd call at o new (records a) a)) where
    pub slots_so : OnOk r (CallsSo unit region (slots_seen (databases_opened o)) (slots_seen (databases_opened new)) (call_told unit region number dbd call at (databases_opened o)))
    slots_so = by r h
      where
        by : (q : Result DataAnswer E) → IfOk q (λ a. Retells unit region number dbd call at o new (records a) a)
            → OnOk q (CallsSo unit region (slots_seen (databases_opened o)) (slots_seen (databases_opened new)) (call_told unit region number dbd call at (databases_opened o)))
        by (Ok a) t = t.slots
        by (Err e) t = tt

    pub touched_so : IfOk r (λ a. unit_slots_of new.units.items ≡ touched_after region number (dli dbd call at (rows_numbered region number (databases_opened o))) (databases_opened o) a)
    touched_so = by r h
      where
        by : (q : Result DataAnswer E) → IfOk q (λ a. Retells unit region number dbd call at o new (records a) a)
            → IfOk q (λ a. unit_slots_of new.units.items ≡ touched_after region number (dli dbd call at (rows_numbered region number (databases_opened o))) (databases_opened o) a)
        by (Ok a) t = t.touched
        by (Err e) t = tt

    pub touch_so : OnOk r (HasTouched new)
    touch_so = by r h
      where
        by : (q : Result DataAnswer E) → IfOk q (λ a. Retells unit region number dbd call at o new (records a) a) → OnOk q (HasTouched new)
        by (Ok a) t = t.touch
        by (Err e) t = tt

-- want of memory tells nothing
pub memory_untold : {A : Type 0} (r : Result A Untold) (records : List Record) (room : ℕ) → IfErr r (λ e. e ≡ untold.Memory) → IfErr r (AreRecordsUntold records room)
memory_untold (Ok x) records room h = tt
memory_untold (Err e) records room h = subst (AreRecordsUntold records room) (sym h) tt

-- marked slots are there still, where those that a call tells of are
pub there_after : (unit region : ℕ) (old new : SlotsState) (records : List Record) → AreThere (slots_stores old) → CallsSo unit region old new records
    → ((db : ℕ) → 1 ≤ db → length (slots_of_database db new.stores) ≡ length (slots_of_database db old.stores)) → AreThere (slots_stores new)
there_after unit region old new records there calls lengths db slot least e =
    omega (arith, lengths db least, ⊎_elim (λ (was : is_marked old.changed db slot ≡ true). there db slot least was) (λ tells. told_there records calls.told.each tells) (calls.marks.only db slot least e))
  where
    told_there : (rs : List Record) → AllByRecursion (IsChangeTold unit old.stores new.stores) rs → list_any (is_told_of db slot) rs ≡ true → slot < length (slots_of_database db old.stores)
    told_there [] h t = absurd (false≢true t)
    told_there (r ∷ rs) h t = by (is_told_of db slot r) refl (told_there rs h.1)
      where
        one : (x : Record) → IsChangeTold unit old.stores new.stores x → is_told_of db slot x ≡ true → slot < length (slots_of_database db old.stores)
        one (told.Change u d s before after) g f =
            let place = same_is d s db slot f in
            subst (λ n. n < length (slots_of_database db old.stores)) place.1 (subst (λ n. s < length (slots_of_database n old.stores)) place.0 g.there.within)
        one (told.Input u id origin code number conversation segments) g f = absurd g
        one (told.Command text) g f = absurd g
        one (told.Reply u terminal number segments) g f = absurd g
        one (told.Discarded u id abend number) g f = absurd g
        one (told.Completed u id) g f = absurd g
        one (told.Acknowledged terminal number) g f = absurd g
        one (told.SyncPoint u pad) g f = absurd g
        one (told.Checkpoint checkpoint next_id next_unit steps) g f = absurd g
        one (told.Terminal name last next stopped conversation) g f = absurd g
        one (told.Code name stopped class priority) g f = absurd g

        by : (b : Bool) → is_told_of db slot r ≡ b → (list_any (is_told_of db slot) rs ≡ true → slot < length (slots_of_database db old.stores)) → slot < length (slots_of_database db old.stores)
        by true q rec = one r h.0 q
        by false q rec = rec (sym (ap (λ b. b || list_any (is_told_of db slot) rs) q) ∙ t)

-- valid stores of the same databases have as many slots
pub lengths_same : (old new : List Stored) → AreValid old → AreValid new → map (λ (s : Stored). s.dbd) new ≡ map (λ (s : Stored). s.dbd) old → (db : ℕ) → length (slots_of_database db new) ≡ length (slots_of_database db old)
lengths_same old new v w e db = by old new v w e (db - 1)
  where
    slots_by : List Stored → ℕ → List (List Row)
    slots_by stores i = option_map_or (λ (s : Stored). s.slots) (slice_get stores i) []

    by : (xs ys : List Stored) → AreValid xs → AreValid ys → map (λ (s : Stored). s.dbd) ys ≡ map (λ (s : Stored). s.dbd) xs → (i : ℕ) → length (slots_by ys i) ≡ length (slots_by xs i)
    by [] [] v w e i = refl
    by [] (y ∷ ys) v w e i = let clash : y.dbd ∷ map (λ (s : Stored). s.dbd) ys ≡ [] = e in absurd (cc)
    by (x ∷ xs) [] v w e i = let clash : [] ≡ x.dbd ∷ map (λ (s : Stored). s.dbd) xs = e in absurd (cc)
    by (x ∷ xs) (y ∷ ys) v w e zero =
        let both : y.dbd ∷ map (λ (s : Stored). s.dbd) ys ≡ x.dbd ∷ map (λ (s : Stored). s.dbd) xs = e in
        let head : y.dbd ≡ x.dbd = cc in
        w.0.count ∙ (ap (λ (d : Dbd). d.roots) head ∙ sym v.0.count)
    by (x ∷ xs) (y ∷ ys) v w e (suc i) =
        let both : y.dbd ∷ map (λ (s : Stored). s.dbd) ys ≡ x.dbd ∷ map (λ (s : Stored). s.dbd) xs = e in
        let tail : map (λ (s : Stored). s.dbd) ys ≡ map (λ (s : Stored). s.dbd) xs = cc in
        by xs ys v.1 w.1 tail i

-- the databases are whole again, whether or not the call was done
pub whole_after : (unit region number : ℕ) (dbd : Dbd) (call : DbCall) (at : Position) (o new : Opened) {E : Type 0} (r : Result DataAnswer E) → IsUnitWhole o → IfOk r (IsCallDone region number dbd call at o new)
    → OnOk r (HasTouched new) → OnOk r (CallsSo unit region (slots_seen (databases_opened o)) (slots_seen (databases_opened new)) (call_told unit region number dbd call at (databases_opened o))) → OnErr r (IsSame o new) → IsUnitWhole new
whole_after unit region number dbd call at o new (Ok a) h done touch slots same =
    record {
      units = done.units;
      touched = touch;
      marks = there_after unit region (slots_seen (databases_opened o)) (slots_seen (databases_opened new)) (call_told unit region number dbd call at (databases_opened o)) h.marks slots
          (λ db least. lengths_same o.stores.stores new.stores.stores h.units.valid done.units.valid slots.told.databases db);
    }
whole_after unit region number dbd call at o new (Err e) h done touch slots same =
    record {
      units = subst (λ us. AreUnits us new.stores.stores new.table) (sym same.units)
          (subst (λ ss. AreUnits (unit_records_of o.units.items) ss new.table) (sym same.stores)
          (subst (λ (t : EnqueueTable). AreUnits (unit_records_of o.units.items) o.stores.stores t) (sym same.table) h.units));
      touched = subst (λ us. AllTouch us (unit_slots_of new.units.items) new.stores.stores new.table) (sym same.units)
          (subst (λ ss. AllTouch (unit_records_of o.units.items) ss new.stores.stores new.table) (sym same.slots)
          (subst (λ ss. AllTouch (unit_records_of o.units.items) (unit_slots_of o.units.items) ss new.table) (sym same.stores)
          (subst (λ (t : EnqueueTable). AllTouch (unit_records_of o.units.items) (unit_slots_of o.units.items) o.stores.stores t) (sym same.table) h.touched)));
      marks = λ db slot least e.
          subst (λ ss. slot < length (slots_of_database db ss)) (sym same.stores) (h.marks db slot least (ap (λ changed. is_marked changed db slot) (sym same.changed) ∙ e));
    }
