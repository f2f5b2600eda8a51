-- A call on a database, made by a script on the rows that were committed and on those that are committed now.
use Rattle.std.proofs.Common.{◌≡◌, ℕ, ◌-◌, ◌<◌, zero, suc, ◌∷◌, [], List, length, get_or, refl, sym, ◌∙◌, ap, subst, Bool, true, false, cond, eqb}
use Rattle.std.specs.Prelude.{Option, Some, None, All, IfSome, IsTrue, ◌==◌, ◌&&◌, ◌||◌, not, nat_le, map, slice_get, slice_set}
use Rattle.std.specs.List.{list_any}
use Rattle.std.specs.Option.{option_map, option_map_or}
use Rattle.std.specs.Map.{lookup}
use Rattle.std.proofs.lemmas.Bool.{false≢true, eq-eqb, eqb-true}
use Rattle.std.proofs.lemmas.List.{set-get_or, get_or-set_same, get_or-set_other, length-set}
use Rattle.std.proofs.lemmas.List.Elements.{All-head, All-tail}
use Rattle.std.proofs.lemmas.Option.{get_or_from_slice_get, slice_get_within}
use Rattle.tm_types.specs.declared.dbd.Dbd.{Dbd}
use Rattle.tm_types.specs.declared.resource.Mode.{Mode}
use Rattle.model_data.specs.declared.row.Row.{Row}
use Rattle.model_data.specs.Record.{IsUnder}
use Rattle.model_data.specs.Rows.{AreRows}
use Rattle.model_system.specs.declared.need.CallText.{CallText}
use Rattle.model_system.specs.Script.{Answer}
use Rattle.model_system.specs.declared.pcb.Pcb.{Pcb}
use Rattle.model_system.specs.declared.pcb.Pcb.TheVariants.{Database}
use Rattle.model_data.specs.declared.call.Position.{Position}
use Rattle.model_data.specs.declared.call.RowsLimit.{RowsLimit}
use Rattle.model_data.specs.declared.need.Need.{Need as RootNeed}
use Rattle.model_data.specs.Conditions.{IsDbCall, IsPosition}
use Rattle.model_data.specs.Data.{Data, limit_abend_by, limit_abend, data_abend, data_after, is_root_changed, most_changed, nowhere, position_at, with_changed_root}
use Rattle.model_data.specs.DatabaseCalls.{DliResult}
use Rattle.model_data.specs.Footprint.{AgreeAt, AgreeOn, footprint}
use Rattle.model_data.specs.declared.request.Holder.{Holder}
use Rattle.model_data.specs.declared.request.Request.{Request}
use Rattle.model_data.specs.Modes.{mode_serves, same_resource}
use Rattle.model_data.specs.Table.{EnqueueTable, is_asker}
use Rattle.model_machine.specs.Trial.{DbPcb, db_call, db_result}
use Rattle.model_machine.specs.Requests.{request_for, database_requests}
use Rattle.dli_calls.specs.AlikeCalls.{AreAlike, rows_changed}
use Rattle.dli_calls.proofs.Same.{same_call}
use Rattle.dli_calls.proofs.Front.{same_footprint}
use Rattle.dli_calls.proofs.Kept.{rows_kept}
use Rattle.dli_calls.proofs.Stands.{position_kept}
use Rattle.program_rows.specs.DatabasesState.{AreRowsOf, database_rows_in, with_records_from}
use Rattle.program_rows.specs.Isolation.{AgreeOnHeld}
use Rattle.message_run.specs.WorkAhead.{IsHeld}
use Rattle.message_run.specs.RunState.{AreStanding}
use Rattle.message_run.proofs.Standing.{one_stands}
use Rattle.message_run.proofs.Overlays.{all_alike, put_changed}

-- the databases with the same changes, over other rows that are committed
abbrev pub over : List (List Row) → Data → Data
over rows d = record d { rows = with_records_from d.changed d.rows rows }

-- The databases of a script's calls: they are their own changes over what was committed, and rows of their
-- databases both over that and over what is committed now; and the PCBs stand rightly.
pub record StandOn (dbds : List Dbd) (pcbs : List Pcb) (a b : List (List Row)) (d : Data) : Type 0 where
  pub own : d.rows ≡ with_records_from d.changed d.rows a
  pub rows : AreRowsOf dbds d.rows
  pub rows_over : AreRowsOf dbds (with_records_from d.changed d.rows b)
  pub standing : AreStanding dbds pcbs d.positions

-- ---- what is held
-- what a region holds in a mode it holds
served_holds : (r : Request) (held : List (Holder × Mode)) → IsTrue (option_map_or (λ mode. mode_serves mode r.mode) (lookup (is_asker r) held) false)
    → IsTrue (list_any (λ hold. same_resource hold.0.resource r.resource && (hold.0.region == r.region)) held)
served_holds r [] h = absurd (false≢true h)
served_holds r (hold ∷ held) h = by (is_asker r hold.0) h (served_holds r held)
  where
    by : (t : Bool) → IsTrue (option_map_or (λ mode. mode_serves mode r.mode) (cond t (Some hold.1) (lookup (is_asker r) held)) false)
        → (IsTrue (option_map_or (λ mode. mode_serves mode r.mode) (lookup (is_asker r) held) false) → IsTrue (list_any (λ k. same_resource k.0.resource r.resource && (k.0.region == r.region)) held))
        → IsTrue (t || list_any (λ k. same_resource k.0.resource r.resource && (k.0.region == r.region)) held)
    by true g rec = refl
    by false g rec = rec g

-- On what a call needs, and its region holds, the two states of the rows agree.
agree_on : (table : EnqueueTable) (region number : ℕ) (a b : List (List Row)) (d : Data) → length a ≡ length b → AgreeOnHeld table region a b
    → d.rows ≡ with_records_from d.changed d.rows a
    → (needs : List RootNeed) → All (IsHeld table) (map (request_for region number) needs)
    → AgreeOn needs (database_rows_in number d.rows) (database_rows_in number (with_records_from d.changed d.rows b))
agree_on table region number a b d size agree own [] held = tt
agree_on table region number a b d size agree own (need ∷ needs) held = (
  subst (λ rows. AgreeAt need.root (database_rows_in number rows) (database_rows_in number (with_records_from d.changed d.rows b))) (sym own)
      (all_alike number need.root d.changed d.rows a b size
      (agree number need.root (served_holds (request_for region number need) table.holds (All-head (IsHeld table) (request_for region number need) (map (request_for region number) needs) held)))),
  agree_on table region number a b d size agree own needs (All-tail (IsHeld table) (request_for region number need) (map (request_for region number) needs) held),
)

-- ---- what is changed
-- A call without an abend changes just the record that it names.
named : (number : ℕ) (changed : List (ℕ × List ℕ)) (root : Option (List ℕ)) (refusal : Option RowsLimit) (change : Option (List ℕ × List Row))
    → limit_abend_by number changed root refusal ≡ None → (refusal ≡ None → root ≡ option_map (λ c. c.0) change) → IfSome change (λ c. root ≡ Some c.0)
    → root ≡ option_map (λ c. c.0) change
named number changed None refusal None e whole names = refl
named number changed None refusal (Some c) e whole names = absurd (cc)
named number changed (Some root) None change e whole names = whole refl
named number changed (Some root) (Some limit) change e whole names = absurd (by (not (is_root_changed number root changed) && nat_le most_changed (length changed)) e)
  where
    by : (t : Bool) → cond t (Some (record { number = 900 })) (Some (limit_abend limit)) ≡ None → ⊥
    by true f = absurd (cc)
    by false f = absurd (cc)

-- a change put over rows that stand beneath other changes
put_change : (number : ℕ) (changed : List (ℕ × List ℕ)) (from rows : List (List Row)) (dbd : Dbd) (change : Option (List ℕ × List Row)) → IfSome change (λ c. IsUnder dbd.types c.0 c.1)
    → number - 1 < length from → number - 1 < length rows
    → slice_set (with_records_from changed from rows) (number - 1) (rows_changed change (database_rows_in number (with_records_from changed from rows)))
    ≡ with_records_from (with_changed_root number (option_map (λ c. c.0) change) changed) (slice_set from (number - 1) (rows_changed change (database_rows_in number from))) rows
put_change number changed from rows dbd None under there_from there =
    set-get_or (with_records_from changed from rows) (number - 1) []
    ∙ sym (ap (λ f. with_records_from changed f rows) (set-get_or from (number - 1) []))
put_change number changed from rows dbd (Some c) under there_from there = put_changed number c.0 c.1 under.one_root from rows there_from there changed

-- rows of one database set
set_rows : (dbds : List Dbd) (rows : List (List Row)) (number : ℕ) (dbd : Dbd) (new : List Row) → AreRowsOf dbds rows → slice_get dbds (number - 1) ≡ Some dbd → number - 1 < length rows
    → AreRows dbd new → AreRowsOf dbds (slice_set rows (number - 1) new)
set_rows dbds rows number dbd new valid at there rows_new = record {
  count = length-set rows (number - 1) new ∙ valid.count;
  types = valid.types;
  each = λ m other e. by m other e (eqb (m - 1) (number - 1)) refl;
}
  where
    by : (m : ℕ) (other : Dbd) → slice_get dbds (m - 1) ≡ Some other → (t : Bool) → eqb (m - 1) (number - 1) ≡ t → AreRows other (get_or (slice_set rows (number - 1) new) (m - 1) [])
    by m other e true f =
        let same : m - 1 ≡ number - 1 = eqb-true (m - 1) (number - 1) f in
        let both : Some dbd ≡ Some other = sym at ∙ (ap (slice_get dbds) (sym same) ∙ e) in
        let one : dbd ≡ other = cc in
        subst (λ (x : Dbd). AreRows x (get_or (slice_set rows (number - 1) new) (m - 1) [])) one
        (subst (AreRows dbd) (sym (ap (λ j. get_or (slice_set rows (number - 1) new) j []) same ∙ get_or-set_same rows (number - 1) new [] there)) rows_new)
    by m other e false f =
        subst (AreRows other) (sym (get_or-set_other rows (number - 1) (m - 1) new [] (λ g. false≢true (sym f ∙ eq-eqb (m - 1) (number - 1) g)))) (valid.each m other e)

-- where a PCB stands
stands_at : (dbds : List Dbd) (pcbs : List Pcb) (positions : List Position) (place number options : ℕ) (dbd : Dbd) → AreStanding dbds pcbs positions
    → slice_get pcbs place ≡ Some (Database number options) → slice_get dbds (number - 1) ≡ Some dbd → IsPosition dbd.types (get_or positions place nowhere)
stands_at dbds pcbs positions place number options dbd standing kind at = by (slice_get positions place) refl
  where
    none_there : {A : Type 0} (xs : List A) (i : ℕ) (x : A) → slice_get xs i ≡ None → get_or xs i x ≡ x
    none_there [] i x e = refl
    none_there (y ∷ xs) zero x e = absurd (cc)
    none_there (y ∷ xs) (suc i) x e = none_there xs i x e

    by : (o : Option Position) → slice_get positions place ≡ o → IsPosition dbd.types (get_or positions place nowhere)
    by (Some p) e = subst (IsPosition dbd.types) (sym (get_or_from_slice_get positions place p nowhere e)) (standing.each place number options dbd p kind at e)
    by None e = subst (IsPosition dbd.types) (sym (none_there positions place nowhere e)) (record { position = tt; parentage = tt; hold = tt })

-- ---- a call on a database
abbrev given : DliResult → Answer
given result = record { status = result.status; area = result.area }

module _ (dbds : List Dbd) (pcbs : List Pcb) (a b : List (List Row)) (size : length a ≡ length b) (sized : length b ≡ length dbds) (d : Data) (stand : StandOn dbds pcbs a b d)
    (target : DbPcb) (call : CallText)
    (kind : slice_get pcbs (call.pcb - 1) ≡ Some (Database target.number target.options)) (at : slice_get dbds (target.number - 1) ≡ Some target.dbd)
    (ok : IsDbCall target.dbd.types (db_call target call)) where
  abbrev x : DliResult
  x = db_result target d call

  abbrev y : DliResult
  y = db_result target (over b d) call

  abbrev rows_a : List Row
  rows_a = database_rows_in target.number d.rows

  abbrev rows_b : List Row
  rows_b = database_rows_in target.number (with_records_from d.changed d.rows b)

  position : IsPosition target.dbd.types (position_at d call.pcb)
  position = stands_at dbds pcbs d.positions (call.pcb - 1) target.number target.options target.dbd stand.standing kind at

  within : target.number - 1 < length dbds
  within = slice_get_within dbds (target.number - 1) target.dbd at

  module _ (agree : AgreeOn (footprint target.dbd (db_call target call) (position_at d call.pcb) rows_a) rows_a rows_b) where
    alike : AreAlike target.dbd rows_a rows_b x y
    alike =
        same_call target.dbd (stand.rows.types target.number target.dbd at) rows_a rows_b (stand.rows.each target.number target.dbd at) (stand.rows_over.each target.number target.dbd at)
        (db_call target call) (position_at d call.pcb) position ok agree

    -- it needs the same
    pub same_requests : (region : ℕ) → database_requests region target (over b d) call ≡ database_requests region target d call
    same_requests region =
        ap (map (request_for region target.number))
        (sym (same_footprint target.dbd (stand.rows.types target.number target.dbd at) rows_a rows_b (stand.rows.each target.number target.dbd at) (stand.rows_over.each target.number target.dbd at)
        (db_call target call) (position_at d call.pcb) position agree))

    pub same_answer : given y ≡ given x
    same_answer = λ i. record { status = sym alike.status i; area = sym alike.area i }

    pub same_abend : data_abend target.number (over b d) y ≡ data_abend target.number d x
    same_abend = λ i. limit_abend_by target.number d.changed (sym alike.changed i) (sym alike.refusal i)

    module _ (goes_on : data_abend target.number d x ≡ None) where
      names : x.changed ≡ option_map (λ c. c.0) alike.change
      names = named target.number d.changed x.changed x.refusal alike.change goes_on alike.whole alike.root

      there : (rows : List (List Row)) → length rows ≡ length dbds → target.number - 1 < length rows
      there rows e = subst (λ n. target.number - 1 < n) (sym e) within

      abbrev new : List (List Row)
      new = slice_set d.rows (target.number - 1) x.rows

      put_on : (rows : List (List Row)) → length rows ≡ length dbds → (result : List Row) → result ≡ rows_changed alike.change (database_rows_in target.number (with_records_from d.changed d.rows rows))
          → slice_set (with_records_from d.changed d.rows rows) (target.number - 1) result ≡ with_records_from (with_changed_root target.number x.changed d.changed) new rows
      put_on rows e result is =
          ap (slice_set (with_records_from d.changed d.rows rows) (target.number - 1)) is
          ∙ (put_change target.number d.changed d.rows rows target.dbd alike.change alike.under (there d.rows stand.rows.count) (there rows e)
          ∙ (λ i. with_records_from (with_changed_root target.number (sym names i) d.changed) (slice_set d.rows (target.number - 1) (sym alike.rows_a i)) rows))

      over_b : slice_set (with_records_from d.changed d.rows b) (target.number - 1) y.rows ≡ with_records_from (with_changed_root target.number x.changed d.changed) new b
      over_b = put_on b sized y.rows alike.rows_b

      -- it leaves the same changes over the rows beneath
      pub same_after : data_after target.number call.pcb (over b d) y ≡ over b (data_after target.number call.pcb d x)
      same_after = λ i. record {
        rows = over_b i;
        positions = slice_set d.positions (call.pcb - 1) (sym alike.position i);
        changed = with_changed_root target.number (sym alike.changed i) d.changed;
      }

      own_a : new ≡ with_records_from (with_changed_root target.number x.changed d.changed) new a
      own_a =
          ap (λ rows. slice_set rows (target.number - 1) x.rows) stand.own
          ∙ put_on a (size ∙ sized) x.rows (alike.rows_a ∙ ap (λ rows. rows_changed alike.change (database_rows_in target.number rows)) stand.own)

      pub still_stands : StandOn dbds pcbs a b (data_after target.number call.pcb d x)
      still_stands = record {
        own = own_a;
        rows =
            set_rows dbds d.rows target.number target.dbd x.rows stand.rows at (there d.rows stand.rows.count)
            (rows_kept target.dbd (stand.rows.types target.number target.dbd at) rows_a (stand.rows.each target.number target.dbd at) (db_call target call) (position_at d call.pcb) position ok);
        rows_over =
            subst (AreRowsOf dbds) over_b
            (set_rows dbds (with_records_from d.changed d.rows b) target.number target.dbd y.rows stand.rows_over at (there (with_records_from d.changed d.rows b) stand.rows_over.count)
            (rows_kept target.dbd (stand.rows.types target.number target.dbd at) rows_b (stand.rows_over.each target.number target.dbd at) (db_call target call) (position_at d call.pcb) position ok));
        standing =
            one_stands dbds pcbs d.positions (slice_set d.positions (call.pcb - 1) x.position) (call.pcb - 1) target.number target.options target.dbd x.position stand.standing kind at
            (position_kept target.dbd (stand.rows.types target.number target.dbd at) rows_a (stand.rows.each target.number target.dbd at) (db_call target call) (position_at d call.pcb) position ok)
            refl;
      }

  -- what its region holds of it is the same in both
  pub agrees : (table : EnqueueTable) (region : ℕ) → AgreeOnHeld table region a b → All (IsHeld table) (database_requests region target d call)
      → AgreeOn (footprint target.dbd (db_call target call) (position_at d call.pcb) rows_a) rows_a rows_b
  agrees table region held_alike held =
      agree_on table region target.number a b d size held_alike stand.own (footprint target.dbd (db_call target call) (position_at d call.pcb) rows_a) held
