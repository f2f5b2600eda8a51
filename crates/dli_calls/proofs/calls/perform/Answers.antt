use Rattle.std.proofs.Common.{◌≡◌, None, Option, List, ℕ, ap, sym, subst, ◌∙◌, arith, rules}
use Rattle.std.specs.Prelude.{IfSome}
use Rattle.model_data.specs.Rows.{IsImage}
use Rattle.model_data.specs.DatabaseCalls.{dli}
use Rattle.seg_rows.specs.ReadRows.{AreReread}
use Rattle.dli_calls.specs.PerformedCall.{Performs, RefusesCall}
use Rattle.dli_calls.specs.ChangeEdit.{edit_limit}
use Rattle.dli_calls.proofs.Setting.{performs, refused_limit, plans_image}
use Rattle.dli_calls.proofs.calls.perform.Goals as goal

pub set_edit-requires : goal.set_edit-requires
set_edit-requires g c =
    let dbd = c.args.dbd.now in
    let mid = c.plan_needed.new.rows in
    let rows = g.R.Rows.rows mid in
    let planned = c.in_ok-needed.needed.planned in
    let same = g.R.Rows.read_same c.args.rows.now mid c.plan_needed.ensures.read in
    let of : g.R.Rows.database mid ≡ dbd = same.database ∙ c.requires.rows in
    subst (λ b. IfSome planned.edit (λ e. IsImage b e.root e.image)) (sym of)
    (plans_image dbd rows (dli dbd c.args.call.now c.args.position.now rows) planned c.in_ok-needed.ensures.planned)

pub returns-in_err-changed-clause-refused : goal.returns-in_err-changed-clause-refused
returns-in_err-changed-clause-refused g c =
    let dbd = c.args.dbd.now in
    let mid = c.plan_needed.new.rows in
    let rows = g.R.Rows.rows mid in
    let planned = c.in_ok-needed.needed.planned in
    let same = g.R.Rows.read_same c.args.rows.now mid c.plan_needed.ensures.read in
    let of : g.R.Rows.database mid ≡ dbd = same.database ∙ c.requires.rows in
    let told = g.R.Rows.tells c.args.rows.now in
    let before = g.R.Rows.faults c.args.rows.now in
    let now = g.R.Rows.faults c.set_edit.new.rows in
    let refusal = c.in_err-changed.field-0.0 in
    let limit : edit_limit (g.R.Rows.database mid) planned.edit rows ≡ (dli dbd c.args.call.now c.args.position.now rows).refusal =
    ap (λ b. edit_limit b planned.edit rows) of ∙ sym (refused_limit dbd rows (dli dbd c.args.call.now c.args.position.now rows) planned c.in_ok-needed.ensures.planned) in
    let due : RefusesCall (dli dbd c.args.call.now c.args.position.now (g.R.Rows.rows c.set_edit.new.rows)).refusal told before now refusal =
    subst (λ rs. RefusesCall (dli dbd c.args.call.now c.args.position.now (g.R.Rows.rows rs)).refusal told before now refusal) (sym c.in_err-changed.ensures.kept)
    (subst (λ l. RefusesCall l told before now refusal) limit (c.in_err-changed.ensures.refused told before now)) in
    search rules

pub returns-in_err-changed-clause-database : goal.returns-in_err-changed-clause-database
returns-in_err-changed-clause-database g c =
    let same = g.R.Rows.read_same c.args.rows.now c.plan_needed.new.rows c.plan_needed.ensures.read in
    c.set_edit.ensures.database ∙ same.database

pub returns-in_err-changed-clause-tells : goal.returns-in_err-changed-clause-tells
returns-in_err-changed-clause-tells g c =
    let same = g.R.Rows.read_same c.args.rows.now c.plan_needed.new.rows c.plan_needed.ensures.read in
    c.set_edit.ensures.tells ∙ same.tells

pub returns-in_err-changed-clause-faults : goal.returns-in_err-changed-clause-faults
returns-in_err-changed-clause-faults g c =
    let same = g.R.Rows.read_same c.args.rows.now c.plan_needed.new.rows c.plan_needed.ensures.read in
    omega (arith, c.set_edit.ensures.faults, same.faults)

pub returns-clause-performed : goal.returns-clause-performed
returns-clause-performed g c =
    let dbd = c.args.dbd.now in
    let mid = c.plan_needed.new.rows in
    let rows = g.R.Rows.rows mid in
    let planned = c.in_ok-needed.needed.planned in
    let same = g.R.Rows.read_same c.args.rows.now mid c.plan_needed.ensures.read in
    let of : g.R.Rows.database mid ≡ dbd = same.database ∙ c.requires.rows in
    let d = dli dbd c.args.call.now c.args.position.now rows in
    let accepted : edit_limit dbd planned.edit rows ≡ None = ap (λ b. edit_limit b planned.edit rows) (sym of) ∙ c.in_ok-changed.ensures.accepted in
    record {
      seen = rows;
      read = subst (λ b. AreReread b (g.R.Rows.tells c.args.rows.now) (g.R.Rows.rows c.args.rows.now) rows) c.requires.rows same.rows;
      performs = subst (λ (changed : Option (List ℕ)). Performs d (record { status = planned.status; area = planned.area; changed = changed }) (g.R.Rows.rows c.set_edit.new.rows) planned.position)
          (sym c.in_ok-changed.ensures.changed)
          (performs dbd rows (g.R.Rows.rows c.set_edit.new.rows) d planned c.in_ok-needed.ensures.planned accepted c.in_ok-changed.ensures.rows);
    }

pub returns-clause-database : goal.returns-clause-database
returns-clause-database g c =
    let same = g.R.Rows.read_same c.args.rows.now c.plan_needed.new.rows c.plan_needed.ensures.read in
    c.set_edit.ensures.database ∙ same.database

pub returns-clause-tells : goal.returns-clause-tells
returns-clause-tells g c =
    let same = g.R.Rows.read_same c.args.rows.now c.plan_needed.new.rows c.plan_needed.ensures.read in
    c.set_edit.ensures.tells ∙ same.tells
