use Rattle.std.proofs.Common.{◌≡◌, None, sym, ap, ◌∙◌, ◌++◌, ◌∷◌, [], subst}
use Rattle.std.specs.Option.{option_copied, IfSome}
use Rattle.std.specs.Prelude.{is_some}
use Rattle.model_data.specs.Path.{IsPath}
use Rattle.model_data.specs.Rows.{AreRows, record_of}
use Rattle.model_data.specs.Search.{first_after}
use Rattle.dli_calls.proofs.Naming.{onward_none, onward_here, onward_goes, found_all, found_there, found_later, ok_both, ok_three}
use Rattle.dli_calls.proofs.footprint.onward.Goals as goal

pub returns-in_default-clause-needs : goal.returns-in_default-clause-needs
returns-in_default-clause-needs g c =
    let rows = g.R.Rows.rows c.along.new.rows in
    ok_both c.along.result _ _ _
    (λ row valid named. onward_none c.args.asked.now.dbd valid.types rows valid c.args.asked.now.ssas c.args.mode (option_copied c.args.place) _ _
    (ap option_copied c.in_default.is) c.requires.empty named)
    c.along.ensures.valid c.along.ensures.named

pub returns-in_default-clause-found : goal.returns-in_default-clause-found
returns-in_default-clause-found g c =
    let rows = g.R.Rows.rows c.along.new.rows in
    ok_both c.along.result _ _ _
    (λ row valid named. named ∙ found_all c.args.asked.now.dbd valid.types rows valid c.args.asked.now.ssas c.args.mode (option_copied c.args.place))
    c.along.ensures.valid c.along.ensures.found

pub returns-in-Some-2-clause-valid : goal.returns-in-Some-2-clause-valid
returns-in-Some-2-clause-valid g c =
    let same = g.R.Rows.read_same c.args.rows.now c.read_row.new.rows c.read_row.ensures.read in
    subst (λ d. AreRows d (g.R.Rows.rows c.read_row.new.rows)) (same.database ∙ c.requires.rows) c.in_ok-row.ensures.valid

pub returns-in-Some-2-clause-needs : goal.returns-in-Some-2-clause-needs
returns-in-Some-2-clause-needs g c =
    let rows = g.R.Rows.rows c.read_row.new.rows in
    let same = g.R.Rows.read_same c.args.rows.now c.read_row.new.rows c.read_row.ensures.read in
    let valid : AreRows c.args.asked.now.dbd rows = subst (λ d. AreRows d rows) (same.database ∙ c.requires.rows) c.in_ok-row.ensures.valid in
    onward_here c.args.asked.now.dbd valid.types rows valid c.args.asked.now.ssas c.args.mode (option_copied c.args.place) c.in-Some.path.now c.in-Some-root.root
    (ap option_copied c.in-Some.is) (subst (λ o. IfSome o (IsPath c.args.asked.now.dbd.types)) (ap option_copied c.in-Some.is) c.requires.place) c.in-Some-root.ensures.value
    c.push.new.self c.args.needs.now c.requires.empty (c.in_ok-push.ensures.ok ∙ ap (λ need. c.args.needs.now ++ need ∷ []) c.record_need.ensures)
    (ap is_some (sym c.in_ok-row.ensures.found ∙ c.in-Some-2.is))

pub returns-in-Some-2-clause-found : goal.returns-in-Some-2-clause-found
returns-in-Some-2-clause-found g c =
    let rows = g.R.Rows.rows c.read_row.new.rows in
    let same = g.R.Rows.read_same c.args.rows.now c.read_row.new.rows c.read_row.ensures.read in
    let valid : AreRows c.args.asked.now.dbd rows = subst (λ d. AreRows d rows) (same.database ∙ c.requires.rows) c.in_ok-row.ensures.valid in
    sym (found_there c.args.asked.now.dbd valid.types rows valid c.args.asked.now.ssas c.args.mode (option_copied c.args.place) c.in-Some.path.now c.in-Some-root.root
    (ap option_copied c.in-Some.is) (subst (λ o. IfSome o (IsPath c.args.asked.now.dbd.types)) (ap option_copied c.in-Some.is) c.requires.place) c.in-Some-root.ensures.value
    c.in-Some-2.row (sym c.in_ok-row.ensures.found ∙ c.in-Some-2.is))

pub returns-in-None-clause-needs : goal.returns-in-None-clause-needs
returns-in-None-clause-needs g c =
    let seen = g.R.Rows.rows c.read_row.new.rows in
    let rows = g.R.Rows.rows c.along-in-None.new.rows in
    let asked = c.args.asked.now in
    let none : first_after asked.dbd.types asked.ssas (option_copied c.args.place) (record_of c.in-Some-root.root seen) ≡ None = sym c.in_ok-row.ensures.found ∙ c.in-None.is in
    ok_three c.along-in-None.result _ (λ row. record_of c.in-Some-root.root rows ≡ record_of c.in-Some-root.root seen) _ _
    (λ row valid stays named. onward_goes asked.dbd valid.types rows valid asked.ssas c.args.mode (option_copied c.args.place) c.in-Some.path.now c.in-Some-root.root
    (ap option_copied c.in-Some.is) (subst (λ o. IfSome o (IsPath asked.dbd.types)) (ap option_copied c.in-Some.is) c.requires.place) c.in-Some-root.ensures.value
    c.along-in-None.new.needs c.push.new.self c.args.needs.now c.requires.empty (c.in_ok-push.ensures.ok ∙ ap (λ need. c.args.needs.now ++ need ∷ []) c.record_need.ensures)
    (ap is_some (ap (first_after asked.dbd.types asked.ssas (option_copied c.args.place)) stays ∙ none)) named)
    c.along-in-None.ensures.valid c.along-in-None.ensures.stays c.along-in-None.ensures.named

pub returns-in-None-clause-found : goal.returns-in-None-clause-found
returns-in-None-clause-found g c =
    let seen = g.R.Rows.rows c.read_row.new.rows in
    let rows = g.R.Rows.rows c.along-in-None.new.rows in
    let asked = c.args.asked.now in
    let none : first_after asked.dbd.types asked.ssas (option_copied c.args.place) (record_of c.in-Some-root.root seen) ≡ None = sym c.in_ok-row.ensures.found ∙ c.in-None.is in
    ok_three c.along-in-None.result _ (λ row. record_of c.in-Some-root.root rows ≡ record_of c.in-Some-root.root seen) _ _
    (λ row valid stays named. named ∙ found_later asked.dbd valid.types rows valid asked.ssas c.args.mode (option_copied c.args.place) c.in-Some.path.now c.in-Some-root.root
    (ap option_copied c.in-Some.is) (subst (λ o. IfSome o (IsPath asked.dbd.types)) (ap option_copied c.in-Some.is) c.requires.place) c.in-Some-root.ensures.value
    (ap (first_after asked.dbd.types asked.ssas (option_copied c.args.place)) stays ∙ none))
    c.along-in-None.ensures.valid c.along-in-None.ensures.stays c.along-in-None.ensures.found

pub returns-in-None-clause-read : goal.returns-in-None-clause-read
returns-in-None-clause-read g c = g.R.Rows.read_on c.args.rows.now c.read_row.new.rows c.along-in-None.new.rows c.read_row.ensures.read c.along-in-None.ensures.read
