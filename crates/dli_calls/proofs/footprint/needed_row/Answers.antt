use Rattle.std.proofs.Common.{sym, ap, refl, ◌∙◌, subst}
use Rattle.std.specs.Option.{option_copied}
use Rattle.model_data.specs.Rows.{AreRows, record_of}
use Rattle.model_data.specs.Search.{first_after}
use Rattle.row_search.proofs.Walking.{as_asked, asked_alone}
use Rattle.dli_calls.proofs.Naming.{ok_both}
use Rattle.dli_calls.proofs.footprint.needed_row.Goals as goal

pub returns-in_ok-push-in-Some-clause-found : goal.returns-in_ok-push-in-Some-clause-found
returns-in_ok-push-in-Some-clause-found g c =
    let rows = g.R.Rows.rows c.read_row.new.rows in
    let same = g.R.Rows.read_same c.args.rows.now c.read_row.new.rows c.read_row.ensures.read in
    ok_both c.read_row.result (λ row. AreRows (g.R.Rows.database c.read_row.new.rows) rows) _ _
    (λ row are found.
    let valid : AreRows c.args.dbd.now rows = subst (λ d. AreRows d rows) (same.database ∙ c.requires.rows) are in
    found
    ∙ (as_asked c.of-asked.result c.args.dbd.now c.as_slice-ssas.result.now c.of-asked.ensures.dbd c.of-asked.ensures.ssas (option_copied c.args.place) (record_of c.in-Some.root rows) (record_of c.in-Some.root rows) refl
    ∙ (asked_alone c.args.dbd.now valid.types rows valid c.as_slice-ssas.result.now (option_copied c.args.place) c.in-Some.root (sym c.asked_root.ensures ∙ c.in-Some.is)
    ∙ ap (λ ssas. first_after c.args.dbd.now.types ssas (option_copied c.args.place) rows) c.as_slice-ssas.ensures)))
    c.read_row.ensures.valid c.read_row.ensures.found
