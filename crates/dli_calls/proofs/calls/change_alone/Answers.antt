use Rattle.std.proofs.Common.{◌≡◌, [], Ok, ap, sym, subst, ◌∙◌}
use Rattle.model_data.specs.Rows.{record_of, AreRows}
use Rattle.seg_rows.specs.ReadRows.{TellsRecord}
use Rattle.dli_calls.specs.OwnRecord.{own_root, IsRecordFor}
use Rattle.dli_calls.proofs.calls.change_alone.Goals as goal

pub returns-in-Some-2-clause-changed : goal.returns-in-Some-2-clause-changed
returns-in-Some-2-clause-changed g c =
    let new = c.record.follows.lender-at-none in
    let read = c.record.follows.holds-at-none in
    let rows = g.R.Rows.rows new in
    let same = g.R.Rows.read_same c.args.rows.now new read.on in
    let are : AreRows c.args.dbd.now rows = subst (λ d. AreRows d rows) c.requires.rows (same.rows.valid c.record.ensures.valid) in
    let own : record_of c.in-Some.root rows ≡ c.as_slice.result.now =
    subst (TellsRecord c.in-Some.root rows) (c.in_ok-image.was ∙ ap Ok c.in-Some-2.is) read.own ∙ sym c.as_slice.ensures in
    let for : IsRecordFor c.args.dbd.now (own_root c.args.call.now.function c.args.dbd.now.types c.args.call.now c.args.at.now) c.as_slice.result.now rows =
    subst (λ o. IsRecordFor c.args.dbd.now o c.as_slice.result.now rows) c.in-Some.ensures (record { valid = are; own = own }) in
    c.would_change_own-in-Some-2.ensures rows for

pub returns-in-None-clause-changed : goal.returns-in-None-clause-changed
returns-in-None-clause-changed g c =
    let new = c.record.follows.lender-at-none in
    let read = c.record.follows.holds-at-none in
    let rows = g.R.Rows.rows new in
    let same = g.R.Rows.read_same c.args.rows.now new read.on in
    let are : AreRows c.args.dbd.now rows = subst (λ d. AreRows d rows) c.requires.rows (same.rows.valid c.record.ensures.valid) in
    let own : record_of c.in-Some.root rows ≡ [] = subst (TellsRecord c.in-Some.root rows) (c.in_ok-image.was ∙ ap Ok c.in-None.is) read.own in
    let for : IsRecordFor c.args.dbd.now (own_root c.args.call.now.function c.args.dbd.now.types c.args.call.now c.args.at.now) [] rows =
    subst (λ o. IsRecordFor c.args.dbd.now o [] rows) c.in-Some.ensures (record { valid = are; own = own }) in
    c.would_change_own-in-None.ensures rows for
