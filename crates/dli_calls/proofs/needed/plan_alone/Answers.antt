use Rattle.std.proofs.Common.{◌≡◌, [], Ok, ap, sym, subst, ◌∙◌}
use Rattle.model_data.specs.Rows.{record_of, AreRows}
use Rattle.seg_rows.specs.ReadRows.{TellsRecord}
use Rattle.dli_calls.specs.OwnRecord.{own_root, IsRecordFor}
use Rattle.dli_calls.proofs.needed.plan_alone.Goals as goal

pub returns-in_default-clause-planned : goal.returns-in_default-clause-planned
returns-in_default-clause-planned g c =
    let rows = g.R.Rows.rows c.args.rows.now in
    let for : IsRecordFor c.args.dbd.now (own_root c.args.call.now.function c.args.dbd.now.types c.args.call.now c.args.at.now) [] rows =
    subst (λ o. IsRecordFor c.args.dbd.now o [] rows) (sym c.in_default.is ∙ c.own_root.ensures) (record { valid = tt; own = tt }) in
    c.in_ok-plan_own.ensures.planned rows for

pub returns-in_default-clause-position : goal.returns-in_default-clause-position
returns-in_default-clause-position g c =
    let rows = g.R.Rows.rows c.args.rows.now in
    let for : IsRecordFor c.args.dbd.now (own_root c.args.call.now.function c.args.dbd.now.types c.args.call.now c.args.at.now) [] rows =
    subst (λ o. IsRecordFor c.args.dbd.now o [] rows) (sym c.in_default.is ∙ c.own_root.ensures) (record { valid = tt; own = tt }) in
    c.in_ok-plan_own.ensures.position rows for

pub returns-in_default-clause-text : goal.returns-in_default-clause-text
returns-in_default-clause-text g c =
    let rows = g.R.Rows.rows c.args.rows.now in
    let for : IsRecordFor c.args.dbd.now (own_root c.args.call.now.function c.args.dbd.now.types c.args.call.now c.args.at.now) [] rows =
    subst (λ o. IsRecordFor c.args.dbd.now o [] rows) (sym c.in_default.is ∙ c.own_root.ensures) (record { valid = tt; own = tt }) in
    c.in_ok-plan_own.ensures.text rows for

pub returns-in_default-clause-there : goal.returns-in_default-clause-there
returns-in_default-clause-there g c =
    let rows = g.R.Rows.rows c.args.rows.now in
    let for : IsRecordFor c.args.dbd.now (own_root c.args.call.now.function c.args.dbd.now.types c.args.call.now c.args.at.now) [] rows =
    subst (λ o. IsRecordFor c.args.dbd.now o [] rows) (sym c.in_default.is ∙ c.own_root.ensures) (record { valid = tt; own = tt }) in
    c.in_ok-plan_own.ensures.there rows for

pub returns-in_ok-plan_own-in-Some-2-clause-planned : goal.returns-in_ok-plan_own-in-Some-2-clause-planned
returns-in_ok-plan_own-in-Some-2-clause-planned g c =
    let new = c.record.follows.lender-at-none in
    let read = c.record.follows.holds-at-none in
    let rows = g.R.Rows.rows new in
    let same = g.R.Rows.read_same c.args.rows.now new read.on in
    let are : AreRows c.args.dbd.now rows = subst (λ d. AreRows d rows) c.requires.rows (same.rows.valid c.record.ensures.valid) in
    let own : record_of c.in-Some.root rows ≡ c.as_slice.result.now =
    subst (TellsRecord c.in-Some.root rows) (c.in_ok-image.was ∙ ap Ok c.in-Some-2.is) read.own ∙ sym c.as_slice.ensures in
    let for : IsRecordFor c.args.dbd.now (own_root c.args.call.now.function c.args.dbd.now.types c.args.call.now c.args.at.now) c.as_slice.result.now rows =
    subst (λ o. IsRecordFor c.args.dbd.now o c.as_slice.result.now rows) c.in-Some.ensures (record { valid = are; own = own }) in
    c.in_ok-plan_own-in-Some-2.ensures.planned rows for

pub returns-in_ok-plan_own-in-Some-2-clause-position : goal.returns-in_ok-plan_own-in-Some-2-clause-position
returns-in_ok-plan_own-in-Some-2-clause-position g c =
    let new = c.record.follows.lender-at-none in
    let read = c.record.follows.holds-at-none in
    let rows = g.R.Rows.rows new in
    let same = g.R.Rows.read_same c.args.rows.now new read.on in
    let are : AreRows c.args.dbd.now rows = subst (λ d. AreRows d rows) c.requires.rows (same.rows.valid c.record.ensures.valid) in
    let own : record_of c.in-Some.root rows ≡ c.as_slice.result.now =
    subst (TellsRecord c.in-Some.root rows) (c.in_ok-image.was ∙ ap Ok c.in-Some-2.is) read.own ∙ sym c.as_slice.ensures in
    let for : IsRecordFor c.args.dbd.now (own_root c.args.call.now.function c.args.dbd.now.types c.args.call.now c.args.at.now) c.as_slice.result.now rows =
    subst (λ o. IsRecordFor c.args.dbd.now o c.as_slice.result.now rows) c.in-Some.ensures (record { valid = are; own = own }) in
    c.in_ok-plan_own-in-Some-2.ensures.position rows for

pub returns-in_ok-plan_own-in-Some-2-clause-text : goal.returns-in_ok-plan_own-in-Some-2-clause-text
returns-in_ok-plan_own-in-Some-2-clause-text g c =
    let new = c.record.follows.lender-at-none in
    let read = c.record.follows.holds-at-none in
    let rows = g.R.Rows.rows new in
    let same = g.R.Rows.read_same c.args.rows.now new read.on in
    let are : AreRows c.args.dbd.now rows = subst (λ d. AreRows d rows) c.requires.rows (same.rows.valid c.record.ensures.valid) in
    let own : record_of c.in-Some.root rows ≡ c.as_slice.result.now =
    subst (TellsRecord c.in-Some.root rows) (c.in_ok-image.was ∙ ap Ok c.in-Some-2.is) read.own ∙ sym c.as_slice.ensures in
    let for : IsRecordFor c.args.dbd.now (own_root c.args.call.now.function c.args.dbd.now.types c.args.call.now c.args.at.now) c.as_slice.result.now rows =
    subst (λ o. IsRecordFor c.args.dbd.now o c.as_slice.result.now rows) c.in-Some.ensures (record { valid = are; own = own }) in
    c.in_ok-plan_own-in-Some-2.ensures.text rows for

pub returns-in_ok-plan_own-in-Some-2-clause-there : goal.returns-in_ok-plan_own-in-Some-2-clause-there
returns-in_ok-plan_own-in-Some-2-clause-there g c =
    let new = c.record.follows.lender-at-none in
    let read = c.record.follows.holds-at-none in
    let rows = g.R.Rows.rows new in
    let same = g.R.Rows.read_same c.args.rows.now new read.on in
    let are : AreRows c.args.dbd.now rows = subst (λ d. AreRows d rows) c.requires.rows (same.rows.valid c.record.ensures.valid) in
    let own : record_of c.in-Some.root rows ≡ c.as_slice.result.now =
    subst (TellsRecord c.in-Some.root rows) (c.in_ok-image.was ∙ ap Ok c.in-Some-2.is) read.own ∙ sym c.as_slice.ensures in
    let for : IsRecordFor c.args.dbd.now (own_root c.args.call.now.function c.args.dbd.now.types c.args.call.now c.args.at.now) c.as_slice.result.now rows =
    subst (λ o. IsRecordFor c.args.dbd.now o c.as_slice.result.now rows) c.in-Some.ensures (record { valid = are; own = own }) in
    c.in_ok-plan_own-in-Some-2.ensures.there rows for

pub returns-in_ok-plan_own-in-None-clause-planned : goal.returns-in_ok-plan_own-in-None-clause-planned
returns-in_ok-plan_own-in-None-clause-planned g c =
    let new = c.record.follows.lender-at-none in
    let read = c.record.follows.holds-at-none in
    let rows = g.R.Rows.rows new in
    let same = g.R.Rows.read_same c.args.rows.now new read.on in
    let are : AreRows c.args.dbd.now rows = subst (λ d. AreRows d rows) c.requires.rows (same.rows.valid c.record.ensures.valid) in
    let own : record_of c.in-Some.root rows ≡ [] = subst (TellsRecord c.in-Some.root rows) (c.in_ok-image.was ∙ ap Ok c.in-None.is) read.own in
    let for : IsRecordFor c.args.dbd.now (own_root c.args.call.now.function c.args.dbd.now.types c.args.call.now c.args.at.now) [] rows =
    subst (λ o. IsRecordFor c.args.dbd.now o [] rows) c.in-Some.ensures (record { valid = are; own = own }) in
    c.in_ok-plan_own-in-None.ensures.planned rows for

pub returns-in_ok-plan_own-in-None-clause-position : goal.returns-in_ok-plan_own-in-None-clause-position
returns-in_ok-plan_own-in-None-clause-position g c =
    let new = c.record.follows.lender-at-none in
    let read = c.record.follows.holds-at-none in
    let rows = g.R.Rows.rows new in
    let same = g.R.Rows.read_same c.args.rows.now new read.on in
    let are : AreRows c.args.dbd.now rows = subst (λ d. AreRows d rows) c.requires.rows (same.rows.valid c.record.ensures.valid) in
    let own : record_of c.in-Some.root rows ≡ [] = subst (TellsRecord c.in-Some.root rows) (c.in_ok-image.was ∙ ap Ok c.in-None.is) read.own in
    let for : IsRecordFor c.args.dbd.now (own_root c.args.call.now.function c.args.dbd.now.types c.args.call.now c.args.at.now) [] rows =
    subst (λ o. IsRecordFor c.args.dbd.now o [] rows) c.in-Some.ensures (record { valid = are; own = own }) in
    c.in_ok-plan_own-in-None.ensures.position rows for

pub returns-in_ok-plan_own-in-None-clause-text : goal.returns-in_ok-plan_own-in-None-clause-text
returns-in_ok-plan_own-in-None-clause-text g c =
    let new = c.record.follows.lender-at-none in
    let read = c.record.follows.holds-at-none in
    let rows = g.R.Rows.rows new in
    let same = g.R.Rows.read_same c.args.rows.now new read.on in
    let are : AreRows c.args.dbd.now rows = subst (λ d. AreRows d rows) c.requires.rows (same.rows.valid c.record.ensures.valid) in
    let own : record_of c.in-Some.root rows ≡ [] = subst (TellsRecord c.in-Some.root rows) (c.in_ok-image.was ∙ ap Ok c.in-None.is) read.own in
    let for : IsRecordFor c.args.dbd.now (own_root c.args.call.now.function c.args.dbd.now.types c.args.call.now c.args.at.now) [] rows =
    subst (λ o. IsRecordFor c.args.dbd.now o [] rows) c.in-Some.ensures (record { valid = are; own = own }) in
    c.in_ok-plan_own-in-None.ensures.text rows for

pub returns-in_ok-plan_own-in-None-clause-there : goal.returns-in_ok-plan_own-in-None-clause-there
returns-in_ok-plan_own-in-None-clause-there g c =
    let new = c.record.follows.lender-at-none in
    let read = c.record.follows.holds-at-none in
    let rows = g.R.Rows.rows new in
    let same = g.R.Rows.read_same c.args.rows.now new read.on in
    let are : AreRows c.args.dbd.now rows = subst (λ d. AreRows d rows) c.requires.rows (same.rows.valid c.record.ensures.valid) in
    let own : record_of c.in-Some.root rows ≡ [] = subst (TellsRecord c.in-Some.root rows) (c.in_ok-image.was ∙ ap Ok c.in-None.is) read.own in
    let for : IsRecordFor c.args.dbd.now (own_root c.args.call.now.function c.args.dbd.now.types c.args.call.now c.args.at.now) [] rows =
    subst (λ o. IsRecordFor c.args.dbd.now o [] rows) c.in-Some.ensures (record { valid = are; own = own }) in
    c.in_ok-plan_own-in-None.ensures.there rows for
