use Rattle.std.proofs.Common.{◌≡◌, ◌≢◌, ◌≤◌, ◌<◌, [], Some, None, length, subst, sym, ap, ◌∙◌, arith}
use Rattle.model_data.specs.Record.{rows_spelling, record_limit}
use Rattle.model_data.specs.Rows.{Database, with_record, rows_of_records, IsImage, AreRows}
use Rattle.seg_rows.specs.RowsRefused.{set_refusal}
use Rattle.seg_rows.specs.declared.rows.RowsRefused.TheVariants.{RootLimit, RecordTooLong}
use Rattle.seg_rows.proofs.Kept.{kept_rows, kept_remove, rows_inserted, rows_removed, due_roots, due_length, due_none, kept_set, passed}
use Rattle.seg_rows.proofs.plain.PlainRowsRows.set.Goals as goal

pub invariant_of-self : goal.invariant_of-self
invariant_of-self c =
    kept_remove c.self.inside.dbd c.args.root.now c.self.inside.records.entries c.remove.new.self.entries c.self.invariant c.remove.ensures.entries c.remove.ensures.ordered
    (omega (arith, c.remove.ensures.len))

pub returns-then-is_empty-clause-replaced : goal.returns-then-is_empty-clause-replaced
returns-then-is_empty-clause-replaced c =
    rows_removed c.self.inside.dbd c.args.root.now c.args.image c.self.inside.records.entries c.remove.new.self.entries c.self.invariant c.remove.ensures.entries
    (c.is_empty.ensures.0 c.if-is_empty.true)
    ∙ ap (λ (d : Database). with_record c.args.root.now c.args.image d.rows) c.self.view_is

pub returns-then-is_empty-clause-valid : goal.returns-then-is_empty-clause-valid
returns-then-is_empty-clause-valid c =
    kept_rows c.self.inside.dbd c.remove.new.self.entries
    (kept_remove c.self.inside.dbd c.args.root.now c.self.inside.records.entries c.remove.new.self.entries c.self.invariant c.remove.ensures.entries c.remove.ensures.ordered
    (omega (arith, c.remove.ensures.len)))

pub returns-then-is_full-clause-refused : goal.returns-then-is_full-clause-refused
returns-then-is_full-clause-refused c =
    let some : c.args.image ≢ [] = λ e. let t = c.is_empty.ensures.1 e in let f = c.if-is_empty.false in absurd (cc) in
    subst (λ (d : Database). set_refusal d.dbd c.args.root.now c.args.image d.rows ≡ Some RootLimit) c.self.view_is
    (due_roots c.self.inside.dbd c.self.inside.records.entries c.args.root.now c.args.image c.self.invariant some (sym c.is_full.ensures.value ∙ c.if-is_full.true))

pub returns-then-is_full-clause-valid : goal.returns-then-is_full-clause-valid
returns-then-is_full-clause-valid c = subst (λ (d : Database). AreRows d.dbd d.rows) c.self.view_is (kept_rows c.self.inside.dbd c.self.inside.records.entries c.self.invariant)

pub returns-then-not-fits-clause-refused : goal.returns-then-not-fits-clause-refused
returns-then-not-fits-clause-refused c =
    let some : c.args.image ≢ [] = λ e. let t = c.is_empty.ensures.1 e in let f = c.if-is_empty.false in absurd (cc) in
    let long : record_limit c.self.inside.dbd < length (rows_spelling c.args.image) =
    subst (λ n. n < length (rows_spelling c.args.image)) c.record_limit.ensures (passed c.fits.result _ _ c.fits.ensures c.if-not-fits.true) in
    subst (λ (d : Database). set_refusal d.dbd c.args.root.now c.args.image d.rows ≡ Some RecordTooLong) c.self.view_is
    (due_length c.self.inside.dbd c.self.inside.records.entries c.args.root.now c.args.image c.self.invariant some (sym c.is_full.ensures.value ∙ c.if-is_full.false) long)

pub returns-then-not-fits-clause-valid : goal.returns-then-not-fits-clause-valid
returns-then-not-fits-clause-valid c = subst (λ (d : Database). AreRows d.dbd d.rows) c.self.view_is (kept_rows c.self.inside.dbd c.self.inside.records.entries c.self.invariant)

pub invariant_of-self-in-Ok : goal.invariant_of-self-in-Ok
invariant_of-self-in-Ok c =
    let some : c.args.image ≢ [] = λ e. let t = c.is_empty.ensures.1 e in let f = c.if-is_empty.false in absurd (cc) in
    let fits : length (rows_spelling c.args.image) ≤ record_limit c.self.inside.dbd =
    subst (λ n. length (rows_spelling c.args.image) ≤ n) c.record_limit.ensures (c.fits.ensures.0 c.if-not-fits.false) in
    let may : IsImage c.self.inside.dbd c.args.root.now c.args.image =
    subst (λ (d : Database). IsImage d.dbd c.args.root.now c.args.image) (sym c.self.view_is) c.requires in
    kept_set c.self.inside.dbd c.args.root.now c.args.image c.self.inside.records.entries c.insert.new.self.entries c.in-Ok.field-0 c.self.invariant may some fits
    c.in-Ok.ensures.entries c.in-Ok.ensures.ordered c.in-Ok.ensures.old c.in-Ok.ensures.len (sym c.is_full.ensures.value ∙ c.if-is_full.false)

pub returns-in-Ok-clause-replaced : goal.returns-in-Ok-clause-replaced
returns-in-Ok-clause-replaced c =
    rows_inserted c.self.inside.dbd c.args.root.now c.args.image c.self.inside.records.entries c.insert.new.self.entries c.self.invariant c.in-Ok.ensures.entries
    ∙ ap (λ (d : Database). with_record c.args.root.now c.args.image d.rows) c.self.view_is

pub returns-in-Ok-clause-accepted : goal.returns-in-Ok-clause-accepted
returns-in-Ok-clause-accepted c =
    let some : c.args.image ≢ [] = λ e. let t = c.is_empty.ensures.1 e in let f = c.if-is_empty.false in absurd (cc) in
    let fits : length (rows_spelling c.args.image) ≤ record_limit c.self.inside.dbd =
    subst (λ n. length (rows_spelling c.args.image) ≤ n) c.record_limit.ensures (c.fits.ensures.0 c.if-not-fits.false) in
    subst (λ (d : Database). set_refusal d.dbd c.args.root.now c.args.image d.rows ≡ None) c.self.view_is
    (due_none c.self.inside.dbd c.self.inside.records.entries c.args.root.now c.args.image c.self.invariant some (sym c.is_full.ensures.value ∙ c.if-is_full.false) fits)

pub returns-in-Ok-clause-valid : goal.returns-in-Ok-clause-valid
returns-in-Ok-clause-valid c = kept_rows c.self.inside.dbd c.insert.new.self.entries (invariant_of-self-in-Ok c)

pub returns-clause-valid : goal.returns-clause-valid
returns-clause-valid c =
    subst (λ es. AreRows c.self.inside.dbd (rows_of_records es)) (sym c.in-Err.ensures.err) (kept_rows c.self.inside.dbd c.self.inside.records.entries c.self.invariant)
