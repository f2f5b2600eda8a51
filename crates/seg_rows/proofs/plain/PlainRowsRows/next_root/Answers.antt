use Rattle.std.proofs.Common.{Some, None, subst, sym, ap, ◌∙◌}
use Rattle.std.specs.Option.{option_copied}
use Rattle.std.specs.List.{find, slice_get}
use Rattle.std.specs.Ordering.{is_lt}
use Rattle.model_data.specs.Path.{key_cmp}
use Rattle.model_data.specs.Rows.{Database, next_root, AreRows}
use Rattle.seg_rows.proofs.Kept.{kept_rows, kept_roots}
use Rattle.seg_rows.proofs.plain.PlainRowsRows.next_root.Goals as goal

pub returns-in-None-clause-value : goal.returns-in-None-clause-value
returns-in-None-clause-value c =
    c.first_key.ensures
    ∙ (ap (λ keys. slice_get keys 0) (sym (kept_roots c.self.inside.dbd c.self.inside.records.entries c.self.invariant))
    ∙ (ap (λ (d : Database). next_root d.rows None) c.self.view_is ∙ ap (λ after. next_root c.args.self.now.rows (option_copied after)) (sym c.in-None.is)))

pub returns-in-None-clause-valid : goal.returns-in-None-clause-valid
returns-in-None-clause-valid c = subst (λ (d : Database). AreRows d.dbd d.rows) c.self.view_is (kept_rows c.self.inside.dbd c.self.inside.records.entries c.self.invariant)

pub returns-in-Some-clause-value : goal.returns-in-Some-clause-value
returns-in-Some-clause-value c =
    c.key_after.ensures
    ∙ (ap (λ keys. find (λ other. is_lt (key_cmp c.in-Some.key.now other)) keys) (sym (kept_roots c.self.inside.dbd c.self.inside.records.entries c.self.invariant))
    ∙ (ap (λ (d : Database). next_root d.rows (Some c.in-Some.key.now)) c.self.view_is ∙ ap (λ after. next_root c.args.self.now.rows (option_copied after)) (sym c.in-Some.is)))

pub returns-in-Some-clause-valid : goal.returns-in-Some-clause-valid
returns-in-Some-clause-valid c = subst (λ (d : Database). AreRows d.dbd d.rows) c.self.view_is (kept_rows c.self.inside.dbd c.self.inside.records.entries c.self.invariant)
