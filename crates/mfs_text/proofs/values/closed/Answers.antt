use Rattle.std.proofs.Common.{sym, ◌∙◌}
use Rattle.mfs_text.proofs.Quotes.{quote_literal}
use Rattle.mfs_text.proofs.values.closed.Goals as goal

pub returns-in-Some-default-empty-clause-valid : goal.returns-in-Some-default-empty-clause-valid
returns-in-Some-default-empty-clause-valid c =
    quote_literal c.args.text.now c.in-Some-default-empty.inside.now c.in-Some-default-empty.field-0-1.now (sym c.in-Some-default-empty.ensures)
    (sym c.are_printable.ensures ∙ c.if-are_printable.true)
