use Rattle.std.proofs.Common.{rules}
use Rattle.dli_calls.proofs.needed.search.Goals as goal

pub returns-clause-position : goal.returns-clause-position
returns-clause-position g c = c.in_ok-planned.ensures.valid (g.R.Rows.rows c.needed_row.new.rows) (search rules)

pub returns-clause-text : goal.returns-clause-text
returns-clause-text g c = c.in_ok-planned.ensures.text (g.R.Rows.rows c.needed_row.new.rows) (search rules)
