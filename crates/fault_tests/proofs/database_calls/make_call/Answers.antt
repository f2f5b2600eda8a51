use Rattle.std.proofs.Common.{◌∙◌}
use Rattle.fault_tests.proofs.database_calls.make_call.Goals as goal

pub returns-then-ne-clause-database : goal.returns-then-ne-clause-database
returns-then-ne-clause-database g c = c.perform.ensures.database ∙ (g.R.Rows.read_same c.args.rows.now c.would_change.new.rows c.would_change.ensures.read).database

pub returns-else-not-gives-clause-database : goal.returns-else-not-gives-clause-database
returns-else-not-gives-clause-database g c = c.perform.ensures.database ∙ (g.R.Rows.read_same c.args.rows.now c.would_change.new.rows c.would_change.ensures.read).database

pub returns-in-Err-clause-database : goal.returns-in-Err-clause-database
returns-in-Err-clause-database g c = c.perform.ensures.database ∙ (g.R.Rows.read_same c.args.rows.now c.would_change.new.rows c.would_change.ensures.read).database
