use Rattle.std.proofs.Common.{sym, ◌∙◌}
use Rattle.system_types.specs.Indexes.{place_in}
use Rattle.system_types.proofs.Indexed.{added}
use Rattle.system_types.proofs.indexes.add_name.Goals as goal

pub returns-in_ok-insert-clause-ok : goal.returns-in_ok-insert-clause-ok
returns-in_ok-insert-clause-ok c = λ other. added (place_in c.args.index.now) (place_in c.insert.new.self) c.args.name.now other c.args.place (sym c.contains_key.ensures ∙ c.if-not-contains_key.true) (c.in_ok-insert.ensures.updates.0 other)
