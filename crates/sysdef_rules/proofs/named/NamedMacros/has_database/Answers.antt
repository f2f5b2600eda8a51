use Rattle.sysdef_rules.specs.Lookups.{is_database}
use Rattle.sysdef_rules.proofs.Indexed.{has_by}
use Rattle.sysdef_rules.proofs.named.NamedMacros.has_database.Goals as goal

pub returns : goal.returns
returns c = rw (← c.self.view_is) (has_by is_database c.self.inside.databases c.self.inside.lines.now c.args.name.now c.has_name.result c.self.invariant.of_databases c.has_name.ensures)
