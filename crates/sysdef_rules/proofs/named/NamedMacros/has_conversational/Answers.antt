use Rattle.sysdef_rules.specs.Lookups.{is_conversational}
use Rattle.sysdef_rules.proofs.Indexed.{has_by}
use Rattle.sysdef_rules.proofs.named.NamedMacros.has_conversational.Goals as goal

pub returns : goal.returns
returns c = rw (← c.self.view_is) (has_by is_conversational c.self.inside.conversational c.self.inside.lines.now c.args.name.now c.has_name.result c.self.invariant.of_conversational c.has_name.ensures)
