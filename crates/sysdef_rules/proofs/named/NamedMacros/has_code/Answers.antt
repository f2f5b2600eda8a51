use Rattle.sysdef_rules.specs.Lookups.{is_code_named}
use Rattle.sysdef_rules.proofs.Indexed.{has_by}
use Rattle.sysdef_rules.proofs.named.NamedMacros.has_code.Goals as goal

pub returns : goal.returns
returns c = rw (← c.self.view_is) (has_by is_code_named c.self.inside.codes c.self.inside.lines.now c.args.name.now c.has_name.result c.self.invariant.of_codes c.has_name.ensures)
