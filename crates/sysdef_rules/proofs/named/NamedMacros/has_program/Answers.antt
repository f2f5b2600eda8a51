use Rattle.sysdef_rules.specs.Lookups.{is_program_named}
use Rattle.sysdef_rules.proofs.Indexed.{has_by}
use Rattle.sysdef_rules.proofs.named.NamedMacros.has_program.Goals as goal

pub returns : goal.returns
returns c = rw (← c.self.view_is) (has_by is_program_named c.self.inside.programs c.self.inside.lines.now c.args.name.now c.has_name.result c.self.invariant.of_programs c.has_name.ensures)
