use Rattle.std.proofs.Common.{List, ap, ◌∙◌}
use Rattle.std.specs.List.{list_all}
use Rattle.sysdef_rules.specs.Lookups as spec
use Rattle.system_types.specs.declared.definition.MacroLine.{MacroLine}
use Rattle.sysdef_rules.proofs.Fronts.{front_all}
use Rattle.sysdef_rules.proofs.lookups.front.Goals as goal

pub returns-clause-all : goal.returns-clause-all
returns-clause-all c = ap (λ (lines : List MacroLine). list_all (λ line. spec.is_of_kind c.args.kind line.content) lines) c.front_of.ensures ∙ front_all c.args.kind c.args.lines.now
