use Rattle.std.proofs.Common.{All, List, sym, subst}
use Rattle.system_types.specs.declared.definition.MacroLine.{MacroLine}
use Rattle.system_types.specs.Definitions.{IsInRange}
use Rattle.sysdef_rules.specs.declared.lookups.MacroKind.TheVariants.{Segments}
use Rattle.sysdef_rules.proofs.Fronts.{front_holds}
use Rattle.sysdef_check.proofs.databases.database_in.Goals as goal

pub types_in-requires-clause-range : goal.types_in-requires-clause-range
types_in-requires-clause-range c =
    subst (λ (lines : List MacroLine). All (λ line. IsInRange line.content) lines) (sym c.front.ensures.value) (front_holds (λ line. IsInRange line.content) Segments c.args.behind.now c.requires.range)
