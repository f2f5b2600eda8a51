use Rattle.std.proofs.Common.{take}
use Rattle.std.specs.List.{AllByRecursion}
use Rattle.tm_types.specs.declared.dbd.Dbd.{Dbd}
use Rattle.tm_types.specs.SegTypes.{IsHierarchy}
use Rattle.program_rows.proofs.databases.types_of.Given as goal

abbrev pub invariant-loop-dbd : goal.invariant-loop-dbd
invariant-loop-dbd l = AllByRecursion (λ (d : Dbd). IsHierarchy d.types) (take l.dbd-index l.dbds)
