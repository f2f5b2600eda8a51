-- the programs so far
use Rattle.std.proofs.Common.{take}
use Rattle.system_types.specs.Indexes.{IsIndex, has_program_name}
use Rattle.system_types.proofs.indexes.programs_by_name.Given as goal

abbrev pub invariant-loop-place : goal.invariant-loop-place
invariant-loop-place l = IsIndex has_program_name l.index (take l.place l.programs)
